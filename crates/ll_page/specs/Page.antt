-- The text of a page: a full playlist or a delta update at one moment of a channel.
use Rattle.std.specs.Prelude.{ℕ, List, Option, Some, None}
use Rattle.ll_settings.specs.Settings.{Configuration}
use Rattle.ll_item.specs.declared.skip_kind.SkipKind.{SkipKind}
use Rattle.ll_page.specs.Delta.{delta_text}
use Rattle.ll_page.specs.Full.{full_text}
use Rattle.ll_pieces.specs.View.{Paged, Seen}
use Rattle.ll_rendition.specs.declared.rendition.Rendition.{Rendition}

-- a channel at one moment: its settings and what is kept of its renditions
pub record Moment : Type 0 where
  pub settings : Configuration
  pub renditions : List Rendition
  -- how many items the channel has accepted
  pub count : ℕ

-- the view of a rendition at this moment
abbrev pub seen_of : Moment → ℕ → Seen
seen_of m rendition = record { settings = m.settings; renditions = m.renditions; rendition = rendition; count = m.count }

-- the text of the delta update of this kind, or for none of the full playlist
abbrev pub text_in : Option SkipKind → Seen → List ℕ
text_in None v = full_text v
text_in (Some kind) v = delta_text kind v

abbrev pub page_text : Paged → List ℕ
page_text p = text_in p.form p.seen
