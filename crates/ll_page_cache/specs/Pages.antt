-- The pages of one rendition at one moment.
use Rattle.std.specs.Prelude.{◌≡◌, ℕ, Option, Some, None}
use Rattle.ll_page.specs.Page.{Moment, seen_of}
use Rattle.ll_pieces.specs.View.{Paged}
use Rattle.ll_item.specs.declared.skip_kind.SkipKind.{SkipKind}

pub record PagesOf : Type 0 where
  pub moment : Moment
  -- the index of the rendition
  pub rendition : ℕ

-- the page of the delta update of this kind, or the full playlist if `form` is none
abbrev pub page_in : PagesOf → Option SkipKind → Paged
page_in p form = record { seen = seen_of p.moment p.rendition; form = form }

-- a page that was made is that of this form
abbrev pub Is : PagesOf → Option SkipKind → Option Paged → Type 0
Is p form None = Unit
Is p form (Some page) = page ≡ page_in p form
