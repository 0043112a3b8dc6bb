-- What stands at a place of the window, by the segments as they are kept.
use Rattle.std.proofs.Common.{◌≡◌, ℕ, zero, suc, ◌+◌, ◌*◌, ◌≤◌, List, [], ◌∷◌, Option, Some, None, Bor, length, refl, ap, ap₂, sym, ◌∙◌, arith}
use Rattle.std.specs.Prelude.{slice_get}
use Rattle.std.specs.Option.{option_copied}
use Rattle.std.specs.Slice.{IsItemAt}
use Rattle.std.proofs.lemmas.Option.{slice_get_past, slice_get_read}
use Rattle.ll_item.specs.declared.part.Part.{Part}
use Rattle.ll_settings.specs.Settings.{Configuration}
use Rattle.ll_window.specs.declared.finished.Finished.{Finished}
use Rattle.ll_window.specs.declared.progress.Progress.{Progress}
use Rattle.ll_window.specs.Compact.{Compact, skip_count}
use Rattle.ll_window.specs.Kept.{AreTimed}
use Rattle.ll_window.specs.Rows.{Row}
use Rattle.ll_window.specs.Segments.{duration}
use Rattle.ll_window.specs.Window.{skipped_in}
use Rattle.ll_window.proofs.KeptLemmas.{kept}

-- what a deque gives at a place
pub item_at : (rs : List Row) (i : ℕ) (r : Option (Bor Row)) → IsItemAt rs i r → option_copied r ≡ slice_get rs i
item_at rs i None h = sym (slice_get_past rs i h.3)
item_at rs i (Some r) h = sym (slice_get_read rs (length rs) i r.now refl h.3.0 h.1)

pub ends_before : (time : ℕ) (rs : List Row) (i : ℕ) (r : Row) → AreTimed rs time → slice_get rs i ≡ Some r → r.segment.time + r.segment.duration ≤ time
ends_before time [] i r timed e = absurd (grind (arith, e))
ends_before time (q ∷ rs) zero r timed e =
    let same : q ≡ r = grind (arith, e) in omega (arith, timed.0, ap (λ x. x.segment.time) same, ap (λ x. x.segment.duration) same)
ends_before time (q ∷ rs) (suc i) r timed e = ends_before time rs i r timed.1 e

-- how many are skipped, by the segments as they are kept
pub skipped_are : (c : Configuration) (f : Finished) (ps : List Part) (p : Progress) (n limit : ℕ) (k : Compact) → kept c f ps p ≡ k → p.open_duration ≡ duration ps
    → limit ≡ c.skip → n ≡ skipped_in (limit * 1000000) p.open_duration f.rows.items → n ≡ skip_count k
skipped_are c f ps p n limit k is lasts from e =
    e ∙ ap₂ (λ l t. skipped_in (l * 1000000) t f.rows.items) from lasts ∙ ap skip_count is
