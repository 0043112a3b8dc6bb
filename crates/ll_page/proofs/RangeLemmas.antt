-- The lines of date ranges, one place after another.
use Rattle.std.proofs.Common.{◌≡◌, ℕ, suc, ◌+◌, List, ◌++◌, drop, map, Some, ap, sym, ◌∙◌, arith, append_assoc}
use Rattle.std.specs.Prelude.{slice_get}
use Rattle.ll_item.specs.Told.{Listed}
use Rattle.ll_page.specs.Full.{range_line}
use Rattle.ll_line.specs.Line.{DateRange}
use Rattle.ll_line.specs.Text.{line_text, text_of}
use Rattle.ll_line.proofs.RestLemmas.{rest-from}

-- the text so far and the lines from this place on stay the whole text when this date range's is added
pub next-range : (old new whole : List ℕ) (ranges : List Listed) (i : ℕ) (x : Listed) → slice_get ranges i ≡ Some x
    → new ≡ old ++ line_text (DateRange (range_line x))
    → old ++ text_of (map DateRange (map range_line (drop i ranges))) ≡ whole
    → new ++ text_of (map DateRange (map range_line (drop (i + 1) ranges))) ≡ whole
next-range old new whole ranges i x e added h =
    let next : suc i ≡ i + 1 = omega arith in
    let more = text_of (map DateRange (map range_line (drop (i + 1) ranges))) in
    ap (λ t. t ++ more) added
    ∙ append_assoc old (line_text (DateRange (range_line x))) more
    ∙ ap (λ j. old ++ (line_text (DateRange (range_line x)) ++ text_of (map DateRange (map range_line (drop j ranges))))) (sym next)
    ∙ ap (λ xs. old ++ text_of (map DateRange (map range_line xs))) (sym (rest-from ranges i x e))
    ∙ h
