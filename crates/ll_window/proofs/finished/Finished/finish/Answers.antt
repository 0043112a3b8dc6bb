-- The new segment keeps its parts.
use Rattle.std.proofs.Common.{[], ◌∷◌, ◌++◌, ap, arith, refl, ◌∙◌}
use Rattle.std.specs.Arc.{arc_value}
use Rattle.ll_window.specs.Rows.{Row}
use Rattle.ll_window.specs.Segments.{duration}
use Rattle.ll_window.proofs.HideLemmas.{more-hidden, near-within}
use Rattle.ll_window.proofs.finished.Finished.finish.Goals as goal

pub overflow_add-self-2 : goal.overflow_add-self-2
overflow_add-self-2 c =
    let n = near-within c.args.self.now c.requires.hidden in
    let d = ap (λ s. s.duration) c.segment-segment.ensures ∙ ap duration c.as_slice.ensures.value in
    omega (arith, n, d, c.requires.sum, c.requires.open, c.requires.lasting)

pub shrink-requires-clause-hidden : goal.shrink-requires-clause-hidden
shrink-requires-clause-hidden c =
    let r : Row = record { segment = c.segment-segment.result; parts = (arc_value c.in_ok-shared.field-0).items } in
    more-hidden c.args.self.now _ r c.requires.hidden (c.in_ok-push_back.ensures.items ∙ ap (λ rs. rs ++ r ∷ []) c.in_ok-reserve.ensures.items) refl refl
