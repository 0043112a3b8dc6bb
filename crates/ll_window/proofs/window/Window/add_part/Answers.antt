-- The open segment goes on.
use Rattle.std.proofs.Common.{ap, subst, sym, ◌∙◌}
use Rattle.std.specs.Arc.{arc_value}
use Rattle.ll_window.specs.Compact.{next_start, opens_by}
use Rattle.ll_window.specs.Refusal.{part_refusal}
use Rattle.ll_window.specs.Segments.{duration}
use Rattle.ll_window.specs.Step.{relisted, with_part_by}
use Rattle.ll_window.specs.Kept.{IsKept}
use Rattle.ll_window.proofs.KeptLemmas.{kept_open, told_open}
use Rattle.ll_window.proofs.window.Window.add_part.Goals as goal

pub returns-in_ok-push-clause-ok : goal.returns-in_ok-push-clause-ok
returns-in_ok-push-clause-ok c =
    c.hide.ensures
    ∙ ap relisted
    (told_open _ c.self.inside.finished c.self.inside.open_parts.items c.push.new.self.items c.self.inside.progress c.with_part-self-inside.result _ c.args.part _ _
    c.self.view_is c.begun-begun.ensures c.next_place-place.ensures c.in_ok-push.ensures.items c.with_part-self-inside.ensures)
    ∙ ap (λ b. with_part_by b c.args.self.now c.args.part) (sym c.if-part.false)

pub invariant_of-self-else-part : goal.invariant_of-self-else-part
invariant_of-self-else-part c =
    subst (λ x. IsKept (arc_value c.self.inside.settings) c.self.inside.finished c.push.new.self.items x) (sym c.with_part-self-inside.ensures)
    (kept_open (arc_value c.self.inside.settings) c.self.inside.finished c.self.inside.open_parts.items c.push.new.self.items c.self.inside.progress c.begun-begun.result c.args.part c.next_place-place.result
    c.self.invariant (c.begun-begun.ensures ∙ ap (λ k. opens_by k.open_parts k.restart k.open_time) (sym c.self.view_is))
    (ap (λ k. part_refusal k.settings k.next_number (duration k.open_parts) (next_start k) c.args.part.duration) c.self.view_is ∙ c.requires)
    c.in_ok-push.ensures.items)
