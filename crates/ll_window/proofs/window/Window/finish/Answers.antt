-- The finished segments go on as their window does.
use Rattle.std.proofs.Common.{ap, sym, ◌∙◌}
use Rattle.ll_window.specs.Refusal.{part_refusal}
use Rattle.ll_window.specs.Compact.{next_start, opens_by}
use Rattle.ll_window.specs.Segments.{duration}
use Rattle.ll_window.proofs.KeptLemmas.{told_finished, kept_finished}
use Rattle.ll_window.proofs.window.Window.finish.Goals as goal

pub invariant_of-self-in-Ok : goal.invariant_of-self-in-Ok
invariant_of-self-in-Ok c =
    let e = c.in-Ok.ensures in
    kept_finished _ c.window-least.result c.self.inside.finished c.finish.new.self c.self.inside.open_parts.items c.push.new.self.items c.finish.new.open_parts.items c.self.inside.progress
    c.with_part-progress.result c.after-self-inside.result c.begun.result c.args.part c.next_place.result c.in-Ok.segment
    c.self.invariant (c.begun.ensures ∙ ap (λ k. opens_by k.open_parts k.restart k.open_time) (sym c.self.view_is)) (ap (λ k. part_refusal k.settings k.next_number (duration k.open_parts) (next_start k) c.args.part.duration) c.self.view_is ∙ c.requires)
    c.in_ok-push.ensures.items c.with_part-progress.ensures c.after-self-inside.ensures e.emptied e.segment e.rows e.left e.sums e.hidden e.far

pub returns-in-Ok-clause-ok : goal.returns-in-Ok-clause-ok
returns-in-Ok-clause-ok c =
    let e = c.in-Ok.ensures in
    c.hide.ensures
    ∙ told_finished _ c.window-least.result c.self.inside.finished c.finish.new.self c.self.inside.open_parts.items c.push.new.self.items c.finish.new.open_parts.items c.self.inside.progress
    c.with_part-progress.result c.after-self-inside.result c.begun.result c.args.part c.next_place.result c.in-Ok.segment _
    c.self.view_is (c.window-least.ensures.value ∙ ap (λ s. s.window) c.deref.ensures) c.begun.ensures c.next_place.ensures
    c.in_ok-push.ensures.items c.with_part-progress.ensures c.after-self-inside.ensures e.emptied e.segment e.rows e.left
