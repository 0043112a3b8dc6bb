-- The end finishes the segment that is open.
use Rattle.std.proofs.Common.{◌==◌, length, ap, sym, ◌∙◌}
use Rattle.ll_window.proofs.KeptLemmas.{told_ended, kept_ended, is_open}
use Rattle.ll_window.proofs.window.Window.end.Goals as goal

pub invariant_of-self-2 : goal.invariant_of-self-2
invariant_of-self-2 c =
    let e = c.in_ok-segment.ensures in
    kept_ended _ c.window-least.result c.self.inside.finished c.finish.new.self c.self.inside.open_parts.items c.finish.new.open_parts.items c.self.inside.progress c.after-self-inside.result c.in_ok-segment.segment
    c.self.invariant (is_open _ c.is_empty.result (c.is_empty.ensures ∙ ap (λ xs. length xs == 0) (c.open_parts.ensures ∙ ap (λ k. k.open_parts) (sym c.self.view_is))) c.if-is_empty.false) c.after-self-inside.ensures e.emptied e.segment e.rows e.left e.sums e.hidden e.far

pub returns-clause-ok : goal.returns-clause-ok
returns-clause-ok c =
    let e = c.in_ok-segment.ensures in
    c.hide.ensures
    ∙ told_ended _ c.window-least.result c.self.inside.finished c.finish.new.self c.self.inside.open_parts.items c.finish.new.open_parts.items c.self.inside.progress c.after-self-inside.result c.in_ok-segment.segment _
    c.self.view_is (c.window-least.ensures.value ∙ ap (λ s. s.window) c.deref.ensures) (is_open _ c.is_empty.result (c.is_empty.ensures ∙ ap (λ xs. length xs == 0) (c.open_parts.ensures ∙ ap (λ k. k.open_parts) (sym c.self.view_is))) c.if-is_empty.false) c.after-self-inside.ensures e.emptied e.segment e.rows e.left
