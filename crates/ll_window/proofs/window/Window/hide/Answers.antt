-- The far segments are those after which at least three target durations follow.
use Rattle.std.proofs.Common.{ap, ◌∙◌}
use Rattle.ll_window.proofs.KeptLemmas.{kept_relisted, short}
use Rattle.ll_window.proofs.window.Window.hide.Goals as goal

pub hide-requires-clause-lasting : goal.hide-requires-clause-lasting
hide-requires-clause-lasting c = short _ c.self.inside.finished c.self.inside.open_parts.items c.self.inside.progress c.self.invariant

pub invariant_of-self : goal.invariant_of-self
invariant_of-self c =
    let e = c.hide.ensures in
    kept_relisted _ c.target.result c.self.inside.finished c.hide.new.self c.self.inside.open_parts.items c.self.inside.progress
    (c.target.ensures.value ∙ ap (λ s. s.target) c.deref.ensures) c.self.invariant e.rows e.hidden e.far e.same
