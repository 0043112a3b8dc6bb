-- The open segment is finished with its last part.
use Rattle.std.proofs.Common.{ap, sym, ◌∙◌}
use Rattle.ll_item.specs.Told.{finished_last}
use Rattle.ll_window.specs.Refusal.{finish_refusal}
use Rattle.ll_window.proofs.KeptLemmas.{kept_last, told_last, open_some}
use Rattle.ll_window.proofs.SplitLemmas.{last-snoc}
use Rattle.ll_window.proofs.window.Window.finish_open.Goals as goal

pub invariant_of-self : goal.invariant_of-self
invariant_of-self c =
    let e = c.in-Ok.ensures in
    kept_last _ c.window-least.result c.self.inside.finished c.finish.new.self c.self.inside.open_parts.items c.push_reserved.new.self.items c.finish.new.open_parts.items c.self.inside.progress c.after-self-inside.result c.in-Ok.segment
    c.self.invariant (open_some _ (ap (λ k. finish_refusal k.open_parts) c.self.view_is ∙ c.requires))
    (c.push_reserved.ensures.items ∙ sym (ap finished_last c.in-Some.ensures.items ∙ last-snoc c.pop.new.self.items c.in-Some.last))
    c.after-self-inside.ensures e.emptied e.segment e.rows e.left e.sums e.hidden e.far

pub returns-in-Ok-clause-ok : goal.returns-in-Ok-clause-ok
returns-in-Ok-clause-ok c =
    let e = c.in-Ok.ensures in
    c.hide.ensures
    ∙ told_last _ c.window-least.result c.self.inside.finished c.finish.new.self c.self.inside.open_parts.items c.push_reserved.new.self.items c.finish.new.open_parts.items c.self.inside.progress c.after-self-inside.result c.in-Ok.segment _
    c.self.view_is (c.window-least.ensures.value ∙ ap (λ s. s.window) c.deref.ensures) (open_some _ (ap (λ k. finish_refusal k.open_parts) c.self.view_is ∙ c.requires))
    (c.push_reserved.ensures.items ∙ sym (ap finished_last c.in-Some.ensures.items ∙ last-snoc c.pop.new.self.items c.in-Some.last))
    c.after-self-inside.ensures e.emptied e.segment e.rows e.left
