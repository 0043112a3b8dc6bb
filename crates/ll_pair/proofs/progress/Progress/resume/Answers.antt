-- The place is the one after all that was accepted, or the one to which the first message leads.
use Rattle.std.proofs.Common.{◌∙◌, ap, sym}
use Rattle.ll_announce.specs.Places.{led}
use Rattle.ll_pair.specs.declared.coming.First.TheVariants as first
use Rattle.ll_pair.proofs.ResumeLemmas.{resumed-after, resumed-here}
use Rattle.ll_pair.proofs.progress.Progress.resume.Goals as goal

pub returns-then-is_same-clause-resumed : goal.returns-then-is_same-clause-resumed
returns-then-is_same-clause-resumed g c messages told = resumed-here _ _ _ _ (c.is_same.ensures.same c.if-is_same.true) told

pub returns-clause-resumed : goal.returns-clause-resumed
returns-clause-resumed g c messages told =
    resumed-after c.args.self.now c.args.place c.after-after.result messages _ _ _ c.in_ok-message.field-0 c.message.result.now (c.is_same.ensures.apart c.if-is_same.false) c.if-not-self.false
    (ap (led c.args.self.now.place) (sym c.said.ensures) ∙ sym c.after-after.ensures) (c.is_same-2.ensures.same c.if-not-is_same.false) told c.in_ok-message.ensures.first
    (c.in-Message.is ∙ ap (λ m. first.Message m) (sym c.message.ensures)) c.in_ok-message.ensures.kept c.let_go.ensures
