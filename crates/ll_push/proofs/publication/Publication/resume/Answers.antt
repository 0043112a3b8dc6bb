-- The place is the one after all that was accepted, or the one to which the first message that is kept leads.
use Rattle.std.proofs.Common.{◌∙◌, ap, sym}
use Rattle.ll_announce.specs.Places.{led}
use Rattle.ll_push.specs.Connecting.{Accepted, Here}
use Rattle.ll_push.proofs.publication.Publication.resume.Goals as goal

pub returns-then-is_same : goal.returns-then-is_same
returns-then-is_same c = Here (c.is_same.ensures.same c.if-is_same.true)

pub returns : goal.returns
returns c =
    Accepted (c.is_same.ensures.apart c.if-is_same.false) c.in_ok-message.message c.pop.new.self c.in_ok-message.ensures
    (ap (led c.args.self.place) (sym c.said.ensures) ∙ sym c.after.ensures ∙ c.is_same-2.ensures.same c.if-not-is_same.false)
