-- A request is found if it is open.
use Rattle.std.proofs.Common.{◌∙◌, ap, is_some}
use Rattle.ll_room.specs.Answers.{is_open}
use Rattle.ll_verdict.proofs.WaitingLemmas.{open-found}
use Rattle.ll_room.proofs.room.Room.is_open.Goals as goal

pub returns : goal.returns
returns c =
    c.is_some.ensures ∙ ap is_some c.find.ensures ∙ open-found c.args.ticket c.self.inside.book ∙ ap (λ h. is_open h c.args.ticket) c.self.view_is
