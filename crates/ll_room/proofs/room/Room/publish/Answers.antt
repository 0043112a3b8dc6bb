-- What is kept determines why an item is refused.
use Rattle.std.proofs.Common.{sym, ◌∙◌}
use Rattle.ll_room.proofs.AcceptLemmas.{refusal-told}
use Rattle.ll_room.proofs.room.Room.publish.Goals as goal

pub returns-in-Err-clause-refused : goal.returns-in-Err-clause-refused
returns-in-Err-clause-refused c es stands other = sym (refusal-told c.args.self.now es c.args.item stands) ∙ c.in-Err.ensures.rule

pub returns-in-Ok-clause-accepted : goal.returns-in-Ok-clause-accepted
returns-in-Ok-clause-accepted c es stands =
    (sym (refusal-told c.args.self.now es c.args.item stands) ∙ c.in_default.ensures.rule, c.in-Ok.ensures.accepted es stands)

pub returns-in-Err-accept-clause-memory : goal.returns-in-Err-accept-clause-memory
returns-in-Err-accept-clause-memory c es stands memory = sym (refusal-told c.args.self.now es c.args.item stands) ∙ c.in_default.ensures.rule
