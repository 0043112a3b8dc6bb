-- What the hub says of the claim holds of the answer.
use Rattle.ll_player.proofs.held.Held.collect.Goals as goal

pub returns-clause-answer : goal.returns-clause-answer
returns-clause-answer g c = c.after.ensures.answer c.args.self.claim c.args.pass.now c.collect-waited.new.pass c.collect-waited.ensures.waited

pub returns-clause-still : goal.returns-clause-still
returns-clause-still g c = c.after.ensures.still c.args.self.claim c.args.pass.now c.collect-waited.new.pass c.collect-waited.ensures.waited
