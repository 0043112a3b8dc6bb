-- The addition is the step from the items.
use Rattle.ll_range.proofs.Steps.{accepted-range}
use Rattle.ll_range.proofs.ranges.Ranges.list.Goals as goal

pub returns-clause-accepted : goal.returns-clause-accepted
returns-clause-accepted c = λ conf items rendition e t.
    accepted-range conf items rendition c.args.id.now c.args.attributes.now c.args.self.now c.push.new.self c.args.end e t c.in_ok-push.ensures.ok
