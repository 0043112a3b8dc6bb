-- The removal is the step from the items.
use Rattle.ll_range.proofs.Steps.{accepted-unrange}
use Rattle.ll_range.proofs.ranges.Ranges.unlist.Goals as goal

pub returns-clause-accepted : goal.returns-clause-accepted
returns-clause-accepted c = λ conf items rendition e t.
    accepted-unrange conf items rendition c.args.id.now c.args.self.now c.take_away.new.self c.args.end e t c.in_ok-take_away.ensures.ok
