-- One more request, which isn't open.
use Rattle.ll_room.proofs.KeptLemmas.{few-events, kept-answer}
use Rattle.ll_room.specs.contracts.room.Room.{the_view}
use Rattle.ll_room.proofs.room.Room.count_ask.Goals as goal

pub invariant_of-self : goal.invariant_of-self
invariant_of-self c = kept-answer (the_view c.self.inside) (few-events (the_view c.self.inside) c.args.self.now c.self.view_is c.requires) c.self.invariant
