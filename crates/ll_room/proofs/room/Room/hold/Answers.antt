-- One more open request, with the next ticket.
use Rattle.std.proofs.Common.{refl, ◌+◌, ◌*◌}
use Rattle.ll_room.proofs.KeptLemmas.{few-events, kept-held}
use Rattle.ll_room.specs.contracts.room.Room.{the_view}
use Rattle.ll_room.proofs.room.Room.hold.Goals as goal

pub invariant_of-self-2 : goal.invariant_of-self-2
invariant_of-self-2 c =
    kept-held (the_view c.self.inside) (record {
      ticket = c.self.inside.asks + 1;
      wanted = c.args.wanted;
      seen = c.count.result;
      deadline = c.self.inside.time + 3000 * c.target.result;
    }) c.park.new.self (few-events (the_view c.self.inside) c.args.self.now c.self.view_is c.requires.few) refl c.in-Ok.ensures.parked.1 c.self.invariant
