-- The room takes the request, whatever its reply is.
use Rattle.std.proofs.Common.{ap, subst}
use Rattle.ll_room.specs.Decided.{IsDecided}
use Rattle.ll_room.specs.RoomValue.{RoomValue}
use Rattle.ll_room.specs.contracts.room.Room.{the_view}
use Rattle.ll_room.proofs.AskLemmas.{low}
use Rattle.ll_room.proofs.DecideLemmas.{decided-counts, decided-holds}
use Rattle.ll_room.proofs.room.Room.pass.Goals as goal

pub returns-in_ok-hold-clause-asked : goal.returns-in_ok-hold-clause-asked
returns-in_ok-hold-clause-asked c es want k =
    let h = c.args.self.now in
    decided-holds h c.hold.new.self want c.in-Waits.wanted (subst (IsDecided h want) c.in-Waits.is k) (low h (the_view c.self.inside) c.self.view_is c.self.invariant.target) c.in_ok-hold.ensures.held es

pub returns-in_default : goal.returns-in_default
returns-in_default c =
    let h = c.args.self.now in
    record {
      asked = λ es want k. decided-counts h c.count_ask.new.self want c.args.decision c.in_default.not-Waits k (low h (the_view c.self.inside) c.self.view_is c.self.invariant.target) c.count_ask.ensures es;
      same = record { channel = ap (λ (x : RoomValue). x.channel) c.count_ask.ensures; settings = ap (λ (x : RoomValue). x.settings) c.count_ask.ensures };
      unchanged = tt;
    }
