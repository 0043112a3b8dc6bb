-- The steps so far have left a visit that goes on; with each step fewer bytes are left.
use Rattle.std.proofs.Common.{◌≡◌, length}
use Rattle.ll_script_rooms.specs.Kept.{kept_world}
use Rattle.ll_script_rooms.specs.World.{World, all_settings}
use Rattle.ll_connection.proofs.OpenLemmas.{GoesOn}
use Rattle.ll_connection.proofs.open.Open.submit.Given as goal

abbrev pub invariant-loop-more : goal.invariant-loop-more
invariant-loop-more l = record {
  number : l.self.number ≡ l.fn.self.number;
  goes : (w : World) → l.fn.rooms ≡ kept_world w → l.declared ≡ all_settings w
      → GoesOn l.fn.self.number l.declared l.fn.sent l.sent l.self.session l.rooms (record { session = l.fn.self.session; rooms = w });
}

abbrev pub decreases-loop-more : goal.decreases-loop-more
decreases-loop-more l = length l.self.session.unread
