-- For private contracts: the invariant of a room.
use Rattle.std.specs.Prelude.{◌≤◌, ◌+◌, ◌*◌, ◌^◌, ◌++◌, [], ◌∷◌, None, length}
use Rattle.ll_verdict.specs.Waiting.{AreBelow}
use Rattle.ll_verdict.specs.declared.wanted.Wanted.{Wanted}
use Rattle.ll_room.specs.RoomValue.{RoomValue}

pub record IsKept (h : RoomValue) : Type 0 where
  -- a request that waits is not due when it is made
  pub target : 1 ≤ h.settings.target
  -- the last finished segment is in the window
  pub window : 1 ≤ h.settings.window
  pub accepted : h.count ≤ h.events
  pub asked : h.asks ≤ h.events
  pub early : h.time ≤ 2 ^ 60
  pub below : AreBelow (h.asks + 1) h.slots
  pub few : length h.slots ≤ h.asks
  -- each open request can still be collected or closed
  pub counted : h.events + length h.slots ≤ 2 ^ 61

-- one more request, which is answered at once
abbrev pub with_answer : RoomValue → RoomValue
with_answer h = record h { asks = h.asks + 1; events = h.events + 1 }

-- one more request, which waits
abbrev pub with_held : RoomValue → Wanted → RoomValue
with_held h a = record h {
  asks = h.asks + 1;
  slots = h.slots ++ (record {
    entry = record { ticket = h.asks + 1; wanted = a; seen = h.count; deadline = h.time + 3000 * h.settings.target };
    settled = None;
  }) ∷ [];
  events = h.events + 1;
}
