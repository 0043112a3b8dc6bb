-- For private contracts: what a recorder keeps true of itself.
use Rattle.std.specs.Prelude.{◌≤◌, ◌*◌, ℕ, List, length}
use Rattle.ll_verdict.specs.Events.{Event}
use Rattle.ll_record.specs.Recording.{IsRecorded, Recording}

-- lines, and the memory that is there for more of them
pub record Buffer : Type 0 where
  pub lines : List ℕ
  -- bytes
  pub free : ℕ

-- the bytes that are reserved for the line that hands a reply out or closes a request, with its end
abbrev pub spare : ℕ
spare = 80

-- the record is that of some events, and there is memory for the last line of each open request
pub record IsKept (r : Recording) (free : ℕ) : Type 0 where
  pub events : List Event
  pub recorded : IsRecorded r events
  pub room : spare * length r.room.slots ≤ free
