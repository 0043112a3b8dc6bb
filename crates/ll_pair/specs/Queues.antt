-- For private contracts. The messages that wait for origins.
use Rattle.std.specs.Prelude.{◌≡◌, ℕ, ◌+◌, ◌&&◌, ◌||◌, Bool, true, false, List, [], ◌∷◌, ◌++◌, if◌then◌else◌, length, map, nat_le, not}
use Rattle.std.specs.List.{list_all, list_any, sum_by}
use Rattle.ll_announce.specs.Messages.{MessageValue}
use Rattle.ll_pair.specs.Coming.{IsFirstOf}
use Rattle.ll_pair.specs.declared.coming.First.{First}
use Rattle.ll_pair.specs.declared.coming.First.TheVariants as first

-- the messages that an origin isn't known to have accepted, and whether it is left
pub record LaneValue : Type 0 where
  pub waiting : List MessageValue
  pub left : Bool

abbrev pub size : MessageValue → ℕ
size message = length message.bytes

-- how many bytes these messages have
abbrev pub bytes_of : List MessageValue → ℕ
bytes_of messages = sum_by size messages

abbrev pub is_none : List MessageValue → Bool
is_none [] = true
is_none (message ∷ later) = false

-- whether an origin for which these messages wait can have one more: none waits, or with it they have at most `keep` bytes
abbrev pub takes : ℕ → MessageValue → List MessageValue → Bool
takes keep message waiting = is_none waiting || nat_le (bytes_of waiting + size message) keep

-- an origin that is left: no message waits for it
abbrev pub left_lane : LaneValue
left_lane = record { waiting = []; left = true }

-- an origin after a message was given: it waits as the last, or the origin has fallen too far behind, and is left
abbrev pub given : ℕ → MessageValue → LaneValue → LaneValue
given keep message lane =
    if lane.left then lane
    else if takes keep message lane.waiting then record { waiting = lane.waiting ++ message ∷ []; left = false }
    else left_lane

-- whether an origin that isn't left has accepted everything
abbrev pub is_ready : LaneValue → Bool
is_ready lane = not lane.left && is_none lane.waiting

-- whether one of them has
abbrev pub has_ready : List LaneValue → Bool
has_ready lanes = list_any is_ready lanes

abbrev pub is_left : LaneValue → Bool
is_left lane = lane.left

abbrev pub are_left : List LaneValue → Bool
are_left lanes = list_all is_left lanes

-- whether a further message has to wait: each origin that isn't left has one to accept, and not all are left
abbrev pub is_held : List LaneValue → Bool
is_held lanes = not (has_ready lanes) && not (are_left lanes)

-- what comes first of the messages that wait
abbrev pub IsFront : List MessageValue → First → Type 0
IsFront waiting (first.Message message) = IsFirstOf waiting message
IsFront waiting first.End = waiting ≡ []
IsFront waiting first.Left = ⊥

-- what comes first for an origin, by whether it is left
abbrev pub IsNextBy : Bool → List MessageValue → First → Type 0
IsNextBy true waiting next = next ≡ first.Left
IsNextBy false waiting next = IsFront waiting next

abbrev pub IsNext : LaneValue → First → Type 0
IsNext lane next = IsNextBy lane.left lane.waiting next

abbrev pub without_first : List MessageValue → List MessageValue
without_first [] = []
without_first (message ∷ later) = later

-- each origin was given the message
abbrev pub AreGiven : ℕ → MessageValue → List LaneValue → List LaneValue → Type 0
AreGiven keep message before after = after ≡ map (given keep message) before
