-- When the values that the code keeps of connections and rooms are those of the definitions.
use Rattle.std.specs.Prelude.{◌≡◌, ℕ, ◌+◌, ◌≤◌, ◌++◌, [], List, Option, None, Some, flat_map, length, min}
use Rattle.ll_script.specs.Answers.{sent_line}
use Rattle.ll_session.specs.Talk.{SessionValue, fresh}
use Rattle.ll_script_rooms.specs.Kept.{Kept, kept_world}
use Rattle.ll_script_rooms.specs.World.{World, count_end}
use Rattle.ll_connection.specs.Turn.{Connections, Turn}
use Rattle.ll_connection.specs.Visit.{Luck, Visit, step}
use Rattle.ll_connection.specs.declared.sent.Sent.{Sent}

-- what is kept and written is the result of turn `t`
pub record IsTurn (all : Connections) (kept : Kept) (sent : Sent) (t : Turn) : Type 0 where
  pub connections : all ≡ t.connections
  pub rooms : kept ≡ kept_world t.rooms
  pub text : sent.text.items ≡ t.text
  pub replies : sent.replies ≡ min t.replies count_end

-- for private contracts: a session and what is kept of the channels are those of a visit
pub record IsVisit (s : SessionValue) (kept : Kept) (v : Visit) : Type 0 where
  pub session : s ≡ v.session
  pub rooms : kept ≡ kept_world v.rooms

-- for private contracts: `answers` were written after what was there; no count is above `count_end`
pub record AreTold (n : ℕ) (answers : List (List ℕ)) (before after : Sent) : Type 0 where
  pub text : after.text.items ≡ before.text.items ++ flat_map (sent_line n) answers
  pub replies : before.replies ≤ count_end → after.replies ≡ min (before.replies + length answers) count_end

-- for private contracts: the session and what is kept are those of a visit, and all its answers were written since
pub record IsToldVisit (n : ℕ) (before after : Sent) (s : SessionValue) (kept : Kept) (v : Visit) : Type 0 where
  pub session : s ≡ record v.session { answers = [] }
  pub rooms : kept ≡ kept_world v.rooms
  pub told : AreTold n v.session.answers before after

-- for private contracts: a further step of connection `n` changes nothing
abbrev pub IsStill : ℕ → SessionValue → Type 0
IsStill n s = (w : World) (luck : Luck) → step luck n (record { session = s; rooms = w }) ≡ record { session = s; rooms = w }

-- for private contracts: the open session in an entry for a number, if there is one
abbrev pub open_in : Option (Option SessionValue) → Option SessionValue
open_in None = None
open_in (Some s) = s

-- the open session in an entry for a number, or a new one if there is no entry
abbrev pub opened : Option (Option SessionValue) → Option SessionValue
opened None = Some fresh
opened (Some s) = s
