-- For private contracts: what a driver keeps of a script in place of all events, and when that is right.
use Rattle.std.specs.Prelude.{◌≡◌, ℕ, List, [], Option, None, Some, ◌++◌, if◌then◌else◌, min}
use Rattle.std.specs.declared.alloc.Global.{Global}
use Rattle.std.specs.declared.vec.Vec.{Vec}
use Rattle.std.specs.Io.KnownBytes.{Appends}
use Rattle.ll_connection.specs.Turn.{Connections}
use Rattle.ll_settings.specs.Settings.{Configuration}
use Rattle.ll_script_rooms.specs.Kept as rooms
use Rattle.ll_script_rooms.specs.World as rooms_world
use Rattle.ll_script.specs.Lines.{starved}
use Rattle.ll_script.specs.declared.act.Act.{Act}
use Rattle.ll_replay.specs.declared.driver.Done.{Done}
use Rattle.ll_replay.specs.Script.{Lot, Script, act, makes_due}

pub record Kept : Type 0 where
  pub rooms : rooms.Kept
  pub connections : Connections
  -- the settings of the channels, in order of declaration
  pub declared : List Configuration
  pub lines : ℕ
  pub last_id : Option ℕ
  pub replies : ℕ

-- what is kept of script `w`
abbrev pub kept_script : Script → Kept
kept_script w = record {
  rooms = rooms.kept_world w.rooms;
  connections = w.connections;
  declared = rooms_world.all_settings w.rooms;
  lines = w.lines;
  last_id = w.last_id;
  replies = min w.replies rooms_world.count_end;
}

-- a driver keeps what it has to keep of script `w`, whose answers are all written
pub record Keeps (driver : Kept) (w : Script) : Type 0 where
  pub stands : driver ≡ kept_script w
  pub silent : w.rooms.answers ≡ []

-- the text of an answer, if there is one
abbrev pub told : Option (Vec ℕ Global) → List ℕ
told None = []
told (Some text) = text.items

-- a step from the script `old` to the script `new` has this answer
pub record Says (driver : Kept) (answer : Option (Vec ℕ Global)) (old new : Script) : Type 0 where
  pub keeps : Keeps driver new
  pub text : new.text ≡ old.text ++ told answer

-- an act, or what it becomes if its item or request is out of memory
abbrev pub met : Lot → Act → Act
met lot a = if lot.refused then starved a else a

-- the act `a` was done, with some lot: its answer, and where it may have made replies due
pub record IsDone (driver : Kept) (result : Done) (a : Act) (old : Script) : Type 0 where
  pub lot : Lot
  pub due : result.due ≡ makes_due (met lot a)
  pub says : Says driver result.answer old (act lot.requests old (met lot a))

-- a driver stands for script `w`, which goes on, and what was written since `base` is its text
pub record Stands (driver : Kept) (base written : Option (List ℕ)) (w : Script) : Type 0 where
  pub keeps : Keeps driver w
  pub goes_on : w.ending ≡ None
  pub wrote : Appends base written w.text
