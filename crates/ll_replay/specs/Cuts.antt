-- For private contracts: what each fault says of a line, of a script and of a run, and what a stream stands for.
use Rattle.std.specs.Prelude.{◌≡◌, ◌≤◌, ℕ, List, Option, Some, length, map, ⊤}
use Rattle.std.specs.Io.KnownBytes.{Appends}
use Rattle.ll_replay.specs.declared.outcome.RunFault.{RunFault}
use Rattle.ll_replay.specs.declared.outcome.RunFault.TheVariants as fault
use Rattle.ll_replay.specs.Kept.{Kept, Stands}
use Rattle.ll_device.specs.Written.{AppendsPrefix}
use Rattle.ll_replay.specs.Stream.{EndsBy, IsBegun, StopsAfter, StopsBetween, StopsForMemory, come_to, ended_lines, open_line, text_of}
use Rattle.ll_replay.specs.Script.{Marked, Script, BadLine, LineTooLong}

-- what each fault says of a step from the script `before` to the script `after`
abbrev pub IsCutBetween : (base written : Option (List ℕ)) → (before after : Script) → RunFault → Type 0
IsCutBetween base written before after (fault.BadLine n) = (after.ending ≡ Some (BadLine n)) × Appends base written after.text
IsCutBetween base written before after (fault.LineTooLong n) = (after.ending ≡ Some (LineTooLong n)) × Appends base written after.text
IsCutBetween base written before after fault.Write = AppendsPrefix base written after.text
IsCutBetween base written before after fault.Memory = StopsBetween base written before after
IsCutBetween base written before after fault.Read = ⊥
IsCutBetween base written before after fault.Endless = ⊥

-- what each fault says of a script with the bytes `input`
abbrev pub IsCutAt : Option (List ℕ) → Option (List ℕ) → List ℕ → RunFault → Type 0
IsCutAt base written input (fault.BadLine n) = EndsBy (BadLine n) base written input
IsCutAt base written input (fault.LineTooLong n) = EndsBy (LineTooLong n) base written input
IsCutAt base written input fault.Write = IsBegun base written input
IsCutAt base written input fault.Memory = StopsForMemory base written input
IsCutAt base written input fault.Read = ⊥
IsCutAt base written input fault.Endless = ⊥

-- what each fault says of a run: of a script whose bytes are known, or of the bytes up to where it stopped
abbrev pub IsStopped : (before after base written : Option (List ℕ)) → RunFault → Type 0
IsStopped before after base written fault.Read = StopsAfter before after base written
IsStopped before after base written fault.Endless = StopsAfter before after base written
IsStopped before after base written f = (input : List ℕ) → before ≡ Some input → IsCutAt base written input f

-- what each fault says of the devices: a read failed, a write failed, or there were too many reads
abbrev pub HasFailed : (read write endless : Type 0) → RunFault → Type 0
HasFailed read write endless fault.Read = read
HasFailed read write endless fault.Write = write
HasFailed read write endless fault.Endless = endless
HasFailed read write endless fault.Memory = ⊤
HasFailed read write endless (fault.BadLine n) = ⊤
HasFailed read write endless (fault.LineTooLong n) = ⊤

-- a stream stands for the bytes so far: it holds the bytes after the last LF, and its driver stands for the ended lines
pub record StandsFor (held : List ℕ) (kept : Kept) (base written : Option (List ℕ)) (bytes : List ℕ) : Type 0 where
  pub holds : held ≡ open_line bytes
  pub fits : length held ≤ 65537
  pub list : List Marked
  pub lines : map text_of list ≡ ended_lines bytes
  pub stands : Stands kept base written (come_to list)
