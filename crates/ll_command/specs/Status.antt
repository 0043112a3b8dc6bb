-- Why a program didn't do what it was called to do, and its exit statuses.
use Rattle.std.specs.Prelude.{ℕ}
use Rattle.ll_apply.specs.declared.fault.ApplyFault.{ApplyFault}
use Rattle.ll_apply.specs.declared.fault.ApplyFault.TheVariants as apply
use Rattle.ll_check.specs.declared.source.RecordFault.{RecordFault}
use Rattle.ll_check.specs.declared.source.RecordFault.TheVariants.{Wrong, Unread}
use Rattle.ll_check.specs.declared.unread.RecordReadFault.{RecordReadFault}
use Rattle.ll_check.specs.declared.unread.RecordReadFault.TheVariants as unread
use Rattle.ll_entry.specs.declared.fault.CheckKind.{CheckKind}
use Rattle.ll_entry.specs.declared.fault.CheckKind.TheVariants as kind
use Rattle.ll_push.specs.declared.fault.PushFault.{PushFault}
use Rattle.ll_push.specs.declared.fault.PushFault.TheVariants as push
use Rattle.ll_replay.specs.declared.outcome.RunFault.{RunFault}
use Rattle.ll_replay.specs.declared.outcome.RunFault.TheVariants as run
use Rattle.ll_command.specs.declared.fault.Fault.{Fault}
use Rattle.ll_command.specs.declared.fault.Fault.TheVariants.{Usage, Read, Endless, Changed, Write, Memory, Replay, BadLine, NoEntry, NoRendition, BadInit, NoSegment, TooLarge, Listen, Clock, Apply, Push, NotMp4}

-- the fault of a record that wasn't read to its end
abbrev pub read_fault : RecordReadFault → Fault
read_fault unread.Read = Read
read_fault unread.Endless = Endless
read_fault unread.Memory = Memory

-- the fault of a record that was right, and was read again
abbrev pub changed_by : CheckKind → Fault
changed_by kind.BadChunk = Changed
changed_by kind.Gap = Changed
changed_by kind.OtherChannel = Changed
changed_by kind.Refused = Changed
changed_by kind.WrongReply = Changed
changed_by kind.Memory = Memory

abbrev pub changed_fault : RecordFault → Fault
changed_fault (Wrong f) = changed_by f.kind
changed_fault (Unread f) = read_fault f

-- the status of a script's fault
abbrev pub replay_status : RunFault → ℕ
replay_status (run.BadLine n) = 3
replay_status (run.LineTooLong n) = 3
replay_status run.Read = 4
replay_status run.Write = 4
replay_status run.Endless = 4
replay_status run.Memory = 4

-- the status of a delta update's fault
abbrev pub apply_status : ApplyFault → ℕ
apply_status apply.BadBase = 3
apply_status apply.BadDelta = 3
apply_status (apply.NotRecent number) = 3
apply_status apply.Memory = 4

-- the status of a fault of publishing
abbrev pub push_status : PushFault → ℕ
push_status (push.Input fault) = 3
push_status push.Read = 4
push_status push.Clock = 4
push_status push.Connect = 4
push_status push.Elsewhere = 3
push_status push.BadAnswer = 4
push_status push.Memory = 4
push_status push.Endless = 4

abbrev pub status_of : Fault → ℕ
status_of Usage = 2
status_of Read = 4
status_of Endless = 4
status_of Changed = 4
status_of Write = 4
status_of Memory = 4
status_of (BadLine line) = 3
status_of NoEntry = 3
status_of NotMp4 = 3
status_of (NoRendition number) = 3
status_of (BadInit number) = 3
status_of (NoSegment number) = 3
status_of TooLarge = 3
status_of Listen = 4
status_of Clock = 4
status_of (Replay fault) = replay_status fault
status_of (Apply fault) = apply_status fault
status_of (Push fault) = push_status fault
