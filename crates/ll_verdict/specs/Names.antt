-- Statuses (RFC 9110, section 15), numbers and names of the answers of a channel.
use Rattle.std.specs.Prelude.{ℕ, List, codes}
use Rattle.ll_verdict.specs.declared.fault.AskFault.{AskFault}
use Rattle.ll_verdict.specs.declared.fault.AskFault.TheVariants.{RecordFull, Memory}
use Rattle.ll_verdict.specs.declared.fault.ClockFault.{ClockFault}
use Rattle.ll_verdict.specs.declared.fault.ClockFault.TheVariants as clock
use Rattle.ll_verdict.specs.declared.reply.Reply.{Reply}
use Rattle.ll_verdict.specs.declared.reply.Reply.TheVariants.{Text, Media, NotFound, TooFar, Busy, Timeout}

-- ---- requests: a player that gets no playlist and no media reads a name in their place

abbrev pub ask_fault_name : AskFault → List ℕ
ask_fault_name RecordFull = codes "RecordFull"
ask_fault_name Memory = codes "Memory"

abbrev pub reply_status : Reply → ℕ
reply_status (Text page) = 200
reply_status (Media piece) = 200
reply_status NotFound = 404
reply_status TooFar = 400
reply_status Busy = 503
reply_status Timeout = 503

abbrev pub reply_name : Reply → List ℕ
reply_name (Text page) = codes "Text"
reply_name (Media piece) = codes "Media"
reply_name NotFound = codes "NotFound"
reply_name TooFar = codes "TooFar"
reply_name Busy = codes "Busy"
reply_name Timeout = codes "Timeout"

-- ---- readings of the clock

abbrev pub clock_fault_code : ClockFault → ℕ
clock_fault_code clock.ClockRange = 1
clock_fault_code clock.RecordFull = 2
clock_fault_code clock.Memory = 3

abbrev pub clock_fault_name : ClockFault → List ℕ
clock_fault_name clock.ClockRange = codes "ClockRange"
clock_fault_name clock.RecordFull = codes "RecordFull"
clock_fault_name clock.Memory = codes "Memory"
