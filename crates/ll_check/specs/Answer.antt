-- The line with the result of a check.
use Rattle.std.specs.Prelude.{ℕ, List, ◌++◌, Result, Ok, Err, codes, decimal}
use Rattle.ll_entry.specs.declared.fault.CheckFault.{CheckFault}
use Rattle.ll_entry.specs.declared.fault.CheckKind.{CheckKind}
use Rattle.ll_entry.specs.declared.fault.CheckKind.TheVariants.{BadChunk, Gap, OtherChannel, Refused, WrongReply, Memory}

abbrev pub kind_name : CheckKind → List ℕ
kind_name BadChunk = codes "BadChunk"
kind_name Gap = codes "Gap"
kind_name OtherChannel = codes "OtherChannel"
kind_name Refused = codes "Refused"
kind_name WrongReply = codes "WrongReply"
kind_name Memory = codes "Memory"

-- a chain of `n` entries is right
unfoldable pub ok_line : ℕ → List ℕ
ok_line n = codes "ok " ++ (decimal n ++ codes "\n")

-- a chain is wrong from an entry on
unfoldable pub bad_line : ℕ → List ℕ → List ℕ
bad_line entry name = codes "bad " ++ (decimal entry ++ (codes " " ++ (name ++ codes "\n")))

abbrev pub answer_line : Result ℕ CheckFault → List ℕ
answer_line (Ok n) = ok_line n
answer_line (Err fault) = bad_line fault.entry (kind_name fault.kind)

-- what is written of a record in format 2: its text, if it is right, else the line that says how it is wrong
abbrev pub upgrade_answer : Result ℕ CheckFault → List ℕ → List ℕ
upgrade_answer (Ok n) text = text
upgrade_answer (Err fault) text = answer_line (Err fault)
