-- What was added and the parts that follow are all bytes.
use Rattle.std.proofs.Common.{◌≡◌, ◌++◌, drop}
use Rattle.std.specs.List.{concat}
use Rattle.ll_script.proofs.answers.push_parts.Given as goal

abbrev pub invariant-loop-part : goal.invariant-loop-part
invariant-loop-part l = l.bytes.items ++ concat (drop l.part-index l.parts) ≡ l.fn.bytes.items ++ concat l.parts
