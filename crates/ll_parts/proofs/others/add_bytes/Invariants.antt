-- The bytes so far and those of the others that are left are all bytes.
use Rattle.std.proofs.Common.{◌≡◌, ◌++◌, drop}
use Rattle.ll_parts.specs.Others.{bytes_of}
use Rattle.ll_parts.proofs.others.add_bytes.Given as goal

abbrev pub invariant-loop-place : goal.invariant-loop-place
invariant-loop-place l = l.bytes ++ bytes_of (drop l.place l.others) ≡ l.fn.bytes ++ bytes_of l.others
