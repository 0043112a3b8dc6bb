-- What is decoded so far is plain, and the bytes that are left follow it.
use Rattle.std.proofs.Common.{◌≡◌, ◌++◌, true}
use Rattle.std.specs.List.{list_all}
use Rattle.percent_encoding.specs.Iter.{decoded_bytes}
use Rattle.percent_encoding.specs.Percent.{percent_decode}
use Rattle.ll_directive.specs.Told.{is_plain}
use Rattle.ll_directive.proofs.query.decoded.Given as goal

abbrev pub invariant-loop-byte : goal.invariant-loop-byte
invariant-loop-byte l = (l.text.bytes ++ decoded_bytes l.byte-iterator ≡ percent_decode l.raw) × (list_all is_plain l.text.bytes ≡ true)
