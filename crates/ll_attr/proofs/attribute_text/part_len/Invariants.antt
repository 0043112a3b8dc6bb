-- What was passed and what is left until the comma are the whole way.
use Rattle.std.proofs.Common.{◌≡◌, ◌+◌, false, drop}
use Rattle.ll_attr.specs.Reading.{part_len}
use Rattle.ll_attr.proofs.attribute_text.part_len.Given as goal

abbrev pub invariant-loop-place : goal.invariant-loop-place
invariant-loop-place l = l.place + part_len l.quoted (drop l.place l.text) ≡ part_len false l.text
