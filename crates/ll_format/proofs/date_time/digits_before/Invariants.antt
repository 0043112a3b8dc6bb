-- The digits that were passed and those that follow are all the digits in front.
use Rattle.std.proofs.Common.{◌≡◌, ◌+◌, drop}
use Rattle.ll_format.specs.Dates.{digits_before}
use Rattle.ll_format.proofs.date_time.digits_before.Given as goal

abbrev pub invariant-loop-place : goal.invariant-loop-place
invariant-loop-place l = l.place + digits_before (drop l.place l.text) ≡ digits_before l.text
