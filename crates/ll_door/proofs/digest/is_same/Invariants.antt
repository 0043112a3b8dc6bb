-- The bytes that were looked at are the same, or not.
use Rattle.std.specs.Prelude.{◌≡◌, bytes_eq, take}
use Rattle.ll_door.proofs.digest.is_same.Given as goal

abbrev pub invariant-loop-place : goal.invariant-loop-place
invariant-loop-place l = l.same ≡ bytes_eq (take l.place l.one) (take l.place l.other)
