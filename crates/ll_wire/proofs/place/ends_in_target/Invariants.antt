-- The place so far and the bytes that follow give the last place.
use Rattle.std.proofs.Common.{◌≡◌, fold, drop}
use Rattle.ll_wire.specs.Places.{next_place}
use Rattle.ll_wire.proofs.place.ends_in_target.Given as goal

abbrev pub invariant-loop-b : goal.invariant-loop-b
invariant-loop-b l = fold next_place l.place (drop l.b-index l.bytes) ≡ fold next_place l.initial.place l.bytes
