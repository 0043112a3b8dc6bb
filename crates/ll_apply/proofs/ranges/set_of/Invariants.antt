-- The set has the ids so far.
use Rattle.std.proofs.Common.{◌≡◌, ℕ, List, take}
use Rattle.ll_apply.specs.Applied.{is_one_of}
use Rattle.ll_apply.specs.Found.{is_among}
use Rattle.ll_apply.proofs.ranges.set_of.Given as goal

abbrev pub invariant-loop-id : goal.invariant-loop-id
invariant-loop-id l = (id : List ℕ) → is_among id l.set.keys ≡ is_one_of id (take l.id-index l.ids)
