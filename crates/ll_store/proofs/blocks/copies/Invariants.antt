-- What is copied so far is the first parts.
use Rattle.std.proofs.Common.{◌≡◌, take}
use Rattle.ll_store.proofs.blocks.copies.Given as goal

abbrev pub invariant-loop-part : goal.invariant-loop-part
invariant-loop-part l = l.copies.items ≡ take l.part-index l.parts
