-- The bytes so far are appended.
use Rattle.std.proofs.Common.{◌≡◌, ◌++◌, take}
use Rattle.ll_spool.specs.Placed.{placed_in}
use Rattle.ll_spool.proofs.placed.push_all.Given as goal

abbrev pub invariant-loop-stored : goal.invariant-loop-stored
invariant-loop-stored l = l.all.items ≡ l.fn.all.items ++ placed_in l.rendition (take l.stored-index l.own)
