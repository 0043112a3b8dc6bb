-- The names copied so far are the first of all.
use Rattle.std.proofs.Common.{◌≡◌, take}
use Rattle.ll_settings.proofs.settings.copies.Given as goal

abbrev pub invariant-loop-name : goal.invariant-loop-name
invariant-loop-name l = l.copies.items ≡ take l.name-index l.names
