-- The texts that are left are names exactly if all texts are.
use Rattle.std.proofs.Common.{◌≡◌, drop}
use Rattle.ll_settings.specs.Names.{are_names}
use Rattle.ll_settings.proofs.name.are_names.Given as goal

abbrev pub invariant-loop-i : goal.invariant-loop-i
invariant-loop-i l = are_names (drop l.i l.names) ≡ are_names l.names
