-- The words so far are those that were given.
use Rattle.std.proofs.Common.{◌≡◌, map, string_bytes}
use Rattle.ll_run.proofs.words.texts.Given as goal

abbrev pub invariant-loop-arg : goal.invariant-loop-arg
invariant-loop-arg l = l.words.items ≡ map string_bytes l.yielded
