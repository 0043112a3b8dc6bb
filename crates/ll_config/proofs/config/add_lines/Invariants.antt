-- The channels so far are those of the lines so far, and each line that is read leaves fewer.
use Rattle.std.specs.Prelude.{length}
use Rattle.ll_config.proofs.HostedLemmas.{Reads}
use Rattle.ll_config.proofs.config.add_lines.Given as goal

abbrev pub invariant-loop-alloc : goal.invariant-loop-alloc
invariant-loop-alloc l = Reads l.initial.lines l.lines l.all

abbrev pub decreases-loop-alloc : goal.decreases-loop-alloc
decreases-loop-alloc l = length l.lines.lines
