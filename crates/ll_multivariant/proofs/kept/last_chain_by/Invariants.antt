use Rattle.std.specs.Prelude.{length}
use Rattle.ll_attr.specs.Words.{pieces_at}
use Rattle.ll_multivariant.proofs.KeepLemmas.{Keeps}
use Rattle.ll_multivariant.proofs.kept.last_chain_by.Given as goal

abbrev pub invariant-lines : goal.invariant-lines
invariant-lines l = Keeps l.checker (pieces_at 10 l.initial.chunks) (pieces_at 10 l.rest) l.kept

abbrev pub decreases-lines : goal.decreases-lines
decreases-lines l = length l.rest
