-- What stands at the front, by the grammar alone.
use Rattle.std.proofs.Common.{refl}
use Rattle.ll_wire.specs.Laws.{first_bytes}
use Rattle.ll_wire.proofs.FrontLemmas.{at_head, at_partial, at_other}
use Rattle.ll_wire.proofs.laws.grammar_law.Goals as goal

pub returns : goal.returns
returns c = record {
  heads = λ bytes. at_head bytes (first_bytes bytes) refl;
  parts = λ bytes. at_partial bytes (first_bytes bytes) refl;
  others = λ bytes. at_other bytes (first_bytes bytes) refl;
}
