-- What is found is explained.
use Rattle.std.proofs.Common.{refl}
use Rattle.ll_explain.proofs.ExplainLemmas.{found-explained}
use Rattle.ll_explain.proofs.explained.explain.Goals as goal

pub returns-in-Ok-Entry-clause-right : goal.returns-in-Ok-Entry-clause-right
returns-in-Ok-Entry-clause-right g c input is =
    found-explained input c.args.entry c.go_to.new.sink _ c.in-Ok-Entry.field-0-0 (rw c.in-Ok-Entry.field-0-is at (c.in-Ok-Entry.ensures.gone input is))
    (λ ch rest held. held refl)
