-- The chains that were counted are all.
use Rattle.ll_attr.specs.Words.{pieces_at}
use Rattle.ll_explain.proofs.ChainLemmas.{counted-all, counted-first}
use Rattle.ll_explain.proofs.summary.summarize.Goals as goal

pub returns-in-Ok-clause-counts : goal.returns-in-Ok-clause-counts
returns-in-Ok-clause-counts g c input is =
    let v = c.in-Ok.ensures.visited input is in
    counted-all c.go_over.new.sink.items v.0 input (v.1 (counted-first c.new-chains.result.items (pieces_at 10 input) c.new-chains.ensures.items))
