-- The last chain has one more entry.
use Rattle.std.proofs.Common.{ap, map, refl, sym, ◌∙◌}
use Rattle.ll_explain.proofs.SummaryLemmas.{last-counts}
use Rattle.ll_explain.specs.Counting.{last_chain, with_told}
use Rattle.ll_explain.specs.Summary.{summary_of}
use Rattle.ll_explain.proofs.summary.add.Goals as goal

pub returns-in-Some-clause-counted : goal.returns-in-Some-clause-counted
returns-in-Some-clause-counted c = λ before short are.
    last-counts c.args.chains.now.items c.args.chains.now.len c.in-Some.chain.now c.add.new.self before c.in-Entry.entry are c.args.chains.now.ok.0
    (c.in-Some.ensures.variant.0 refl) c.in-Some.ensures.value (c.add.ensures (last_chain before) short)
    ∙ ap (λ t. map summary_of (with_told before t)) (sym c.in-Entry.is)
