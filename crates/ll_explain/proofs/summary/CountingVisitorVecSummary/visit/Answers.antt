-- The next lines are counted, or nothing changes.
use Rattle.std.proofs.Common.{inl, subst, sym, ◌∙◌}
use Rattle.ll_explain.proofs.ChainLemmas.{counted-next, err-on, ok-on}
use Rattle.ll_explain.specs.Counting.{AreCounted}
use Rattle.ll_explain.proofs.summary.CountingVisitorVecSummary.visit.Goals as goal

pub returns-clause-on : goal.returns-clause-on
returns-clause-on c = λ first p next lines mid rest held by few on.
    counted-next c.args.chains.now.items c.add.new.chains.items p next c.args.told.now lines mid rest held by few
    (λ before short are. ok-on c.add.result _ (sym c.is_ok.ensures.value ∙ on) (c.add.ensures.counted before short are))

pub returns-clause-ended : goal.returns-clause-ended
returns-clause-ended c = λ first p next lines mid rest held by few off.
    let same = err-on c.add.result _ (sym c.is_ok.ensures.value ∙ off) c.add.ensures.same in
    inl (subst (λ all. AreCounted all p lines mid) (sym same) held)
