-- Each step goes on with the visit, and the last one ends it.
use Rattle.std.proofs.Common.{◌∙◌}
use Rattle.ll_connection.proofs.OpenLemmas.{goes_last, goes_on}
use Rattle.ll_connection.proofs.open.Open.submit.Goals as goal

pub returns-then-not-more-clause-handed_in : goal.returns-then-not-more-clause-handed_in
returns-then-not-more-clause-handed_in c w e d =
    let g = c.loop-more.invariant.goes w e d in
    let same = c.loop-more.invariant.number in
    let one = c.in_ok-more.ensures.stepped g.world g.stands g.settings in
    goes_last _ _ _ _ _ _ _ _ _ _ _ one.0 g (rw same at one.1)
    (rw same at (c.in_ok-more.ensures.last c.if-not-more.true)) (rw (c.in_ok-more.ensures.number, same) at c.in_ok-tell.ensures.told) c.in_ok-tell.ensures.session

pub loop-more-preserved : goal.loop-more-preserved
loop-more-preserved c =
    let same = c.loop-more.invariant.number in
    record {
      number = c.in_ok-tell.ensures.number ∙ c.in_ok-more.ensures.number ∙ same;
      goes = λ w e d.
          let g = c.loop-more.invariant.goes w e d in
          let one = c.in_ok-more.ensures.stepped g.world g.stands g.settings in
          goes_on _ _ _ _ _ _ _ _ _ _ _ one.0 g (rw same at one.1)
          (rw (c.in_ok-more.ensures.number, same) at c.in_ok-tell.ensures.told) c.in_ok-tell.ensures.session;
    }
