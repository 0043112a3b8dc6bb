-- What an act makes due comes after it, and a fault at either is one at both.
use Rattle.ll_replay.proofs.RestLemmas.{done-act_cut, done-quiet, done-rests_cut, done-rests_ok}
use Rattle.ll_replay.proofs.RunLemmas.{IfErr-handed}
use Rattle.ll_replay.proofs.driver.Driver.done.Goals as goal

pub returns-in_err-due-clause-cut : goal.returns-in_err-due-clause-cut
returns-in_err-due-clause-cut g c =
    let f = c.in_err-due.field-0.0 in
    IfErr-handed _ c.from_residual.result f c.from_residual.ensures.1 (done-act_cut f _ _ _ c.args.act c.in_err-due.ensures.cut)

pub returns-in-Some-clause-ok : goal.returns-in-Some-clause-ok
returns-in-Some-clause-ok g c =
    done-rests_ok c.rest.result c.args.self.now c.act.new.self _ _ _ _ c.in_ok-due.due c.args.act c.in-Some.place c.in-Some.is c.in_ok-due.ensures.ok c.rest.ensures.ok

pub returns-in-Some-clause-cut : goal.returns-in-Some-clause-cut
returns-in-Some-clause-cut g c =
    done-rests_cut c.rest.result c.args.self.now c.act.new.self _ _ _ c.in_ok-due.due c.args.act c.in-Some.place c.in-Some.is c.in_ok-due.ensures.ok c.rest.ensures.cut

pub returns-in-None-clause-ok : goal.returns-in-None-clause-ok
returns-in-None-clause-ok g c = done-quiet _ _ _ _ c.in_ok-due.due c.args.act c.in-None.is c.in_ok-due.ensures.ok
