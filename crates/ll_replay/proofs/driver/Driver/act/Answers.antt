-- The answer to an act was written.
use Rattle.std.proofs.Common.{[]}
use Rattle.ll_replay.specs.Script.{act, plain}
use Rattle.ll_replay.proofs.DoneLemmas.{act-cut, act-stands}
use Rattle.ll_replay.proofs.DriverLemmas.{stops-before}
use Rattle.ll_replay.proofs.RunLemmas.{IfErr-handed}
use Rattle.ll_replay.proofs.ScriptLaws.{act-follows}
use Rattle.ll_replay.proofs.driver.Driver.act.Goals as goal

pub returns-in_err-say-in-Ok-clause-cut : goal.returns-in_err-say-in-Ok-clause-cut
returns-in_err-say-in-Ok-clause-cut g c =
    let f = c.in_err-say-in-Ok.field-0.0 in
    IfErr-handed _ c.from_residual.result f c.from_residual.ensures.1 (λ w base s.
    act-cut c.step.new.self _ base _ _ w c.in-Ok.field-0 c.args.act f (c.in-Ok.ensures.done w s.keeps) s
    c.in_err-say-in-Ok.ensures.kind c.in_err-say-in-Ok.ensures.cut)

pub returns-in_ok-say-in-Ok-clause-ok : goal.returns-in_ok-say-in-Ok-clause-ok
returns-in_ok-say-in-Ok-clause-ok g c w base s =
    act-stands c.step.new.self _ base _ _ w c.in-Ok.field-0 c.args.act (c.in-Ok.ensures.done w s.keeps) s
    c.in_ok-say-in-Ok.ensures.ok

pub returns-in-Err-clause-cut : goal.returns-in-Err-clause-cut
returns-in-Err-clause-cut g c w base s = (plain, stops-before _ base _ w (act [] w c.args.act) s (act-follows [] w c.args.act))
