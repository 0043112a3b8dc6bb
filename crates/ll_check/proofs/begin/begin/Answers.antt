-- What is said of three lines holds of the text that they begin.
use Rattle.std.proofs.Common.{◌∷◌, ◌++◌}
use Rattle.ll_attr.specs.Words.{pieces_at}
use Rattle.ll_check.proofs.StepLemmas.{moves-in, result-in}
use Rattle.ll_entry.specs.Chain.{Between, wrong}
use Rattle.ll_check.proofs.begin.begin.Goals as goal

pub returns-in-Ok-clause-right : goal.returns-in-Ok-clause-right
returns-in-Ok-clause-right c before more at =
    let l = c.in-Some.lines in
    moves-in c.begin_by.new.chain (Between before) c.in-Ok.told (pieces_at 10 (c.args.text.now ++ more)) (l.first.now ∷ l.settings.now ∷ l.at.now ∷ pieces_at 10 (l.rest.now ++ more))
    (pieces_at 10 (l.rest.now ++ more)) (c.in-Some.ensures.parts more) (c.in-Ok.ensures.right before (pieces_at 10 (l.rest.now ++ more)) at)

pub returns-in-Err-clause-wrong : goal.returns-in-Err-clause-wrong
returns-in-Err-clause-wrong c before more at other =
    let l = c.in-Some.lines in
    result-in (Between before) (pieces_at 10 (c.args.text.now ++ more)) (l.first.now ∷ l.settings.now ∷ l.at.now ∷ pieces_at 10 (l.rest.now ++ more)) (wrong before c.in-Err.kind)
    (c.in-Some.ensures.parts more) (c.in-Err.ensures.wrong before (l.rest.now ++ more) at other)
