-- What is said of a line holds of the text that it begins.
use Rattle.std.proofs.Common.{◌∷◌, ◌++◌, Some}
use Rattle.ll_attr.specs.Words.{pieces_at}
use Rattle.ll_check.proofs.StepLemmas.{moves-in, result-in}
use Rattle.ll_entry.specs.Chain.{Inside, wrong}
use Rattle.ll_check.proofs.chunk.go_on.Goals as goal

pub returns-in-Ok-clause-right : goal.returns-in-Ok-clause-right
returns-in-Ok-clause-right c ch more at =
    let rest = pieces_at 10 (c.in-Some.rest.now ++ more) in
    moves-in (Some c.go_over_line.new.chain) (Inside ch) c.in-Ok.told (pieces_at 10 (c.args.text.now ++ more)) (c.in-Some.line.now ∷ rest) rest
    (c.in-Some.ensures.parts more) (c.in-Ok.ensures.right ch rest at)

pub returns-in-Err-clause-wrong : goal.returns-in-Err-clause-wrong
returns-in-Err-clause-wrong c ch more at other =
    result-in (Inside ch) (pieces_at 10 (c.args.text.now ++ more)) (c.in-Some.line.now ∷ pieces_at 10 (c.in-Some.rest.now ++ more)) (wrong (Some ch) c.in-Err.kind)
    (c.in-Some.ensures.parts more) (c.in-Err.ensures.wrong ch (c.in-Some.rest.now ++ more) at other)
