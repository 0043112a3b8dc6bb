-- Each chain adds its lines.
use Rattle.ll_explain.proofs.LineTexts.{chains-more}
use Rattle.ll_explain.specs.Summary.{summary_of}
use Rattle.std.proofs.Common.{[]}
use Rattle.ll_explain.proofs.summary_lines.summary_text.Goals as goal

pub loop-before-preserved : goal.loop-before-preserved
loop-before-preserved c =
    chains-more _ _ c.args.chains.now c.loop-before.before (summary_of []) c.loop-before-test.true c.loop-before.invariant c.in_ok-push_chain.ensures
