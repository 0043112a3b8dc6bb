-- The time after the next lines is that of where they lead.
use Rattle.std.proofs.Common.{ap, ◌∙◌}
use Rattle.ll_explain.proofs.ExplainLemmas.{time-told}
use Rattle.ll_explain.specs.Seeking.{time_told}
use Rattle.ll_explain.proofs.explained.TimedVisitorU64.visit.Goals as goal

pub returns-clause-on : goal.returns-clause-on
returns-clause-on c = λ first p next lines mid rest held by few on.
    c.time_after.ensures ∙ ap (λ ms. time_told ms c.args.told.now) held ∙ time-told p next c.args.told.now mid rest by
