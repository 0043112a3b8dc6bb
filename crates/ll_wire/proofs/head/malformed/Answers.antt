-- Bytes that no head begins with are unfinished in a target, and else BadHead.
use Rattle.std.proofs.Common.{◌∙◌, sym}
use Rattle.ll_wire.proofs.FrontLemmas.{at_target, at_invalid}
use Rattle.ll_wire.proofs.head.malformed.Goals as goal

pub returns-then-ends_in_target-clause-value : goal.returns-then-ends_in_target-clause-value
returns-then-ends_in_target-clause-value c =
    c.unfinished.ensures.value ∙ sym (at_target _ _ c.requires.front (sym c.ends_in_target.ensures ∙ c.if-ends_in_target.true))

pub returns-else-ends_in_target-clause-value : goal.returns-else-ends_in_target-clause-value
returns-else-ends_in_target-clause-value c =
    sym (at_invalid _ _ c.requires.front c.requires.never (sym c.ends_in_target.ensures ∙ c.if-ends_in_target.false))
