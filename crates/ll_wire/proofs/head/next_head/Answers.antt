-- What a parse of the first bytes found holds in all bytes.
use Rattle.std.proofs.Common.{◌∙◌, sym}
use Rattle.ll_wire.proofs.FrontLemmas.{at_partial, at_head, judged-by, found_in_all, within_all}
use Rattle.ll_wire.proofs.head.next_head.Goals as goal

pub returns-in-Ok-Complete-clause-value : goal.returns-in-Ok-Complete-clause-value
returns-in-Ok-Complete-clause-value c =
    let at = (rw c.in-Ok-Complete.field-0-is at c.in-Ok-Complete.ensures.complete) in
    found_in_all _ _ c.front-start.ensures _ c.judge.ensures.within ∙ c.judge.ensures.parts
    ∙ judged-by at.0 _ _ _ _ _ at.1.len at.1.method at.1.path at.1.version at.1.fields
    ∙ sym (at_head _ _ c.front-start.ensures at.0 _ at.1.reads)

pub returns-in-Ok-Complete-clause-within : goal.returns-in-Ok-Complete-clause-within
returns-in-Ok-Complete-clause-within c = within_all _ _ c.front-start.ensures _ c.judge.ensures.within

pub returns-in-Ok-Partial-clause-value : goal.returns-in-Ok-Partial-clause-value
returns-in-Ok-Partial-clause-value c =
    c.unfinished.ensures.value
    ∙ sym (at_partial _ _ c.front-start.ensures (rw c.in-Ok-Partial.field-0-is at c.in-Ok-Partial.ensures.partial)
    (rw c.in-Ok-Partial.field-0-is at c.in-Ok-Partial.ensures.unfinished))
