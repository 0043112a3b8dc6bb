-- With room for every field, a parse is complete, partial or malformed.
use Rattle.std.proofs.Common.{◌∙◌, [], sym, ap, Err}
use Rattle.httparse.proofs.GrammarLemmas.{ReadsRequest-append}
use Rattle.ll_wire.proofs.FrontLemmas.{at_partial, at_head, judged-many, start-short}
use Rattle.ll_wire.proofs.ValidLemmas.{few_fields}
use Rattle.ll_wire.proofs.head.many_fields.Goals as goal

pub unreachable-requires : goal.unreachable-requires
unreachable-requires c =
    few_fields 2731 c.args.start.now (start-short c.args.bytes.now c.args.start.now c.requires.front) (c.in-Err.ensures.too_many (ap Err c.in-TooManyHeaders.is))

pub returns-in-Ok-Complete-clause-value : goal.returns-in-Ok-Complete-clause-value
returns-in-Ok-Complete-clause-value c =
    let at = (rw c.in-Ok-Complete.field-0-is at c.in-Ok-Complete.ensures.complete) in
    let many = c.requires.many [] at.0 _ (ReadsRequest-append c.args.start.now at.0 _ [] at.1.reads) in
    sym (at_head _ _ c.requires.front at.0 _ at.1.reads ∙ judged-many at.0 many)

pub returns-in-Ok-Partial-clause-value : goal.returns-in-Ok-Partial-clause-value
returns-in-Ok-Partial-clause-value c =
    c.unfinished.ensures.value
    ∙ sym (at_partial _ _ c.requires.front (rw c.in-Ok-Partial.field-0-is at c.in-Ok-Partial.ensures.partial)
    (rw c.in-Ok-Partial.field-0-is at c.in-Ok-Partial.ensures.unfinished))
