-- A line that is read changes the outline, and any other leaves it as it is.
use Rattle.std.proofs.Common.{arith, rules, ap, ◌∙◌, Some}
use Rattle.ll_line.specs.Meaning.{meant}
use Rattle.ll_read.specs.declared.outline.Outline.{Outline}
use Rattle.ll_read.specs.Outlined.{outline_from}
use Rattle.ll_attr.specs.Words.{pieces_at}
use Rattle.ll_read.proofs.Outlines.{one_at_most, line_more}
use Rattle.ll_read.proofs.outline.outline_of_lines.Goals as goal

pub loop-line-preserved-in-Some-read : goal.loop-line-preserved-in-Some-read
loop-line-preserved-in-Some-read c =
    let is = c.with_line-outline.ensures in
    let found = Some (meant c.in-Some-read.line) in (
      search rules,
      omega (
        arith,
        ap (λ (o : Outline). o.segments) is,
        one_at_most found c.loop-line.outline,
        c.in-Some.ensures.shorter,
        c.loop-line.invariant.1,
      ),
      ap (λ o. outline_from o (pieces_at 10 c.in-Some.below.now)) is
          ∙ line_more c.loop-line.outline c.loop-line.rest.now c.in-Some.line.now c.without_end.result.now c.in-Some.below.now found _
          c.in-Some.ensures.parts c.without_end.ensures c.in-Some-read.ensures c.loop-line.invariant.2,
    )
