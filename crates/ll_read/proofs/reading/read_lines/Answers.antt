-- One more line is read, or is the first that isn't allowed in its place.
use Rattle.std.proofs.Common.{None, Some, ◌++◌, ◌+◌, take, refl, ap, sym, ◌∙◌, arith, rules}
use Rattle.ll_attr.specs.Words.{pieces_at}
use Rattle.ll_line.specs.Formats.{line_in}
use Rattle.ll_line.specs.Meaning.{meant}
use Rattle.ll_read.specs.Draft.{blank, plain, put}
use Rattle.ll_read.specs.Ranges.{ranges_in, ranges_of}
use Rattle.ll_read.specs.Reading.{at}
use Rattle.ll_read.proofs.Before.{one_line}
use Rattle.ll_read.proofs.Onward.{goes_on}
use Rattle.ll_read.proofs.reading.read_lines.Goals as goal

pub loop-line-init : goal.loop-line-init
loop-line-init c = (search rules, refl, omega arith, (plain blank, (c.new.ensures, refl), rw c.start-shape.ensures refl))

pub returns-in_default-allowed-clause-refused : goal.returns-in_default-allowed-clause-refused
returns-in_default-allowed-clause-refused c = λ no.
    let inv = c.loop-line.invariant.3 in
    sym (goes_on (c.loop-line.count + 1) (at c.loop-line.shape inv.0) None c.loop-line.rest.now c.in-Some.line.now c.without_end.result.now c.in-Some.below.now _
    c.in-Some.ensures.parts c.without_end.ensures (c.in_default-allowed.ensures inv.0 inv.1) inv.2)

pub loop-line-preserved : goal.loop-line-preserved
loop-line-preserved c =
    let inv = c.loop-line.invariant.3 in
    let parts = pieces_at 10 c.args.text.now in
    let count = c.loop-line.count in
    let shown = c.without_end.result.now in
    let s = c.in-Some-allowed.ensures inv.0 inv.1 in
    let more = one_line count parts (pieces_at 10 c.in-Some.below.now) c.in-Some.line.now (c.loop-line.invariant.1 ∙ c.in-Some.ensures.parts) in
    let ranges = s.1 ∙ ap (λ rs. rs ++ ranges_in (line_in shown)) inv.1.1 ∙ ap (λ l. ranges_of (take count parts) ++ ranges_in (line_in l)) c.without_end.ensures ∙ sym more.1 in (
      search rules,
      more.0,
      omega (arith, c.in-Some.ensures.shorter, c.loop-line.invariant.2),
      (put (meant c.in-Some-allowed.line) inv.0, (c.grown-draft.ensures inv.0 inv.1.0, ranges), goes_on (count + 1) (at c.loop-line.shape inv.0) (Some _) c.loop-line.rest.now c.in-Some.line.now shown c.in-Some.below.now _ c.in-Some.ensures.parts c.without_end.ensures s.0 inv.2),
    )
