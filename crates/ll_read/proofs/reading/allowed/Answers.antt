-- One line more, by the shape.
use Rattle.std.proofs.Common.{None, Some}
use Rattle.ll_line.specs.Formats.{line_in}
use Rattle.ll_line.specs.Meaning.{meant}
use Rattle.ll_read.specs.Reading.{at}
use Rattle.ll_read.proofs.Onward.{line_next, one_range}
use Rattle.ll_read.proofs.reading.allowed.Goals as goal

pub returns-in_err-shape : goal.returns-in_err-shape
returns-in_err-shape c = λ d after.
    let none = line_next (at c.args.shape d) (line_in c.args.line.now) (meant c.in_ok-line.line) c.is_new-is_new.result None c.in_ok-line.ensures (c.is_new-is_new.ensures d after) c.in_err-shape.ensures in
    rw c.from_residual-in_err-shape.ensures none

pub returns : goal.returns
returns c = λ d after.
    let line = meant c.in_ok-line.line in
    let found = line_in c.args.line.now in
    let is = c.in_ok-line.ensures in
    (line_next (at c.args.shape d) found line c.is_new-is_new.result (Some c.in_ok-shape.shape) is (c.is_new-is_new.ensures d after) c.in_ok-shape.ensures, one_range found line d is)
