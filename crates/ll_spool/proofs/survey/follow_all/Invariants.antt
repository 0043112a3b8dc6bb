-- The layouts are those after the items of the lines that were read; each turn reads a line.
use Rattle.std.specs.Prelude.{◌≡◌, [], length}
use Rattle.ll_spool.specs.Layouts.{layouts_after}
use Rattle.ll_spool.specs.Placed.{IsSurveying}
use Rattle.ll_spool.specs.Spooled.{lines_in}
use Rattle.ll_spool.proofs.survey.follow_all.Given as goal

abbrev pub invariant-loop-count : goal.invariant-loop-count
invariant-loop-count l = l.fn.layouts.items ≡ layouts_after l.fn.settings [] → IsSurveying l.fn.settings (lines_in l.fn.text) l.lines l.layouts.items

abbrev pub decreases-loop-count : goal.decreases-loop-count
decreases-loop-count l = length l.lines.lines
