-- Those that are held are written as they are counted.
use Rattle.ll_explain.specs.SummaryLines.{held_text}
use Rattle.ll_explain.proofs.summary_lines.held_text.Goals as goal

pub returns : goal.returns
unfolding held_text
returns c = rw (← c.still_held-held.ensures) c.format.ensures.ok
