-- If there is no reading, it is written as 0.
use Rattle.ll_explain.specs.SummaryLines.{events_text}
use Rattle.ll_explain.proofs.summary_lines.events_text.Goals as goal

pub returns : goal.returns
unfolding events_text
returns c = rw (← c.unwrap_or-first.ensures, ← c.unwrap_or-last.ensures) c.format.ensures.ok
