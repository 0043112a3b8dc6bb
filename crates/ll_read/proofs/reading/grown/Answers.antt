-- The draft with one more line.
use Rattle.std.proofs.Common.{◌∙◌, ap}
use Rattle.ll_line.specs.Meaning.{meant}
use Rattle.ll_read.specs.Draft.{put}
use Rattle.ll_read.proofs.reading.grown.Goals as goal

pub returns-in-Ok : goal.returns-in-Ok
returns-in-Ok c = λ d is. c.in-Ok.ensures ∙ ap (put (meant c.args.line.now)) (rw c.in_ok-draft.was at is)
