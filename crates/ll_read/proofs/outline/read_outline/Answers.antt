-- The outline of the lines is that of the playlist, and bytes that are no text spell none.
use Rattle.std.proofs.Common.{◌∙◌, ap}
use Rattle.ll_attr.specs.Words.{pieces_at}
use Rattle.ll_read.specs.Draft.{blank}
use Rattle.ll_read.specs.Outline.{outline_of}
use Rattle.ll_read.specs.Outlined.{outline_from}
use Rattle.ll_read.proofs.Begins.{not_text}
use Rattle.ll_read.proofs.SpelledAgain.{outlined}
use Rattle.ll_read.proofs.outline.read_outline.Goals as goal

pub returns-in-Ok : goal.returns-in-Ok
returns-in-Ok c = λ p h.
    c.outline_of_lines.ensures ∙ ap (λ text. outline_from (outline_of blank) (pieces_at 10 text)) c.in-Ok.ensures.cases.0 ∙ outlined c.args.bytes.now p h

pub returns-in-Err : goal.returns-in-Err
returns-in-Err c = λ p h. let bad = not_text c.args.bytes.now c.in-Err.ensures.cases.0 in absurd (cc)
