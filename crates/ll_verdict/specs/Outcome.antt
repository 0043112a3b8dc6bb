-- A reply without the playlist or the bytes themselves.
use Rattle.std.specs.Prelude.{length}
use Rattle.ll_pieces.specs.View.{update_in}
use Rattle.ll_verdict.specs.declared.reply.Outcome.{Outcome}
use Rattle.ll_verdict.specs.declared.reply.Outcome.TheVariants as outcome
use Rattle.ll_verdict.specs.declared.reply.Reply.{Reply}
use Rattle.ll_verdict.specs.declared.reply.Reply.TheVariants.{Text, Media, NotFound, TooFar, Busy, Timeout}

-- A playlist is known by how many items the channel had accepted, and by which delta update it is, if any; media by how many items the channel had
-- accepted, and by how many bytes it has.
abbrev pub outcome_of : Reply → Outcome
outcome_of (Text page) = outcome.Text page.seen.count (update_in page)
outcome_of (Media piece) = outcome.Media piece.number (length piece.bytes)
outcome_of NotFound = outcome.NotFound
outcome_of TooFar = outcome.TooFar
outcome_of Busy = outcome.Busy
outcome_of Timeout = outcome.Timeout
