-- The worked example.
use Rattle.std.proofs.Common.{refl}
use Rattle.std.specs.Fmt.{digits}
use Rattle.ll_item.specs.ItemLines.{break_line, end_line, finish_line, init_line, part_line, timed_break_line}
use Rattle.ll_announce.specs.Messages.{sent_line}
use Rattle.ll_announce.proofs.laws.worked_messages.Goals as goal

pub returns : goal.returns
unfolding digits break_line end_line finish_line init_line part_line sent_line timed_break_line
returns c = (refl, refl, refl, refl, refl, refl)
