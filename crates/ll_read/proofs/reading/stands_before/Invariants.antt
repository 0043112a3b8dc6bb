-- The lines that are left have the id exactly if all of them do.
use Rattle.std.proofs.Common.{◌≡◌, take}
use denote.Text.{Utf8}
use denote.Shadow.{shadow}
use Rattle.ll_attr.specs.Words.{pieces_at}
use Rattle.ll_read.specs.Ranges.{has_id, ranges_of}
use Rattle.ll_read.proofs.reading.stands_before.Given as goal

abbrev pub invariant-loop-left : goal.invariant-loop-left
invariant-loop-left l =
    shadow (Utf8 l.rest) × (has_id l.id (ranges_of (take l.left (pieces_at 10 l.rest))) ≡ has_id l.id (ranges_of (take l.count (pieces_at 10 l.text))))

abbrev pub decreases-loop-left : goal.decreases-loop-left
decreases-loop-left l = l.left
