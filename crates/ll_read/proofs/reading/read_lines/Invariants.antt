-- Reading what is left after the lines so far gives the result of the whole text.
use Rattle.std.proofs.Common.{◌≡◌, ◌≤◌, ◌+◌, length, take, drop}
use denote.Text.{Utf8}
use denote.Shadow.{shadow}
use Rattle.ll_attr.specs.Words.{pieces_at}
use Rattle.ll_read.specs.Draft.{Draft}
use Rattle.ll_read.specs.Drafted.{IsAfter}
use Rattle.ll_read.specs.Reading.{at, read_from, start}
use Rattle.ll_read.proofs.reading.read_lines.Given as goal

abbrev pub invariant-loop-line : goal.invariant-loop-line
invariant-loop-line l =
    shadow (Utf8 l.rest) × (drop l.count (pieces_at 10 l.text) ≡ pieces_at 10 l.rest) × (l.count + length l.rest ≤ length l.text)
    × ((d : Draft) × IsAfter (take l.count (pieces_at 10 l.text)) l.draft d × (read_from (l.count + 1) (at l.shape d) (pieces_at 10 l.rest) ≡ read_from 1 start (pieces_at 10 l.text)))

abbrev pub decreases-loop-line : goal.decreases-loop-line
decreases-loop-line l = length l.rest
