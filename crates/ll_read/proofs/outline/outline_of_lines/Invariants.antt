-- The outline so far, with what is left, gives the outline of the text, and each segment has taken a byte.
use Rattle.std.proofs.Common.{◌≡◌, ◌+◌, ◌≤◌, length}
use denote.Text.{Utf8}
use denote.Shadow.{shadow}
use Rattle.ll_attr.specs.Words.{pieces_at}
use Rattle.ll_read.specs.Draft.{blank}
use Rattle.ll_read.specs.Outline.{outline_of}
use Rattle.ll_read.specs.Outlined.{outline_from}
use Rattle.ll_read.proofs.outline.outline_of_lines.Given as goal

abbrev pub invariant-loop-line : goal.invariant-loop-line
invariant-loop-line l =
    shadow (Utf8 l.rest) × (l.outline.segments + length l.rest ≤ length l.text)
    × (outline_from l.outline (pieces_at 10 l.rest) ≡ outline_from (outline_of blank) (pieces_at 10 l.text))

abbrev pub decreases-loop-line : goal.decreases-loop-line
decreases-loop-line l = length l.rest
