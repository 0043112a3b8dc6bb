-- The text so far and the lines of the segments that are left are the whole text.
use Rattle.std.proofs.Common.{◌≡◌, ◌++◌, drop, flat_map, string_bytes}
use Rattle.ll_line.specs.Spelling.{segment_lines}
use Rattle.ll_line.specs.Text.{text_of}
use Rattle.ll_read.proofs.writing.push_segments.Given as goal

abbrev pub invariant-loop-segment : goal.invariant-loop-segment
invariant-loop-segment l = string_bytes l.text ++ text_of (flat_map segment_lines (drop l.segment-index l.segments)) ≡ string_bytes l.fn.text ++ text_of (flat_map segment_lines l.segments)
