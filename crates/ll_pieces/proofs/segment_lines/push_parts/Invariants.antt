-- The text so far and the lines of the parts that are left are the whole text.
use Rattle.std.proofs.Common.{◌≡◌, ◌++◌, drop, map, string_bytes}
use Rattle.ll_pieces.specs.Segments.{part_lines}
use Rattle.ll_line.specs.Line.{Part}
use Rattle.ll_line.specs.Text.{text_of}
use Rattle.ll_pieces.proofs.segment_lines.push_parts.Given as goal

abbrev pub invariant-loop-index : goal.invariant-loop-index
invariant-loop-index l =
    string_bytes l.text ++ text_of (map Part (part_lines l.number l.index (drop l.index l.parts)))
    ≡ string_bytes l.fn.text ++ text_of (map Part (part_lines l.number 0 l.parts))
