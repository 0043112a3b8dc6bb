-- The text so far and the lines of the parts that are left are the whole text.
use Rattle.std.proofs.Common.{◌≡◌, ◌++◌, drop, map, string_bytes}
use Rattle.ll_line.specs.Line.{Part}
use Rattle.ll_line.specs.Text.{text_of}
use Rattle.ll_read.proofs.playlist.Block.push_parts.Given as goal

abbrev pub invariant-loop-part : goal.invariant-loop-part
invariant-loop-part l = string_bytes l.text ++ text_of (map Part (drop l.part-index l.self.parts)) ≡ string_bytes l.fn.text ++ text_of (map Part l.self.parts)
