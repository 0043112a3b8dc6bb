-- The text so far and the lines of the date ranges that are left are the whole text.
use Rattle.std.proofs.Common.{◌≡◌, ◌++◌, drop, map, string_bytes}
use Rattle.ll_line.specs.Line.{DateRange}
use Rattle.ll_line.specs.Text.{text_of}
use Rattle.ll_read.proofs.playlist.Playlist.push_ranges.Given as goal

abbrev pub invariant-loop-place : goal.invariant-loop-place
invariant-loop-place l =
    string_bytes l.text ++ text_of (map DateRange (drop l.place l.self.ranges)) ≡ string_bytes l.fn.text ++ text_of (map DateRange l.self.ranges)
