-- The text so far and the lines of the date ranges that are left are the whole text.
use Rattle.std.proofs.Common.{◌≡◌, ◌++◌, drop, map, string_bytes}
use Rattle.ll_page.specs.Full.{range_line}
use Rattle.ll_line.specs.Line.{DateRange}
use Rattle.ll_line.specs.Text.{text_of}
use Rattle.ll_page.proofs.playlist.push_ranges.Given as goal

abbrev pub invariant-loop-place : goal.invariant-loop-place
invariant-loop-place l =
    string_bytes l.text ++ text_of (map DateRange (map range_line (drop l.place l.ranges.listed)))
    ≡ string_bytes l.fn.text ++ text_of (map DateRange (map range_line (drop l.skipped l.ranges.listed)))
