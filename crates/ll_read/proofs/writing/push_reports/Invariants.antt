-- The text so far and the lines of the reports that are left are the whole text.
use Rattle.std.proofs.Common.{◌≡◌, ◌++◌, drop, map, string_bytes}
use Rattle.ll_line.specs.Line.{RenditionReport}
use Rattle.ll_line.specs.Text.{text_of}
use Rattle.ll_read.proofs.writing.push_reports.Given as goal

abbrev pub invariant-loop-report : goal.invariant-loop-report
invariant-loop-report l = string_bytes l.text ++ text_of (map RenditionReport (drop l.report-index l.reports)) ≡ string_bytes l.fn.text ++ text_of (map RenditionReport l.reports)
