-- The text so far and the reports of the renditions that are left are the whole text.
use Rattle.std.proofs.Common.{◌≡◌, ◌++◌, drop, map, string_bytes}
use Rattle.ll_page.specs.Full.{reports_from, reports_of}
use Rattle.ll_line.specs.Line.{RenditionReport}
use Rattle.ll_line.specs.Text.{text_of}
use Rattle.ll_page.proofs.playlist.push_reports.Given as goal

abbrev pub invariant-loop-rendition : goal.invariant-loop-rendition
invariant-loop-rendition l =
    string_bytes l.text ++ text_of (map RenditionReport (reports_from l.view.rendition l.rendition (drop l.rendition l.view.settings.renditions) (drop l.rendition l.view.renditions)))
    ≡ string_bytes l.fn.text ++ text_of (map RenditionReport (reports_of l.view))
