-- The value that contracts see of a line of the code.
use Rattle.std.specs.Prelude.{ℕ, List}
use Rattle.std.specs.Option.{option_map}
use Rattle.ll_format.specs.Times.{time_text}
use Rattle.ll_format.specs.Words.{cut_at}
use Rattle.ll_line.specs.Line as says
use Rattle.ll_line.specs.Uris.{uri_text}
use Rattle.ll_line.specs.declared.line.Control.{Control}
use Rattle.ll_line.specs.declared.line.DateRange.{DateRange as DateRangeSaid}
use Rattle.ll_line.specs.declared.line.Skip.{Skip}
use Rattle.ll_line.specs.declared.line.PartLine.{PartLine}
use Rattle.ll_line.specs.declared.line.Report.{Report}
use Rattle.ll_line.specs.declared.line.Line.{Line}
use Rattle.ll_line.specs.declared.line.Line.TheVariants.{First, Version, TargetDuration, ServerControl, PartTarget, MediaSequence, DiscontinuitySequence, DateRange, Skipped, Discontinuity, Map, Time, Part, Duration, Uri, RenditionReport, Hint, EndList}
use Rattle.ll_line.specs.declared.time.DateTime.{DateTime}
use Rattle.ll_line.specs.declared.time.DateTime.TheVariants.{Utc, Text}

-- a time as it stands in a line
abbrev pub date_time_text : DateTime → List ℕ
date_time_text (Utc time) = time_text time.now
date_time_text (Text text) = text.now

abbrev pub control_meant : Control → says.Control
control_meant c = record { hold_back = c.hold_back.0; skip_until = c.skip_until.0; skips_date_ranges = c.skips_date_ranges }

abbrev pub range_meant : DateRangeSaid → says.DateRangeLine
range_meant r = record { id = r.id.now; attributes = r.attributes.now }

abbrev pub skip_meant : Skip → says.Skip
skip_meant s = record { count = s.count; removed = option_map (λ ids. cut_at 9 ids.now) s.removed }

abbrev pub part_meant : PartLine → says.PartLine
part_meant p = record { duration = p.duration.0; uri = uri_text p.uri; independent = p.independent }

abbrev pub report_meant : Report → says.Report
report_meant r = record { uri = uri_text r.uri; number = r.number; index = r.index }

abbrev pub meant : Line → says.Line
meant First = says.First
meant (Version n) = says.Version n
meant (TargetDuration n) = says.TargetDuration n
meant (ServerControl c) = says.ServerControl (control_meant c)
meant (PartTarget n) = says.PartTarget n.0
meant (MediaSequence n) = says.MediaSequence n
meant (DiscontinuitySequence n) = says.DiscontinuitySequence n
meant (DateRange r) = says.DateRange (range_meant r)
meant (Skipped s) = says.Skipped (skip_meant s)
meant Discontinuity = says.Discontinuity
meant (Map uri) = says.Map (uri_text uri)
meant (Time time) = says.Time (date_time_text time)
meant (Part p) = says.Part (part_meant p)
meant (Duration n) = says.Duration n.0
meant (Uri uri) = says.Uri (uri_text uri)
meant (RenditionReport r) = says.RenditionReport (report_meant r)
meant (Hint uri) = says.Hint (uri_text uri)
meant EndList = says.EndList
