-- The URI ends where its quotation mark does.
use Rattle.std.proofs.Common.{◌++◌, ap, sym, subst, codes, decimal, append_assoc}
use Rattle.std.specs.Fmt.{HasWritten}
use Rattle.ll_line.specs.Uris.{uri_text}
use Rattle.ll_line.proofs.writing.ReportDisplay.fmt.Goals as goal

pub returns-clause-writes : goal.returns-clause-writes
returns-clause-writes g c =
    let report = c.args.self.now in
    let places = (codes ",LAST-MSN=" ++ decimal report.number) ++ (codes ",LAST-PART=" ++ decimal report.index) in
    λ plain ok.
    subst (λ text. HasWritten {W = g.row.W.Denot} g.W.Write.write_str_gives c.args.f.now text c.write.new.self)
    (ap (λ text. codes "URI=\"" ++ text) (sym (append_assoc (uri_text report.uri) (codes "\"") places))) (c.write.ensures.writes plain ok)
