-- The flag stands after the Skip Boundary.
use Rattle.std.proofs.Common.{◌++◌, ap, subst, codes}
use Rattle.std.specs.Fmt.{HasWritten}
use Rattle.ll_attr.specs.Durations.{seconds}
use Rattle.ll_line.proofs.writing.ControlDisplay.fmt.Goals as goal

pub returns-clause-writes : goal.returns-clause-writes
returns-clause-writes g c =
    let control = c.args.self.now in
    λ plain ok.
    subst (λ text. HasWritten {W = g.row.W.Denot} g.W.Write.write_str_gives c.args.f.now text c.write.new.self)
    (ap (λ flag. codes "CAN-BLOCK-RELOAD=YES,PART-HOLD-BACK=" ++ (seconds control.hold_back.0 ++ (codes ",CAN-SKIP-UNTIL=" ++ (seconds control.skip_until.0 ++ flag)))) c.flag_text-skips.ensures)
    (c.write.ensures.writes plain ok)
