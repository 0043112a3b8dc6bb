-- The items of the lines that were read are published, with the bytes so far; each turn reads a line.
use Rattle.std.specs.Prelude.{◌≡◌, length}
use Rattle.ll_spool.specs.Placed.{IsCut, IsGiving}
use Rattle.ll_spool.specs.Spooled.{lines_in}
use Rattle.ll_spool.proofs.restoring.publish.Given as goal

abbrev pub invariant-loop-next : goal.invariant-loop-next
invariant-loop-next g l =
    IsGiving l.fn.settings (lines_in l.fn.text) l.lines (g.A.Accepts.accepted l.fn.channel) (g.A.Accepts.accepted l.channel) l.stored l.next (g.D.Disk.files l.fn.disk)
    × IsCut l.fn.text l.lines
    × (g.D.Disk.lines l.disk ≡ g.D.Disk.lines l.fn.disk)
    × (g.D.Disk.files l.disk ≡ g.D.Disk.files l.fn.disk)
    × (g.D.Disk.failures l.disk ≡ g.D.Disk.failures l.fn.disk)

abbrev pub decreases-loop-next : goal.decreases-loop-next
decreases-loop-next g l = length l.lines.lines
