-- Which parts are there follows from the position of the last one.
use Rattle.std.proofs.Common.{ap, ◌∙◌, sym}
use Rattle.ll_window.proofs.WantLemmas.{held_by, part_told}
use Rattle.ll_window.proofs.window.Window.holds_part.Goals as goal

pub returns-in-Some : goal.returns-in-Some
returns-in-Some c items reached =
    c.reaches.ensures
    ∙ ap (held_by c.args.msn c.args.part) (sym c.in-Some.is ∙ c.last.ensures)
    ∙ part_told c.args.self.now items c.args.msn c.args.part reached

pub returns-in-None : goal.returns-in-None
returns-in-None c items reached =
    ap (held_by c.args.msn c.args.part) (sym c.in-None.is ∙ c.last.ensures) ∙ part_told c.args.self.now items c.args.msn c.args.part reached
