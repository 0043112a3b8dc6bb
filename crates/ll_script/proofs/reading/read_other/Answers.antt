-- The first keyword that the line begins with says what it is.
use Rattle.ll_script.proofs.reading.read_other.Goals as goal

pub returns-in-Some-after : goal.returns-in-Some-after
returns-in-Some-after c = rw (c.in_default.ensures, c.in-Some-after.ensures) (c.read_close.ensures c.args.declared.now)

pub returns-in-Some-after-2 : goal.returns-in-Some-after-2
returns-in-Some-after-2 c = rw (c.in_default.ensures, c.in_default-after.ensures, c.in-Some-after-2.ensures) (c.read_clock.ensures c.args.declared.now)

pub returns-in-Some-after-3 : goal.returns-in-Some-after-3
returns-in-Some-after-3 c =
    rw (c.in_default.ensures, c.in_default-after.ensures, c.in_default-after-2.ensures, c.in-Some-after-3.ensures) (c.read_piece.ensures c.args.declared.now)

pub returns-in-Some-after-4 : goal.returns-in-Some-after-4
returns-in-Some-after-4 c =
    rw (c.in_default.ensures, c.in_default-after.ensures, c.in_default-after-2.ensures, c.in_default-after-3.ensures, c.in-Some-after-4.ensures)
    (c.read_drop.ensures c.args.declared.now)
