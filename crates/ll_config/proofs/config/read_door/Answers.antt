-- A line without a door.
use Rattle.std.proofs.Common.{sym}
use Rattle.ll_config.proofs.ConfigLemmas.{fault-is, next-bad}
use Rattle.ll_config.specs.Config.{next, door_line}
use Rattle.ll_config.proofs.config.read_door.Goals as goal

pub returns-in-None-clause-bad : goal.returns-in-None-clause-bad
returns-in-None-clause-bad c =
    let old = c.args.lines.now in
    fault-is c.bad.result (next door_line old) ⊥ old c.text.new.self c.in_ok-line.ensures.number c.bad.ensures
    (next-bad door_line old c.text.new.self c.in_ok-line.line.now c.in_ok-line.ensures.value (sym c.in-None.ensures))
