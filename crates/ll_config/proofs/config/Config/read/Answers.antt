-- Out of memory for a path: the lines before it are right, and so is its own.
use Rattle.ll_config.proofs.MemoryLemmas.{files-memory, head-is}
use Rattle.ll_config.specs.Doors.{door_of}
use Rattle.ll_config.proofs.config.Config.read.Goals as goal

pub returns-in_err-files-clause-memory : goal.returns-in_err-files-clause-memory
returns-in_err-files-clause-memory c = λ wants.
    let a = c.in_ok-players.players in
    let d = door_of c.in_ok-door.door in
    let w = c.in_ok-workers.workers.count in
    files-memory c.from_residual-in_err-files.result c.in_err-files.field-0.0 c.from_residual-in_err-files.ensures.1 wants a d w c.args.bytes.now c.read_workers.new.lines
    (head-is a d w c.args.bytes.now c.of-lines.result c.read_address.new.lines c.read_door.new.lines c.read_workers.new.lines c.of-lines.ensures
    c.in_ok-players.ensures.value c.in_ok-players.ensures.number c.in_ok-door.ensures.value c.in_ok-door.ensures.number c.in_ok-workers.ensures.value
    c.in_ok-workers.ensures.number) c.in_err-files.ensures.bad
