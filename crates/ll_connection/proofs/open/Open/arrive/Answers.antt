-- The bytes are taken, and then the requests are handed in.
use Rattle.ll_connection.specs.Visit.{Visit, came}
use Rattle.ll_connection.proofs.OpenLemmas.{came_has}
use Rattle.ll_connection.proofs.open.Open.arrive.Goals as goal

pub returns-clause-arrived : goal.returns-clause-arrived
returns-clause-arrived c w e d =
    let v : Visit = record { session = c.args.self.now.session; rooms = w } in
    let n = c.args.self.now.number in
    let i = c.in_ok-come.ensures.came w e in
    rw (c.in_ok-come.ensures.number, i.session) at
    (c.in_ok-submit.ensures.handed_in (came n c.args.piece.now v).rooms i.rooms (came_has c.args.declared.now n c.args.piece.now v d))
