-- The reply is put out, with the first luck, and then the next requests are handed in.
use Rattle.std.proofs.Common.{◌∷◌, true}
use Rattle.ll_connection.specs.Visit.{Luck}
use Rattle.ll_connection.proofs.open.Open.release.Goals as goal

pub returns-clause-released : goal.returns-clause-released
returns-clause-released c w e d =
    let put = c.put_out.ensures.put in
    let told = c.in_ok-submit.ensures.handed_in w e d in
    let luck : Luck = record { takes = true; asks = true; answers = put.0 } in
    (luck ∷ told.0, rw (c.put_out.ensures.number, put.1) at told.1)
