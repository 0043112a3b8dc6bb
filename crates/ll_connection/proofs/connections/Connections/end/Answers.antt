-- An open session is taken out and its request closed; if none is open, nothing changes.
use Rattle.std.proofs.Common.{Some, ap, sym, ◌∙◌}
use Rattle.ll_script_rooms.specs.Kept.{kept_world}
use Rattle.ll_connection.specs.Turn.{Turn, end_of, session_of}
use Rattle.ll_connection.proofs.TurnLemmas.{none_ends, open_is, stays, there}
use Rattle.ll_connection.proofs.connections.Connections.end.Goals as goal

pub returns-in_default : goal.returns-in_default
returns-in_default c w e =
    let all = c.args.self.now in
    let none = sym c.in_default.ensures.session in
    let is = none_ends c.args.number all w (session_of c.args.number all) none in
    (c.in_default.ensures.left ∙ stays c.args.number all none ∙ ap (λ (t : Turn). t.connections) is, e ∙ ap (λ (t : Turn). kept_world t.rooms) is)

pub returns : goal.returns
returns c w e =
    let all = c.args.self.now in
    let found = open_is (session_of c.args.number all) c.in-Some.session (sym c.in-Some.ensures.session) in
    let is = ap (end_of c.args.number all w) (sym found) in (
      c.in-Some.ensures.left ∙ there c.args.number (Some c.in-Some.session) all found ∙ ap (λ (t : Turn). t.connections) is,
      (c.close.ensures.closed w e).stands ∙ ap (λ (t : Turn). kept_world t.rooms) is,
    )
