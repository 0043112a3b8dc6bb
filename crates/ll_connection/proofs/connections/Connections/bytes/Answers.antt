-- Bytes that come on an open or a new connection are a turn of it; if it has ended, nothing changes.
use Rattle.std.proofs.Common.{[], ap, sym}
use Rattle.ll_connection.specs.Stands.{open_in}
use Rattle.ll_connection.specs.Turn.{bytes_to, session_of}
use Rattle.ll_connection.specs.Visit.{arrived}
use Rattle.ll_connection.proofs.TurnLemmas.{is_opened, none_opened, still_turn, turned}
use Rattle.ll_connection.proofs.connections.Connections.bytes.Goals as goal

pub returns-in_default : goal.returns-in_default
returns-in_default c w e d =
    let all = c.args.self.now in
    let none = none_opened (session_of c.args.number all) (sym c.in_default.ensures.session) in (
      [],
      still_turn c.args.number all _ _ c.nothing.result w _ c.in_default.ensures.left (ap open_in none) e c.nothing.ensures.text c.nothing.ensures.replies
          (ap (bytes_to [] c.args.number c.args.piece.now all w) (sym none)),
    )

pub returns : goal.returns
returns c w e d =
    let all = c.args.self.now in
    let told = c.in-Ok.ensures.arrived w e d in (
      told.0,
      turned c.args.number _ all _ _ (arrived told.0 c.args.number c.args.piece.now (record { session = c.in-Some.session; rooms = w })) _ _ c.nothing-sent.result _ _ _
          c.in-Ok.ensures.number c.in-Some.ensures.left c.nothing-sent.ensures.text c.nothing-sent.ensures.replies told.1
          c.in_ok-sent.ensures.kept c.in_ok-sent.ensures.text c.in_ok-sent.ensures.replies
          (is_opened told.0 c.args.number c.args.piece.now all w (session_of c.args.number all) c.in-Some.session (sym c.in-Some.ensures.session)),
    )
