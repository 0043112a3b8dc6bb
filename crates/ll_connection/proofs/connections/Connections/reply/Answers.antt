-- A reply to an open connection is a turn of it; if none is open, nothing changes.
use Rattle.std.proofs.Common.{[], ap, sym}
use Rattle.ll_connection.specs.Turn.{reply_to, session_of}
use Rattle.ll_connection.specs.Visit.{released}
use Rattle.ll_connection.proofs.TurnLemmas.{none_replied, open_is, still_turn, turned}
use Rattle.ll_connection.proofs.connections.Connections.reply.Goals as goal

pub returns-in_default : goal.returns-in_default
returns-in_default c w e d =
    let all = c.args.self.now in
    let none = sym c.in_default.ensures.session in (
      [],
      still_turn c.args.number all _ _ c.nothing.result w _ c.in_default.ensures.left none e c.nothing.ensures.text c.nothing.ensures.replies
          (none_replied [] c.args.number c.args.reply all w (session_of c.args.number all) none),
    )

pub returns : goal.returns
returns c w e d =
    let all = c.args.self.now in
    let told = c.in-Ok.ensures.released w e d in (
      told.0,
      turned c.args.number _ all _ _ (released told.0 c.args.number c.args.reply (record { session = c.in-Some.session; rooms = w })) _ _ c.nothing-sent.result _ _ _
          c.in-Ok.ensures.number c.in-Some.ensures.left c.nothing-sent.ensures.text c.nothing-sent.ensures.replies told.1
          c.in_ok-sent.ensures.kept c.in_ok-sent.ensures.text c.in_ok-sent.ensures.replies
          (ap (reply_to told.0 c.args.number c.args.reply all w) (sym (open_is (session_of c.args.number all) c.in-Some.session (sym c.in-Some.ensures.session)))),
    )
