-- If the number is new, nothing is taken out.
use Rattle.std.proofs.Common.{◌≡◌, ap, subst, sym}
use Rattle.ll_connection.specs.Stands.{open_in}
use Rattle.ll_connection.specs.Turn.{Connections}
use Rattle.ll_connection.proofs.TurnLemmas.{none_found, stays, taken_out}
use Rattle.ll_connection.proofs.connections.Connections.take_or_open.Goals as goal

pub returns-then-not-contains_key-clause-left : goal.returns-then-not-contains_key-clause-left
returns-then-not-contains_key-clause-left c =
    subst (λ (all : Connections). all ≡ taken_out c.args.number all) c.self.view_is
    (sym (stays c.args.number c.self.inside.sessions.entries (ap open_in (none_found _ _ c.contains_key.ensures c.if-not-contains_key.true))))
