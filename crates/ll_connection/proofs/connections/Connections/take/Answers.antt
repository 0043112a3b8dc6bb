-- If the number was never opened, nothing is taken out.
use Rattle.std.proofs.Common.{ap, sym, ◌∙◌}
use Rattle.ll_connection.specs.Stands.{open_in}
use Rattle.ll_connection.proofs.TurnLemmas.{same_entries, stays, taken_out}
use Rattle.ll_connection.proofs.connections.Connections.take.Goals as goal

pub returns-in_err-get_mut-clause-left : goal.returns-in_err-get_mut-clause-left
returns-in_err-get_mut-clause-left c =
    let es = c.self.inside.sessions.entries in
    same_entries _ _ c.get_mut.follows.holds-at-none ∙ sym (stays c.args.number es (ap open_in (sym c.in_err-get_mut.ensures.value)))
    ∙ ap (taken_out c.args.number) c.self.view_is
