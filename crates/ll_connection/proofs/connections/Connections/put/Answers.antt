-- Inserting under a number is what the definition says.
use Rattle.std.proofs.Common.{ap, ◌∙◌}
use Rattle.ll_connection.specs.Turn.{with_session}
use Rattle.ll_connection.proofs.TurnLemmas.{put_is}
use Rattle.ll_connection.proofs.connections.Connections.put.Goals as goal

pub returns : goal.returns
returns c =
    c.in-Ok.ensures.entries ∙ put_is c.args.number c.args.slot c.self.inside.sessions.entries
    ∙ ap (with_session c.args.number c.args.slot) c.self.view_is
