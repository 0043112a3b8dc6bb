-- The whole connection is its turns, from a new session on.
use Rattle.ll_player.proofs.StepLemmas.{played, stopped}
use Rattle.ll_player.proofs.player.serve.Goals as goal

pub returns-clause-played : goal.returns-clause-played
returns-clause-played g c =
    played _ _ _ _ _ _ _ _ _ c.new-session.result c.converse-served.new.session c.new-session.ensures c.converse-served.ensures.plays c.converse-served.ensures.drained
    c.converse-served.ensures.ended

pub returns-clause-cut_short : goal.returns-clause-cut_short
returns-clause-cut_short g c = stopped _ _ _ _ _ _ _ _ _ c.new-session.result c.new-session.ensures c.converse-served.ensures.breaks
