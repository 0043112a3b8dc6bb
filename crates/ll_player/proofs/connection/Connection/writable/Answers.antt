-- What is left is sent.
use Rattle.ll_player.proofs.GoLemmas.{breaks-now, goes-sent}
use Rattle.ll_player.proofs.StepLemmas.{fails-viewed, on-viewed, steps-viewed}
use Rattle.ll_player.proofs.TurnLemmas.{on-err}
use Rattle.ll_player.proofs.connection.Connection.writable.Goals as goal

pub returns-in_err-send-clause-fails : goal.returns-in_err-send-clause-fails
returns-in_err-send-clause-fails g c _ =
    on-err _
    (fails-viewed _ _ _ _ _ _ _ _ c.self.view_is
    (breaks-now _ _ _ _ _ c.send.new.session _ _ (goes-sent _ _ _ _ _ _ _ _ _ _ _ (λ alone o p. p) c.send.ensures.unread c.send.ensures.sent)))

pub returns-then-is_some-clause-plays : goal.returns-then-is_some-clause-plays
returns-then-is_some-clause-plays g c on =
    steps-viewed _ _ _ _ _ _ _ c.self.view_is
    (record { plays = goes-sent _ _ _ _ _ _ _ _ _ _ _ (λ alone o p. p) c.send.ensures.unread c.send.ensures.sent; on = on-viewed _ _ _ c.self.view_is on })
