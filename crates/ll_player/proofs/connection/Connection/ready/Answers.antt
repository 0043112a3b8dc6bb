-- The reply is collected, and then the requests after it are answered.
use Rattle.std.proofs.Common.{ap}
use Rattle.ll_player.specs.Connections.{ConnectionValue}
use Rattle.ll_player.proofs.StepLemmas.{collects, fails-then, loses, steps-then}
use Rattle.ll_player.proofs.TurnLemmas.{on-err}
use Rattle.ll_player.proofs.connection.Connection.ready.Goals as goal

pub returns-in_err-collect-clause-fails : goal.returns-in_err-collect-clause-fails
returns-in_err-collect-clause-fails g c on = on-err _ (loses _ _ _ _ _ _ c.in_err-collect.ensures.lost)

pub returns-in_err-answer-clause-fails : goal.returns-in_err-answer-clause-fails
returns-in_err-answer-clause-fails g c on =
    let collected = c.in_ok-collect.ensures.collected c.if-not-branch.false in
    on-err _
    (fails-then _ _ c.args.self.now c.collect.new.self c.answer.new.self _ c.collect.new.pass _ (collects _ _ _ _ _ _ on collected)
    (c.in_err-answer.ensures.fails (ap (λ (v : ConnectionValue). v.claim) collected.after)))

pub returns-clause-plays : goal.returns-clause-plays
returns-clause-plays g c on =
    let collected = c.in_ok-collect.ensures.collected c.if-not-branch.false in
    steps-then _ _ _ _ _ _ _ _ (collects _ _ _ _ _ _ on collected)
    (c.in_ok-answer.ensures.plays (ap (λ (v : ConnectionValue). v.claim) collected.after))
