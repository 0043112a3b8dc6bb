-- What came is fed, and then answered.
use Rattle.std.proofs.Common.{sym, ◌∙◌}
use Rattle.ll_player.proofs.GoLemmas.{breaks-reading, breaks-then}
use Rattle.ll_player.proofs.StepLemmas.{fails-viewed, goes-read, none-map, none-twice, on-viewed, steps-viewed}
use Rattle.ll_player.proofs.TurnLemmas.{on-err}
use Rattle.ll_player.proofs.connection.Connection.readable.Goals as goal

pub returns-in_err-came-clause-fails : goal.returns-in_err-came-clause-fails
returns-in_err-came-clause-fails g c _ =
    let once = c.in_err-came.ensures.cut.1 in
    on-err _
    (fails-viewed _ _ _ _ _ _ _ _ c.self.view_is (breaks-reading _ _ _ _ _ _ _ c.self.inside.talk.session _ _ 1 once.0 once.1 (λ alone o p. p) once.2 c.receive.ensures.unwritten))

pub returns-then-eq-clause-plays : goal.returns-then-eq-clause-plays
returns-then-eq-clause-plays g c on =
    steps-viewed _ _ _ _ _ _ _ c.self.view_is
    (record {
      plays = goes-read _ _ _ _ _ _ _ c.receive.new.session _ _ _ c.in_ok-came.came (none-twice _ _ c.self.inside.held (sym c.is_some.ensures ∙ c.if-is_some.false))
          (none-twice _ _ c.self.inside.held (sym c.is_some.ensures ∙ c.if-is_some.false)) (sym c.shut.ensures ∙ c.if-shut.false) c.in_ok-came.ensures.fed c.in_ok-came.ensures.nothing
          c.in_ok-came.ensures.end c.receive.ensures.unwritten;
      on = on-viewed _ _ _ c.self.view_is on;
    })

pub returns-in_err-answer-clause-fails : goal.returns-in_err-answer-clause-fails
returns-in_err-answer-clause-fails g c _ =
    on-err _
    (fails-viewed _ _ _ _ _ _ _ _ c.self.view_is
    (breaks-then _ _ _ _ _ _ _
    (goes-read _ _ _ _ _ _ _ c.receive.new.session _ _ _ c.in_ok-came.came (none-twice _ _ c.self.inside.held (sym c.is_some.ensures ∙ c.if-is_some.false))
    (none-twice _ _ c.self.inside.held (sym c.is_some.ensures ∙ c.if-is_some.false)) (sym c.shut.ensures ∙ c.if-shut.false) c.in_ok-came.ensures.fed c.in_ok-came.ensures.nothing
    c.in_ok-came.ensures.end c.receive.ensures.unwritten)
    (c.in_err-answer.ensures.fails (none-map _ c.self.inside.held (sym c.is_some.ensures ∙ c.if-is_some.false)))))

pub returns-clause-plays : goal.returns-clause-plays
returns-clause-plays g c _ =
    let answered = c.in_ok-answer.ensures.plays (none-map _ c.self.inside.held (sym c.is_some.ensures ∙ c.if-is_some.false)) in
    steps-viewed _ _ _ _ _ _ _ c.self.view_is
    (record {
      plays = λ alone o p. answered.plays alone o ((goes-read _ _ _ _ _ _ _ c.receive.new.session _ _ _ c.in_ok-came.came (none-twice _ _ c.self.inside.held (sym c.is_some.ensures ∙ c.if-is_some.false))
          (none-twice _ _ c.self.inside.held (sym c.is_some.ensures ∙ c.if-is_some.false)) (sym c.shut.ensures ∙ c.if-shut.false) c.in_ok-came.ensures.fed c.in_ok-came.ensures.nothing
          c.in_ok-came.ensures.end c.receive.ensures.unwritten) alone o p);
      on = answered.on;
    })
