-- What came is fed, and then answered.
use Rattle.ll_player.proofs.GoLemmas.{breaks-reading, breaks-then, goes-came}
use Rattle.ll_player.proofs.TurnLemmas.{on-err}
use Rattle.ll_player.proofs.player.turn.Goals as goal

pub returns-in_err-receive-clause-breaks : goal.returns-in_err-receive-clause-breaks
returns-in_err-receive-clause-breaks g c _ =
    let read = c.in_err-receive.ensures.cut.1 in
    on-err _ (breaks-reading _ _ _ _ _ _ _ c.args.session.now _ _ 1 0 read.0 (λ alone o p. p) read.1 c.receive.ensures.unwritten)

pub returns-then-not-branch-clause-plays : goal.returns-then-not-branch-clause-plays
returns-then-not-branch-clause-plays g c unshut =
    (goes-came _ _ _ _ _ _ _ c.args.session.now c.receive.new.session _ c.in_ok-receive.field-0 (λ alone o p. p) unshut c.in_ok-receive.ensures.fed c.receive.ensures.unwritten)

pub returns-in_err-stays-clause-breaks : goal.returns-in_err-stays-clause-breaks
returns-in_err-stays-clause-breaks g c unshut =
    on-err _
    (breaks-then _ _ _ _ _ _ _
    (goes-came _ _ _ _ _ _ _ c.args.session.now c.receive.new.session _ c.in_ok-receive.field-0 (λ alone o p. p) unshut c.in_ok-receive.ensures.fed c.receive.ensures.unwritten)
    c.in_err-stays.ensures.breaks)

pub returns-then-stays-clause-plays : goal.returns-then-stays-clause-plays
returns-then-stays-clause-plays g c unshut =
    λ alone o p. c.in_ok-stays.ensures.plays alone o
    ((goes-came _ _ _ _ _ _ _ c.args.session.now c.receive.new.session _ c.in_ok-receive.field-0 (λ alone o p. p) unshut c.in_ok-receive.ensures.fed c.receive.ensures.unwritten) alone o p)

pub returns-else-stays-clause-plays : goal.returns-else-stays-clause-plays
returns-else-stays-clause-plays g c unshut =
    λ alone o p. c.in_ok-stays.ensures.plays alone o
    ((goes-came _ _ _ _ _ _ _ c.args.session.now c.receive.new.session _ c.in_ok-receive.field-0 (λ alone o p. p) unshut c.in_ok-receive.ensures.fed c.receive.ensures.unwritten) alone o p)
