-- Each turn adds a read to those before it.
use Rattle.std.proofs.Common.{[], None, arith, refl, ◌∙◌}
use Rattle.ll_device.proofs.InwardLemmas.{looked_at-none}
use Rattle.ll_service.proofs.ReadLemmas.{HasEnded-then, IsReadThrough-then, IsReadWithin-then}
use Rattle.ll_player.proofs.CutLemmas.{cut-same}
use Rattle.ll_player.proofs.GoLemmas.{breaks-then}
use Rattle.ll_player.proofs.TurnLemmas.{on-err}
use Rattle.ll_player.proofs.player.converse.Goals as goal

pub loop-init : goal.loop-init
loop-init g c = record { steady = refl; read = ([], looked_at-none _); unshut = λ unshut. unshut; plays = λ unshut alone o p. p; drained = λ drained. drained }

pub loop-preserved : goal.loop-preserved
loop-preserved g c = record {
  steady = c.in_ok-turn.ensures.faults ∙ c.loop.invariant.steady;
  read = IsReadThrough-then _ _ _ c.loop.counter 1 c.loop.invariant.read (c.in_ok-turn.ensures.stays c.if-not-branch.false);
  unshut = λ unshut. c.in_ok-turn.ensures.unshut c.if-not-branch.false;
  plays = λ unshut alone o p. c.in_ok-turn.ensures.plays (c.loop.invariant.unshut unshut) alone o (c.loop.invariant.plays unshut alone o p);
  drained = λ drained. c.in_ok-turn.ensures.drained (c.loop.invariant.drained drained);
}

pub returns-in_err-turn-clause-few : goal.returns-in_err-turn-clause-few
returns-in_err-turn-clause-few g c =
    let once = c.turn.ensures.once in
    IsReadWithin-then _ _ _ c.loop.counter 1 once.0 _ once.1 c.loop.invariant.read once.2 (omega arith)

pub returns-then-not-branch-clause-few : goal.returns-then-not-branch-clause-few
returns-then-not-branch-clause-few g c =
    let once = c.turn.ensures.once in
    IsReadWithin-then _ _ _ c.loop.counter 1 once.0 _ once.1 c.loop.invariant.read once.2 (omega arith)

pub returns-then-not-branch-clause-ended : goal.returns-then-not-branch-clause-ended
returns-then-not-branch-clause-ended g c shut =
    HasEnded-then _ _ _ c.loop.counter c.loop.invariant.read (c.in_ok-turn.ensures.ended c.if-not-branch.true shut)

pub returns-then-not-branch-clause-plays : goal.returns-then-not-branch-clause-plays
returns-then-not-branch-clause-plays g c unshut =
    λ alone o p. c.in_ok-turn.ensures.plays (c.loop.invariant.unshut unshut) alone o (c.loop.invariant.plays unshut alone o p)

pub returns-then-not-branch-clause-drained : goal.returns-then-not-branch-clause-drained
returns-then-not-branch-clause-drained g c drained = c.in_ok-turn.ensures.drained (c.loop.invariant.drained drained)

pub returns-in_err-turn-clause-breaks : goal.returns-in_err-turn-clause-breaks
returns-in_err-turn-clause-breaks g c unshut =
    on-err _ (breaks-then _ _ _ _ _ _ _ (c.loop.invariant.plays unshut) (c.in_err-turn.ensures.breaks (c.loop.invariant.unshut unshut)))

pub returns-clause-breaks : goal.returns-clause-breaks
returns-clause-breaks g c unshut = λ alone o p. cut-same _ _ alone o _ _ c.loop.session None _ (c.loop.invariant.plays unshut alone o p)
