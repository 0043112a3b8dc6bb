-- Each turn goes on from the one before.
use Rattle.std.proofs.Common.{None, sym, ◌∙◌}
use Rattle.ll_player.proofs.GoLemmas.{breaks-half, breaks-now, drained-turn, goes-as, goes-sent, goes-turn, held-out, none-claim}
use Rattle.ll_player.proofs.TurnLemmas.{on-err}
use Rattle.ll_player.proofs.answering.go_on.Goals as goal

pub returns-in_err-send-clause-breaks : goal.returns-in_err-send-clause-breaks
returns-in_err-send-clause-breaks g c =
    on-err _ (breaks-now _ _ _ _ _ c.send.new.session None _ (goes-sent _ _ _ _ _ _ _ _ _ _ _ c.loop.invariant.plays c.send.ensures.unread c.send.ensures.sent))

pub returns-then-not-branch-clause-plays : goal.returns-then-not-branch-clause-plays
returns-then-not-branch-clause-plays g c = goes-sent _ _ _ _ _ _ _ _ _ _ _ c.loop.invariant.plays c.send.ensures.unread c.send.ensures.sent

pub returns-in_err-held-clause-breaks : goal.returns-in_err-held-clause-breaks
returns-in_err-held-clause-breaks g c =
    on-err _
    (breaks-half _ _ _ _ _ c.send.new.session c.answer_next.new.session _ _
    (goes-sent _ _ _ _ _ _ _ _ _ _ _ c.loop.invariant.plays c.send.ensures.unread c.send.ensures.sent) c.in_err-held.ensures.half)

pub returns-in_err-send-2-clause-breaks : goal.returns-in_err-send-2-clause-breaks
returns-in_err-send-2-clause-breaks g c =
    on-err _
    (breaks-now _ _ _ _ _ c.send-then-is_some.new.session _ _
    (goes-sent _ _ _ _ _ _ _ _ _ _ _
    (goes-turn _ _ _ _ _ c.send.new.session c.answer_next.new.session _ _ _
    (goes-sent _ _ _ _ _ _ _ _ _ _ _ c.loop.invariant.plays c.send.ensures.unread c.send.ensures.sent) c.in_ok-held.ensures.turn)
    c.send-then-is_some.ensures.unread c.send-then-is_some.ensures.sent))

pub returns-then-is_some-clause-plays : goal.returns-then-is_some-clause-plays
returns-then-is_some-clause-plays g c =
    goes-sent _ _ _ _ _ _ _ _ _ _ _
    (goes-turn _ _ _ _ _ c.send.new.session c.answer_next.new.session _ _ _
    (goes-sent _ _ _ _ _ _ _ _ _ _ _ c.loop.invariant.plays c.send.ensures.unread c.send.ensures.sent) c.in_ok-held.ensures.turn)
    c.send-then-is_some.ensures.unread c.send-then-is_some.ensures.sent

pub returns-then-is_some-clause-out : goal.returns-then-is_some-clause-out
returns-then-is_some-clause-out g c some = held-out _ _ _ _ _ _ _ _ _ _ c.in_ok-held.held c.in_ok-held.ensures.turn c.send-then-is_some.ensures.sent some

pub returns-then-is_none-clause-plays : goal.returns-then-is_none-clause-plays
returns-then-is_none-clause-plays g c =
    goes-as _ _ _ _ _ _ _ _ _
    (goes-turn _ _ _ _ _ c.send.new.session c.answer_next.new.session _ _ _
    (goes-sent _ _ _ _ _ _ _ _ _ _ _ c.loop.invariant.plays c.send.ensures.unread c.send.ensures.sent) c.in_ok-held.ensures.turn)
    (none-claim _ c.in_ok-held.held (sym c.is_some.ensures ∙ c.if-is_some.false))

pub returns-then-is_none-clause-drained : goal.returns-then-is_none-clause-drained
returns-then-is_none-clause-drained g c _ empty unshut free =
    drained-turn _ _ _ _ _ c.answer_next.new.session _ c.in_ok-held.ensures.turn (none-claim _ c.in_ok-held.held (sym c.is_some.ensures ∙ c.if-is_some.false)) empty unshut free

pub loop-preserved : goal.loop-preserved
loop-preserved g c = record {
  steady = c.in_ok-send.ensures.faults ∙ c.loop.invariant.steady;
  unread = c.send.ensures.unread ∙ c.loop.invariant.unread;
  plays =
      goes-as _ _ _ _ _ _ _ _ _
      (goes-turn _ _ _ _ _ c.send.new.session c.answer_next.new.session _ _ _
      (goes-sent _ _ _ _ _ _ _ _ _ _ _ c.loop.invariant.plays c.send.ensures.unread c.send.ensures.sent) c.in_ok-held.ensures.turn)
      (none-claim _ c.in_ok-held.held (sym c.is_some.ensures ∙ c.if-is_some.false));
}
