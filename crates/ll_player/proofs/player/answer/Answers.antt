-- To go on leads on, and so does a request that is held, by its reply or by the hang-up of its player.
use Rattle.std.proofs.Common.{refl, ◌∙◌}
use Rattle.ll_player.proofs.GoLemmas.{breaks-later, goes-collected, goes-gone, goes-held, hub-of, looked-gone, looked-same, reply-of}
use Rattle.ll_player.proofs.LeftLemmas.{reply-grows}
use Rattle.ll_player.proofs.TurnLemmas.{on-err}
use Rattle.ll_player.proofs.player.answer.Goals as goal

pub loop-init : goal.loop-init
loop-init g c = record { steady = refl; unread = refl; plays = λ alone o p. p }

pub returns-in_err-answer-clause-breaks : goal.returns-in_err-answer-clause-breaks
returns-in_err-answer-clause-breaks g c =
    on-err _
    (breaks-later _ _ _ _ _ _ _ c.go_on.new.session _ _ _
    (goes-held _ _ _ (λ held. held.claim) c.in_ok-held.field-0 c.in-Some-2.held _ _ _ _ _ c.go_on.new.session _ _ c.loop.invariant.plays c.in_ok-held.ensures.plays c.in-Some-2.is)
    c.in_err-answer.ensures.unread c.wait.ensures.unwritten c.in_err-answer.ensures.lost.grows)

pub returns-in_default-2-clause-plays : goal.returns-in_default-2-clause-plays
returns-in_default-2-clause-plays g c =
    goes-gone _ _ _ _ _ _ _ c.go_on.new.session _ _ _
    (goes-held _ _ _ (λ held. held.claim) c.in_ok-held.field-0 c.in-Some-2.held _ _ _ _ _ c.go_on.new.session _ _ c.loop.invariant.plays c.in_ok-held.ensures.plays c.in-Some-2.is)
    (looked-gone c.in_ok-answer.field-0 _ _ c.in_default-2.is c.in_ok-answer.ensures.looked) c.wait.ensures.unwritten (c.in_ok-answer.ensures.gone c.in_default-2.is)

pub returns-in_err-put_out-clause-breaks : goal.returns-in_err-put_out-clause-breaks
returns-in_err-put_out-clause-breaks g c =
    on-err _
    (breaks-later _ _ _ _ _ _ _ c.go_on.new.session _ _ _
    (goes-held _ _ _ (λ held. held.claim) c.in_ok-held.field-0 c.in-Some-2.held _ _ _ _ _ c.go_on.new.session _ _ c.loop.invariant.plays c.in_ok-held.ensures.plays c.in-Some-2.is)
    (looked-same c.in_ok-answer.field-0 c.in-Some-3.answer _ _ c.in-Some-3.is c.in_ok-answer.ensures.looked) c.wait.ensures.unwritten
    (reply-grows _ _ _ _ _ (reply-of _ _ _ _ c.in_ok-answer.field-0 c.in-Some-3.answer c.in-Some-3.is c.in_ok-answer.ensures.answer)))

pub loop-preserved-in-Some-2 : goal.loop-preserved-in-Some-2
loop-preserved-in-Some-2 g c = record {
  steady = c.in_ok-answer.ensures.faults ∙ c.in_ok-held.ensures.faults ∙ c.loop.invariant.steady;
  unread = looked-same c.in_ok-answer.field-0 c.in-Some-3.answer _ _ c.in-Some-3.is c.in_ok-answer.ensures.looked ∙ c.go_on.ensures.unread ∙ c.loop.invariant.unread;
  plays =
      goes-collected _ _ _ _ _ _ _ c.go_on.new.session c.put_out.new.session c.in-Some-2.held.hub.now c.in-Some-2.held.claim c.in-Some-3.answer _ _
      (goes-held _ _ _ (λ held. held.claim) c.in_ok-held.field-0 c.in-Some-2.held _ _ _ _ _ c.go_on.new.session _ _ c.loop.invariant.plays c.in_ok-held.ensures.plays c.in-Some-2.is)
      (looked-same c.in_ok-answer.field-0 c.in-Some-3.answer _ _ c.in-Some-3.is c.in_ok-answer.ensures.looked) c.wait.ensures.unwritten
      (hub-of (λ held. held.hub.now) _ c.in_ok-held.field-0 c.in-Some-2.held c.in-Some-2.is c.in_ok-held.ensures.hub)
      (reply-of _ _ _ _ c.in_ok-answer.field-0 c.in-Some-3.answer c.in-Some-3.is c.in_ok-answer.ensures.answer) c.in_ok-put_out.ensures.put;
}
