-- A look at one that is there adds nothing.
use Rattle.std.proofs.Common.{◌≡◌, ◌∙◌, [], ap, refl, subst}
use Rattle.std.specs.Prelude.{IfErr, IfOk}
use Rattle.ll_device.specs.Inward.{looked_at}
use Rattle.ll_hub.specs.Calls.{HasSeen}
use Rattle.ll_hub.specs.Passes.{PassValue}
use Rattle.ll_player.specs.Asking.{IsReplyTo}
use Rattle.ll_player.proofs.TurnLemmas.{on-err}
use Rattle.ll_player.proofs.player.wait.Goals as goal

pub loop-init : goal.loop-init
loop-init g c = record { steady = refl; unread = refl; unwritten = refl; claim = refl; hub = refl; pass = refl }

pub loop-preserved : goal.loop-preserved
loop-preserved g c =
    let still =
    subst (λ told. IfErr told (λ held. (held.claim ≡ c.loop.held.claim) × (held.hub.now ≡ c.loop.held.hub.now) × (c.wait.new.pass ≡ c.loop.pass))) c.in-Err.is
    c.in_ok-answer.ensures.still
    in
    record {
      steady = c.gone.ensures.steady ∙ c.loop.invariant.steady;
      unread = c.gone.ensures.there c.if-gone.false ∙ c.loop.invariant.unread;
      unwritten = c.gone.ensures.unwritten ∙ c.loop.invariant.unwritten;
      claim = still.0 ∙ c.loop.invariant.claim;
      hub = still.1 ∙ c.loop.invariant.hub;
      pass = still.2 ∙ c.loop.invariant.pass;
    }

pub returns-then-gone-clause-faults : goal.returns-then-gone-clause-faults
returns-then-gone-clause-faults g c = c.gone.ensures.steady ∙ c.loop.invariant.steady

pub returns-then-gone-clause-looked : goal.returns-then-gone-clause-looked
returns-then-gone-clause-looked g c = c.gone.ensures.hung_up c.if-gone.true ∙ ap (looked_at 0 1 []) c.loop.invariant.unread

pub returns-then-gone-clause-gone : goal.returns-then-gone-clause-gone
returns-then-gone-clause-gone g c none =
    let still =
    subst (λ told. IfErr told (λ held. (held.claim ≡ c.loop.held.claim) × (held.hub.now ≡ c.loop.held.hub.now) × (c.wait.new.pass ≡ c.loop.pass))) c.in-Err.is
    c.in_ok-answer.ensures.still
    in
    still.2 ∙ c.loop.invariant.pass

pub returns-then-gone-clause-unwritten : goal.returns-then-gone-clause-unwritten
returns-then-gone-clause-unwritten g c = c.gone.ensures.unwritten ∙ c.loop.invariant.unwritten

pub returns-in-Ok-clause-answer : goal.returns-in-Ok-clause-answer
returns-in-Ok-clause-answer g c =
    let reply = subst (λ told. IfOk told (IsReplyTo c.loop.held.hub.now c.loop.held.claim c.loop.pass c.wait.new.pass)) c.in-Ok.is c.in_ok-answer.ensures.answer in
    subst (λ channels. IsReplyTo channels c.args.held.claim c.args.pass.now c.wait.new.pass c.in-Ok.answer) c.loop.invariant.hub
    (subst (λ claim. IsReplyTo c.loop.held.hub.now claim c.args.pass.now c.wait.new.pass c.in-Ok.answer) c.loop.invariant.claim
    (subst (λ (pass : PassValue). IsReplyTo c.loop.held.hub.now c.loop.held.claim pass c.wait.new.pass c.in-Ok.answer) c.loop.invariant.pass reply))

pub returns-in_err-answer-clause-lost : goal.returns-in_err-answer-clause-lost
returns-in_err-answer-clause-lost g c = on-err _ (subst (λ (pass : PassValue). HasSeen pass c.wait.new.pass) c.loop.invariant.pass c.in_err-answer.ensures.lost)
