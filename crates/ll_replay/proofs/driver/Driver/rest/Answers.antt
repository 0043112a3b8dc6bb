-- Each reply that is due is written, until none is.
use Rattle.std.proofs.Common.{◌≡◌, ◌∙◌, List, Some, [], ap, arith, length, refl, subst}
use Rattle.ll_connection.specs.Visit.{Luck}
use Rattle.ll_replay.specs.Kept.{Keeps, Kept, Says}
use Rattle.ll_replay.specs.Script.{Script, next_reply}
use Rattle.ll_replay.proofs.RestLemmas.{rest-all, rest-cut, rest-next, rest-none, rest-stops}
use Rattle.ll_replay.proofs.RunLemmas.{IfErr-handed}
use Rattle.ll_replay.proofs.driver.Driver.rest.Goals as goal

pub loop-init : goal.loop-init
loop-init g c = record { goes = λ w base s. ([], refl, s); lines = refl; steady = refl }

pub returns-in_err-say-in-Ok-Some-clause-cut : goal.returns-in_err-say-in-Ok-Some-clause-cut
returns-in_err-say-in-Ok-Some-clause-cut g c =
    let f = c.in_err-say-in-Ok-Some.field-0.0 in
    IfErr-handed _ c.from_residual.result f c.from_residual.ensures.1
    (rest-cut f _ c.loop.self c.next_reply.new.self _ _ _ c.args.place c.loop.counter c.waiting-end.result (Some c.in-Ok-Some.reply) c.loop.invariant.goes
    (c.waiting-end.ensures ∙ ap (λ (k : Kept). length k.rooms.waits) c.self.view_is) c.loop-test.true
    (subst (λ a. (w : Script) → Keeps c.loop.self w → (lucks : List Luck) × Says c.next_reply.new.self a w (next_reply c.args.place w lucks)) c.in-Ok-Some.field-0-is c.in-Ok-Some.ensures.says)
    c.in_err-say-in-Ok-Some.ensures.kind c.in_err-say-in-Ok-Some.ensures.cut)

pub returns-in_err-say-in-Ok-Some-clause-write_failed : goal.returns-in_err-say-in-Ok-Some-clause-write_failed
returns-in_err-say-in-Ok-Some-clause-write_failed g c e = omega (arith, c.in_err-say-in-Ok-Some.ensures.write_failed, c.loop.invariant.steady)

pub returns-in-Ok-None-clause-ok : goal.returns-in-Ok-None-clause-ok
returns-in-Ok-None-clause-ok g c =
    rest-none _ c.loop.self c.next_reply.new.self _ _ c.args.place c.loop.counter c.waiting-end.result c.loop.invariant.goes
    (c.waiting-end.ensures ∙ ap (λ (k : Kept). length k.rooms.waits) c.self.view_is) c.loop-test.true
    (subst (λ a. (w : Script) → Keeps c.loop.self w → (lucks : List Luck) × Says c.next_reply.new.self a w (next_reply c.args.place w lucks)) c.in-Ok-None.field-0-is c.in-Ok-None.ensures.says)
    (λ w k. c.in-Ok-None.ensures.still w k c.in-Ok-None.field-0-is)

pub returns-in-Ok-None-clause-lines : goal.returns-in-Ok-None-clause-lines
returns-in-Ok-None-clause-lines g c = c.in-Ok-None.ensures.lines ∙ c.loop.invariant.lines

pub returns-in-Ok-None-clause-steady : goal.returns-in-Ok-None-clause-steady
returns-in-Ok-None-clause-steady g c = c.loop.invariant.steady

pub returns-in-Err-clause-cut : goal.returns-in-Err-clause-cut
returns-in-Err-clause-cut g c =
    rest-stops _ c.loop.self _ _ c.args.place c.loop.counter c.waiting-end.result c.loop.invariant.goes
    (c.waiting-end.ensures ∙ ap (λ (k : Kept). length k.rooms.waits) c.self.view_is) c.loop-test.true

pub loop-preserved : goal.loop-preserved
loop-preserved g c = record {
  goes =
      rest-next _ c.loop.self c.next_reply.new.self _ _ _ c.args.place c.loop.counter (Some c.in-Ok-Some.reply) c.loop.invariant.goes
      (subst (λ a. (w : Script) → Keeps c.loop.self w → (lucks : List Luck) × Says c.next_reply.new.self a w (next_reply c.args.place w lucks)) c.in-Ok-Some.field-0-is c.in-Ok-Some.ensures.says)
      c.in_ok-say-in-Ok-Some.ensures.ok;
  lines = c.in-Ok-Some.ensures.lines ∙ c.loop.invariant.lines;
  steady = c.in_ok-say-in-Ok-Some.ensures.steady ∙ c.loop.invariant.steady;
}

pub returns-clause-ok : goal.returns-clause-ok
returns-clause-ok g c =
    let last : c.loop.counter ≡ c.waiting-end.result = omega arith in
    rest-all _ c.loop.self _ _ c.args.place c.loop.counter c.waiting-end.result c.loop.invariant.goes
    (c.waiting-end.ensures ∙ ap (λ (k : Kept). length k.rooms.waits) c.self.view_is) last

pub returns-clause-lines : goal.returns-clause-lines
returns-clause-lines g c = c.loop.invariant.lines

pub returns-clause-steady : goal.returns-clause-steady
returns-clause-steady g c = c.loop.invariant.steady
