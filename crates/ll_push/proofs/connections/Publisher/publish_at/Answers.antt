-- Each connection goes on where the last one ended.
use Rattle.std.proofs.Common.{◌≡◌, ◌∙◌, arith, inr, rules, Result, Ok, Err, IfOk, IsErrOf, OnOk, ap, refl, subst, sym}
use Rattle.ll_push.specs.Exchanges.{link_value}
use Rattle.ll_push.specs.History.{task}
use Rattle.ll_push.specs.Meaning.{targeted}
use Rattle.ll_push.specs.declared.fault.PushFault.TheVariants.{Endless}
use Rattle.ll_push.proofs.HistoryLemmas.{broken-by, ended-by, gave-none, gave-up, lasted, lasted-by, least-by, many-by, then-gone, went-first}
use Rattle.ll_push.proofs.ExchangeLemmas.{same-fault}
use Rattle.ll_push.proofs.connections.Publisher.publish_at.Goals as goal

ok-by : {T E : Type 0} (r : Result T E) (x : T) (P : T → Type 0) → r ≡ Ok x → IfOk r P → P x
ok-by r x P is h = subst (λ t. IfOk t P) is h

ok-to : {T E : Type 0} (r : Result T E) (x : T) (P : Type 0) → r ≡ Ok x → OnOk r P → P
ok-to r x P is h = subst (λ t. OnOk t P) is h

pub loop-init : goal.loop-init
loop-init g c = record {
  went = λ a told. went-first _ _ _ c.requires told;
  later = search rules;
  few = search rules;
  least = search rules;
  steady = refl;
  calm = refl;
}

pub returns-in_default-clause-gave_up : goal.returns-in_default-clause-gave_up
returns-in_default-clause-gave_up g c a told e = gave-none _ _ _ _ _ _ (c.loop.invariant.went a told) c.loop.invariant.few _ c.in_default.ensures

pub returns-in-Err-clause-broke : goal.returns-in-Err-clause-broke
returns-in-Err-clause-broke g c a fault told e of =
    broken-by _ _ _ _ _ _ (c.loop.invariant.went a told) c.loop.invariant.few _ _ _ c.in-Some.ensures fault
    (λ rest left. c.publish_on-step.ensures.broke rest fault left
    (subst (λ r. IsErrOf r fault) (sym c.in-Err.is) (ap (λ f. Err f) (same-fault _ c.in-Err.fault fault refl e))) of)

pub returns-in-Err-clause-endless : goal.returns-in-Err-clause-endless
returns-in-Err-clause-endless g c a told e =
    lasted-by _ _ _ _ _ _ (c.loop.invariant.went a told) c.loop.invariant.few _ _ _ c.in-Some.ensures _ _ _ c.loop.invariant.later
    (λ rest left. c.publish_on-step.ensures.endless rest left
    (subst (λ r. IsErrOf r Endless) (sym c.in-Err.is) (ap (λ f. Err f) (same-fault _ c.in-Err.fault Endless refl e))))

pub returns-clause-endless : goal.returns-clause-endless
returns-clause-endless g c a told e =
    inr (lasted _ _ _ _ _ _ (c.loop.invariant.went a told) (omega (arith, c.loop-test.false, c.loop.auto.counter-end)))

pub returns-in-Ok-Whole-clause-went : goal.returns-in-Ok-Whole-clause-went
returns-in-Ok-Whole-clause-went g c a told =
    ended-by _ _ _ _ _ _ (c.loop.invariant.went a told) c.loop.invariant.few _ _ _ c.in-Some.ensures _ _ c.in-Ok-Whole.field-0 (λ rest left. ok-by _ _ _ c.in-Ok-Whole.is (c.publish_on-step.ensures.went rest left)) _ c.in-Ok-Whole.field-0-is

pub returns-in-Ok-Refused-clause-went : goal.returns-in-Ok-Refused-clause-went
returns-in-Ok-Refused-clause-went g c a told =
    ended-by _ _ _ _ _ _ (c.loop.invariant.went a told) c.loop.invariant.few _ _ _ c.in-Some.ensures _ _ c.in-Ok-Refused.field-0 (λ rest left. ok-by _ _ _ c.in-Ok-Refused.is (c.publish_on-step.ensures.went rest left)) _ c.in-Ok-Refused.field-0-is

pub returns-then-idle-tries-clause-gave_up : goal.returns-then-idle-tries-clause-gave_up
returns-then-idle-tries-clause-gave_up g c a told e =
    gave-up _ _ _ _ _ _
    (then-gone _ _ _ _ _ _ (c.loop.invariant.went a told) c.loop.invariant.few _ _ _ c.in-Some.ensures _ _ c.in-Ok-Gone.field-0 (λ rest left. ok-by _ _ _ c.in-Ok-Gone.is (c.publish_on-step.ensures.went rest left)) c.in-Ok-Gone.accepted
    c.in-Ok-Gone.field-0-is c.idle_after-idle.result c.idle_after-idle.ensures)
    (many-by c.args.tries c.loop.idle c.in-Ok-Gone.accepted c.idle_after-idle.result c.loop.invariant.few c.idle_after-idle.ensures c.if-idle-tries.true)

pub loop-preserved : goal.loop-preserved
loop-preserved g c = record {
  went = λ a told.
      then-gone _ _ _ _ _ _ (c.loop.invariant.went a told) c.loop.invariant.few _ _ _ c.in-Some.ensures _ _ c.in-Ok-Gone.field-0 (λ rest left. ok-by _ _ _ c.in-Ok-Gone.is (c.publish_on-step.ensures.went rest left)) c.in-Ok-Gone.accepted
      c.in-Ok-Gone.field-0-is c.idle_after-idle.result c.idle_after-idle.ensures;
  later = omega (arith, c.loop.invariant.later, c.publish_on-step.ensures.later);
  few = omega (arith, c.if-idle-tries.false);
  least = least-by c.loop.idle c.loop.counter c.in-Ok-Gone.accepted c.idle_after-idle.result c.loop.invariant.least c.idle_after-idle.ensures;
  steady = (ok-to _ _ _ c.in-Ok-Gone.is c.publish_on-step.ensures.steady).0 ∙ c.loop.invariant.steady;
  calm = (ok-to _ _ _ c.in-Ok-Gone.is c.publish_on-step.ensures.steady).1 ∙ c.loop.invariant.calm;
}
