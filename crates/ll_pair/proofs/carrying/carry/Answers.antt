-- Each connection goes on where the last one ended.
use Rattle.std.proofs.Common.{◌≡◌, arith, rules, Result, Ok, Err, IfOk, IsErrOf, ap, refl, subst, sym}
use Rattle.ll_push.specs.declared.fault.PushFault.TheVariants.{Endless}
use Rattle.ll_push.proofs.ExchangeLemmas.{same-fault}
use Rattle.ll_pair.proofs.HistoryLemmas.{broken-by, ended-by, gave-none, gave-up, lasted, lasted-by, least-by, many-by, then-gone, went-first}
use Rattle.ll_pair.proofs.carrying.carry.Goals as goal

ok-by : {T E : Type 0} (r : Result T E) (x : T) (P : T → Type 0) → r ≡ Ok x → IfOk r P → P x
ok-by r x P is h = subst (λ t. IfOk t P) is h

pub loop-init : goal.loop-init
loop-init g c = record { went = λ messages told. went-first _ _ told; few = search rules; least = search rules }

pub returns-in_default-clause-gave_up : goal.returns-in_default-clause-gave_up
returns-in_default-clause-gave_up g c messages told e = gave-none _ _ _ _ _ _ (c.loop.invariant.went messages told) c.loop.invariant.few _ c.in_default.ensures

pub returns-in-Err-clause-broke : goal.returns-in-Err-clause-broke
returns-in-Err-clause-broke g c messages fault told e of =
    broken-by _ _ _ _ _ _ (c.loop.invariant.went messages told) c.loop.invariant.few _ _ _ c.in-Some.ensures fault
    (λ rest left. c.carry_on-step.ensures.broke rest fault left
    (subst (λ r. IsErrOf r fault) (sym c.in-Err.is) (ap (λ f. Err f) (same-fault _ c.in-Err.fault fault refl e))) of)

pub returns-in-Err-clause-endless : goal.returns-in-Err-clause-endless
returns-in-Err-clause-endless g c messages told e =
    lasted-by _ _ _ _ _ _ (c.loop.invariant.went messages told) c.loop.invariant.few _ _ _ c.in-Some.ensures
    (λ rest left. c.carry_on-step.ensures.endless rest left
    (subst (λ r. IsErrOf r Endless) (sym c.in-Err.is) (ap (λ f. Err f) (same-fault _ c.in-Err.fault Endless refl e))))

pub returns-clause-endless : goal.returns-clause-endless
returns-clause-endless g c messages told e = lasted _ _ _ _ _ _ (c.loop.invariant.went messages told) (omega (arith, c.loop-test.false, c.loop.auto.counter-end))

pub returns-in-Ok-Whole-clause-went : goal.returns-in-Ok-Whole-clause-went
returns-in-Ok-Whole-clause-went g c messages told =
    ended-by _ _ _ _ _ _ (c.loop.invariant.went messages told) c.loop.invariant.few _ _ _ c.in-Some.ensures _ _ c.in-Ok-Whole.field-0 (λ rest left. ok-by _ _ _ c.in-Ok-Whole.is (c.carry_on-step.ensures.went rest left)) _ c.in-Ok-Whole.field-0-is

pub returns-in-Ok-Refused-clause-went : goal.returns-in-Ok-Refused-clause-went
returns-in-Ok-Refused-clause-went g c messages told =
    ended-by _ _ _ _ _ _ (c.loop.invariant.went messages told) c.loop.invariant.few _ _ _ c.in-Some.ensures _ _ c.in-Ok-Refused.field-0 (λ rest left. ok-by _ _ _ c.in-Ok-Refused.is (c.carry_on-step.ensures.went rest left)) _ c.in-Ok-Refused.field-0-is

pub returns-in-Ok-Left-clause-went : goal.returns-in-Ok-Left-clause-went
returns-in-Ok-Left-clause-went g c messages told =
    ended-by _ _ _ _ _ _ (c.loop.invariant.went messages told) c.loop.invariant.few _ _ _ c.in-Some.ensures _ _ c.in-Ok-Left.field-0 (λ rest left. ok-by _ _ _ c.in-Ok-Left.is (c.carry_on-step.ensures.went rest left)) _ c.in-Ok-Left.field-0-is

pub returns-then-idle-tries-clause-gave_up : goal.returns-then-idle-tries-clause-gave_up
returns-then-idle-tries-clause-gave_up g c messages told e =
    gave-up _ _ _ _ _ _
    (then-gone _ _ _ _ _ _ (c.loop.invariant.went messages told) c.loop.invariant.few _ _ _ c.in-Some.ensures _ _ c.in-Ok-Gone.field-0 (λ rest left. ok-by _ _ _ c.in-Ok-Gone.is (c.carry_on-step.ensures.went rest left)) c.in-Ok-Gone.accepted
    c.in-Ok-Gone.field-0-is c.after_one_more-idle.result c.after_one_more-idle.ensures)
    (many-by c.args.tries c.loop.idle c.in-Ok-Gone.accepted c.after_one_more-idle.result c.loop.invariant.few c.after_one_more-idle.ensures c.if-idle-tries.true)

pub loop-preserved : goal.loop-preserved
loop-preserved g c = record {
  went = λ messages told.
      then-gone _ _ _ _ _ _ (c.loop.invariant.went messages told) c.loop.invariant.few _ _ _ c.in-Some.ensures _ _ c.in-Ok-Gone.field-0 (λ rest left. ok-by _ _ _ c.in-Ok-Gone.is (c.carry_on-step.ensures.went rest left)) c.in-Ok-Gone.accepted
      c.in-Ok-Gone.field-0-is c.after_one_more-idle.result c.after_one_more-idle.ensures;
  few = omega (arith, c.if-idle-tries.false);
  least = least-by c.loop.idle c.loop.counter c.in-Ok-Gone.accepted c.after_one_more-idle.result c.loop.invariant.least c.after_one_more-idle.ensures;
}
