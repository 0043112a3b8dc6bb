-- What is decided is decided by the first event that can, and stays so.
use Rattle.std.proofs.Common.{◌≡◌, ◌+◌, suc, List, [], ◌∷◌, ◌++◌, Bool, true, false, not, cond, filter, length, Option, Some, None, is_none, refl, ap, ◌∙◌, sym, append_assoc, append-nil, true≢false, arith}
use Rattle.std.specs.Option.{option_or}
use Rattle.ll_settings.specs.Settings.{Configuration}
use Rattle.ll_verdict.specs.Events.{Event, Step, until}
use Rattle.ll_verdict.specs.Laws.{IsFirst, FirstStateLaw, OneVerdictLaw}
use Rattle.ll_verdict.specs.State.{state_of, is_waiting}
use Rattle.ll_verdict.specs.declared.entry.Slot.{Slot}
use Rattle.ll_verdict.specs.Verdict.{Pending, decided}
use Rattle.ll_verdict.proofs.StepLemmas.{at, ends, along, decided-snoc}

pub one_verdict : OneVerdictLaw
one_verdict c es [] r s h = ap (λ xs. decided c xs r) (append-nil es) ∙ h
one_verdict c es (e ∷ more) r s h =
    ap (λ xs. decided c xs r) (sym (append_assoc es (e ∷ []) more))
    ∙ one_verdict c (es ++ e ∷ []) more r s (decided-snoc c es e r ∙ ap (λ o. option_or o (cond (ends c r (at es e)) (Some (at es e)) None)) h)

none_some : {X : Type 0} (x : X) → None ≡ Some x → ⊥
none_some x h = true≢false (ap is_none h)

some_is : {X : Type 0} (x y : X) → Some x ≡ Some y → x ≡ y
some_is x y h = ap (λ o. elim o [ None ↦ x | Some z ↦ z ]) h

first_new : (c : Configuration) (es : List Event) (e : Event) (r : Pending) (s : Step) (b : Bool) → ends c r (at es e) ≡ b → decided c es r ≡ None
    → cond b (Some (at es e)) None ≡ Some s → IsFirst c (es ++ e ∷ []) r s
first_new c es e r s false f n h = absurd (none_some s h)
first_new c es e r s true f n h =
    let k : at es e ≡ s = some_is (at es e) s h in
    record {
      rest = [];
      place = ap until k ∙ sym (append-nil (until s));
      decides = ap (ends c r) (sym k) ∙ f;
      first = ap (λ (s : Step). decided c s.before r) (sym k) ∙ n;
    }

first_by : (c : Configuration) (es : List Event) (e : Event) (r : Pending) (s : Step) (d : Option Step) → decided c es r ≡ d → (d ≡ Some s → IsFirst c es r s)
    → option_or d (cond (ends c r (at es e)) (Some (at es e)) None) ≡ Some s → IsFirst c (es ++ e ∷ []) r s
first_by c es e r s None f ih h = first_new c es e r s (ends c r (at es e)) refl f h
first_by c es e r s (Some s0) f ih h =
    let l : IsFirst c es r s = ih h in
    record {
      rest = l.rest ++ e ∷ [];
      place = ap (λ xs. xs ++ e ∷ []) l.place ∙ append_assoc (until s) l.rest (e ∷ []);
      decides = l.decides;
      first = l.first;
    }

pub first_state : FirstStateLaw
first_state c es r s = along (λ es. decided c es r ≡ Some s → IsFirst c es r s) (λ h. absurd (none_some s h))
    (λ es e ih h. first_by c es e r s (decided c es r) refl ih (sym (decided-snoc c es e r) ∙ h)) es
