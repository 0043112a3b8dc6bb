-- The values of lines, one after another.
use Rattle.std.proofs.Common.{◌≡◌, ℕ, ◌+◌, ◌<◌, List, true, cond, Option, Some, None, Result, Ok, Err, ap, sym, subst, ◌∙◌}
use Rattle.ll_config.specs.Config.{Left, and_then, begins, next, next_if, next_text, told}
use Rattle.ll_config.specs.Faults.{IsFault, LeadsPast}
use Rattle.ll_config.specs.declared.fault.ConfigFault.{ConfigFault}
use Rattle.ll_config.specs.declared.fault.ConfigFault.TheVariants.{BadLine, Memory}

-- ---- the next line

module _ {A : Type 0} (read : List ℕ → Option A) (old new : Left) where
  pub next-bad : (text : List ℕ) → next_text old ≡ Ok (text, new) → read text ≡ None → next read old ≡ Err old.number
  next-bad text is tells =
      ap (λ r. and_then r (λ t. told old.number (read t.0) t.1)) is ∙ ap (λ o. told old.number o new) tells

-- the next line begins with `key`, and is read
module _ {A : Type 0} (key : List ℕ) (read : List ℕ → Option A) (old : Left) (begun : begins key old.lines ≡ true) where
  begun-is : next_if key read old ≡ and_then (next read old) (λ t. Ok (Some t.0, t.1))
  begun-is = ap (λ b. cond b (and_then (next read old) (λ t. Ok (Some t.0, t.1))) (Ok (None, old))) begun

  pub begun_value : (value : A) (new : Left) → next read old ≡ Ok (value, new) → next_if key read old ≡ Ok (Some value, new)
  begun_value value new is = begun-is ∙ ap (λ r. and_then r (λ t. Ok (Some t.0, t.1))) is

  begun-err : (number : ℕ) → next read old ≡ Err number → next_if key read old ≡ Err number
  begun-err number is = begun-is ∙ ap (λ r. and_then r (λ t. Ok (Some t.0, t.1))) is

  pub begun_bad : (fault : ConfigFault) (wanting : Type 0) → IsFault fault (next read old) ⊥ → IsFault fault (next_if key read old) wanting
  begun_bad (BadLine number) wanting is = begun-err number is
  begun_bad Memory wanting is = absurd is

  pub begun_past : (value : A) (new : Left) → next read old ≡ Ok (value, new) → old.number < new.number → LeadsPast old.number (next_if key read old)
  begun_past value new is past = subst (LeadsPast old.number) (sym (begun_value value new is)) past

-- the fault is that of a line that was read
pub fault-is : {A : Type 0} (fault : ConfigFault) (r : Result A ℕ) (wanting : Type 0) (old new : Left) → new.number ≡ old.number + 1
    → ((number : ℕ) → new.number ≡ number + 1 → fault ≡ BadLine number) → r ≡ Err old.number → IsFault fault r wanting
fault-is fault r wanting old new past bad is = subst (λ f. IsFault f r wanting) (sym (bad old.number past)) is
