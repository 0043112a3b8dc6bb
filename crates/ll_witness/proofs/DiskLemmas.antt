-- The files of a disk in memory, one of which was changed or read.
use Rattle.std.proofs.Common.{◌≡◌, ◌≢◌, ◌⊎◌, ◌∙◌, inl, inr, ℕ, zero, suc, List, [], ◌++◌, Option, Some, append-nil, ap, drop, length, refl, sym, take, take-append-drop}
use Rattle.std.specs.List.{IsSplitAt}
use Rattle.ll_device.specs.Written.{AppendsPrefix}
use Rattle.ll_layout.specs.Held.{IsAt}
use Rattle.ll_layout.specs.declared.side.Side.{Side}
use Rattle.ll_layout.specs.declared.side.Side.TheVariants.{A, B}
use Rattle.ll_spool.specs.Files.{IsChanged}
use Rattle.ll_witness.specs.Disks.{files_of}

others-a : (a b new : List ℕ) (r : ℕ) (s : Side) → (r ≢ 0) ⊎ (s ≢ A) → files_of new b r s ≡ files_of a b r s
others-a a b new zero A (inl h) = absurd (h refl)
others-a a b new zero A (inr h) = absurd (h refl)
others-a a b new zero B h = refl
others-a a b new (suc r) s h = refl

others-b : (a b new : List ℕ) (r : ℕ) (s : Side) → (r ≢ 0) ⊎ (s ≢ B) → files_of a new r s ≡ files_of a b r s
others-b a b new zero B (inl h) = absurd (h refl)
others-b a b new zero B (inr h) = absurd (h refl)
others-b a b new zero A h = refl
others-b a b new (suc r) s h = refl

pub changed_a : (a b new : List ℕ) (change : List ℕ → List ℕ) → new ≡ change a → IsChanged 0 A change (Some (files_of a b)) (Some (files_of new b))
changed_a a b new change e = (e, others-a a b new)

pub changed_b : (a b new : List ℕ) (change : List ℕ → List ℕ) → new ≡ change b → IsChanged 0 B change (Some (files_of a b)) (Some (files_of a new))
changed_b a b new change e = (e, others-b a b new)

-- nothing was written
pub nothing : (old new text : List ℕ) → new ≡ old → AppendsPrefix (Some old) (Some new) text
nothing old new text e = ([], text, refl, e ∙ sym (append-nil old))

-- bytes that were split off at both ends stand in between
pub at_split : (file before later found rest : List ℕ) (offset n : ℕ) → IsSplitAt file offset before later → IsSplitAt later n found rest → IsAt file offset found
at_split file before later found rest offset n p q =
    let halves : later ≡ found ++ rest = sym (take-append-drop n later) ∙ ap (λ l. l ++ drop n later) (sym q.1) ∙ ap (λ l. found ++ l) (sym q.2) in
    let all : file ≡ before ++ later = sym (take-append-drop offset file) ∙ ap (λ l. l ++ drop offset file) (sym p.1) ∙ ap (λ l. before ++ l) (sym p.2) in
    record { before = before; later = rest; is = all ∙ ap (λ l. before ++ l) halves; offset_is = p.3 }
