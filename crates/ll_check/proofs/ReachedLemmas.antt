-- Where lines lead that are right, one after another.
use Rattle.std.proofs.Common.{◌≡◌, List, [], ◌∷◌, ◌++◌, ℕ, Bool, true, false, cond, Option, Some, Result, Ok, Err, refl, ap, ◌∙◌, sym, append_assoc, bytes_eq}
use Rattle.ll_check.specs.Steps.{Tells, reached, reached_by}
use Rattle.ll_check.specs.Visiting.{Passed}
use Rattle.ll_check.specs.declared.told.Told.{Told}
use Rattle.ll_check.specs.declared.told.Told.TheVariants as told
use Rattle.ll_entry.specs.Chain.{Between, Chain, Inside, Position, begun, text_in, with_line}
use Rattle.ll_entry.specs.Frame.{last_line}
use Rattle.ll_entry.specs.declared.fault.CheckKind.{CheckKind}

by_onward : (r : Result Chain CheckKind) (f g : Chain → Option Position) (q : Position) (o : Option Position) → ((ch : Chain) → f ch ≡ Some q → g ch ≡ o)
    → reached_by r f ≡ Some q → reached_by r g ≡ o
by_onward (Ok ch) f g q o on h = on ch h
by_onward (Err kind) f g q o on h = cc

if_onward : (b : Bool) (x y v w : Option Position) (q : Position) (o : Option Position) → (x ≡ Some q → v ≡ o) → (y ≡ Some q → w ≡ o)
    → cond b x y ≡ Some q → cond b v w ≡ o
if_onward true x y v w q o f g h = f h
if_onward false x y v w q o f g h = g h

at_first : (p q : Position) (more : List (List ℕ)) → Some p ≡ Some q → reached p more ≡ reached q more
at_first p q more h =
    let is : p ≡ q = cc in ap (λ p. reached p more) is

reached-onward : (p : Position) (lines more : List (List ℕ)) (q : Position) → reached p lines ≡ Some q → reached p (lines ++ more) ≡ reached q more
reached-onward (Between before) [] more q h = at_first (Between before) q more h
reached-onward (Between before) (a ∷ []) more q h = cc
reached-onward (Between before) (a ∷ b ∷ []) more q h = cc
reached-onward (Between before) (a ∷ b ∷ c ∷ lines) more q h =
    by_onward (begun before (text_in a) (text_in b) (text_in c)) (λ ch. reached (Inside ch) lines) (λ ch. reached (Inside ch) (lines ++ more)) q (reached q more)
    (λ ch. reached-onward (Inside ch) lines more q) h
reached-onward (Inside ch) [] more q h = at_first (Inside ch) q more h
reached-onward (Inside ch) (line ∷ lines) more q h =
    if_onward (bytes_eq line last_line) (reached (Between (Some ch)) lines) (reached_by (with_line ch line) (λ now. reached (Inside now) lines))
    (reached (Between (Some ch)) (lines ++ more)) (reached_by (with_line ch line) (λ now. reached (Inside now) (lines ++ more))) q (reached q more)
    (reached-onward (Between (Some ch)) lines more q)
    (by_onward (with_line ch line) (λ now. reached (Inside now) lines) (λ now. reached (Inside now) (lines ++ more)) q (reached q more)
    (λ now. reached-onward (Inside now) lines more q)) h

pub passed-first : (p : Position) (lines : List (List ℕ)) → Passed p p lines lines
passed-first (Between before) lines = record { passed = []; are = refl; leads = refl }
passed-first (Inside ch) lines = record { passed = []; are = refl; leads = refl }

pub passed-then : (p q s : Position) (lines mid rest : List (List ℕ)) → Passed p q lines mid → Passed q s mid rest → Passed p s lines rest
passed-then p q s lines mid rest x y = record {
  passed = x.passed ++ y.passed;
  are = x.are ∙ ap (λ l. x.passed ++ l) y.are ∙ sym (append_assoc x.passed y.passed rest);
  leads = reached-onward p x.passed y.passed q x.leads ∙ y.leads;
}

-- those that say something
pub passed-told : (p next : Position) (t : Told) (lines rest : List (List ℕ)) → Tells p t next lines rest → Passed p next lines rest
passed-told (Between before) (Inside ch) (told.Begun settings at) lines rest h = record {
  passed = h.header.first ∷ settings.now ∷ h.header.place ∷ [];
  are = h.header.are;
  leads = ap (λ r. reached_by r (λ ch. reached (Inside ch) [])) h.header.begun;
}
passed-told (Inside ch) (Inside now) (told.Entry version line entry) lines rest h = record {
  passed = line.now ∷ [];
  are = h.are;
  leads = ap (λ b. cond b (reached (Between (Some ch)) []) (reached_by (with_line ch line.now) (λ now. reached (Inside now) []))) h.other
      ∙ ap (λ r. reached_by r (λ now. reached (Inside now) [])) h.joined;
}
passed-told (Inside ch) (Between before) told.Ended lines rest h = record {
  passed = h.line ∷ [];
  are = h.are;
  leads = ap (λ b. cond b (reached (Between (Some ch)) []) (reached_by (with_line ch h.line) (λ now. reached (Inside now) []))) h.last
      ∙ ap (λ o. Some (Between o)) (sym h.same);
}
passed-told (Between before) (Between after) (told.Begun settings at) lines rest h = absurd h
passed-told (Between before) next (told.Entry version line entry) lines rest h = absurd h
passed-told (Between before) next told.Ended lines rest h = absurd h
passed-told (Inside ch) next (told.Begun settings at) lines rest h = absurd h
passed-told (Inside ch) (Between before) (told.Entry version line entry) lines rest h = absurd h
passed-told (Inside ch) (Inside now) told.Ended lines rest h = absurd h
