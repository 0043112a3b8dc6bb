-- A line and the CR at its end.
use Rattle.std.proofs.Common.{◌≡◌, ◌≢◌, ℕ, ◌+◌, ◌-◌, ◌==◌, Bool, true, false, List, [], ◌∷◌, ◌++◌, length, length-append, take, refl, ap, sym, ◌∙◌, arith, if◌then◌else◌, slice_index}
use Rattle.std.proofs.lemmas.Bool.Decides.{nat_tests}
use Rattle.std.proofs.lemmas.List.{take_more, take_all}
use Rattle.std.proofs.Math.Seq.{get_or-append_seam, take-append_seam}
use Rattle.std.specs.Str.Lines.{strip_carriage_return}

by_true : (x : Bool) (a b : List ℕ) → x ≡ true → b ≡ b → (if x then a else b) ≡ a
by_true true a b h k = refl
by_true false a b h k = cc

pub stripped : (line front : List ℕ) → line ≡ front ++ 13 ∷ [] → front ≡ strip_carriage_return line
stripped line front e =
    let l = front ++ 13 ∷ [] in
    let n : length l - 1 ≡ length front = omega (arith, length-append front (13 ∷ [])) in
    let last : slice_index l (length l - 1) ≡ 13 = ap (slice_index l) n ∙ get_or-append_seam front 13 [] 0 in
    sym (ap strip_carriage_return e ∙ by_true (slice_index l (length l - 1) == 13) (take (length l - 1) l) l (ap (λ x. x == 13) last) refl ∙ ap (λ k. take k l) n ∙ take-append_seam front (13 ∷ []))

pub ends_so : (b : ℕ) (bs : List ℕ) → slice_index (b ∷ bs) (length (b ∷ bs) - 1) ≡ 13 → b ∷ bs ≡ take (length (b ∷ bs) - 1) (b ∷ bs) ++ 13 ∷ []
ends_so b bs h =
    let l = b ∷ bs in
    let n = length l - 1 in
    let all : n + 1 ≡ length l = omega arith in
    sym (take_all (length l) l (omega arith)) ∙ ap (λ k. take k l) (sym all) ∙ take_more l n 0 (omega arith) ∙ ap (λ c. take n l ++ c ∷ []) h

kept_by : (x : Bool) (b : ℕ) (bs : List ℕ) → (slice_index (b ∷ bs) (length (b ∷ bs) - 1) == 13) ≡ x → ((front : List ℕ) → b ∷ bs ≢ front ++ (13 ∷ [])) → b ∷ bs ≡ (if x then take (length (b ∷ bs) - 1) (b ∷ bs) else b ∷ bs)
kept_by false b bs e h = refl
kept_by true b bs e h = absurd (h _ (ends_so b bs (grind (arith, nat_tests))))

pub kept : (line : List ℕ) → ((front : List ℕ) → line ≢ front ++ (13 ∷ [])) → line ≡ strip_carriage_return line
kept [] h = refl
kept (b ∷ bs) h = kept_by (slice_index (b ∷ bs) (length (b ∷ bs) - 1) == 13) b bs refl h
