-- The ids of removals that are recent, and how many date ranges are skipped, one place after another.
use Rattle.std.proofs.Common.{◌≡◌, ℕ, zero, suc, ◌+◌, List, [], ◌∷◌, ◌++◌, Bool, true, false, cond, drop, filter, length, map, Some, ap, sym, ◌∙◌, arith, refl, append_assoc}
use Rattle.std.proofs.lemmas.Option.{none-some, same_Some}
use Rattle.std.specs.Prelude.{slice_get}
use Rattle.ll_item.specs.Told.{Listed, Removal}

-- what is left from a place on begins with what stands there
rest_from : {A : Type 0} (xs : List A) (i : ℕ) (x : A) → slice_get xs i ≡ Some x → drop i xs ≡ x ∷ drop (suc i) xs
rest_from [] i x e = absurd (none-some x e)
rest_from (y ∷ ys) zero x e = ap (λ z. z ∷ ys) (same_Some y x e)
rest_from (y ∷ ys) (suc i) x e = rest_from ys i x e

abbrev ids : List Removal → List (List ℕ)
ids rs = map (λ (r : Removal). r.id) rs

-- the ids that one removal adds
abbrev pub id_if : Bool → Removal → List (List ℕ)
id_if true r = r.id ∷ []
id_if false r = []

one_by : (b : Bool) (r : Removal) (rs : List Removal) → ids (cond b (r ∷ rs) rs) ≡ id_if b r ++ ids rs
one_by true r rs = refl
one_by false r rs = refl

-- the ids so far and those that are left stay all of them, when those of this removal are added
pub next_recent : (keep : Removal → Bool) (old new whole : List (List ℕ)) (rs : List Removal) (i : ℕ) (r : Removal) (b : Bool) → slice_get rs i ≡ Some r → keep r ≡ b
    → new ≡ old ++ id_if b r → old ++ ids (filter keep (drop i rs)) ≡ whole → new ++ ids (filter keep (drop (i + 1) rs)) ≡ whole
next_recent keep old new whole rs i r b e is added h =
    let next : suc i ≡ i + 1 = omega arith in
    let more = ids (filter keep (drop (i + 1) rs)) in
    ap (λ t. t ++ more) added
    ∙ append_assoc old (id_if b r) more
    ∙ ap (λ j. old ++ (id_if b r ++ ids (filter keep (drop j rs)))) (sym next)
    ∙ ap (λ xs. old ++ xs) (sym (one_by b r (filter keep (drop (suc i) rs))))
    ∙ ap (λ b. old ++ ids (cond b (r ∷ filter keep (drop (suc i) rs)) (filter keep (drop (suc i) rs)))) (sym is)
    ∙ ap (λ xs. old ++ ids (filter keep xs)) (sym (rest_from rs i r e))
    ∙ h

-- how many there are so far and how many are left stay the number of all, when this date range is counted
pub next-skipped : (is : Listed → Bool) (old new whole : ℕ) (xs : List Listed) (i : ℕ) (x : Listed) (b : Bool) → slice_get xs i ≡ Some x → is x ≡ b
    → new ≡ old + cond b 1 0 → old + length (filter is (drop i xs)) ≡ whole → new + length (filter is (drop (i + 1) xs)) ≡ whole
next-skipped is old new whole xs i x b e test added h =
    let next : suc i ≡ i + 1 = omega arith in
    ap (λ n. n + length (filter is (drop (i + 1) xs))) added
    ∙ ap (λ j. old + cond b 1 0 + length (filter is (drop j xs))) (sym next)
    ∙ one_skipped old b x (filter is (drop (suc i) xs))
    ∙ ap (λ b. old + length (cond b (x ∷ filter is (drop (suc i) xs)) (filter is (drop (suc i) xs)))) (sym test)
    ∙ ap (λ ys. old + length (filter is ys)) (sym (rest_from xs i x e))
    ∙ h
  where
    one_skipped : (n : ℕ) (b : Bool) (x : Listed) (xs : List Listed) → n + cond b 1 0 + length xs ≡ n + length (cond b (x ∷ xs) xs)
    one_skipped n true x xs = omega arith
    one_skipped n false x xs = omega arith
