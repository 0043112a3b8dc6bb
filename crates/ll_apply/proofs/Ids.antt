-- Ids in a set, with one more.
use Rattle.std.proofs.Common.{◌≡◌, ℕ, zero, suc, ◌+◌, ◌<◌, List, [], ◌∷◌, ◌++◌, Bool, true, false, ◌||◌, cond, take, length, get_or, Bor, bytes_eq, refl, ap, sym, ◌∙◌, arith}
use Rattle.std.proofs.lemmas.List.Folds.{list_any-append}
use Rattle.std.proofs.lemmas.Slice.Eq.{bytes_eq-Decides}
use Rattle.ll_apply.specs.Applied.{is_one_of}
use Rattle.ll_apply.specs.Found.{is_among}

or_nothing : (a b : Bool) → (a || (b || false)) ≡ (a || b)
or_nothing true b = refl
or_nothing false true = refl
or_nothing false false = refl

-- an id that is there already
there : (a b : Bool) → (b ≡ true → a ≡ true) → a ≡ (a || b)
there true b h = refl
there false true h = absurd (cc (h refl))
there false false h = refl

added : (b : Bool) (id : List ℕ) (texts : List (Bor (List ℕ))) (text : Bor (List ℕ)) → is_among text.now texts ≡ b
    → is_among id (cond b texts (texts ++ text ∷ [])) ≡ (is_among id texts || bytes_eq id text.now)
added true id texts text e =
    there (is_among id texts) (bytes_eq id text.now) (λ same. ap (λ i. is_among i texts) ((bytes_eq-Decides id text.now).0 same) ∙ e)
added false id texts text e =
    list_any-append (λ (t : Bor (List ℕ)). bytes_eq id t.now) texts (text ∷ []) ∙ or_nothing (is_among id texts) (bytes_eq id text.now)

take-one : {A : Type 0} (xs : List A) (i : ℕ) (x : A) → x ≡ get_or xs i x → i < length xs → take (suc i) xs ≡ take i xs ++ x ∷ []
take-one [] i x e lt = absurd (omega arith)
take-one (y ∷ ys) zero x e lt = ap (λ z. z ∷ []) (sym e)
take-one (y ∷ ys) (suc i) x e lt = ap (λ zs. y ∷ zs) (take-one ys i x e (omega arith))

-- the set has the ids so far, and then one more
pub one-more : (id : List ℕ) (texts new : List (Bor (List ℕ))) (text : Bor (List ℕ)) (ids : List (List ℕ)) (i : ℕ) (x : List ℕ)
    → new ≡ cond (is_among text.now texts) texts (texts ++ text ∷ []) → text.now ≡ x → x ≡ get_or ids i x → i < length ids
    → is_among id texts ≡ is_one_of id (take i ids) → is_among id new ≡ is_one_of id (take (i + 1) ids)
one-more id texts new text ids i x is same at lt h =
    ap (is_among id) is ∙ added (is_among text.now texts) id texts text refl
    ∙ ap (λ b. b || bytes_eq id text.now) h
    ∙ ap (λ t. is_one_of id (take i ids) || bytes_eq id t) same
    ∙ sym (or_nothing (is_one_of id (take i ids)) (bytes_eq id x))
    ∙ sym (list_any-append (bytes_eq id) (take i ids) (x ∷ []))
    ∙ ap (is_one_of id) (sym (ap (λ j. take j ids) next ∙ take-one ids i x at lt))
  where
    next : i + 1 ≡ suc i
    next = omega arith
