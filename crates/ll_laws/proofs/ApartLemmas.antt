-- Lists of date ranges of which no two have one id.
use Rattle.std.proofs.Common.{◌≡◌, ℕ, zero, suc, ◌&&◌, ◌||◌, Bool, true, false, not, cond, List, [], ◌∷◌, ◌++◌, map, drop, filter, refl, ap, sym, ◌∙◌, bytes_eq}
use Rattle.std.proofs.lemmas.Bool.{true≢false, and_from, or_parts, or_from, or_left}
use Rattle.std.proofs.lemmas.List.Folds.{list_any-append}
use Rattle.std.proofs.lemmas.Slice.Eq.{bytes_eq-Decides}
use Rattle.std.specs.List.{list_any}
use Rattle.ll_item.specs.Told.{Listed}
use Rattle.ll_apply.specs.Applied.{is_one_of}
use Rattle.ll_read.specs.Readable.{Each}
use Rattle.ll_laws.proofs.FilterLemmas.{none-left}

-- whether one of these date ranges has this id
abbrev pub has : List ℕ → List Listed → Bool
has id xs = list_any (λ (x : Listed). bytes_eq id x.id) xs

abbrev pub are_apart : List Listed → Bool
are_apart [] = true
are_apart (x ∷ xs) = not (has x.id xs) && are_apart xs

abbrev pub ids : List Listed → List (List ℕ)
ids xs = map (λ (x : Listed). x.id) xs

pub same-bytes : (a : List ℕ) → bytes_eq a a ≡ true
same-bytes a = (bytes_eq-Decides a a).1 refl

back_by : (a b : List ℕ) (t u : Bool) → bytes_eq a b ≡ t → bytes_eq b a ≡ u → t ≡ u
back_by a b true true e f = refl
back_by a b false false e f = refl
back_by a b true false e f = sym ((bytes_eq-Decides b a).1 (sym ((bytes_eq-Decides a b).0 e))) ∙ f
back_by a b false true e f = sym e ∙ (bytes_eq-Decides a b).1 (sym ((bytes_eq-Decides b a).0 f))

pub bytes-back : (a b : List ℕ) → bytes_eq a b ≡ bytes_eq b a
bytes-back a b = back_by a b (bytes_eq a b) (bytes_eq b a) refl refl

pub apart-parts : (x y : Bool) → (not x && y) ≡ true → (x ≡ false) × (y ≡ true)
apart-parts true y h = absurd (true≢false (sym h))
apart-parts false y h = (refl, h)

-- a new one after the others
pub apart-after : (xs : List Listed) (x : Listed) → are_apart xs ≡ true → has x.id xs ≡ false → are_apart (xs ++ x ∷ []) ≡ true
apart-after [] x h none = refl
apart-after (y ∷ ys) x h none =
    let p = apart-parts (has y.id ys) (are_apart ys) h in
    let n = or_parts (bytes_eq x.id y.id) (has x.id ys) none in
    let other = or_from (bytes_eq y.id x.id) false (bytes-back y.id x.id ∙ n.0) refl in
    let fresh = list_any-append (λ (z : Listed). bytes_eq y.id z.id) ys (x ∷ []) ∙ or_from (has y.id ys) (bytes_eq y.id x.id || false) p.0 other in
    and_from (not (has y.id (ys ++ x ∷ []))) (are_apart (ys ++ x ∷ [])) (ap not fresh) (apart-after ys x p.1 n.1)

apart_by : (b : Bool) (x : Listed) (xs : List Listed) → has x.id xs ≡ false → are_apart xs ≡ true → are_apart (cond b (x ∷ xs) xs) ≡ true
apart_by true x xs none h = and_from (not (has x.id xs)) (are_apart xs) (ap not none) h
apart_by false x xs none h = h

-- some of them
pub apart-fewer : (p : Listed → Bool) (xs : List Listed) → are_apart xs ≡ true → are_apart (filter p xs) ≡ true
apart-fewer p [] h = refl
apart-fewer p (x ∷ xs) h =
    let n = apart-parts (has x.id xs) (are_apart xs) h in
    apart_by (p x) x (filter p xs) (none-left (λ (y : Listed). bytes_eq x.id y.id) p xs n.0) (apart-fewer p xs n.1)

-- the last ones
pub apart-drop : (n : ℕ) (xs : List Listed) → are_apart xs ≡ true → are_apart (drop n xs) ≡ true
apart-drop zero xs h = h
apart-drop (suc n) [] h = h
apart-drop (suc n) (x ∷ xs) h = apart-drop n xs (apart-parts (has x.id xs) (are_apart xs) h).1

-- ids of those that pass a test

pub ids-has : (id : List ℕ) (xs : List Listed) → is_one_of id (ids xs) ≡ has id xs
ids-has id [] = refl
ids-has id (x ∷ xs) = ap (λ b. bytes_eq id x.id || b) (ids-has id xs)

others_by : (P : Bool) (x y : Listed) (left : List Listed) (b : Bool) → bytes_eq x.id y.id ≡ false → is_one_of y.id (ids left) ≡ b
    → is_one_of y.id (ids (cond P (x ∷ left) left)) ≡ b
others_by true x y left b e h = ap (λ t. t || is_one_of y.id (ids left)) (bytes-back y.id x.id ∙ e) ∙ h
others_by false x y left b e h = h

none_each : (x : Listed) (xs : List Listed) → has x.id xs ≡ false → Each (λ (y : Listed). bytes_eq x.id y.id ≡ false) xs
none_each x [] h = tt
none_each x (y ∷ ys) h = let n = or_parts (bytes_eq x.id y.id) (has x.id ys) h in (n.0, none_each x ys n.1)

first_by : (b : Bool) (x : Listed) (left : List Listed) → has x.id left ≡ false → is_one_of x.id (ids (cond b (x ∷ left) left)) ≡ b
first_by true x left h = or_left (bytes_eq x.id x.id) (is_one_of x.id (ids left)) (same-bytes x.id)
first_by false x left h = ids-has x.id left ∙ h

and_tails : (x : Listed) (p : Listed → Bool) (left xs : List Listed) → Each (λ (y : Listed). bytes_eq x.id y.id ≡ false) xs
    → Each (λ (y : Listed). is_one_of y.id (ids left) ≡ p y) xs → Each (λ (y : Listed). is_one_of y.id (ids (cond (p x) (x ∷ left) left)) ≡ p y) xs
and_tails x p left [] h k = tt
and_tails x p left (y ∷ ys) h k = (others_by (p x) x y left (p y) h.0 k.0, and_tails x p left ys h.1 k.1)

-- those that pass the test are those whose ids stand there
pub own-ids : (p : Listed → Bool) (xs : List Listed) → are_apart xs ≡ true → Each (λ (y : Listed). is_one_of y.id (ids (filter p xs)) ≡ p y) xs
own-ids p [] h = tt
own-ids p (x ∷ xs) h =
    let n = apart-parts (has x.id xs) (are_apart xs) h in (
      first_by (p x) x (filter p xs) (none-left (λ (y : Listed). bytes_eq x.id y.id) p xs n.0),
      and_tails x p (filter p xs) xs (none_each x xs n.0) (own-ids p xs n.1),
    )
