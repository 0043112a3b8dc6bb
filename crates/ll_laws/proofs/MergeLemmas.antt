-- Lists of date ranges: what is kept of an earlier one, and then those that an update doesn't skip, are the later one.
use Rattle.std.proofs.Common.{◌≡◌, ℕ, ◌≤◌, ◌&&◌, Bool, true, false, not, cond, List, [], ◌∷◌, ◌++◌, filter, append-nil, refl, ap, sym, ◌∙◌, arith}
use Rattle.std.proofs.lemmas.Bool.Decides.{nat_tests}
use Rattle.std.proofs.lemmas.List.Elements.{filter-append}
use Rattle.ll_item.specs.Told.{Listed}
use Rattle.ll_range.specs.Announced.{is_skipped}
use Rattle.ll_range.proofs.OrderLemmas.{AreAfter, AreInOrder}
use Rattle.ll_apply.specs.Applied.{is_one_of}
use Rattle.ll_read.specs.Readable.{Each}
use Rattle.ll_laws.proofs.ApartLemmas.{ids}
use Rattle.ll_laws.proofs.ChangeLemmas.{is_left}
use Rattle.ll_laws.proofs.EachLemmas.{each-with, each-and, each-front}
use Rattle.ll_laws.proofs.FilterLemmas.{filter-same, filter-all, filter-none, filter-both, each-passing}

abbrev pub is_fresh : ℕ → ℕ → Listed → Bool
is_fresh limit now x = not (is_skipped limit now x)

-- the skipped ones stand first

later_fresh : (limit now : ℕ) (x y : Listed) → is_skipped limit now x ≡ false → x.added ≤ y.added → is_skipped limit now y ≡ false
later_fresh limit now x y e le = grind (arith, nat_tests)

all_fresh : (limit now : ℕ) (x : Listed) (xs : List Listed) → is_skipped limit now x ≡ false → AreAfter x.added xs
    → Each (λ y. is_skipped limit now y ≡ false) xs
all_fresh limit now x [] e h = tt
all_fresh limit now x (y ∷ ys) e h = (later_fresh limit now x y e h.0, all_fresh limit now x ys e h.1)

parted_by : (limit now : ℕ) (x : Listed) (xs : List Listed) (b : Bool) → is_skipped limit now x ≡ b → AreAfter x.added xs
    → filter (is_skipped limit now) xs ++ filter (is_fresh limit now) xs ≡ xs
    → cond b (x ∷ filter (is_skipped limit now) xs) (filter (is_skipped limit now) xs)
    ++ cond (not b) (x ∷ filter (is_fresh limit now) xs) (filter (is_fresh limit now) xs) ≡ x ∷ xs
parted_by limit now x xs true e h k = ap (λ ys. x ∷ ys) k
parted_by limit now x xs false e h k =
    let fresh = all_fresh limit now x xs e h in
    ap (λ ys. ys ++ x ∷ filter (is_fresh limit now) xs) (filter-none (is_skipped limit now) xs fresh)
    ∙ ap (λ ys. x ∷ ys) (filter-all (is_fresh limit now) xs
    (each-with (λ y. is_skipped limit now y ≡ false) (λ y. is_fresh limit now y ≡ true) (λ y f. ap not f) xs fresh))

pub parted : (limit now : ℕ) (xs : List Listed) → AreInOrder xs → filter (is_skipped limit now) xs ++ filter (is_fresh limit now) xs ≡ xs
parted limit now [] h = refl
parted limit now (x ∷ xs) h = parted_by limit now x xs (is_skipped limit now x) refl h.0 (parted limit now xs h.1)

-- which ones of an earlier list are kept

twice : (b : Bool) → not (not b) ≡ b
twice true = refl
twice false = refl

kept_by : (left removed own skipped : Bool) → (left ≡ true → (removed ≡ false) × (own ≡ not skipped)) → (left ≡ false → removed ≡ true)
    → (not removed && not own) ≡ (left && skipped)
kept_by true removed own skipped f g =
    let k = f refl in ap (λ b. not b && not own) k.0 ∙ ap not k.1 ∙ twice skipped
kept_by false removed own skipped f g = ap (λ b. not b && not own) (g refl)

untrue : (b : Bool) → not b ≡ false → b ≡ true
untrue true e = refl
untrue false e = sym e

-- whether a date range stays, by the ids alone
abbrev pub stays_by : List (List ℕ) → List (List ℕ) → Listed → Bool
stays_by removed own x = not (is_one_of x.id removed) && not (is_one_of x.id own)

-- lists alone: those that stay are those that are left and skipped
pub kept-skipped : (p : Listed → Bool) (gone removed : List (List ℕ)) (base new : List Listed)
    → ((id : List ℕ) → is_one_of id gone ≡ true → is_one_of id removed ≡ true)
    → Each (λ (x : Listed). is_one_of x.id removed ≡ false) (filter (is_left gone) base ++ new)
    → Each (λ (x : Listed). is_one_of x.id (ids (filter (λ y. not (p y)) (filter (is_left gone) base ++ new))) ≡ not (p x)) (filter (is_left gone) base ++ new)
    → Each (λ x. p x ≡ false) new
    → filter (stays_by removed (ids (filter (λ y. not (p y)) (filter (is_left gone) base ++ new)))) base ≡ filter p (filter (is_left gone) base ++ new)
kept-skipped p gone removed base new taken free own young =
    let left = filter (is_left gone) base in
    let all = left ++ new in
    let is_own : Listed → Bool = λ x. is_one_of x.id (ids (filter (λ y. not (p y)) all)) in
    let P : Listed → Type 0 = λ x. (is_one_of x.id removed ≡ false) × (is_own x ≡ not (p x)) in
    let both = each-and (λ (x : Listed). is_one_of x.id removed ≡ false) (λ x. is_own x ≡ not (p x)) all free own in
    let known = each-passing P (is_left gone) base (each-front P left new both) in
    filter-same (stays_by removed (ids (filter (λ y. not (p y)) all))) (λ x. is_left gone x && p x) base
    (each-with (λ x. is_left gone x ≡ true → P x) (λ x. stays_by removed (ids (filter (λ y. not (p y)) all)) x ≡ (is_left gone x && p x))
    (λ x f. kept_by (is_left gone x) (is_one_of x.id removed) (is_own x) (p x) f (λ e. taken x.id (untrue (is_one_of x.id gone) e))) base known)
    ∙ sym (filter-both (is_left gone) p base)
    ∙ sym (append-nil (filter p left))
    ∙ ap (λ xs. filter p left ++ xs) (sym (filter-none p new young))
    ∙ sym (filter-append p left new)
