-- The ids whose removal is recent, by the list of removals.
use Rattle.std.proofs.Common.{◌≡◌, ℕ, ◌+◌, ◌≤◌, ◌&&◌, ◌||◌, Bool, true, false, not, cond, List, [], ◌∷◌, ◌++◌, map, filter, Some, bytes_eq, refl, ap, sym, subst, ◌∙◌, arith}
use Rattle.std.proofs.Math.Bool.{and-true}
use Rattle.std.proofs.lemmas.Bool.{true≢false, and_from, and_parts, and_left, and_right, or_from, or_left, or_right}
use Rattle.std.proofs.lemmas.Bool.Decides.{nat_tests}
use Rattle.std.proofs.lemmas.List.Folds.{list_any-append}
use Rattle.std.proofs.lemmas.Slice.Eq.{bytes_eq-Decides}
use Rattle.std.specs.List.{list_any, find}
use Rattle.ll_item.specs.Told.{Removal, other_removals}
use Rattle.ll_range.specs.Announced.{is_recent, is_recent_one}
use Rattle.ll_apply.specs.Applied.{is_one_of}
use Rattle.ll_laws.proofs.ApartLemmas.{same-bytes, bytes-back}
use Rattle.ll_laws.proofs.FilterLemmas.{none-left}

-- whether a removal of this id is recent, if all parts last until `now`
abbrev pub was_lately : ℕ → ℕ → List ℕ → List Removal → Bool
was_lately limit now id rs = list_any (λ (r : Removal). bytes_eq id r.id && is_recent limit now r) rs

abbrev pub removal_ids : List Removal → List (List ℕ)
removal_ids rs = map (λ (r : Removal). r.id) rs

either : (a b c d : Bool) → (a ≡ true → c ≡ true) → (b ≡ true → d ≡ true) → (a || b) ≡ true → (c || d) ≡ true
either true b c d f g e = or_left c d (f refl)
either false b c d f g e = or_right c d (g e)

both : (x a c : Bool) → (a ≡ true → c ≡ true) → (x && a) ≡ true → (x && c) ≡ true
both true a c f e = f e
both false a c f e = e

one : (limit now span time : ℕ) (r : Removal) → now + span ≤ time + limit → is_recent span time r ≡ true → is_recent limit now r ≡ true
one limit now span time r le e = grind (arith, nat_tests)

-- at a time that is no later in relation to its limit
pub lately-sooner : (limit now span time : ℕ) (id : List ℕ) (rs : List Removal) → now + span ≤ time + limit
    → was_lately span time id rs ≡ true → was_lately limit now id rs ≡ true
lately-sooner limit now span time id [] le e = e
lately-sooner limit now span time id (r ∷ rs) le e =
    either (bytes_eq id r.id && is_recent span time r) (was_lately span time id rs) (bytes_eq id r.id && is_recent limit now r) (was_lately limit now id rs)
    (both (bytes_eq id r.id) (is_recent span time r) (is_recent limit now r) (one limit now span time r le)) (lately-sooner limit now span time id rs le) e

untrue : (a b : Bool) → (a ≡ true → b ≡ true) → b ≡ false → a ≡ false
untrue true b f e = absurd (true≢false (sym (f refl) ∙ e))
untrue false b f e = refl

-- what is not recent now is not recent later
pub not-lately : (limit time now : ℕ) (id : List ℕ) (rs : List Removal) → time ≤ now → was_lately limit time id rs ≡ false → was_lately limit now id rs ≡ false
not-lately limit time now id rs le e =
    untrue (was_lately limit now id rs) (was_lately limit time id rs) (lately-sooner limit time limit now id rs (omega arith)) e

-- ids of recent removals

ids_by : (b y : Bool) (id : List ℕ) (r : Removal) (rs : List Removal) → is_one_of id (removal_ids rs) ≡ y
    → is_one_of id (removal_ids (cond b (r ∷ rs) rs)) ≡ ((bytes_eq id r.id && b) || y)
ids_by true y id r rs h = ap (λ b. b || is_one_of id (removal_ids rs)) (sym (and-true (bytes_eq id r.id))) ∙ ap (λ b. (bytes_eq id r.id && true) || b) h
ids_by false y id r rs h = h ∙ ap (λ b. b || y) (sym (and_right (bytes_eq id r.id) false refl))

pub lately-ids : (limit now : ℕ) (id : List ℕ) (rs : List Removal) → is_one_of id (removal_ids (filter (is_recent limit now) rs)) ≡ was_lately limit now id rs
lately-ids limit now id [] = refl
lately-ids limit now id (r ∷ rs) =
    ids_by (is_recent limit now r) (was_lately limit now id rs) id r (filter (is_recent limit now) rs) (lately-ids limit now id rs)

-- one more removal, now

recent_now : (limit now time : ℕ) (id : List ℕ) → now ≤ time + limit → is_recent limit now (record { id = id; removed = time }) ≡ true
recent_now limit now time id le = grind (arith, nat_tests)

abbrev with_last : List ℕ → ℕ → List Removal → List Removal
with_last id time rs = rs ++ (record { id = id; removed = time }) ∷ []

-- its own id
pub lately-last : (limit now : ℕ) (id : List ℕ) (time : ℕ) (rs : List Removal) → now ≤ time + limit → was_lately limit now id (with_last id time rs) ≡ true
lately-last limit now id time rs le =
    let r : Removal = record { id = id; removed = time } in
    list_any-append (λ (r : Removal). bytes_eq id r.id && is_recent limit now r) rs (r ∷ [])
    ∙ or_right (was_lately limit now id rs) ((bytes_eq id id && is_recent limit now r) || false)
    (or_left (bytes_eq id id && is_recent limit now r) false
    (and_from (bytes_eq id id) (is_recent limit now r) (same-bytes id) (recent_now limit now time id le)))

case_or : {P : Type 0} (a b : Bool) → (a ≡ true → P) → (b ≡ true → P) → (a || b) ≡ true → P
case_or true b f g e = f refl
case_or false b f g e = g e

more_by : (limit now : ℕ) (j id : List ℕ) (time : ℕ) (r : Removal) (rs : List Removal) (b : Bool) → bytes_eq id r.id ≡ b → now ≤ time + limit
    → (was_lately limit now j rs ≡ true → was_lately limit now j (with_last id time (other_removals id rs)) ≡ true)
    → ((bytes_eq j r.id && is_recent limit now r) || was_lately limit now j rs) ≡ true
    → was_lately limit now j (with_last id time (cond (not b) (r ∷ other_removals id rs) (other_removals id rs))) ≡ true
more_by limit now j id time r rs true e le h k =
    case_or (bytes_eq j r.id && is_recent limit now r) (was_lately limit now j rs)
    (λ t. let here = (bytes_eq-Decides j r.id).0 (and_parts (bytes_eq j r.id) (is_recent limit now r) t).0 in
    subst (λ i. was_lately limit now i (with_last id time (other_removals id rs)) ≡ true) ((bytes_eq-Decides id r.id).0 e ∙ sym here)
    (lately-last limit now id time (other_removals id rs) le)) h k
more_by limit now j id time r rs false e le h k =
    either (bytes_eq j r.id && is_recent limit now r) (was_lately limit now j rs) (bytes_eq j r.id && is_recent limit now r)
    (was_lately limit now j (with_last id time (other_removals id rs))) (λ t. t) h k

-- an id that was taken away before
pub lately-more : (limit now : ℕ) (j id : List ℕ) (time : ℕ) (rs : List Removal) → now ≤ time + limit → was_lately limit now j rs ≡ true
    → was_lately limit now j (with_last id time (other_removals id rs)) ≡ true
lately-more limit now j id time [] le e = absurd (true≢false (sym e))
lately-more limit now j id time (r ∷ rs) le e =
    more_by limit now j id time r rs (bytes_eq id r.id) refl le (lately-more limit now j id time rs le) e

-- an id that was not
pub lately-other : (limit now : ℕ) (j id : List ℕ) (time : ℕ) (rs : List Removal) → bytes_eq id j ≡ false → was_lately limit now j rs ≡ false
    → was_lately limit now j (with_last id time (other_removals id rs)) ≡ false
lately-other limit now j id time rs apart e =
    let p : Removal → Bool = λ r. bytes_eq j r.id && is_recent limit now r in
    let r : Removal = record { id = id; removed = time } in
    list_any-append p (other_removals id rs) (r ∷ [])
    ∙ or_from (was_lately limit now j (other_removals id rs)) (p r || false) (none-left p (λ (x : Removal). not (bytes_eq id x.id)) rs e)
    (or_from (p r) false (and_left (bytes_eq j id) (is_recent limit now r) (bytes-back j id ∙ apart)) refl)

-- an id that is free

free_by : (limit now : ℕ) (id : List ℕ) (r : Removal) (left : List Removal) (lately b c : Bool) → is_recent limit now r ≡ b → bytes_eq id r.id ≡ c
    → (is_recent_one limit now (find (λ (r : Removal). bytes_eq id r.id) left) ≡ false → lately ≡ false)
    → is_recent_one limit now (find (λ (r : Removal). bytes_eq id r.id) (cond b (r ∷ left) left)) ≡ false
    → ((c && b) || lately) ≡ false
free_by limit now id r left lately true true e f h k =
    absurd (true≢false (sym e ∙ sym (ap (λ t. is_recent_one limit now (cond t (Some r) (find (λ (r : Removal). bytes_eq id r.id) left))) f) ∙ k))
free_by limit now id r left lately true false e f h k =
    h (sym (ap (λ t. is_recent_one limit now (cond t (Some r) (find (λ (r : Removal). bytes_eq id r.id) left))) f) ∙ k)
free_by limit now id r left lately false true e f h k = h k
free_by limit now id r left lately false false e f h k = h k

pub lately-free : (limit now : ℕ) (id : List ℕ) (rs : List Removal)
    → is_recent_one limit now (find (λ (r : Removal). bytes_eq id r.id) (filter (is_recent limit now) rs)) ≡ false → was_lately limit now id rs ≡ false
lately-free limit now id [] e = refl
lately-free limit now id (r ∷ rs) e =
    free_by limit now id r (filter (is_recent limit now) rs) (was_lately limit now id rs) (is_recent limit now r) (bytes_eq id r.id) refl refl
    (lately-free limit now id rs) e
