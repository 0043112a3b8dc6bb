-- Date ranges are listed in order of adding, so those that a delta update may skip are the first ones.
use Rattle.std.proofs.Common.{◌≡◌, ◌≤◌, ℕ, ◌+◌, List, [], ◌∷◌, ◌++◌, Bool, true, false, not, cond, drop, filter, length, bytes_eq, append-nil, append_assoc, refl, ap, sym, subst, ◌∙◌, arith}
use Rattle.std.proofs.lemmas.Bool.Decides.{nat_tests}
use Rattle.std.proofs.lemmas.List.Sums.{fold-append}
use Rattle.ll_attr.specs.Attributes.{spelling}
use Rattle.ll_settings.specs.Settings.{skip_limit}
use Rattle.ll_item.specs.declared.item.Item.{Item}
use Rattle.ll_item.specs.declared.item.Item.TheVariants as item
use Rattle.ll_item.specs.Told.{Listed, Told, start, step, told}
use Rattle.ll_range.specs.Announced.{SkippedLaw, is_skipped}

-- each of these was added at this time or later
abbrev pub AreAfter : ℕ → List Listed → Type 0
AreAfter time [] = Unit
AreAfter time (x ∷ xs) = (time ≤ x.added) × AreAfter time xs

-- each of these was added at this time or earlier
abbrev pub AreBefore : ℕ → List Listed → Type 0
AreBefore time [] = Unit
AreBefore time (x ∷ xs) = (x.added ≤ time) × AreBefore time xs

-- no one was added before an earlier one
abbrev pub AreInOrder : List Listed → Type 0
AreInOrder [] = Unit
AreInOrder (x ∷ xs) = AreAfter x.added xs × AreInOrder xs

-- some of them

after_by : (t : ℕ) (b : Bool) (x : Listed) (xs : List Listed) → t ≤ x.added → AreAfter t xs → AreAfter t (cond b (x ∷ xs) xs)
after_by t true x xs le h = (le, h)
after_by t false x xs le h = h

pub after-fewer : (t : ℕ) (p : Listed → Bool) (xs : List Listed) → AreAfter t xs → AreAfter t (filter p xs)
after-fewer t p [] h = tt
after-fewer t p (x ∷ xs) h = after_by t (p x) x (filter p xs) h.0 (after-fewer t p xs h.1)

before_by : (t : ℕ) (b : Bool) (x : Listed) (xs : List Listed) → x.added ≤ t → AreBefore t xs → AreBefore t (cond b (x ∷ xs) xs)
before_by t true x xs le h = (le, h)
before_by t false x xs le h = h

pub before-fewer : (t : ℕ) (p : Listed → Bool) (xs : List Listed) → AreBefore t xs → AreBefore t (filter p xs)
before-fewer t p [] h = tt
before-fewer t p (x ∷ xs) h = before_by t (p x) x (filter p xs) h.0 (before-fewer t p xs h.1)

order_by : (b : Bool) (x : Listed) (xs : List Listed) → AreAfter x.added xs → AreInOrder xs → AreInOrder (cond b (x ∷ xs) xs)
order_by true x xs h k = (h, k)
order_by false x xs h k = k

pub order-fewer : (p : Listed → Bool) (xs : List Listed) → AreInOrder xs → AreInOrder (filter p xs)
order-fewer p [] h = tt
order-fewer p (x ∷ xs) h = order_by (p x) x (filter p xs) (after-fewer x.added p xs h.0) (order-fewer p xs h.1)

-- one more, which is added last

pub before-later : (t u : ℕ) (xs : List Listed) → t ≤ u → AreBefore t xs → AreBefore u xs
before-later t u [] le h = tt
before-later t u (x ∷ xs) le h = (let a = h.0 in omega (arith, a, le), before-later t u xs le h.1)

before_more : (t : ℕ) (xs : List Listed) (x : Listed) → AreBefore t xs → x.added ≤ t → AreBefore t (xs ++ x ∷ [])
before_more t [] x h le = (le, tt)
before_more t (y ∷ ys) x h le = (h.0, before_more t ys x h.1 le)

after_more : (t : ℕ) (xs : List Listed) (x : Listed) → AreAfter t xs → t ≤ x.added → AreAfter t (xs ++ x ∷ [])
after_more t [] x h le = (le, tt)
after_more t (y ∷ ys) x h le = (h.0, after_more t ys x h.1 le)

order_more : (xs : List Listed) (x : Listed) → AreInOrder xs → AreBefore x.added xs → AreInOrder (xs ++ x ∷ [])
order_more [] x h k = (tt, tt)
order_more (y ∷ ys) x h k = (after_more y.added ys x h.0 k.0, order_more ys x h.1 k.1)

-- of what is kept of a list of items

pub record IsInOrder (t : Told) : Type 0 where
  pub listed : AreInOrder t.listed
  pub before : AreBefore t.end_time t.listed

in_order_step : (t : Told) (i : Item) → IsInOrder t → IsInOrder (step t i)
in_order_step t (item.Part part) h = record { listed = h.listed; before = before-later t.end_time (t.end_time + part.duration) t.listed (omega arith) h.before }
in_order_step t (item.Finish r) h = record { listed = h.listed; before = h.before }
in_order_step t (item.Break r time) h = record { listed = h.listed; before = h.before }
in_order_step t (item.Init r media) h = record { listed = h.listed; before = h.before }
in_order_step t (item.End r) h = record { listed = h.listed; before = h.before }
in_order_step t (item.Range r id attributes) h =
    let x : Listed = record { id = id; attributes = spelling attributes; added = t.end_time } in
    record { listed = order_more t.listed x h.listed h.before; before = before_more t.end_time t.listed x h.before (omega arith) }
in_order_step t (item.Unrange r id) h =
    let keep : Listed → Bool = λ (x : Listed). not (bytes_eq id x.id) in
    record { listed = order-fewer keep t.listed h.listed; before = before-fewer t.end_time keep t.listed h.before }

in_order_after : (before items : List Item) → IsInOrder (told before) → IsInOrder (told (before ++ items))
in_order_after before [] h = rw (append-nil before) h
in_order_after before (i ∷ items) h =
    rw (append_assoc before (i ∷ []) items) at (in_order_after (before ++ i ∷ []) items
    (subst IsInOrder (sym (fold-append step start before (i ∷ []))) (in_order_step (told before) i h)))

pub in-order : (items : List Item) → IsInOrder (told items)
in-order items = in_order_after [] items (record { listed = tt; before = tt })

-- those that may be skipped come first

abbrev stays : ℕ → ℕ → Listed → Bool
stays limit now x = not (is_skipped limit now x)

none_skipped : (limit now : ℕ) (x : Listed) (xs : List Listed) → is_skipped limit now x ≡ false → AreAfter x.added xs → length (filter (is_skipped limit now) xs) ≡ 0
none_skipped limit now x [] e h = refl
none_skipped limit now x (y ∷ ys) e h =
    let le = h.0 in
    let later : is_skipped limit now y ≡ false = grind (arith, nat_tests) in
    ap (λ b. length (cond b (y ∷ filter (is_skipped limit now) ys) (filter (is_skipped limit now) ys))) later ∙ none_skipped limit now x ys e h.1

all_stay : (limit now : ℕ) (x : Listed) (xs : List Listed) → is_skipped limit now x ≡ false → AreAfter x.added xs → xs ≡ filter (stays limit now) xs
all_stay limit now x [] e h = refl
all_stay limit now x (y ∷ ys) e h =
    let le = h.0 in
    let later : is_skipped limit now y ≡ false = grind (arith, nat_tests) in
    ap (λ zs. y ∷ zs) (all_stay limit now x ys e h.1) ∙ ap (λ b. cond (not b) (y ∷ filter (stays limit now) ys) (filter (stays limit now) ys)) (sym later)

left_by : (limit now : ℕ) (x : Listed) (xs : List Listed) (b : Bool) → is_skipped limit now x ≡ b → AreAfter x.added xs
    → drop (length (filter (is_skipped limit now) xs)) xs ≡ filter (stays limit now) xs
    → drop (length (cond b (x ∷ filter (is_skipped limit now) xs) (filter (is_skipped limit now) xs))) (x ∷ xs)
    ≡ cond (not b) (x ∷ filter (stays limit now) xs) (filter (stays limit now) xs)
left_by limit now x xs true e h k = k
left_by limit now x xs false e h k =
    ap (λ n. drop n (x ∷ xs)) (none_skipped limit now x xs e h) ∙ ap (λ ys. x ∷ ys) (all_stay limit now x xs e h)

pub left-in-order : (limit now : ℕ) (xs : List Listed) → AreInOrder xs → drop (length (filter (is_skipped limit now) xs)) xs ≡ filter (stays limit now) xs
left-in-order limit now [] h = refl
left-in-order limit now (x ∷ xs) h = left_by limit now x xs (is_skipped limit now x) refl h.0 (left-in-order limit now xs h.1)

pub skipped-first : SkippedLaw
skipped-first c items now = left-in-order (skip_limit c) now (told items).listed (in-order items).listed
