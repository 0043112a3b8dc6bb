-- The tickets whose replies are there, after each change.
use Rattle.std.proofs.Common.{◌≡◌, ℕ, zero, suc, ◌<◌, ◌≤◌, ◌==◌, List, [], ◌∷◌, Bool, true, false, not, cond, Some, None, find, get_or, length, nat_lt, refl, ap, sym, ◌∙◌, subst, true≢false, arith}
use Rattle.std.proofs.lemmas.Bool.Decides.{nat_tests}
use Rattle.std.specs.List.{insert, remove}
use Rattle.ll_book.specs.Numbers.{AreRising, all_but, has_number}
use Rattle.ll_book.proofs.Keyed.{above, all_above, itself, not_here}
use Rattle.ll_book.specs.Orders.{put_by, put_in}

abbrev pub itself_of : ℕ → ℕ
itself_of n = n

-- a ticket at a place is above those before it
rises_from : (low : ℕ) (ns : List ℕ) (j : ℕ) → AreRising itself_of low ns → j < length ns → low < get_or ns j 0
rises_from low [] j r h = absurd (omega (arith, h))
rises_from low (n ∷ ns) zero r h = r.0
rises_from low (n ∷ ns) (suc j) r h = let more : n < get_or ns j 0 = rises_from n ns j r.1 (omega (arith, h)) in omega (arith, r.0, more)

-- no ticket is below one before it
pub no_fall : (low : ℕ) (ns : List ℕ) (i j : ℕ) → AreRising itself_of low ns → i ≤ j → j < length ns → get_or ns i 0 ≤ get_or ns j 0
no_fall low [] i j r le h = absurd (omega (arith, h))
no_fall low (n ∷ ns) zero zero r le h = omega arith
no_fall low (n ∷ ns) zero (suc j) r le h = let more : n < get_or ns j 0 = rises_from n ns j r.1 (omega (arith, h)) in omega (arith, more)
no_fall low (n ∷ ns) (suc i) zero r le h = absurd (omega (arith, le))
no_fall low (n ∷ ns) (suc i) (suc j) r le h = no_fall n ns i j r.1 (omega (arith, le)) (omega (arith, h))

-- ---- one leaves

-- the ticket at a place
pub left_at : (low t i : ℕ) (ns : List ℕ) → AreRising itself_of low ns → i < length ns → get_or ns i 0 ≡ t → remove ns i ≡ all_but itself_of t ns
left_at low t i [] r h e = absurd (omega (arith, h))
left_at low t zero (n ∷ ns) r h e =
    let here : (n == t) ≡ true = grind (arith, nat_tests, e) in
    sym (ap (λ b. cond (not b) (n ∷ all_but itself_of t ns) (all_but itself_of t ns)) here ∙ all_above itself_of t ns (subst (λ m. AreRising itself_of m ns) e r.1))
left_at low t (suc i) (n ∷ ns) r h e =
    let under : n < get_or ns i 0 = rises_from n ns i r.1 (omega (arith, h)) in
    let apart : (n == t) ≡ false = grind (arith, nat_tests, e, under) in
    ap (λ xs. n ∷ xs) (left_at n t i ns r.1 (omega (arith, h)) e) ∙ sym (ap (λ b. cond (not b) (n ∷ all_but itself_of t ns) (all_but itself_of t ns)) apart)

-- a ticket that has no place isn't found
pub absent : (t i : ℕ) (ns : List ℕ) → ((k : ℕ) → k < i → get_or ns k 0 < t) → ((k : ℕ) → i ≤ k → k < length ns → t < get_or ns k 0) → find (has_number itself_of t) ns ≡ None
absent t i [] f g = refl
absent t zero (n ∷ ns) f g =
    let over : t < n = g 0 (omega arith) (omega arith) in
    ap (λ b. cond b (Some n) (find (has_number itself_of t) ns)) (above t n over) ∙ absent t zero ns (λ k h. absurd (omega (arith, h))) (λ k le h. g (suc k) (omega arith) (omega (arith, h)))
absent t (suc i) (n ∷ ns) f g =
    let under : n < t = f 0 (omega arith) in
    let apart : (n == t) ≡ false = grind (arith, nat_tests, under) in
    ap (λ b. cond b (Some n) (find (has_number itself_of t) ns)) apart ∙ absent t i ns (λ k h. f (suc k) (omega (arith, h))) (λ k le h. g (suc k) (omega (arith, le)) (omega (arith, h)))

-- ---- one more

-- a ticket goes to its place
pub put_at : (t i : ℕ) (ns : List ℕ) → i ≤ length ns → ((k : ℕ) → k < i → get_or ns k 0 < t) → ((k : ℕ) → i ≤ k → k < length ns → t < get_or ns k 0) → insert ns i t ≡ put_in t ns
put_at t zero [] le f g = refl
put_at t (suc i) [] le f g = absurd (omega (arith, le))
put_at t zero (n ∷ ns) le f g =
    let over : t < n = g 0 (omega arith) (omega arith) in
    let not_under : nat_lt n t ≡ false = grind (arith, nat_tests, over) in
    sym (ap (λ b. put_by b t n ns (put_in t ns)) not_under)
put_at t (suc i) (n ∷ ns) le f g =
    let low : n < t = f 0 (omega arith) in
    let under : nat_lt n t ≡ true = grind (arith, nat_tests, low) in
    ap (λ xs. n ∷ xs) (put_at t i ns (omega (arith, le)) (λ k h. f (suc k) (omega (arith, h))) (λ k l h. g (suc k) (omega (arith, l)) (omega (arith, h))))
    ∙ sym (ap (λ b. put_by b t n ns (put_in t ns)) under)

rises_by : (low t n : ℕ) (ns : List ℕ) (b : Bool) → nat_lt n t ≡ b → low < t → (n == t) ≡ false → low < n → AreRising itself_of n ns → (n < t → AreRising itself_of n (put_in t ns)) → AreRising itself_of low (put_by b t n ns (put_in t ns))
rises_by low t n ns true h l apart k r ih = (k, ih (grind (arith, nat_tests, h)))
rises_by low t n ns false h l apart k r ih = (l, (grind (arith, nat_tests, h, apart), r))

pub put_rises : (low t : ℕ) (ns : List ℕ) → low < t → find (has_number itself_of t) ns ≡ None → AreRising itself_of low ns → AreRising itself_of low (put_in t ns)
put_rises low t [] h a r = (h, tt)
put_rises low t (n ∷ ns) h a r =
    let rest = not_here itself_of (n == t) n (find (has_number itself_of t) ns) a in
    rises_by low t n ns (nat_lt n t) refl h rest.0 r.0 r.1 (λ k. put_rises n t ns k rest.1 r.1)

find_by : (n t m : ℕ) (ns rest : List ℕ) (b : Bool) → nat_lt m t ≡ b → find (has_number itself_of n) rest ≡ cond (t == n) (Some t) (find (has_number itself_of n) ns)
    → find (has_number itself_of n) (put_by b t m ns rest) ≡ cond (t == n) (Some t) (cond (m == n) (Some m) (find (has_number itself_of n) ns))
find_by n t m ns rest true h ih = ap (λ o. cond (m == n) (Some m) o) ih ∙ turned (m == n) (t == n) (λ e k. let under : nat_lt m t ≡ true = h in absurd (true≢false (grind (arith, nat_tests, h, e, k))))
  where
    turned : (a b : Bool) → (a ≡ true → b ≡ true → ⊥) → cond a (Some m) (cond b (Some t) (find (has_number itself_of n) ns)) ≡ cond b (Some t) (cond a (Some m) (find (has_number itself_of n) ns))
    turned true true f = absurd (f refl refl)
    turned true false f = refl
    turned false b f = refl
find_by n t m ns rest false h ih = refl

-- what is found then
pub find_put : (n t : ℕ) (ns : List ℕ) → find (has_number itself_of n) (put_in t ns) ≡ cond (t == n) (Some t) (find (has_number itself_of n) ns)
find_put n t [] = refl
find_put n t (m ∷ ns) = find_by n t m ns (put_in t ns) (nat_lt m t) refl (find_put n t ns)

-- a ticket at a place is found
pub stands_at : (t i : ℕ) (ns : List ℕ) → i < length ns → get_or ns i 0 ≡ t → find (has_number itself_of t) ns ≡ Some t
stands_at t i [] h e = absurd (omega (arith, h))
stands_at t zero (n ∷ ns) h e = ap (λ m. cond (m == t) (Some m) (find (has_number itself_of t) ns)) e ∙ ap (λ b. cond b (Some t) (find (has_number itself_of t) ns)) (itself t)
stands_at t (suc i) (n ∷ ns) h e = by_head (n == t) refl (stands_at t i ns (omega (arith, h)) e)
  where
    by_head : (b : Bool) → (n == t) ≡ b → find (has_number itself_of t) ns ≡ Some t → cond b (Some n) (find (has_number itself_of t) ns) ≡ Some t
    by_head true k f = let is : n ≡ t = grind (arith, nat_tests, k) in ap Some is
    by_head false k f = f

-- a ticket that is there may be put once more
pub there_already : (n t : ℕ) (ns : List ℕ) → find (has_number itself_of t) ns ≡ Some t → find (has_number itself_of n) ns ≡ cond (t == n) (Some t) (find (has_number itself_of n) ns)
there_already n t ns h = by_number (t == n) refl
  where
    by_number : (b : Bool) → (t == n) ≡ b → find (has_number itself_of n) ns ≡ cond b (Some t) (find (has_number itself_of n) ns)
    by_number true k = let is : t ≡ n = grind (arith, nat_tests, k) in ap (λ m. find (has_number itself_of m) ns) (sym is) ∙ h
    by_number false k = refl
