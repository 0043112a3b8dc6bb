-- Each ticket occurs once, whatever is added and removed.
use Rattle.std.proofs.Common.{◌≡◌, ℕ, ◌==◌, ◌||◌, List, [], ◌∷◌, ◌++◌, Bool, true, false, not, cond, refl, ap, ap₂, ◌∙◌, sym, true≢false, arith}
use Rattle.std.proofs.lemmas.Bool.Decides.{nat_tests}
use Rattle.ll_room.specs.RoomValue.{AreDistinct, among, less}

turn : (i j : ℕ) → (j == i) ≡ false → (i == j) ≡ false
turn i j f = grind (arith, nat_tests, f)

absent_by : (t m : ℕ) (ms : List ℕ) (b : Bool) → (b || among t ms) ≡ false → (among t ms ≡ false → less t ms ≡ ms) → cond (not b) (m ∷ less t ms) (less t ms) ≡ m ∷ ms
absent_by t m ms true h ih = absurd (true≢false h)
absent_by t m ms false h ih = ap (λ ns. m ∷ ns) (ih h)

-- if a number isn't there, nothing leaves
pub absent : (t : ℕ) (ns : List ℕ) → among t ns ≡ false → less t ns ≡ ns
absent t [] h = refl
absent t (m ∷ ms) h = absent_by t m ms (m == t) h (absent t ms)

gone_by : (t m : ℕ) (ms : List ℕ) (b : Bool) → (m == t) ≡ b → among t (less t ms) ≡ false → among t (cond (not b) (m ∷ less t ms) (less t ms)) ≡ false
gone_by t m ms true e ih = ih
gone_by t m ms false e ih = ap (λ b. b || among t (less t ms)) e ∙ ih

-- a number that has left isn't there
pub left_is_gone : (t : ℕ) (ns : List ℕ) → among t (less t ns) ≡ false
left_is_gone t [] = refl
left_is_gone t (m ∷ ms) = gone_by t m ms (m == t) refl (left_is_gone t ms)

-- a newest number that leaves the old ones is none of them
pub newest_is_new : (t : ℕ) (ns : List ℕ) → less t (ns ++ t ∷ []) ≡ ns → among t ns ≡ false
newest_is_new t ns h = ap (among t) (sym h) ∙ left_is_gone t (ns ++ t ∷ [])

or_left : (a b : Bool) → (a || b) ≡ false → a ≡ false
or_left true b h = h
or_left false b h = refl

or_right : (a b : Bool) → (a || b) ≡ false → b ≡ false
or_right true b h = absurd (true≢false h)
or_right false b h = h

or_both : (a b : Bool) → a ≡ false → b ≡ false → (a || b) ≡ false
or_both a b h k = ap₂ (λ a b. a || b) h k

fewer_by : (n t m : ℕ) (ms : List ℕ) (b : Bool) → ((m == n) || among n ms) ≡ false → among n (less t ms) ≡ false → among n (cond b (m ∷ less t ms) (less t ms)) ≡ false
fewer_by n t m ms true h ih = or_both (m == n) (among n (less t ms)) (or_left (m == n) (among n ms) h) ih
fewer_by n t m ms false h ih = ih

fewer_hold : (n t : ℕ) (ns : List ℕ) → among n ns ≡ false → among n (less t ns) ≡ false
fewer_hold n t [] h = refl
fewer_hold n t (m ∷ ms) h = fewer_by n t m ms (not (m == t)) h (fewer_hold n t ms (or_right (m == n) (among n ms) h))

distinct_by : (t m : ℕ) (ms : List ℕ) (b : Bool) → among m ms ≡ false → AreDistinct (less t ms) → AreDistinct (cond b (m ∷ less t ms) (less t ms))
distinct_by t m ms true h ih = (fewer_hold m t ms h, ih)
distinct_by t m ms false h ih = ih

pub distinct_less : (t : ℕ) (ns : List ℕ) → AreDistinct ns → AreDistinct (less t ns)
distinct_less t [] d = tt
distinct_less t (m ∷ ms) d = distinct_by t m ms (not (m == t)) d.0 (distinct_less t ms d.1)

more_hold : (n t : ℕ) (ns : List ℕ) → (t == n) ≡ false → among n ns ≡ false → among n (ns ++ t ∷ []) ≡ false
more_hold n t [] e h = or_both (t == n) false e refl
more_hold n t (m ∷ ms) e h = or_both (m == n) (among n (ms ++ t ∷ [])) (or_left (m == n) (among n ms) h) (more_hold n t ms e (or_right (m == n) (among n ms) h))

pub distinct_more : (t : ℕ) (ns : List ℕ) → AreDistinct ns → among t ns ≡ false → AreDistinct (ns ++ t ∷ [])
distinct_more t [] d h = (refl, tt)
distinct_more t (m ∷ ms) d h =
    (more_hold m t ms (turn t m (or_left (m == t) (among t ms) h)) d.0, distinct_more t ms d.1 (or_right (m == t) (among t ms) h))
