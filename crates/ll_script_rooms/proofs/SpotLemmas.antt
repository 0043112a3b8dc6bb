-- The first place of a key is that of the first element of this key.
use Rattle.std.proofs.Common.{◌≡◌, ℕ, ◌<◌, ◌==◌, ◌&&◌, List, Bool, true, false, Some, None, find, refl, ap, ap₂, sym, ◌∙◌, true≢false}
use Rattle.std.proofs.lemmas.Option.{none-some}
use Rattle.std.specs.Cmp.{first_so, nat_cmp_is, nat_cmp_total, second_so, tied_itself}
use Rattle.std.specs.Ordering.{is_gt, nat_cmp, ordering_then}
use Rattle.std.specs.declared.cmp.Ordering.TheVariants.{Less, Greater}
use Rattle.ll_book.specs.Numbers.{AreRising, has_number}
use Rattle.ll_book.specs.Places.{IsBefore, IsNext, IsOrder, place_cmp, stands}
use Rattle.ll_book.specs.declared.place.OrderKey.{OrderKey}
use Rattle.ll_book.proofs.Keyed.{itself, same}
use Rattle.ll_book.proofs.Orders.{in_place, of_place}
use Rattle.ll_script_rooms.specs.Spots.{spot}
use Rattle.ll_script_rooms.proofs.Firsts.{found_above, least_passes, none_passes}

-- places of one key stand by their numbers
one_key : (g k a b : ℕ) → place_cmp (spot g k a) (spot g k b) ≡ nat_cmp a b
one_key g k a b =
    ap₂ (λ x y. ordering_then x (ordering_then (nat_cmp 0 0) (ordering_then y (ordering_then (nat_cmp 0 0) (nat_cmp a b))))) (tied_itself nat_cmp_total g) (tied_itself nat_cmp_total k)

before : (g k n : ℕ) → 0 < n → IsBefore (spot g k 0) (spot g k n)
before g k n h = one_key g k 0 n ∙ sym (nat_cmp_is 0 n Less h)

behind : (g k n m : ℕ) → m < n → is_gt (place_cmp (spot g k n) (spot g k m)) ≡ true
behind g k n m h = ap is_gt (one_key g k n m ∙ sym (nat_cmp_is n m Greater h))

module _ {V : Type 0} (number group rank : V → ℕ) where
  -- where an element stands, and whether it has this key
  abbrev pub place_in : V → OrderKey
  place_in v = spot (group v) (rank v) (number v)

  abbrev pub has_key : ℕ → ℕ → V → Bool
  has_key g k v = group v == g && rank v == k

  module _ (vs : List V) (places : List OrderKey) (rising : AreRising number 0 vs) (order : IsOrder number (λ v. true) place_in vs places) (g k : ℕ) where
    there : (v : V) → find (has_number number (number v)) vs ≡ Some v → has_key g k v ≡ true → stands places (spot g k (number v)) ≡ true
    there v f h =
        ap (stands places) (ap₂ (λ a b. spot a b (number v)) (sym (same (group v) g (first_so (group v == g) (rank v == k) h))) (sym (same (rank v) k (second_so (group v == g) (rank v == k) h))))
        ∙ in_place number (λ v. true) place_in (λ v. refl) vs places v order f

    -- no place of the key is taken: none has the key
    pub none_of : ((n : ℕ) → 0 < n → stands places (spot g k n) ≡ false) → find (has_key g k) vs ≡ None
    none_of none = none_passes number (has_key g k) 0 vs rising
        (λ w f h. true≢false (sym (there w f h) ∙ none (number w) (found_above number (has_number number (number w)) 0 w vs rising f)))

    -- the number of the first place is that of the first element
    pub first_of : (n : ℕ) → IsNext (spot g k 0) (spot g k n) places → find (has_key g k) vs ≡ find (has_number number n) vs
    first_of n next =
        let it = of_place number (λ v. true) place_in (λ v. refl) (spot g k n) vs places order next.there in
        least_passes number (has_key g k) 0 n it.element vs rising it.there
        (ap (λ (p : OrderKey). p.group == g && p.rank == k) it.at ∙ ap₂ (λ a b. a && b) (itself g) (itself k))
        (λ w f h low. true≢false (sym (behind g k n (number w) low)
        ∙ next.first (spot g k (number w)) (before g k (number w) (found_above number (has_number number (number w)) 0 w vs rising f)) (there w f h)))
        ∙ sym it.there

    -- under the number of the first place an element is found
    pub is_there : (n : ℕ) → IsNext (spot g k 0) (spot g k n) places → find (has_number number n) vs ≡ None → ⊥
    is_there n next none =
        let it = of_place number (λ v. true) place_in (λ v. refl) (spot g k n) vs places order next.there in
        none-some it.element (sym none ∙ it.there)
