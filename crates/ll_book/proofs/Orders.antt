-- Each change of the elements and their places keeps an order.
use Rattle.std.proofs.Common.{◌≡◌, ℕ, ◌+◌, ◌==◌, ◌&&◌, List, [], ◌∷◌, ◌++◌, Bool, true, false, cond, Option, Some, None, filter, find, length, option_map, refl, ap, sym, ◌∙◌, true≢false, arith}
use Rattle.std.proofs.lemmas.Bool.Decides.{nat_tests}
use Rattle.std.proofs.lemmas.Cmp.{nat_cmp_total, on_total, then_total}
use Rattle.std.proofs.lemmas.Map.Lookups.{CmpEqualImpliesEq, exact_pairs, exact_unsigned}
use Rattle.std.specs.Cmp.{IsTotalOrder, tied_itself}
use Rattle.std.specs.Ordering.{is_eq, nat_cmp}
use Rattle.std.specs.declared.cmp.Ordering.{Ordering}
use Rattle.std.specs.declared.cmp.Ordering.TheVariants.{Less, Equal, Greater}
use Rattle.ll_book.specs.Numbers.{AreRising, AreUnder, all_but, change_if, changed, has_number}
use Rattle.ll_book.specs.Places.{Adds, IsOrder, Removes, is_place, place_cmp, stands, stands_at}
use Rattle.ll_book.specs.declared.place.OrderKey.{OrderKey}
use Rattle.ll_book.proofs.Keyed.{itself, same}
use Rattle.ll_book.proofs.Finds.{count_but, count_changed, count_pushed, find_but, find_changed, find_pushed, its_number, none_above}

-- ---- places

pub place_total : IsTotalOrder place_cmp
place_total = then_total (on_total (λ (p : OrderKey). p.group) nat_cmp_total) (then_total (on_total (λ (p : OrderKey). p.kind) nat_cmp_total)
    (then_total (on_total (λ (p : OrderKey). p.rank) nat_cmp_total) (then_total (on_total (λ (p : OrderKey). p.subrank) nat_cmp_total) (on_total (λ (p : OrderKey). p.number) nat_cmp_total))))

pub place_exact : CmpEqualImpliesEq place_cmp
place_exact a b h =
    ap (λ (p : ℕ × (ℕ × (ℕ × (ℕ × ℕ)))). record { group = p.0; kind = p.1.0; rank = p.1.1.0; subrank = p.1.1.1.0; number = p.1.1.1.1 })
    (exact_pairs nat_cmp _ exact_unsigned (exact_pairs nat_cmp _ exact_unsigned (exact_pairs nat_cmp _ exact_unsigned (exact_pairs nat_cmp nat_cmp exact_unsigned exact_unsigned)))
    (a.group, (a.kind, (a.rank, (a.subrank, a.number)))) (b.group, (b.kind, (b.rank, (b.subrank, b.number)))) h)

equal_from : (o : Ordering) → is_eq o ≡ true → o ≡ Equal
equal_from Less h = absurd (true≢false (sym h))
equal_from Equal h = refl
equal_from Greater h = absurd (true≢false (sym h))

pub this_place : (p q : OrderKey) → is_place p q ≡ true → p ≡ q
this_place p q h = place_exact p q (equal_from (place_cmp p q) h)

pub own_place : (p : OrderKey) → is_place p p ≡ true
own_place p = ap is_eq (tied_itself place_total p)

elsewhere_by : (p q : OrderKey) (b : Bool) → is_place p q ≡ b → (q.number == p.number) ≡ false → b ≡ false
elsewhere_by p q true h f = absurd (true≢false (sym (itself p.number) ∙ ap (λ (z : OrderKey). z.number == p.number) (this_place p q h) ∙ f))
elsewhere_by p q false h f = refl

-- a place of another number
elsewhere : (p q : OrderKey) → (q.number == p.number) ≡ false → is_place p q ≡ false
elsewhere p q f = elsewhere_by p q (is_place p q) refl f

pub flip : (a b : ℕ) → (a == b) ≡ (b == a)
flip a b = grind (arith, nat_tests)

as_it_is : (b : Bool) → cond b true false ≡ b
as_it_is true = refl
as_it_is false = refl

none_of : (b c : Bool) → cond b false (c && b) ≡ false
none_of true c = refl
none_of false true = refl
none_of false false = refl

split : {X : Type 0} (b : Bool) → (b ≡ true → X) → (b ≡ false → X) → X
split true f g = f refl
split false f g = g refl

module _ {V : Type 0} (number : V → ℕ) (is_in : V → Bool) (place : V → OrderKey) (own : (v : V) → (place v).number ≡ number v) where
  abbrev found : ℕ → List V → Option V
  found n vs = find (has_number number n) vs

  -- a place of an element's number
  at_own : (vs : List V) (places : List OrderKey) (v : V) (q : OrderKey) (o : Option V) → IsOrder number is_in place vs places → found (number v) vs ≡ o
      → (q.number == number v) ≡ true → stands places q ≡ stands_at number is_in place q o
  at_own vs places v q o order f h = order.told q ∙ ap (stands_at number is_in place q) (ap (λ n. found n vs) (same q.number (number v) h) ∙ f)

  other_place : (v : V) (q : OrderKey) → (q.number == number v) ≡ false → is_place (place v) q ≡ false
  other_place v q h = elsewhere (place v) q (ap (λ n. q.number == n) (own v) ∙ h)

  -- whether an element's own place is taken
  pub its_place : (vs : List V) (places : List OrderKey) (v : V) (o : Option V) → IsOrder number is_in place vs places → found (number v) vs ≡ o
      → stands places (place v) ≡ stands_at number is_in place (place v) o
  its_place vs places v o order f = at_own vs places v (place v) o order f (ap (λ n. n == number v) (own v) ∙ itself (number v))

  pub in_place : (vs : List V) (places : List OrderKey) (v : V) → IsOrder number is_in place vs places → found (number v) vs ≡ Some v → stands places (place v) ≡ is_in v
  in_place vs places v order f = its_place vs places v (Some v) order f ∙ ap (λ b. is_in v && b) (own_place (place v)) ∙ both (is_in v)
    where
      both : (b : Bool) → (b && true) ≡ b
      both true = refl
      both false = refl

  -- a place that no element has
  free_place : (vs : List V) (places : List OrderKey) (v : V) → IsOrder number is_in place vs places → AreUnder number (number v) vs → stands places (place v) ≡ false
  free_place vs places v order b = its_place vs places v None order (none_above number (number v) vs b)

  module _ (vs : List V) (old new : List OrderKey) (v : V) (order : IsOrder number is_in place vs old) where
    -- one more stands in it
    pub order_pushed : AreUnder number (number v) vs → is_in v ≡ true → Adds (place v) old new → IsOrder number is_in place (vs ++ v ∷ []) new
    order_pushed b inside added = record {
      told = λ q. split (q.number == number v)
          (λ h. added.told q ∙ ap (λ x. cond (is_place (place v) q) true x) (at_own vs old v q None order (none_above number (number v) vs b) h) ∙ as_it_is (is_place (place v) q)
          ∙ sym (ap (λ c. stands_at number is_in place q (cond c (Some v) (found q.number vs))) (flip (number v) q.number ∙ h) ∙ ap (λ c. c && is_place (place v) q) inside))
          (λ h. added.told q ∙ ap (λ c. cond c true (stands old q)) (other_place v q h) ∙ order.told q
          ∙ sym (ap (λ c. stands_at number is_in place q (cond c (Some v) (found q.number vs))) (flip (number v) q.number ∙ h)))
          ∙ ap (stands_at number is_in place q) (sym (find_pushed number q.number v vs b));
      count =
          let one : length new ≡ length old + 1 = added.count ∙ ap (λ c. length old + cond c 0 1) (free_place vs old v order b) in
          let more : length (filter is_in (vs ++ v ∷ [])) ≡ length (filter is_in vs) + 1 = count_pushed number is_in v vs ∙ ap (λ c. length (filter is_in vs) + cond c 1 0) inside in
          omega (arith, one, more, order.count);
    }

    -- one changes, and stands in it no longer
    pub order_changed : (f : V → V) → ((w : V) → number (f w) ≡ number w) → AreRising number 0 vs → found (number v) vs ≡ Some v → is_in v ≡ true → is_in (f v) ≡ false → Removes (place v) old new
        → IsOrder number is_in place (changed number (number v) f vs) new
    order_changed f stays r there inside out gone = record {
      told = λ q. split (q.number == number v)
          (λ h. gone.told q ∙ ap (λ x. cond (is_place (place v) q) false x) (at_own vs old v q (Some v) order there h) ∙ none_of (is_place (place v) q) (is_in v)
          ∙ sym (ap (λ o. stands_at number is_in place q (option_map (λ w. change_if (number w == number v) f w) o)) (ap (λ n. found n vs) (same q.number (number v) h) ∙ there)
          ∙ ap (λ c. stands_at number is_in place q (Some (change_if c f v))) (itself (number v)) ∙ ap (λ c. c && is_place (place (f v)) q) out))
          (λ h. gone.told q ∙ ap (λ c. cond c false (stands old q)) (other_place v q h) ∙ order.told q
          ∙ sym (ap (stands_at number is_in place q) (unchanged f q.number (found q.number vs) refl h)))
          ∙ ap (stands_at number is_in place q) (sym (find_changed number f stays q.number (number v) vs));
      count =
          let less : length new + 1 ≡ length old = ap (λ c. length new + cond c 1 0) (sym (in_place vs old v order there ∙ inside)) ∙ gone.count in
          let fewer : length (filter is_in (changed number (number v) f vs)) + 1 ≡ length (filter is_in vs) =
          ap (λ c. length (filter is_in (changed number (number v) f vs)) + cond c 1 0) (sym inside) ∙ count_changed number is_in f (number v) 0 v vs r there ∙ ap (λ c. length (filter is_in vs) + cond c 1 0) out ∙ none_more (length (filter is_in vs)) in
          omega (arith, less, fewer, order.count);
    }
      where
        unchanged : (f : V → V) (n : ℕ) (o : Option V) → o ≡ found n vs → (n == number v) ≡ false → option_map (λ w. change_if (number w == number v) f w) o ≡ o
        unchanged f n None e h = refl
        unchanged f n (Some w) e h = ap Some (ap (λ c. change_if c f w) (ap (λ m. m == number v) (its_number number n w vs (sym e)) ∙ h))

        none_more : (n : ℕ) → n + 0 ≡ n
        none_more n = omega arith

    -- one leaves, whether it stands in it or not
    pub order_left : AreRising number 0 vs → found (number v) vs ≡ Some v → Removes (place v) old new → IsOrder number is_in place (all_but number (number v) vs) new
    order_left r there gone = record {
      told = λ q. split (q.number == number v)
          (λ h. gone.told q ∙ ap (λ x. cond (is_place (place v) q) false x) (at_own vs old v q (Some v) order there h) ∙ none_of (is_place (place v) q) (is_in v)
          ∙ sym (ap (λ c. stands_at number is_in place q (cond c None (found q.number vs))) h))
          (λ h. gone.told q ∙ ap (λ c. cond c false (stands old q)) (other_place v q h) ∙ order.told q
          ∙ sym (ap (λ c. stands_at number is_in place q (cond c None (found q.number vs))) h))
          ∙ ap (stands_at number is_in place q) (sym (find_but number q.number (number v) vs));
      count =
          let less : length new + cond (is_in v) 1 0 ≡ length old = ap (λ c. length new + cond c 1 0) (sym (in_place vs old v order there)) ∙ gone.count in
          omega (arith, less, count_but number is_in (number v) 0 v vs r there, order.count);
    }

  -- what was added and left again changes nothing
  pub order_undone : (vs : List V) (old new back : List OrderKey) (v : V) → IsOrder number is_in place vs old → AreUnder number (number v) vs → Adds (place v) old new → Removes (place v) new back
      → IsOrder number is_in place vs back
  order_undone vs old new back v order b added gone =
      let free = free_place vs old v order b in record {
        told = λ q. gone.told q ∙ ap (λ x. cond (is_place (place v) q) false x) (added.told q) ∙ undone q (is_place (place v) q) refl free ∙ order.told q;
        count =
            let one : length new ≡ length old + 1 = added.count ∙ ap (λ c. length old + cond c 0 1) free in
            let back_one : length back + 1 ≡ length new = ap (λ c. length back + cond c 1 0) (sym (added.told (place v) ∙ ap (λ c. cond c true (stands old (place v))) (own_place (place v)))) ∙ gone.count in
            omega (arith, one, back_one, order.count);
      }
    where
      undone : (q : OrderKey) (c : Bool) → is_place (place v) q ≡ c → stands old (place v) ≡ false → cond c false (cond c true (stands old q)) ≡ stands old q
      undone q true h free = sym (ap (stands old) (sym (this_place (place v) q h)) ∙ free)
      undone q false h free = refl

  -- one leaves that doesn't stand in it
  pub order_stays : (vs : List V) (places : List OrderKey) (v : V) → IsOrder number is_in place vs places → AreRising number 0 vs → found (number v) vs ≡ Some v → is_in v ≡ false
      → IsOrder number is_in place (all_but number (number v) vs) places
  order_stays vs places v order r there out = record {
    told = λ q. split (q.number == number v)
        (λ h. at_own vs places v q (Some v) order there h ∙ ap (λ c. c && is_place (place v) q) out
        ∙ sym (ap (λ c. stands_at number is_in place q (cond c None (found q.number vs))) h))
        (λ h. order.told q ∙ sym (ap (λ c. stands_at number is_in place q (cond c None (found q.number vs))) h))
        ∙ ap (stands_at number is_in place q) (sym (find_but number q.number (number v) vs));
    count =
        let none : length (filter is_in (all_but number (number v) vs)) + 0 ≡ length (filter is_in vs) =
        ap (λ c. length (filter is_in (all_but number (number v) vs)) + cond c 1 0) (sym out) ∙ count_but number is_in (number v) 0 v vs r there in
        omega (arith, none, order.count);
  }

  -- ---- what follows from a place that is taken

  pub record IsOf (p : OrderKey) (vs : List V) : Type 0 where
    pub element : V
    pub there : found p.number vs ≡ Some element
    pub inside : is_in element ≡ true
    pub at : place element ≡ p

  of_by : (p : OrderKey) (vs : List V) (o : Option V) → o ≡ found p.number vs → stands_at number is_in place p o ≡ true → IsOf p vs
  of_by p vs None e h = absurd (true≢false (sym h))
  of_by p vs (Some v) e h =
      let both = parts (is_in v) (is_place (place v) p) h in
      record { element = v; there = sym e; inside = both.0; at = this_place (place v) p both.1 }
    where
      parts : (a b : Bool) → (a && b) ≡ true → (a ≡ true) × (b ≡ true)
      parts true b h = (refl, h)
      parts false b h = absurd (true≢false (sym h))

  -- the element whose place it is
  pub of_place : (p : OrderKey) (vs : List V) (places : List OrderKey) → IsOrder number is_in place vs places → stands places p ≡ true → IsOf p vs
  of_place p vs places order h = of_by p vs (found p.number vs) refl (sym (order.told p) ∙ h)
