-- What is found under a number, after each change of the elements.
use Rattle.std.proofs.Common.{◌≡◌, ℕ, ◌<◌, ◌≤◌, ◌+◌, ◌==◌, ◌&&◌, List, [], ◌∷◌, ◌++◌, Bool, true, false, not, cond, Option, Some, None, filter, find, length, map, nat_lt, option_map, refl, ap, sym, ◌∙◌, subst, true≢false, arith}
use Rattle.std.proofs.lemmas.Bool.Decides.{nat_tests}
use Rattle.std.proofs.lemmas.Option.{none-some}
use Rattle.ll_book.specs.Numbers.{AreRising, AreUnder, all_but, change_if, changed, has_number}
use Rattle.ll_book.proofs.Keyed.{above, above_changed, all_above, itself, lower, same}

other : (t n m : ℕ) → n < t → (n == m) ≡ true → (t == m) ≡ false
other t n m h e = grind (arith, nat_tests, h, e)

module _ {V : Type 0} (number : V → ℕ) where
  pushed_by : (a b : Bool) (v w : V) (o : Option V) → (a ≡ true → b ≡ false) → cond a (Some v) (cond b (Some w) o) ≡ cond b (Some w) (cond a (Some v) o)
  pushed_by true true v w o h = absurd (true≢false (h refl))
  pushed_by true false v w o h = refl
  pushed_by false b v w o h = refl

  -- one more, of a number above all others
  pub find_pushed : (n : ℕ) (w : V) (vs : List V) → AreUnder number (number w) vs → find (has_number number n) (vs ++ w ∷ []) ≡ cond (number w == n) (Some w) (find (has_number number n) vs)
  find_pushed n w [] h = refl
  find_pushed n w (v ∷ vs) h =
      ap (λ o. cond (has_number number n v) (Some v) o) (find_pushed n w vs h.1)
      ∙ pushed_by (has_number number n v) (number w == n) v w (find (has_number number n) vs) (other (number w) (number v) n h.0)

  mapped_by : (b c : Bool) (v : V) (g : V → V) (o p : Option V) → b ≡ c → o ≡ option_map g p → cond b (Some (g v)) o ≡ option_map g (cond c (Some v) p)
  mapped_by true true v g o p h k = refl
  mapped_by true false v g o p h k = absurd (true≢false h)
  mapped_by false true v g o p h k = absurd (true≢false (sym h))
  mapped_by false false v g o p h k = k

  changed_number : (f : V → V) → ((v : V) → number (f v) ≡ number v) → (n : ℕ) (b : Bool) (v : V) → has_number number n (change_if b f v) ≡ has_number number n v
  changed_number f stays n true v = ap (λ m. m == n) (stays v)
  changed_number f stays n false v = refl

  -- one of them changes
  pub find_changed : (f : V → V) → ((v : V) → number (f v) ≡ number v) → (n m : ℕ) (vs : List V)
      → find (has_number number n) (changed number m f vs) ≡ option_map (λ v. change_if (number v == m) f v) (find (has_number number n) vs)
  find_changed f stays n m [] = refl
  find_changed f stays n m (v ∷ vs) =
      mapped_by (has_number number n (change_if (number v == m) f v)) (has_number number n v) v (λ w. change_if (number w == m) f w)
      (find (has_number number n) (changed number m f vs)) (find (has_number number n) vs) (changed_number f stays n (number v == m) v) (find_changed f stays n m vs)

  none_either : (b : Bool) → ◌≡◌ {A = Option V} None (cond b None None)
  none_either true = refl
  none_either false = refl

  but_by : (n m : ℕ) (v : V) (vs : List V) (p : Option V) (a b : Bool) → (number v == m) ≡ a → (number v == n) ≡ b
      → find (has_number number n) vs ≡ cond (n == m) None p → find (has_number number n) (cond (not a) (v ∷ vs) vs) ≡ cond (n == m) None (cond b (Some v) p)
  but_by n m v vs p true true h k e =
      let it : (n == m) ≡ true = grind (arith, nat_tests, h, k) in
      e ∙ ap (λ b. cond b None p) it ∙ sym (ap (λ b. cond b None (Some v)) it)
  but_by n m v vs p true false h k e = e
  but_by n m v vs p false true h k e =
      let apart : (n == m) ≡ false = grind (arith, nat_tests, h, k) in
      ap (λ b. cond b (Some v) (find (has_number number n) vs)) k ∙ sym (ap (λ b. cond b None (Some v)) apart)
  but_by n m v vs p false false h k e = ap (λ b. cond b (Some v) (find (has_number number n) vs)) k ∙ e

  -- one of them leaves
  pub find_but : (n m : ℕ) (vs : List V) → find (has_number number n) (all_but number m vs) ≡ cond (n == m) None (find (has_number number n) vs)
  find_but n m [] = none_either (n == m)
  find_but n m (v ∷ vs) = but_by n m v (all_but number m vs) (find (has_number number n) vs) (number v == m) (number v == n) refl refl (find_but n m vs)

  -- nothing is found below all numbers
  pub none_below : (n : ℕ) (vs : List V) → AreRising number n vs → find (has_number number n) vs ≡ None
  none_below n [] r = refl
  none_below n (v ∷ vs) r = ap (λ b. cond b (Some v) (find (has_number number n) vs)) (above n (number v) r.0) ∙ none_below n vs (lower number n (number v) vs r.0 r.1)

  -- nor if all are above a number that isn't below it
  pub none_up_to : (n low : ℕ) (vs : List V) → n ≤ low → AreRising number low vs → find (has_number number n) vs ≡ None
  none_up_to n low [] h r = refl
  none_up_to n low (v ∷ vs) h r =
      let under : n < number v = omega (arith, h, r.0) in
      ap (λ b. cond b (Some v) (find (has_number number n) vs)) (above n (number v) under) ∙ none_up_to n (number v) vs (omega (arith, under)) r.1

  -- nor above them
  pub none_above : (n : ℕ) (vs : List V) → AreUnder number n vs → find (has_number number n) vs ≡ None
  none_above n [] b = refl
  none_above n (v ∷ vs) b =
      let apart : (number v == n) ≡ false = grind (arith, nat_tests, b.0) in
      ap (λ b. cond b (Some v) (find (has_number number n) vs)) apart ∙ none_above n vs b.1

  pub rising_pushed : (low : ℕ) (w : V) (vs : List V) → low < number w → AreRising number low vs → AreUnder number (number w) vs → AreRising number low (vs ++ w ∷ [])
  rising_pushed low w [] h r b = (h, tt)
  rising_pushed low w (v ∷ vs) h r b = (r.0, rising_pushed (number v) w vs b.0 r.1 b.1)

  its_by : (n : ℕ) (v w : V) (o : Option V) (b : Bool) → (number w == n) ≡ b → cond b (Some w) o ≡ Some v → (o ≡ Some v → number v ≡ n) → number v ≡ n
  its_by n v w o true h f ih =
      let is : w ≡ v = cc in
      subst (λ z. number z ≡ n) is (same (number w) n h)
  its_by n v w o false h f ih = ih f

  -- what is found has the number
  pub its_number : (n : ℕ) (v : V) (vs : List V) → find (has_number number n) vs ≡ Some v → number v ≡ n
  its_number n v [] f = absurd (none-some v f)
  its_number n v (w ∷ vs) f = its_by n v w (find (has_number number n) vs) (has_number number n w) refl f (its_number n v vs)

  -- ---- how many pass

  module _ (p : V → Bool) where
    -- what is found, if it passes
    abbrev pub kept_if : Option V → Option V
    kept_if None = None
    kept_if (Some v) = cond (p v) (Some v) None

    kept_rising : (low : ℕ) (v : V) (vs : List V) (b : Bool) → low < number v → AreRising number (number v) vs → AreRising number low (cond b (v ∷ vs) vs)
    kept_rising low v vs true h r = (h, r)
    kept_rising low v vs false h r = lower number low (number v) vs h r

    pub rising_filter : (low : ℕ) (vs : List V) → AreRising number low vs → AreRising number low (filter p vs)
    rising_filter low [] r = tt
    rising_filter low (v ∷ vs) r = kept_rising low v (filter p vs) (p v) r.0 (rising_filter (number v) vs r.1)

    more_by : (b : Bool) (v : V) (xs : List V) → length (cond b (v ∷ xs) xs) ≡ length xs + cond b 1 0
    more_by true v xs = omega arith
    more_by false v xs = omega arith

    -- one more
    pub count_pushed : (v : V) (vs : List V) → length (filter p (vs ++ v ∷ [])) ≡ length (filter p vs) + cond (p v) 1 0
    count_pushed v [] = more_by (p v) v []
    count_pushed v (w ∷ vs) =
        let rest : length (filter p (vs ++ v ∷ [])) ≡ length (filter p vs) + cond (p v) 1 0 = count_pushed v vs in
        omega (arith, rest, more_by (p w) w (filter p (vs ++ v ∷ [])), more_by (p w) w (filter p vs))

    but_one : (n : ℕ) (v w : V) (vs : List V) (b : Bool) → (number w == n) ≡ b → AreRising number (number w) vs → cond b (Some w) (find (has_number number n) vs) ≡ Some v
        → (find (has_number number n) vs ≡ Some v → length (filter p (all_but number n vs)) + cond (p v) 1 0 ≡ length (filter p vs))
        → length (filter p (cond (not b) (w ∷ all_but number n vs) (all_but number n vs))) + cond (p v) 1 0 ≡ length (filter p (w ∷ vs))
    but_one n v w vs true h r f ih =
        let is : w ≡ v = cc in
        let none = ap (λ xs. length (filter p xs)) (all_above number n vs (subst (λ m. AreRising number m vs) (same (number w) n h) r)) in
        let own : length (cond (p w) (w ∷ filter p vs) (filter p vs)) ≡ length (filter p vs) + cond (p v) 1 0 = more_by (p w) w (filter p vs) ∙ ap (λ z. length (filter p vs) + cond (p z) 1 0) is in
        omega (arith, none, own)
    but_one n v w vs false h r f ih =
        let rest = ih f in
        omega (arith, rest, more_by (p w) w (filter p (all_but number n vs)), more_by (p w) w (filter p vs))

    -- one leaves
    pub count_but : (n low : ℕ) (v : V) (vs : List V) → AreRising number low vs → find (has_number number n) vs ≡ Some v → length (filter p (all_but number n vs)) + cond (p v) 1 0 ≡ length (filter p vs)
    count_but n low v [] r f = absurd (none-some v f)
    count_but n low v (w ∷ vs) r f = but_one n v w vs (number w == n) refl r.1 f (count_but n (number w) v vs r.1)

    changed_one : (f : V → V) (n : ℕ) (v w : V) (vs : List V) (b : Bool) → (number w == n) ≡ b → AreRising number (number w) vs → cond b (Some w) (find (has_number number n) vs) ≡ Some v
        → (find (has_number number n) vs ≡ Some v → length (filter p (changed number n f vs)) + cond (p v) 1 0 ≡ length (filter p vs) + cond (p (f v)) 1 0)
        → length (filter p (change_if b f w ∷ changed number n f vs)) + cond (p v) 1 0 ≡ length (filter p (w ∷ vs)) + cond (p (f v)) 1 0
    changed_one f n v w vs true h r g ih =
        let is : w ≡ v = cc in
        let none = ap (λ xs. length (filter p xs)) (above_changed number f n vs (subst (λ m. AreRising number m vs) (same (number w) n h) r)) in
        let old : length (cond (p w) (w ∷ filter p vs) (filter p vs)) ≡ length (filter p vs) + cond (p v) 1 0 = more_by (p w) w (filter p vs) ∙ ap (λ z. length (filter p vs) + cond (p z) 1 0) is in
        let new : length (cond (p (f w)) (f w ∷ filter p (changed number n f vs)) (filter p (changed number n f vs))) ≡ length (filter p (changed number n f vs)) + cond (p (f v)) 1 0 =
        more_by (p (f w)) (f w) (filter p (changed number n f vs)) ∙ ap (λ z. length (filter p (changed number n f vs)) + cond (p (f z)) 1 0) is in
        omega (arith, none, old, new)
    changed_one f n v w vs false h r g ih =
        let rest = ih g in
        omega (arith, rest, more_by (p w) w (filter p (changed number n f vs)), more_by (p w) w (filter p vs))

    -- one changes
    pub count_changed : (f : V → V) (n low : ℕ) (v : V) (vs : List V) → AreRising number low vs → find (has_number number n) vs ≡ Some v
        → length (filter p (changed number n f vs)) + cond (p v) 1 0 ≡ length (filter p vs) + cond (p (f v)) 1 0
    count_changed f n low v [] r g = absurd (none-some v g)
    count_changed f n low v (w ∷ vs) r g = changed_one f n v w vs (number w == n) refl r.1 g (count_changed f n (number w) v vs r.1)

    count_le_by : (b c : Bool) (v : V) (xs ys : List V) → (b ≡ true → c ≡ true) → length xs ≤ length ys → length (cond b (v ∷ xs) xs) ≤ length (cond c (v ∷ ys) ys)
    count_le_by true true v xs ys h k = omega (arith, k)
    count_le_by true false v xs ys h k = absurd (true≢false (sym (h refl)))
    count_le_by false true v xs ys h k = omega (arith, k)
    count_le_by false false v xs ys h k = k

    module _ (q : V → Bool) (fewer : (v : V) → q v ≡ true → p v ≡ true) where
      pub count_le : (vs : List V) → length (filter q vs) ≤ length (filter p vs)
      count_le [] = omega arith
      count_le (v ∷ vs) = count_le_by (q v) (p v) v (filter q vs) (filter p vs) (fewer v) (count_le vs)

      less_by : (n : ℕ) (v w : V) (vs : List V) (b : Bool) → cond b (Some w) (find (has_number number n) vs) ≡ Some v → p v ≡ true → q v ≡ false
          → (find (has_number number n) vs ≡ Some v → length (filter q vs) < length (filter p vs)) → length (filter q (w ∷ vs)) < length (filter p (w ∷ vs))
      less_by n v w vs true f wide narrow ih =
          let is : w ≡ v = cc in
          let none : length (cond (q w) (w ∷ filter q vs) (filter q vs)) ≡ length (filter q vs) + 0 = more_by (q w) w (filter q vs) ∙ ap (λ b. length (filter q vs) + cond b 1 0) (ap q is ∙ narrow) in
          let one : length (cond (p w) (w ∷ filter p vs) (filter p vs)) ≡ length (filter p vs) + 1 = more_by (p w) w (filter p vs) ∙ ap (λ b. length (filter p vs) + cond b 1 0) (ap p is ∙ wide) in
          omega (arith, none, one, count_le vs)
      less_by n v w vs false f wide narrow ih = let rest = ih f in less_more (q w) (p w) w (filter q vs) (filter p vs) (fewer w) rest
        where
          less_more : (b c : Bool) (v : V) (xs ys : List V) → (b ≡ true → c ≡ true) → length xs < length ys → length (cond b (v ∷ xs) xs) < length (cond c (v ∷ ys) ys)
          less_more true true v xs ys h k = omega (arith, k)
          less_more true false v xs ys h k = absurd (true≢false (sym (h refl)))
          less_more false true v xs ys h k = omega (arith, k)
          less_more false false v xs ys h k = k

      -- fewer pass a test that one of them fails, which passes the wider one
      pub count_less : (n : ℕ) (v : V) (vs : List V) → find (has_number number n) vs ≡ Some v → p v ≡ true → q v ≡ false → length (filter q vs) < length (filter p vs)
      count_less n v [] f wide narrow = absurd (none-some v f)
      count_less n v (w ∷ vs) f wide narrow = less_by n v w vs (has_number number n w) f wide narrow (λ g. count_less n v vs g wide narrow)

    filter_by : (n : ℕ) (v : V) (vs : List V) (a b : Bool) → (number v == n) ≡ a → p v ≡ b → AreRising number (number v) vs → find (has_number number n) (filter p vs) ≡ kept_if (find (has_number number n) vs)
        → find (has_number number n) (cond b (v ∷ filter p vs) (filter p vs)) ≡ kept_if (cond a (Some v) (find (has_number number n) vs))
    filter_by n v vs a true h k r ih = cases a h
      where
        cases : (a : Bool) → (number v == n) ≡ a → cond (number v == n) (Some v) (find (has_number number n) (filter p vs)) ≡ kept_if (cond a (Some v) (find (has_number number n) vs))
        cases true h = ap (λ b. cond b (Some v) (find (has_number number n) (filter p vs))) h ∙ sym (ap (λ b. cond b (Some v) None) k)
        cases false h = ap (λ b. cond b (Some v) (find (has_number number n) (filter p vs))) h ∙ ih
    filter_by n v vs true false h k r ih =
        ih ∙ ap kept_if (none_below n vs (subst (λ m. AreRising number m vs) (same (number v) n h) r)) ∙ sym (ap (λ b. cond b (Some v) None) k)
    filter_by n v vs false false h k r ih = ih

    -- what is found among those that pass
    pub find_filter : (n low : ℕ) (vs : List V) → AreRising number low vs → find (has_number number n) (filter p vs) ≡ kept_if (find (has_number number n) vs)
    find_filter n low [] r = refl
    find_filter n low (v ∷ vs) r = filter_by n v vs (number v == n) (p v) refl refl r.1 (find_filter n (number v) vs r.1)

    both_by : (n : ℕ) (v : V) (vs : List V) (a b : Bool) → (number v == n) ≡ a → p v ≡ b → AreRising number (number v) vs → find (λ v. (number v == n) && p v) vs ≡ kept_if (find (has_number number n) vs)
        → cond (a && b) (Some v) (find (λ v. (number v == n) && p v) vs) ≡ kept_if (cond a (Some v) (find (has_number number n) vs))
    both_by n v vs true true h k r ih = sym (ap (λ b. cond b (Some v) None) k)
    both_by n v vs true false h k r ih =
        ih ∙ ap kept_if (none_below n vs (subst (λ m. AreRising number m vs) (same (number v) n h) r)) ∙ sym (ap (λ b. cond b (Some v) None) k)
    both_by n v vs false b h k r ih = ih

    -- the first that has a number and passes
    pub find_both : (n low : ℕ) (vs : List V) → AreRising number low vs → find (λ v. (number v == n) && p v) vs ≡ kept_if (find (has_number number n) vs)
    find_both n low [] r = refl
    find_both n low (v ∷ vs) r = both_by n v vs (number v == n) (p v) refl refl r.1 (find_both n (number v) vs r.1)

  pub rising_but : (n low : ℕ) (vs : List V) → AreRising number low vs → AreRising number low (all_but number n vs)
  rising_but n low vs r = rising_filter (λ v. not (has_number number n v)) low vs r

  -- ---- a change of each

  module _ (g : V → V) (stays : (v : V) → number (g v) ≡ number v) where
    pub find_map : (n : ℕ) (vs : List V) → find (has_number number n) (map g vs) ≡ option_map g (find (has_number number n) vs)
    find_map n [] = refl
    find_map n (v ∷ vs) = mapped_by (has_number number n (g v)) (has_number number n v) v g (find (has_number number n) (map g vs)) (find (has_number number n) vs) (ap (λ m. m == n) (stays v)) (find_map n vs)

    pub rising_map : (low : ℕ) (vs : List V) → AreRising number low vs → AreRising number low (map g vs)
    rising_map low [] r = tt
    rising_map low (v ∷ vs) r = (subst (λ n. low < n) (sym (stays v)) r.0, subst (λ n. AreRising number n (map g vs)) (sym (stays v)) (rising_map (number v) vs r.1))

  -- ---- lists in which the same is found

  head_found : (v : V) (vs : List V) → find (has_number number (number v)) (v ∷ vs) ≡ Some v
  head_found v vs = ap (λ b. cond b (Some v) (find (has_number number (number v)) vs)) (itself (number v))

  tails : (v w : V) (vs ws : List V) → AreRising number (number v) vs → AreRising number (number w) ws → number v ≡ number w
      → (n : ℕ) (b : Bool) → (number v == n) ≡ b → find (has_number number n) (v ∷ vs) ≡ find (has_number number n) (w ∷ ws) → find (has_number number n) vs ≡ find (has_number number n) ws
  tails v w vs ws r s e n true h same_there =
      let it = same (number v) n h in
      none_below n vs (subst (λ m. AreRising number m vs) it r) ∙ sym (none_below n ws (subst (λ m. AreRising number m ws) (sym e ∙ it) s))
  tails v w vs ws r s e n false h same_there =
      sym (ap (λ b. cond b (Some v) (find (has_number number n) vs)) h) ∙ same_there ∙ ap (λ b. cond b (Some w) (find (has_number number n) ws)) (ap (λ m. m == n) (sym e) ∙ h)

  same_by : (v w : V) (vs ws : List V) (a b : Bool) → nat_lt (number v) (number w) ≡ a → nat_lt (number w) (number v) ≡ b → AreRising number (number v) vs → AreRising number (number w) ws
      → ((n : ℕ) → find (has_number number n) (v ∷ vs) ≡ find (has_number number n) (w ∷ ws))
      → (((n : ℕ) → find (has_number number n) vs ≡ find (has_number number n) ws) → vs ≡ ws) → v ∷ vs ≡ w ∷ ws
  same_by v w vs ws true b h k r s there ih =
      let low : number v < number w = grind (arith, nat_tests, h) in
      absurd (none-some v (sym (none_below (number v) (w ∷ ws) (low, s)) ∙ sym (there (number v)) ∙ head_found v vs))
  same_by v w vs ws false true h k r s there ih =
      let low : number w < number v = grind (arith, nat_tests, k) in
      absurd (none-some w (sym (none_below (number w) (v ∷ vs) (low, r)) ∙ there (number w) ∙ head_found w ws))
  same_by v w vs ws false false h k r s there ih =
      let e : number v ≡ number w = grind (arith, nat_tests, h, k) in
      let found : Some v ≡ Some w = sym (head_found v vs) ∙ there (number v) ∙ ap (λ n. find (has_number number n) (w ∷ ws)) e ∙ head_found w ws in
      let is : v ≡ w = cc in
      ap (λ z. z ∷ vs) is ∙ ap (λ zs. w ∷ zs) (ih (λ n. tails v w vs ws r s e n (number v == n) refl (there n)))

  -- numbers that rise in both: they are one list
  pub same_rising : (low high : ℕ) (vs ws : List V) → AreRising number low vs → AreRising number high ws → ((n : ℕ) → find (has_number number n) vs ≡ find (has_number number n) ws) → vs ≡ ws
  same_rising low high [] [] r s there = refl
  same_rising low high [] (w ∷ ws) r s there = absurd (none-some w (there (number w) ∙ head_found w ws))
  same_rising low high (v ∷ vs) [] r s there = absurd (none-some v (sym (there (number v)) ∙ head_found v vs))
  same_rising low high (v ∷ vs) (w ∷ ws) r s there =
      same_by v w vs ws (nat_lt (number v) (number w)) (nat_lt (number w) (number v)) refl refl r.1 s.1 there (same_rising (number v) (number w) vs ws r.1 s.1)

-- the numbers themselves
pub find_numbers : {V : Type 0} (number : V → ℕ) (n : ℕ) (vs : List V) → find (has_number (λ m. m) n) (map number vs) ≡ option_map number (find (has_number number n) vs)
find_numbers number n [] = refl
find_numbers number n (v ∷ vs) = by_head (number v == n) (find_numbers number n vs)
  where
    by_head : (b : Bool) → find (has_number (λ m. m) n) (map number vs) ≡ option_map number (find (has_number number n) vs)
        → cond b (Some (number v)) (find (has_number (λ m. m) n) (map number vs)) ≡ option_map number (cond b (Some v) (find (has_number number n) vs))
    by_head true h = refl
    by_head false h = h

pub rising_numbers : {V : Type 0} (number : V → ℕ) (low : ℕ) (vs : List V) → AreRising number low vs → AreRising (λ m. m) low (map number vs)
rising_numbers number low [] r = tt
rising_numbers number low (v ∷ vs) r = (r.0, rising_numbers number (number v) vs r.1)
