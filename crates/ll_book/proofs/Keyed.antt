-- Entries whose keys are the numbers of their elements, read and changed as the list of these elements.
use Rattle.std.proofs.Common.{◌≡◌, ℕ, ◌<◌, ◌==◌, List, [], ◌∷◌, ◌++◌, Bool, true, false, not, cond, Option, Some, None, find, refl, ap, sym, ◌∙◌, subst, true≢false, arith, nat_cmp}
use Rattle.std.proofs.lemmas.Bool.Decides.{nat_tests}
use Rattle.std.proofs.lemmas.Option.{none-some}
use Rattle.std.specs.Ordering.{match_ordering}
use Rattle.std.specs.Cmp.{nat_cmp_is}
use Rattle.std.specs.declared.cmp.Ordering.TheVariants.{Greater}
use Rattle.std.specs.Map.{lookup, remove_entry, set_value, values_of}
use Rattle.std.specs.BTreeMap.{insert_entry, is_at}
use Rattle.ll_book.specs.Numbers.{AreKeyed, AreRising, AreUnder, all_but, change_if, changed, has_number}

pub same : (a b : ℕ) → (a == b) ≡ true → a ≡ b
same a b h = grind (arith, nat_tests, h)

pub itself : (a : ℕ) → (a == a) ≡ true
itself a = grind (arith, nat_tests)

pub above : (n m : ℕ) → n < m → (m == n) ≡ false
above n m h = grind (arith, nat_tests, h)

pub is_number : (k n : ℕ) → is_at (nat_cmp k) n ≡ (n == k)
is_number k n = grind (arith, nat_tests)

pub kept : {V : Type 0} (b : Bool) (v : V) (xs ys : List V) → b ≡ false → xs ≡ ys → cond (not b) (v ∷ xs) xs ≡ v ∷ ys
kept true v xs ys h k = absurd (true≢false h)
kept false v xs ys h k = ap (λ zs. v ∷ zs) k

module _ {V : Type 0} (number : V → ℕ) where
  pub lower : (low high : ℕ) (vs : List V) → low < high → AreRising number high vs → AreRising number low vs
  lower low high [] h r = tt
  lower low high (v ∷ vs) h r = (omega (arith, h, r.0), r.1)

  -- none is left out if all are above
  pub all_above : (n : ℕ) (vs : List V) → AreRising number n vs → all_but number n vs ≡ vs
  all_above n [] r = refl
  all_above n (v ∷ vs) r = kept (number v == n) v (all_but number n vs) vs (above n (number v) r.0) (all_above n vs (lower n (number v) vs r.0 r.1))

  -- the numbers of keyed elements rise
  pub rising : (low : ℕ) (es : List (ℕ × V)) → AreKeyed number low es → AreRising number low (values_of es)
  rising low [] h = tt
  rising low (e ∷ es) h = (subst (λ n. low < n) h.0 h.1, subst (λ n. AreRising number n (values_of es)) h.0 (rising e.0 es h.2))

  at_key : (n : ℕ) (e : ℕ × V) → e.0 ≡ number e.1 → is_at (nat_cmp n) e.0 ≡ has_number number n e.1
  at_key n e h = is_number n e.0 ∙ ap (λ m. m == n) h

  found_by : (b c : Bool) (v : V) (x y : Option V) → b ≡ c → x ≡ y → cond b (Some v) x ≡ cond c (Some v) y
  found_by b c v x y h k = rw (h, k) refl

  -- what is found by its key is found by its number
  pub looked_up : (n low : ℕ) (es : List (ℕ × V)) → AreKeyed number low es → lookup (is_at (nat_cmp n)) es ≡ find (has_number number n) (values_of es)
  looked_up n low [] h = refl
  looked_up n low (e ∷ es) h =
      found_by (is_at (nat_cmp n) e.0) (has_number number n e.1) e.1 (lookup (is_at (nat_cmp n)) es) (find (has_number number n) (values_of es)) (at_key n e h.0) (looked_up n e.0 es h.2)

  -- those after the one of a key have higher numbers
  after : (n : ℕ) (e : ℕ × V) (es : List (ℕ × V)) → AreKeyed number e.0 es → is_at (nat_cmp n) e.0 ≡ true → AreRising number n (values_of es)
  after n e es h here = subst (λ m. AreRising number m (values_of es)) (same e.0 n (sym (is_number n e.0) ∙ here)) (rising e.0 es h)

  removed_by : (n : ℕ) (e : ℕ × V) (es : List (ℕ × V)) (b : Bool) → (b ≡ true → all_but number n (values_of es) ≡ values_of es)
      → values_of (remove_entry (is_at (nat_cmp n)) es) ≡ all_but number n (values_of es)
      → values_of (cond b es (e ∷ remove_entry (is_at (nat_cmp n)) es)) ≡ cond (not b) (e.1 ∷ all_but number n (values_of es)) (all_but number n (values_of es))
  removed_by n e es true none ih = sym (none refl)
  removed_by n e es false none ih = ap (λ xs. e.1 ∷ xs) ih

  -- what leaves by its key leaves by its number
  pub taken_out : (n low : ℕ) (es : List (ℕ × V)) → AreKeyed number low es → values_of (remove_entry (is_at (nat_cmp n)) es) ≡ all_but number n (values_of es)
  taken_out n low [] h = refl
  taken_out n low (e ∷ es) h =
      removed_by n e es (is_at (nat_cmp n) e.0) (λ here. all_above n (values_of es) (after n e es h.2 here)) (taken_out n e.0 es h.2)
      ∙ ap (λ b. cond (not b) (e.1 ∷ all_but number n (values_of es)) (all_but number n (values_of es))) (at_key n e h.0)

  keyed_lower : (low high : ℕ) (es : List (ℕ × V)) → low < high → AreKeyed number high es → AreKeyed number low es
  keyed_lower low high [] h k = tt
  keyed_lower low high (e ∷ es) h k = (k.0, omega (arith, h, k.1), k.2)

  left_by : (low n : ℕ) (e : ℕ × V) (es : List (ℕ × V)) (b : Bool) → e.0 ≡ number e.1 → low < e.0 → AreKeyed number e.0 es → AreKeyed number e.0 (remove_entry (is_at (nat_cmp n)) es)
      → AreKeyed number low (cond b es (e ∷ remove_entry (is_at (nat_cmp n)) es))
  left_by low n e es true own h k ih = keyed_lower low e.0 es h k
  left_by low n e es false own h k ih = (own, h, ih)

  pub keyed_left : (n low : ℕ) (es : List (ℕ × V)) → AreKeyed number low es → AreKeyed number low (remove_entry (is_at (nat_cmp n)) es)
  keyed_left n low [] h = tt
  keyed_left n low (e ∷ es) h = left_by low n e es (is_at (nat_cmp n) e.0) h.0 h.1 h.2 (keyed_left n e.0 es h.2)

  -- ---- one more, of a number above all

  put_last : (low n : ℕ) (v : V) (es : List (ℕ × V)) → AreKeyed number low es → AreUnder number n (values_of es) → insert_entry nat_cmp es n v ≡ es ++ (n, v) ∷ []
  put_last low n v [] h b = refl
  put_last low n v (e ∷ es) h b =
      ap (λ o. match_ordering o ((n, v) ∷ e ∷ es) ((e.0, v) ∷ es) (e ∷ insert_entry nat_cmp es n v)) (sym (nat_cmp_is n e.0 Greater (subst (λ m. m < n) (sym h.0) b.0)))
      ∙ ap (λ xs. e ∷ xs) (put_last e.0 n v es h.2 b.1)

  values_more : (es : List (ℕ × V)) (e : ℕ × V) → values_of (es ++ e ∷ []) ≡ values_of es ++ e.1 ∷ []
  values_more [] e = refl
  values_more (x ∷ es) e = ap (λ xs. x.1 ∷ xs) (values_more es e)

  keyed_more : (low : ℕ) (v : V) (es : List (ℕ × V)) → low < number v → AreKeyed number low es → AreUnder number (number v) (values_of es) → AreKeyed number low (es ++ (number v, v) ∷ [])
  keyed_more low v [] h k b = (refl, h, tt)
  keyed_more low v (e ∷ es) h k b = (k.0, k.1, keyed_more e.0 v es (subst (λ m. m < number v) (sym k.0) b.0) k.2 b.1)

  -- it is put last
  pub pushed : (low : ℕ) (v : V) (es : List (ℕ × V)) → AreKeyed number low es → AreUnder number (number v) (values_of es)
      → values_of (insert_entry nat_cmp es (number v) v) ≡ values_of es ++ v ∷ []
  pushed low v es h b = ap values_of (put_last low (number v) v es h b) ∙ values_more es (number v, v)

  pub keyed_pushed : (low : ℕ) (v : V) (es : List (ℕ × V)) → low < number v → AreKeyed number low es → AreUnder number (number v) (values_of es)
      → AreKeyed number low (insert_entry nat_cmp es (number v) v)
  keyed_pushed low v es h k b = subst (AreKeyed number low) (sym (put_last low (number v) v es k b)) (keyed_more low v es h k b)

  -- ---- one that changes, and keeps its number

  pub not_here : (b : Bool) (v : V) (o : Option V) → cond b (Some v) o ≡ None → (b ≡ false) × (o ≡ None)
  not_here true v o h = absurd (none-some v (sym h))
  not_here false v o h = (refl, h)

  -- none leaves if none is found
  pub none_but : (n : ℕ) (vs : List V) → find (has_number number n) vs ≡ None → all_but number n vs ≡ vs
  none_but n [] h = refl
  none_but n (v ∷ vs) h =
      let rest = not_here (has_number number n v) v (find (has_number number n) vs) h in
      kept (number v == n) v (all_but number n vs) vs rest.0 (none_but n vs rest.1)

  module _ (f : V → V) where
    none_changed : (n : ℕ) (vs : List V) → find (has_number number n) vs ≡ None → changed number n f vs ≡ vs
    none_changed n [] h = refl
    none_changed n (v ∷ vs) h =
        let rest = not_here (has_number number n v) v (find (has_number number n) vs) h in
        ap (λ b. change_if b f v ∷ changed number n f vs) rest.0 ∙ ap (λ zs. v ∷ zs) (none_changed n vs rest.1)

    -- none changes if all are above
    pub above_changed : (n : ℕ) (vs : List V) → AreRising number n vs → changed number n f vs ≡ vs
    above_changed n [] r = refl
    above_changed n (v ∷ vs) r =
        ap (λ b. change_if b f v ∷ changed number n f vs) (above n (number v) r.0) ∙ ap (λ zs. v ∷ zs) (above_changed n vs (lower n (number v) vs r.0 r.1))

    set_by : (n : ℕ) (v : V) (e : ℕ × V) (es : List (ℕ × V)) (b : Bool) → cond b (Some e.1) (lookup (is_at (nat_cmp n)) es) ≡ Some v
        → (b ≡ true → changed number n f (values_of es) ≡ values_of es)
        → (lookup (is_at (nat_cmp n)) es ≡ Some v → values_of (set_value (is_at (nat_cmp n)) es (f v)) ≡ changed number n f (values_of es))
        → values_of (cond b ((e.0, f v) ∷ es) (e ∷ set_value (is_at (nat_cmp n)) es (f v))) ≡ change_if b f e.1 ∷ changed number n f (values_of es)
    set_by n v e es true h none ih =
        let is : e.1 ≡ v = cc in
        ap (λ z. f z ∷ values_of es) (sym is) ∙ ap (λ zs. f e.1 ∷ zs) (sym (none refl))
    set_by n v e es false h none ih = ap (λ zs. e.1 ∷ zs) (ih h)

    -- what changes by its key changes by its number
    set_under : (n low : ℕ) (v : V) (es : List (ℕ × V)) → AreKeyed number low es → lookup (is_at (nat_cmp n)) es ≡ Some v
        → values_of (set_value (is_at (nat_cmp n)) es (f v)) ≡ changed number n f (values_of es)
    set_under n low v [] h k = absurd (none-some v k)
    set_under n low v (e ∷ es) h k =
        set_by n v e es (is_at (nat_cmp n) e.0) k (λ here. above_changed n (values_of es) (after n e es h.2 here)) (set_under n e.0 v es h.2)
        ∙ ap (λ b. change_if b f e.1 ∷ changed number n f (values_of es)) (at_key n e h.0)

    module _ (stays : (v : V) → number (f v) ≡ number v) where
      keyed_by : (n low : ℕ) (v : V) (e : ℕ × V) (es : List (ℕ × V)) (b : Bool) → e.0 ≡ number e.1 → low < e.0 → AreKeyed number e.0 es
          → cond b (Some e.1) (lookup (is_at (nat_cmp n)) es) ≡ Some v
          → (lookup (is_at (nat_cmp n)) es ≡ Some v → AreKeyed number e.0 (set_value (is_at (nat_cmp n)) es (f v)))
          → AreKeyed number low (cond b ((e.0, f v) ∷ es) (e ∷ set_value (is_at (nat_cmp n)) es (f v)))
      keyed_by n low v e es true own h k g ih =
          let is : e.1 ≡ v = cc in
          (own ∙ ap number is ∙ sym (stays v), h, k)
      keyed_by n low v e es false own h k g ih = (own, h, ih g)

      keyed_set : (n low : ℕ) (v : V) (es : List (ℕ × V)) → AreKeyed number low es → lookup (is_at (nat_cmp n)) es ≡ Some v → AreKeyed number low (set_value (is_at (nat_cmp n)) es (f v))
      keyed_set n low v [] h k = tt
      keyed_set n low v (e ∷ es) h k = keyed_by n low v e es (is_at (nat_cmp n) e.0) h.0 h.1 h.2 k (keyed_set n e.0 v es h.2)

      either : (n : ℕ) (es new : List (ℕ × V)) (o : Option V) → lookup (is_at (nat_cmp n)) es ≡ o → AreKeyed number 0 es
          → ((v : V) → lookup (is_at (nat_cmp n)) es ≡ Some v → new ≡ set_value (is_at (nat_cmp n)) es (f v))
          → (lookup (is_at (nat_cmp n)) es ≡ None → new ≡ es)
          → AreKeyed number 0 new × (values_of new ≡ changed number n f (values_of es))
      either n es new None e h some none =
          (subst (AreKeyed number 0) (sym (none e)) h, ap values_of (none e) ∙ sym (none_changed n (values_of es) (sym (looked_up n 0 es h) ∙ e)))
      either n es new (Some v) e h some none =
          (subst (AreKeyed number 0) (sym (some v e)) (keyed_set n 0 v es h e), ap values_of (some v e) ∙ set_under n 0 v es h e)

      -- the element under a key changes, if there is one
      pub keyed_changed : (n : ℕ) (es new : List (ℕ × V)) → AreKeyed number 0 es
          → ((v : V) → lookup (is_at (nat_cmp n)) es ≡ Some v → new ≡ set_value (is_at (nat_cmp n)) es (f v))
          → (lookup (is_at (nat_cmp n)) es ≡ None → new ≡ es)
          → AreKeyed number 0 new × (values_of new ≡ changed number n f (values_of es))
      keyed_changed n es new h some none = either n es new (lookup (is_at (nat_cmp n)) es) refl h some none
