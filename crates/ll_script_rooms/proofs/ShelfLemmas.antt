-- A number above all those of a shelf: nothing is there, and what is put there stands last.
use Rattle.std.proofs.Common.{◌≡◌, ℕ, suc, ◌<◌, cond, Some, None, List, [], ◌∷◌, ◌++◌, refl, ap, ◌∙◌, sym, arith}
use Rattle.std.specs.Ordering.{nat_cmp, match_ordering, is_eq}
use Rattle.std.specs.Cmp.{nat_cmp_is}
use Rattle.std.specs.declared.cmp.Ordering.TheVariants.{Greater}
use Rattle.std.specs.List.{All}
use Rattle.std.specs.Map.{keys_of, lookup}
use Rattle.std.specs.BTreeMap.{insert_entry, is_at}

-- what is put under a number above all stands last
pub put_last : {X : Type 0} (k : ℕ) (v : X) (es : List (ℕ × X)) → All (λ n. n < k) (keys_of es) → insert_entry nat_cmp es k v ≡ es ++ (k, v) ∷ []
put_last k v [] h = refl
put_last k v (e ∷ es) h =
    ap (λ o. match_ordering o ((k, v) ∷ e ∷ es) ((e.0, v) ∷ es) (e ∷ insert_entry nat_cmp es k v)) (sym (nat_cmp_is k e.0 Greater (h 0 0 (omega arith))))
    ∙ ap (λ xs. e ∷ xs) (put_last k v es (λ i d lt. h (suc i) d (omega arith)))

-- nothing is under a number above all
pub none_above : {X : Type 0} (k : ℕ) (es : List (ℕ × X)) → All (λ n. n < k) (keys_of es) → lookup (is_at (nat_cmp k)) es ≡ None
none_above k [] h = refl
none_above k (e ∷ es) h =
    ap (λ o. cond (is_eq o) (Some e.1) (lookup (is_at (nat_cmp k)) es)) (sym (nat_cmp_is k e.0 Greater (h 0 0 (omega arith))))
    ∙ none_above k es (λ i d lt. h (suc i) d (omega arith))
