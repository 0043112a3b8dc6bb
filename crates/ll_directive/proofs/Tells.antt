-- The directives read pair by pair, settled, are what the query asks for.
use Rattle.std.proofs.Common.{◌≡◌, ℕ, List, [], ◌∷◌, Option, Some, None, refl, ap, ◌∙◌}
use Rattle.std.specs.Prelude.{option_map, option_and_then, fold, codes}
use Rattle.ll_attr.specs.Numbers.{number_in}
use Rattle.ll_directive.specs.Targets.{values_of, each, skip_in, at_most_one, directives_of, directives_in}
use Rattle.ll_directive.specs.Told.{with_one, told_by, told_after, at_most_one_of, settled}
use Rattle.ll_directive.specs.declared.query.Few.{Few}
use Rattle.ll_directive.specs.declared.query.Few.TheVariants.{Zero, More}
use Rattle.ll_item.specs.declared.skip_kind.SkipKind.{SkipKind}

bad-stays : {A : Type 0} (read : List ℕ → Option A) (values : List (List ℕ)) → told_by read None values ≡ None
bad-stays read [] = refl
bad-stays read (value ∷ more) = bad-stays read more

one-more : {A : Type 0} (few : Few A) (x : A) (xs : Option (List A)) → option_map (λ xs. fold with_one (with_one few x) xs) xs ≡ option_map (λ xs. fold with_one few xs) (option_map (λ xs. x ∷ xs) xs)
one-more few x None = refl
one-more few x (Some xs) = refl

told-each : {A : Type 0} (read : List ℕ → Option A) (few : Few A) (values : List (List ℕ)) → told_by read (Some few) values ≡ option_map (λ xs. fold with_one few xs) (each read values)
told-each read few [] = refl
told-each {A} read few (value ∷ more) = by (read value) (λ x. told-each read (with_one few x) more)
  where
    by : (r : Option A) → ((x : A) → told_by read (Some (with_one few x)) more ≡ option_map (λ xs. fold with_one (with_one few x) xs) (each read more))
        → told_by read (option_map (λ x. with_one few x) r) more ≡ option_map (λ xs. fold with_one few xs) (option_and_then (λ x. option_map (λ xs. x ∷ xs) (each read more)) r)
    by None rest = bad-stays read more
    by (Some x) rest = rest x ∙ one-more few x (each read more)

more-stays : {A : Type 0} (xs : List A) → fold with_one More xs ≡ More
more-stays [] = refl
more-stays (x ∷ xs) = more-stays xs

few-one : {A : Type 0} (xs : List A) → at_most_one_of (fold with_one Zero xs) ≡ at_most_one xs
few-one [] = refl
few-one (x ∷ []) = refl
few-one (x ∷ y ∷ more) = ap at_most_one_of (more-stays more)

abbrev few-of : {A : Type 0} → Option (List A) → Option (Few A)
few-of xs = option_map (λ xs. fold with_one Zero xs) xs

settled-of : (msns parts : Option (List ℕ)) (skips : Option (List SkipKind))
    → settled (record { msn = few-of msns; part = few-of parts; skip = few-of skips }) ≡ directives_of msns parts skips
settled-of None parts skips = refl
settled-of (Some msns) None skips = refl
settled-of (Some msns) (Some parts) None = refl
settled-of (Some msns) (Some parts) (Some skips) = rw (few-one msns, few-one parts, few-one skips) refl

pub settled_told : (pairs : List (List ℕ × List ℕ)) → settled (told_after (record { msn = Some Zero; part = Some Zero; skip = Some Zero }) pairs) ≡ directives_in pairs
settled_told pairs =
    rw (told-each (number_in 20) Zero (values_of (codes "_HLS_msn") pairs), told-each (number_in 20) Zero (values_of (codes "_HLS_part") pairs), told-each skip_in Zero (values_of (codes "_HLS_skip") pairs))
    (settled-of _ _ _)
