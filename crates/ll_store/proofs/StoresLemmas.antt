-- The store at a place, and all others.
use Rattle.std.proofs.Common.{◌≡◌, ℕ, zero, suc, ◌+◌, ◌<◌, ◌≤◌, List, [], ◌∷◌, ◌++◌, Bool, true, false, Option, Some, None, map, refl, ap, sym, ◌∙◌, append_assoc, drop, length, nat_lt, true≢false, arith}
use Rattle.std.specs.Prelude.{Result, Ok, Err, OnOk, option_map, slice_get, slice_set}
use Rattle.std.proofs.lemmas.List.{drop_more, map-append}
use Rattle.std.specs.Option.{option_map_or}
use Rattle.ll_settings.specs.Settings.{Configuration}
use Rattle.std.proofs.lemmas.Bool.Decides.{nat_tests}
use Rattle.ll_rendition.specs.declared.rendition.Rendition.{Rendition}
use Rattle.ll_store.specs.Media.{StoreValue, store}
use Rattle.ll_store.specs.Stock.{Stock}
use Rattle.ll_store.specs.Stores.{all_kept, is_ready_at, kept_in, stores_from, stores_with, with_by}
use Rattle.ll_store.specs.declared.arrival.Arrival.{Arrival}

pub map-set : {A B : Type 0} (f : A → B) (xs : List A) (i : ℕ) (x : A) → map f (slice_set xs i x) ≡ slice_set (map f xs) i (f x)
map-set f [] i x = refl
map-set f (y ∷ ys) zero x = refl
map-set f (y ∷ ys) (suc i) x = ap (λ l. f y ∷ l) (map-set f ys i x)

pub map-got : {A B : Type 0} (f : A → B) (xs : List A) (i : ℕ) (x : A) → slice_get xs i ≡ Some x → slice_get (map f xs) i ≡ Some (f x)
map-got f [] i x e = absurd (cc)
map-got f (y ∷ ys) zero x e = ap (option_map f) e
map-got f (y ∷ ys) (suc i) x e = map-got f ys i x e

pub set-same : {A : Type 0} (xs : List A) (i : ℕ) (x : A) → slice_get xs i ≡ Some x → slice_set xs i x ≡ xs
set-same [] i x e = refl
set-same (y ∷ ys) zero x e = let is : x ≡ y = cc in ap (λ z. z ∷ ys) is
set-same (y ∷ ys) (suc i) x e = ap (λ l. y ∷ l) (set-same ys i x e)

pub set-got : {A : Type 0} (xs : List A) (i : ℕ) (x y : A) → slice_get xs i ≡ Some y → slice_get (slice_set xs i x) i ≡ Some x
set-got [] i x y e = absurd (cc)
set-got (z ∷ zs) zero x y e = refl
set-got (z ∷ zs) (suc i) x y e = set-got zs i x y e

-- a store that keeps what it kept
pub same-kept : (xs : List Stock) (i : ℕ) (old new : Stock) → slice_get xs i ≡ Some old → new.kept ≡ old.kept → all_kept (slice_set xs i new) ≡ all_kept xs
same-kept xs i old new there same =
    map-set kept_in xs i new ∙ ap (slice_set (all_kept xs) i) same ∙ set-same (all_kept xs) i old.kept (map-got kept_in xs i old there)

pub made-ready : {E : Type 0} (r : Result Unit E) (xs : List Stock) (i : ℕ) (old new : Stock) → slice_get xs i ≡ Some old → OnOk r (new.ready ≡ true)
    → OnOk r (is_ready_at i (slice_set xs i new) ≡ true)
made-ready (Err e) xs i old new there ready = tt
made-ready (Ok u) xs i old new there ready = ap (λ o. option_map_or (λ (s : Stock). s.ready) o true) (set-got xs i new old there) ∙ ready

pub gone : (place len many : ℕ) → len ≡ many → (place < len → false ≡ true) → many ≤ place
gone place len many same past = by_test (nat_lt place len) refl
  where
    by_test : (b : Bool) → nat_lt place len ≡ b → many ≤ place
    by_test true e = absurd (true≢false (sym (past (grind (arith, nat_tests)))))
    by_test false e = grind (arith, nat_tests, same)

pub map-past : {A B : Type 0} (f : A → B) (xs : List A) (i : ℕ) → slice_get xs i ≡ None → slice_get (map f xs) i ≡ None
map-past f [] i e = refl
map-past f (y ∷ ys) zero e = absurd (cc)
map-past f (y ∷ ys) (suc i) e = map-past f ys i e

nowhere_by : (a : Arrival) (k : Option Rendition) (all : List StoreValue) → with_by a k None all ≡ all
nowhere_by a None all = refl
nowhere_by a (Some k) all = refl

pub nowhere : (a : Arrival) (ks : List Rendition) (all : List StoreValue) → slice_get all a.rendition ≡ None → stores_with a ks all ≡ all
nowhere a ks all none = ap (λ s. with_by a (slice_get ks a.rendition) s all) none ∙ nowhere_by a (slice_get ks a.rendition) all

-- a store of no items, and those of the renditions that are left
pub next-empty : (c : Configuration) (made : List Stock) (s : Stock) (names : List (List ℕ)) (k : ℕ) (all : List StoreValue) → k < length names → s.kept ≡ store c []
    → all_kept made ++ stores_from c [] k (drop k names) ≡ all → all_kept (made ++ s ∷ []) ++ stores_from c [] (k + 1) (drop (k + 1) names) ≡ all
next-empty c made s names k all h empty so_far =
    let rest = stores_from c [] (k + 1) (drop (k + 1) names) in
    ap (λ l. l ++ rest) (map-append kept_in made (s ∷ []))
    ∙ append_assoc (all_kept made) (s.kept ∷ []) rest
    ∙ ap (λ t. all_kept made ++ t ∷ rest) empty
    ∙ sym (ap (λ ns. all_kept made ++ stores_from c [] k ns) (drop_more names k [] h))
    ∙ so_far
