-- A list with one more element at its end.
use Rattle.std.proofs.Common.{◌≡◌, List, [], ◌∷◌, ◌++◌, map, true, not, refl, ap, sym, ◌∙◌, append_assoc}
use Rattle.std.proofs.lemmas.List.{append-nil}
use Rattle.std.specs.List.{flat_map}
use Rattle.ll_read.specs.Reading.{is_empty}

pub some_last : {A : Type 0} (xs : List A) (x : A) → not (is_empty (xs ++ x ∷ [])) ≡ true
some_last [] x = refl
some_last (y ∷ ys) x = refl

pub map_last : {A B : Type 0} (f : A → B) (xs : List A) (x : A) (more : List B) → map f (xs ++ x ∷ []) ++ more ≡ map f xs ++ (f x ∷ more)
map_last f [] x more = refl
map_last f (y ∷ ys) x more = ap (λ l. f y ∷ l) (map_last f ys x more)

pub flat_map_last : {A B : Type 0} (f : A → List B) (xs : List A) (x : A) (more : List B) → flat_map f (xs ++ x ∷ []) ++ more ≡ flat_map f xs ++ (f x ++ more)
flat_map_last f [] x more = ap (λ l. l ++ more) (append-nil (f x))
flat_map_last f (y ∷ ys) x more =
    append_assoc (f y) (flat_map f (ys ++ x ∷ [])) more ∙ ap (λ l. f y ++ l) (flat_map_last f ys x more)
    ∙ sym (append_assoc (f y) (flat_map f ys) (f x ++ more))

-- three lists before a fourth
pub in_three : {A : Type 0} (a b c more : List A) → (a ++ (b ++ c)) ++ more ≡ a ++ (b ++ (c ++ more))
in_three a b c more = append_assoc a (b ++ c) more ∙ ap (λ l. a ++ l) (append_assoc b c more)
