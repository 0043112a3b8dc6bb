-- Names are separated by their commas.
use Rattle.std.proofs.Common.{◌≡◌, ℕ, List, [], ◌∷◌, ◌++◌, length, arith, refl, ap, sym, ◌∙◌}
use Rattle.std.proofs.lemmas.List.{append-nil}
use Rattle.std.specs.List.{flat_map, join_with_byte}

after_commas : (name : List ℕ) (names : List (List ℕ)) → join_with_byte 44 (name ∷ names) ≡ name ++ flat_map (λ name. 44 ∷ name) names
after_commas name [] = sym (append-nil name)
after_commas name (next ∷ names) = ap (λ text. name ++ (44 ∷ text)) (after_commas next names)

-- the first name, and then the others, each after a comma, are all of them joined
pub joined : (first : List ℕ) (more names : List (List ℕ)) → names ≡ first ∷ more → first ++ flat_map (λ name. 44 ∷ name) more ≡ join_with_byte 44 names
joined first more names is = sym (after_commas first more) ∙ ap (join_with_byte 44) (sym is)

pub none : (names : List (List ℕ)) → length names ≡ 0 → [] ≡ join_with_byte 44 names
none [] h = refl
none (name ∷ names) h = absurd (omega arith)
