-- One of a list is so: the first, or one of the others.
use Rattle.std.proofs.Common.{◌≡◌, ℕ, suc, ◌<◌, Any, List, ◌∷◌, length, refl, subst, sym, arith}

pub any-first : {X : Type 0} (P : X → Type 0) (x : X) (xs : List X) → P x → Any P (x ∷ xs)
any-first P x xs is = (0, x, omega arith, refl, is)

pub any-later : {X : Type 0} (P : X → Type 0) (x : X) (xs : List X) → Any P xs → Any P (x ∷ xs)
any-later P x xs a = (suc a.0, a.1, omega (arith, a.2), a.3, a.4)

-- the same of a list that is part of another
pub any-in : {X : Type 0} (P : X → Type 0) (all left : List X) (x : X) (more : List X) → left ≡ x ∷ more → (Any P left → Any P all) → P x → Any P all
any-in P all left x more e among is = among (subst (Any P) (sym e) (any-first P x more is))

pub any-more : {X : Type 0} (P : X → Type 0) (all left : List X) (x : X) (more : List X) → left ≡ x ∷ more → (Any P left → Any P all) → Any P more → Any P all
any-more P all left x more e among a = among (subst (Any P) (sym e) (any-later P x more a))
