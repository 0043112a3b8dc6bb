-- Pieces and their sources, one after another.
use Rattle.std.proofs.Common.{◌≡◌, ℕ, List, [], ◌∷◌, ◌++◌, refl, ap, sym, subst, ◌∙◌, append_assoc, append-nil}
use Rattle.ll_runs.specs.declared.lengths.Lengths.{Lengths}
use Rattle.ll_parts.specs.declared.pieces.Piece.{Piece}
use Rattle.ll_part_laws.specs.Laws.{AreRight, IsOver, IsRight, Place, after}
use Rattle.ll_part_laws.specs.Made.{Source, pieces_from, pieces_of, units_from, units_of}

-- right from one place to another
abbrev pub Right : Lengths → Place → List Source → Place → Type 0
Right l p [] q = p ≡ q
Right l p (s ∷ later) q = IsRight l p s × Right l (after p s) later q

-- these pieces lead from one place to another, with these units
pub record Comes (l : Lengths) (p : Place) (published : List Piece) (units : List (List ℕ)) (q : Place) : Type 0 where
  pub sources : List Source
  pub pieces : published ≡ pieces_from sources
  pub units_are : units ≡ units_from sources
  pub right : Right l p sources q

-- ---- two, one after another

pieces-append : (xs ys : List Source) → pieces_from (xs ++ ys) ≡ pieces_from xs ++ pieces_from ys
pieces-append [] ys = refl
pieces-append (s ∷ xs) ys = ap (λ later. pieces_of s ++ later) (pieces-append xs ys) ∙ sym (append_assoc (pieces_of s) (pieces_from xs) (pieces_from ys))

units-append : (xs ys : List Source) → units_from (xs ++ ys) ≡ units_from xs ++ units_from ys
units-append [] ys = refl
units-append (s ∷ xs) ys = ap (λ later. units_of s ++ later) (units-append xs ys) ∙ sym (append_assoc (units_of s) (units_from xs) (units_from ys))

right-append : (l : Lengths) (p q r : Place) (xs ys : List Source) → Right l p xs q → Right l q ys r → Right l p (xs ++ ys) r
right-append l p q r [] ys e right = subst (λ p. Right l p ys r) (sym e) right
right-append l p q r (s ∷ xs) ys (first, later) right = (first, right-append l (after p s) q r xs ys later right)

pub comes-append : (l : Lengths) (p q r : Place) (a b : List Piece) (x y : List (List ℕ)) → Comes l p a x q → Comes l q b y r → Comes l p (a ++ b) (x ++ y) r
comes-append l p q r a b x y c d = record {
  sources = c.sources ++ d.sources;
  pieces = ap (λ a. a ++ b) c.pieces ∙ ap (λ b. pieces_from c.sources ++ b) d.pieces ∙ sym (pieces-append c.sources d.sources);
  units_are = ap (λ x. x ++ y) c.units_are ∙ ap (λ y. units_from c.sources ++ y) d.units_are ∙ sym (units-append c.sources d.sources);
  right = right-append l p q r c.sources d.sources c.right d.right;
}

-- ---- none, and one

pub comes-none : (l : Lengths) (p : Place) → Comes l p [] [] p
comes-none l p = record { sources = []; pieces = refl; units_are = refl; right = refl }

pub comes-one : (l : Lengths) (p : Place) (s : Source) → IsRight l p s → Comes l p (pieces_of s) (units_of s) (after p s)
comes-one l p s is = record {
  sources = s ∷ [];
  pieces = sym (append-nil (pieces_of s));
  units_are = sym (append-nil (units_of s));
  right = (is, refl);
}

-- with equal pieces and units in place of these
pub comes-as : (l : Lengths) (p q : Place) (a b : List Piece) (x y : List (List ℕ)) → a ≡ b → x ≡ y → Comes l p a x q → Comes l p b y q
comes-as l p q a b x y e f c = record { sources = c.sources; pieces = sym e ∙ c.pieces; units_are = sym f ∙ c.units_are; right = c.right }

-- ---- up to the end

pub right-all : (l : Lengths) (p q : Place) (sources : List Source) → Right l p sources q → IsOver q.jump q.before → AreRight l p sources
right-all l p q [] e over = subst (λ (p : Place). IsOver p.jump p.before) (sym e) over
right-all l p q (s ∷ later) (first, right) over = (first, right-all l (after p s) q later right over)
