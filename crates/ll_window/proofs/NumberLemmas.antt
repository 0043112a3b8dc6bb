-- Parts numbered one by one have the numbers of their segments and their places in them.
use Rattle.std.proofs.Common.{◌≡◌, ℕ, ◌+◌, List, [], ◌∷◌, ◌++◌, Bool, true, false, refl, ap, sym, ◌∙◌, cond, length, append-nil, arith, Some}
use Rattle.ll_item.specs.declared.part.Part.{Part}
use Rattle.ll_window.specs.declared.part_position.PartPosition.{PartPosition}
use Rattle.ll_window.specs.Numbers.{NumberedPart, numbered_parts, placed, placed_rows, number_after, last_place, NumbersLaw}
use Rattle.ll_window.specs.Rows.{begun, rows, one_if, is_broken}
use Rattle.ll_window.specs.Segments.{Split, split, put_by, closed, finished_by, unfinished_by, duration}

abbrev the_place : ℕ → ℕ → PartPosition
the_place n i = record { number = n; index = i }

same_place : (n m i j : ℕ) → n ≡ m → i ≡ j → (record { number = n; index = i }) ≡ the_place m j
same_place n m i j e f = ap (λ x. the_place x i) e ∙ ap (λ x. the_place m x) f

-- segments of which the first begins at this index, and then the open one
abbrev pub laid : ℕ → ℕ → List (List Part) → List Part → List NumberedPart
laid number index [] open_parts = placed number index open_parts
laid number index (g ∷ gs) open_parts = placed number index g ++ laid (number + 1) 0 gs open_parts

abbrev numbered : ℕ → ℕ → Part → NumberedPart
numbered number index p = record { number = number; index = index; part = p }

-- a part at the start
laid-put : (b : Bool) (number index : ℕ) (p : Part) (gs : List (List Part)) (rest : List Part)
    → numbered number index p ∷ cond b (laid (number + 1) 0 gs rest) (laid number (index + 1) gs rest)
    ≡ laid number index (put_by b p gs rest).finished (put_by b p gs rest).unfinished
laid-put true number index p gs rest = refl
laid-put false number index p [] rest = refl
laid-put false number index p (g ∷ gs) rest = refl

pub by_places : (number index : ℕ) (ps : List Part) → numbered_parts number index ps ≡ laid number index (split ps).finished (split ps).unfinished
by_places number index [] = refl
by_places number index (p ∷ ps) =
    ap (λ more. numbered number index p ∷ cond p.finish more (numbered_parts number (index + 1) ps)) (by_places (number + 1) 0 ps)
    ∙ ap (λ more. numbered number index p ∷ cond p.finish (laid (number + 1) 0 (split ps).finished (split ps).unfinished) more) (by_places number (index + 1) ps)
    ∙ laid-put p.finish number index p (split ps).finished (split ps).unfinished

laid-rows : (number maps time : ℕ) (gs : List (List Part)) (rest : List Part)
    → placed_rows (rows number maps time gs) (number_after number gs) rest ≡ laid number 0 gs rest
laid-rows number maps time [] rest = refl
laid-rows number maps time (g ∷ gs) rest =
    ap (λ more. placed number 0 g ++ more) (laid-rows (number + 1) (maps + one_if (is_broken g)) (begun time g + duration g) gs rest)

laid-closed : (number index : ℕ) (gs : List (List Part)) (ps : List Part) → laid number index (gs ++ closed ps) [] ≡ laid number index gs ps
laid-closed number index [] [] = refl
laid-closed number index [] (p ∷ ps) = append-nil (placed number index (p ∷ ps))
laid-closed number index (g ∷ gs) ps = ap (λ more. placed number index g ++ more) (laid-closed (number + 1) 0 gs ps)

pub laid-by : (b : Bool) (number : ℕ) (s : Split) → laid number 0 (finished_by b s) (unfinished_by b s) ≡ laid number 0 s.finished s.unfinished
laid-by true number s = laid-closed number 0 s.finished s.unfinished
laid-by false number s = refl

pub numbers-law : NumbersLaw
numbers-law first maps time e ps =
    laid-rows first maps time (finished_by e (split ps)) (unfinished_by e (split ps)) ∙ laid-by e first (split ps) ∙ sym (by_places first 0 ps)

-- the last of the parts

last-cons : (x : NumberedPart) (xs : List NumberedPart) (l : PartPosition) → last_place xs ≡ Some l → last_place (x ∷ xs) ≡ Some l
last-cons x [] l e = absurd (grind (arith, e))
last-cons x (y ∷ ys) l e = e

-- the index of the part after these, of which the first has this index
abbrev index_after : ℕ → List (List Part) → List Part → ℕ
index_after index [] ps = index + length ps
index_after index (g ∷ gs) ps = length ps

abbrev after : ℕ → ℕ → Split → PartPosition
after number index s = record { number = number + length s.finished; index = index_after index s.finished s.unfinished }

after_by : (b : Bool) (number index : ℕ) (q : Part) (gs : List (List Part)) (ps : List Part)
    → cond b (after (number + 1) 0 (record { finished = gs; unfinished = ps })) (after number (index + 1) (record { finished = gs; unfinished = ps }))
    ≡ after number index (put_by b q gs ps)
after_by true number index q [] ps = same_place _ _ _ _ (omega arith) (omega arith)
after_by true number index q (g ∷ gs) ps = same_place _ _ _ _ (omega arith) refl
after_by false number index q [] ps = same_place _ _ _ _ (omega arith) (omega arith)
after_by false number index q (g ∷ gs) ps = same_place _ _ _ _ (omega arith) refl

last_by : (b : Bool) (x : NumberedPart) (xs ys : List NumberedPart) (l m : PartPosition) → last_place xs ≡ Some l → last_place ys ≡ Some m
    → last_place (x ∷ cond b xs ys) ≡ Some (cond b l m)
last_by true x xs ys l m e f = last-cons x xs l e
last_by false x xs ys l m e f = last-cons x ys m f

last-from : (number index : ℕ) (ps : List Part) (p : Part) → last_place (numbered_parts number index (ps ++ p ∷ [])) ≡ Some (after number index (split ps))
last-from number index [] p = one p.finish
  where
    one : (b : Bool) → last_place (numbered number index p ∷ cond b [] []) ≡ Some (after number index (split []))
    one true = ap Some (same_place _ _ _ _ (omega arith) (omega arith))
    one false = ap Some (same_place _ _ _ _ (omega arith) (omega arith))
last-from number index (q ∷ ps) p =
    last_by q.finish (numbered number index q) _ _ _ _ (last-from (number + 1) 0 ps p) (last-from number (index + 1) ps p)
    ∙ ap Some (after_by q.finish number index q (split ps).finished (split ps).unfinished)

from_zero : (number : ℕ) (gs : List (List Part)) (ps : List Part)
    → after number 0 (record { finished = gs; unfinished = ps }) ≡ (record { number = number + length gs; index = length ps })
from_zero number [] ps = same_place _ _ _ _ refl (omega arith)
from_zero number (g ∷ gs) ps = refl

-- one more part stands after the segments and the open parts
pub last-snoc : (number : ℕ) (ps : List Part) (p : Part)
    → last_place (numbered_parts number 0 (ps ++ p ∷ [])) ≡ Some (record { number = number + length (split ps).finished; index = length (split ps).unfinished })
last-snoc number ps p = last-from number 0 ps p ∙ ap Some (from_zero number (split ps).finished (split ps).unfinished)
