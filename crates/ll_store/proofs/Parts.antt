-- The bytes of parts: with one more item, and that they are as many as the parts.
use Rattle.std.proofs.Common.{◌≡◌, ℕ, suc, ◌+◌, Bool, true, false, List, [], ◌∷◌, ◌++◌, fold, refl, ap, ◌∙◌, length, length-append, arith}
use Rattle.ll_item.specs.Told.{Told, finished_last, kept_part, start, step}
use Rattle.ll_item.specs.declared.item.Item.{Item}
use Rattle.ll_item.specs.declared.item.Item.TheVariants as item
use Rattle.ll_item.specs.declared.part.Part.{Part}
use Rattle.ll_window.specs.Segments.{parts, put_by, split}
use Rattle.ll_store.specs.Parts.{before_parts, part_bytes, parts_in}

-- the bytes of an item, if it is a part
abbrev pub of_part : Item → List (List ℕ)
of_part i = before_parts i []

before_more : (i : Item) (xs ys : List (List ℕ)) → before_parts i (xs ++ ys) ≡ before_parts i xs ++ ys
before_more (item.Part part) xs ys = refl
before_more (item.Init r media) xs ys = refl
before_more (item.Finish r) xs ys = refl
before_more (item.Break r time) xs ys = refl
before_more (item.End r) xs ys = refl
before_more (item.Range r id attributes) xs ys = refl
before_more (item.Unrange r id) xs ys = refl

pub part_bytes-snoc : (os : List Item) (o : Item) → part_bytes (os ++ o ∷ []) ≡ part_bytes os ++ of_part o
part_bytes-snoc [] o = refl
part_bytes-snoc (q ∷ os) o = ap (before_parts q) (part_bytes-snoc os o) ∙ before_more q (part_bytes os) (of_part o)

-- a finish changes no more than a flag
pub many-last : (ps : List Part) → length (finished_last ps) ≡ length ps
many-last [] = refl
many-last (p ∷ []) = refl
many-last (p ∷ q ∷ more) = ap suc (many-last (q ∷ more))

one_counted : (t : Told) (i : Item) (more : List (List ℕ)) → length (step t i).parts + length more ≡ length t.parts + length (before_parts i more)
one_counted t (item.Part part) more = omega (arith, length-append t.parts (kept_part t.pending t.restart part ∷ []))
one_counted t (item.Init r media) more = refl
one_counted t (item.Finish r) more = ap (λ n. n + length more) (many-last t.parts)
one_counted t (item.Break r time) more = refl
one_counted t (item.End r) more = refl
one_counted t (item.Range r id attributes) more = refl
one_counted t (item.Unrange r id) more = refl

counted_from : (t : Told) (os : List Item) → length (fold step t os).parts ≡ length t.parts + length (part_bytes os)
counted_from t [] = omega arith
counted_from t (o ∷ os) = counted_from (step t o) os ∙ one_counted t o (part_bytes os)

-- each part has bytes
pub as-many : (os : List Item) → length (parts os) ≡ length (part_bytes os)
as-many os = counted_from start os ∙ omega arith

put_counted : (b : Bool) (p : Part) (gs : List (List Part)) (ps : List Part) (n : ℕ) → parts_in gs + length ps ≡ n
    → parts_in (put_by b p gs ps).finished + length (put_by b p gs ps).unfinished ≡ 1 + n
put_counted true p gs ps n h = omega (arith, h)
put_counted false p [] ps n h = omega (arith, h)
put_counted false p (g ∷ gs) ps n h = omega (arith, h)

-- each part is in a segment, or among those of the open one
pub all-grouped : (ps : List Part) → parts_in (split ps).finished + length (split ps).unfinished ≡ length ps
all-grouped [] = refl
all-grouped (p ∷ ps) = put_counted p.finish p (split ps).finished (split ps).unfinished (length ps) (all-grouped ps) ∙ omega arith
