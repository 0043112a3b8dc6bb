-- The lines of a stream of bytes: those that LF ended so far, the open one, and what any further bytes make of them.
use Rattle.std.proofs.Common.{◌≡◌, ◌≢◌, ℕ, ◌+◌, ◌==◌, ◌<◌, ◌≤◌, List, [], ◌∷◌, ◌++◌, Bool, true, false, refl, ap, ap₂, ◌∙◌, sym, length, map, arith, append_assoc, append-nil, length-append, cond, if◌then◌else◌, take, ◌-◌, slice_index}
use Rattle.std.proofs.lemmas.Bool.Decides.{nat_tests}
use Rattle.std.proofs.lemmas.List.{map_push, length-take}
use Rattle.std.specs.List.{onto_first}
use Rattle.std.specs.Str.Lines.{lines, lines_of_parts, strip_carriage_return}
use Rattle.ll_replay.specs.Pieces.{ended_pieces, last_piece, pieces}
use Rattle.ll_replay.specs.Stream.{ended_lines, open_line}

-- whole lines with their CR, and the bytes after the last of them
record Split : Type 0 where
  whole : List (List ℕ)
  rest : List ℕ

abbrev put_by : Bool → ℕ → List (List ℕ) → List ℕ → Split
put_by true b whole rest = record { whole = [] ∷ whole; rest = rest }
put_by false b [] rest = record { whole = []; rest = b ∷ rest }
put_by false b (l ∷ whole) rest = record { whole = (b ∷ l) ∷ whole; rest = rest }

abbrev split : List ℕ → Split
split [] = record { whole = []; rest = [] }
split (b ∷ bs) = put_by (b == 10) b (split bs).whole (split bs).rest

abbrev parts : Split → List (List ℕ)
parts s = s.whole ++ s.rest ∷ []

parts-put : (a : Bool) (b : ℕ) (whole : List (List ℕ)) (rest : List ℕ)
    → cond a ([] ∷ (whole ++ rest ∷ [])) (onto_first b (whole ++ rest ∷ [])) ≡ parts (put_by a b whole rest)
parts-put true b whole rest = refl
parts-put false b [] rest = refl
parts-put false b (l ∷ whole) rest = refl

pieces-are : (bs : List ℕ) → pieces bs ≡ parts (split bs)
pieces-are [] = refl
pieces-are (b ∷ bs) = ap (λ ps. cond (b == 10) ([] ∷ ps) (onto_first b ps)) (pieces-are bs) ∙ parts-put (b == 10) b (split bs).whole (split bs).rest

ended_pieces-is : (whole : List (List ℕ)) (rest : List ℕ) → ended_pieces (whole ++ rest ∷ []) ≡ map strip_carriage_return whole
ended_pieces-is [] rest = refl
ended_pieces-is (l ∷ []) rest = refl
ended_pieces-is (l ∷ m ∷ whole) rest = ap (λ ls. strip_carriage_return l ∷ ls) (ended_pieces-is (m ∷ whole) rest)

last_piece-is : (whole : List (List ℕ)) (rest : List ℕ) → last_piece (whole ++ rest ∷ []) ≡ rest
last_piece-is [] rest = refl
last_piece-is (l ∷ []) rest = refl
last_piece-is (l ∷ m ∷ whole) rest = last_piece-is (m ∷ whole) rest

-- the line that the end of the stream ends, if any
abbrev last_line : List ℕ → List (List ℕ)
last_line rest = if length rest == 0 then [] else rest ∷ []

lines_of_parts-is : (whole : List (List ℕ)) (rest : List ℕ) → lines_of_parts (whole ++ rest ∷ []) ≡ map strip_carriage_return whole ++ last_line rest
lines_of_parts-is [] rest = refl
lines_of_parts-is (l ∷ []) rest = refl
lines_of_parts-is (l ∷ m ∷ whole) rest = ap (λ ls. strip_carriage_return l ∷ ls) (lines_of_parts-is (m ∷ whole) rest)

ended_lines-is : (bs : List ℕ) → ended_lines bs ≡ map strip_carriage_return (split bs).whole
ended_lines-is bs = ap ended_pieces (pieces-are bs) ∙ ended_pieces-is (split bs).whole (split bs).rest

open_line-is : (bs : List ℕ) → open_line bs ≡ (split bs).rest
open_line-is bs = ap last_piece (pieces-are bs) ∙ last_piece-is (split bs).whole (split bs).rest

lines-is : (bs : List ℕ) → lines bs ≡ ended_lines bs ++ last_line (open_line bs)
lines-is bs =
    ap lines_of_parts (pieces-are bs) ∙ lines_of_parts-is (split bs).whole (split bs).rest
    ∙ ap₂ (λ ls r. ls ++ last_line r) (sym (ended_lines-is bs)) (sym (open_line-is bs))

-- one more byte, which ends a line or doesn't
abbrev added_by : Bool → Split → ℕ → Split
added_by true s b = record { whole = s.whole ++ s.rest ∷ []; rest = [] }
added_by false s b = record { whole = s.whole; rest = s.rest ++ b ∷ [] }

abbrev onto : Bool → ℕ → Split → Split
onto a q s = put_by a q s.whole s.rest

put-added : (a b : Bool) (q p : ℕ) (ls : List (List ℕ)) (r : List ℕ)
    → onto a q (added_by b (record { whole = ls; rest = r }) p) ≡ added_by b (onto a q (record { whole = ls; rest = r })) p
put-added true true q p ls r = refl
put-added true false q p ls r = refl
put-added false true q p [] r = refl
put-added false false q p [] r = refl
put-added false true q p (l ∷ ls) r = refl
put-added false false q p (l ∷ ls) r = refl

put-empty : (a : Bool) (b : ℕ) → put_by a b [] [] ≡ added_by a (record { whole = []; rest = [] }) b
put-empty true b = refl
put-empty false b = refl

split-push : (bs : List ℕ) (b : ℕ) → split (bs ++ b ∷ []) ≡ added_by (b == 10) (split bs) b
split-push [] b = put-empty (b == 10) b
split-push (q ∷ bs) b =
    ap (onto (q == 10) q) (split-push bs b) ∙ put-added (q == 10) (b == 10) q b (split bs).whole (split bs).rest

-- a byte that ends no line
pub at_other : (bs : List ℕ) (b : ℕ) → b ≢ 10 → (ended_lines (bs ++ b ∷ []) ≡ ended_lines bs) × (open_line (bs ++ b ∷ []) ≡ open_line bs ++ b ∷ [])
at_other bs b ne =
    let e : (b == 10) ≡ false = grind (arith, nat_tests) in
    let s = split-push bs b ∙ ap (λ t. added_by t (split bs) b) e in (
      ended_lines-is (bs ++ b ∷ []) ∙ ap (λ q. map strip_carriage_return q.whole) s ∙ sym (ended_lines-is bs),
      open_line-is (bs ++ b ∷ []) ∙ ap (λ q. q.rest) s ∙ ap (λ r. r ++ b ∷ []) (sym (open_line-is bs)),
    )

-- an LF
pub at_lf : (bs : List ℕ) (b : ℕ) → b ≡ 10
    → (ended_lines (bs ++ b ∷ []) ≡ ended_lines bs ++ strip_carriage_return (open_line bs) ∷ []) × (open_line (bs ++ b ∷ []) ≡ [])
at_lf bs b h =
    let e : (b == 10) ≡ true = grind (arith, nat_tests) in
    let s = split-push bs b ∙ ap (λ t. added_by t (split bs) b) e in (
      ended_lines-is (bs ++ b ∷ []) ∙ ap (λ q. map strip_carriage_return q.whole) s ∙ map_push strip_carriage_return (split bs).whole (split bs).rest
          ∙ ap₂ (λ ls r. ls ++ strip_carriage_return r ∷ []) (sym (ended_lines-is bs)) (sym (open_line-is bs)),
      open_line-is (bs ++ b ∷ []) ∙ ap (λ q. q.rest) s,
    )

ended_lines-push : (bs : List ℕ) (b : ℕ) → (tail : List (List ℕ)) × (ended_lines (bs ++ b ∷ []) ≡ ended_lines bs ++ tail)
ended_lines-push bs b = by_test (b == 10) refl
  where
    by_test : (t : Bool) → (b == 10) ≡ t → (tail : List (List ℕ)) × (ended_lines (bs ++ b ∷ []) ≡ ended_lines bs ++ tail)
    by_test true e = let h : b ≡ 10 = grind (arith, nat_tests) in (strip_carriage_return (open_line bs) ∷ [], (at_lf bs b h).0)
    by_test false e = let h : b ≢ 10 = grind (arith, nat_tests) in ([], (at_other bs b h).0 ∙ sym (append-nil (ended_lines bs)))

-- the lines that LF ended so far come first, whatever follows
pub lines-from_ended : (bs more : List ℕ) → (tail : List (List ℕ)) × (lines (bs ++ more) ≡ ended_lines bs ++ tail)
lines-from_ended bs [] = (last_line (open_line bs), ap lines (append-nil bs) ∙ lines-is bs)
lines-from_ended bs (b ∷ more) =
    let p = ended_lines-push bs b in
    let q = lines-from_ended (bs ++ b ∷ []) more in
    (p.0 ++ q.0, ap lines (sym (append_assoc bs (b ∷ []) more)) ∙ q.1 ∙ ap (λ ls. ls ++ q.0) p.1 ∙ append_assoc (ended_lines bs) p.0 q.0)

-- this is a line of the bytes, and these are the lines before it
abbrev pub IsNext : List ℕ → List (List ℕ) → List ℕ → Type 0
IsNext bs before l = (tail : List (List ℕ)) × (lines bs ≡ before ++ l ∷ tail)

pub next-at_lf : (bs : List ℕ) (b : ℕ) (more : List ℕ) → b ≡ 10 → IsNext (bs ++ b ∷ more) (ended_lines bs) (strip_carriage_return (open_line bs))
next-at_lf bs b more h =
    let q = lines-from_ended (bs ++ b ∷ []) more in (
      q.0,
      ap lines (sym (append_assoc bs (b ∷ []) more)) ∙ q.1 ∙ ap (λ ls. ls ++ q.0) (at_lf bs b h).0
          ∙ append_assoc (ended_lines bs) (strip_carriage_return (open_line bs) ∷ []) q.0,
    )

pub lines-last_open : (bs : List ℕ) → 0 < length (open_line bs) → lines bs ≡ ended_lines bs ++ open_line bs ∷ []
lines-last_open bs h =
    let e : (length (open_line bs) == 0) ≡ false = grind (arith, nat_tests) in
    lines-is bs ∙ ap (λ a. ended_lines bs ++ (if a then [] else open_line bs ∷ [])) e

pub lines-all_ended : (bs : List ℕ) → length (open_line bs) ≡ 0 → lines bs ≡ ended_lines bs
lines-all_ended bs h =
    let e : (length (open_line bs) == 0) ≡ true = grind (arith, nat_tests) in
    lines-is bs ∙ ap (λ a. ended_lines bs ++ (if a then [] else open_line bs ∷ [])) e ∙ append-nil (ended_lines bs)

length-without_one : (a : Bool) (l : List ℕ) → length l ≤ length (if a then take (length l - 1) l else l) + 1
length-without_one true l = simp length-take (omega arith)
length-without_one false l = omega arith

length-strip_carriage_return : (l : List ℕ) → length l ≤ length (strip_carriage_return l) + 1
length-strip_carriage_return l = length-without_one (slice_index l (length l - 1) == 13) l

-- the next line has more than `n` bytes
abbrev pub NextIsLong : ℕ → List ℕ → List (List ℕ) → Type 0
NextIsLong n bs before = (l : List ℕ) × IsNext bs before l × (n < length l)

long_step : (n : ℕ) (bs more : List ℕ) (b : ℕ) (t : Bool) → (b == 10) ≡ t → n + 1 < length (open_line bs)
    → (n + 1 < length (open_line (bs ++ b ∷ [])) → NextIsLong n ((bs ++ b ∷ []) ++ more) (ended_lines (bs ++ b ∷ []))) → NextIsLong n (bs ++ b ∷ more) (ended_lines bs)
long_step n bs more b true e h next =
    let lf : b ≡ 10 = grind (arith, nat_tests) in
    (strip_carriage_return (open_line bs), next-at_lf bs b more lf, omega (arith, length-strip_carriage_return (open_line bs)))
long_step n bs more b false e h next =
    let other : b ≢ 10 = grind (arith, nat_tests) in
    let p = at_other bs b other in
    let longer : n + 1 < length (open_line (bs ++ b ∷ [])) = rw (p.1, length-append) (omega arith) in
    let q = next longer in
    (q.0, (q.1.0, ap lines (sym (append_assoc bs (b ∷ []) more)) ∙ q.1.1 ∙ ap (λ ls. ls ++ q.0 ∷ q.1.0) p.0), q.2)

-- an open line that no end can make short enough
pub next_is_long : (n : ℕ) (bs more : List ℕ) → n + 1 < length (open_line bs) → NextIsLong n (bs ++ more) (ended_lines bs)
next_is_long n bs [] h =
    let some : 0 < length (open_line bs) = omega arith in
    (open_line bs, ([], ap lines (append-nil bs) ∙ lines-last_open bs some), omega arith)
next_is_long n bs (b ∷ more) h = long_step n bs more b (b == 10) refl h (λ k. next_is_long n (bs ++ b ∷ []) more k)
