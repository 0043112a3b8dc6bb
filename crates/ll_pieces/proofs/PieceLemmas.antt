-- Rows as pieces, and the lines of pieces, one after another.
use Rattle.std.proofs.Common.{◌≡◌, ℕ, zero, suc, ◌+◌, ◌-◌, ◌<◌, List, [], ◌∷◌, ◌++◌, Bool, false, length, get_or, take, drop, map, Option, None, Some, refl, ap, ap₂, sym, ◌∙◌, arith, append_assoc, slice_get}
use Rattle.std.proofs.lemmas.List.{drop-map, drop_more, length-map, map-append, take-map}
use Rattle.std.proofs.lemmas.Option.{same_Some}
use Rattle.std.specs.Option.{option_map}
use Rattle.std.specs.Prelude.{flat_map}
use Rattle.ll_line.specs.Text.{text_of}
use Rattle.ll_item.specs.declared.part.Part as item
use Rattle.ll_window.specs.declared.segment.Segment.{Segment}
use Rattle.ll_window.specs.Compact.{Compact, unfinished}
use Rattle.ll_window.specs.Rows.{Row}
use Rattle.ll_window.specs.Window.{segment_at, parts_at, parts_of}
use Rattle.ll_pieces.specs.Segments.{finished_of, printed}
use Rattle.ll_pieces.specs.Piece.{PieceOf, AreFinished, IsOpen, finished_piece, open_piece, row_in, rows_in, piece_lines, joined_lines}
use Rattle.ll_pieces.specs.Pieces.{PiecesOf}
use Rattle.ll_line.specs.Spelling.{segment_lines}
use Rattle.ll_line.proofs.Texts.{texts}

-- ---- rows as pieces

abbrev pub rendered : List Row → Option Row → PiecesOf
rendered finished open_one = record { finished = finished; unfinished = open_one }

rows_again : (rows : List Row) → rows_in (map finished_piece rows) ≡ rows
rows_again [] = refl
rows_again (row ∷ rows) = ap (λ more. row ∷ more) (rows_again rows)

row_again : (row : Option Row) → row_in (option_map open_piece row) ≡ row
row_again None = refl
row_again (Some row) = refl

-- pieces of these rows are finished
pub all-finished : (pieces : List PieceOf) (rows : List Row) → pieces ≡ map finished_piece rows → (rows_in pieces ≡ rows) × AreFinished pieces
all-finished pieces rows e = let back : rows_in pieces ≡ rows = ap rows_in e ∙ rows_again rows in (back, e ∙ ap (map finished_piece) (sym back))

-- a piece of this row is open
pub one-open : (piece : Option PieceOf) (row : Option Row) → piece ≡ option_map open_piece row → (row_in piece ≡ row) × IsOpen piece
one-open piece row e = let back : row_in piece ≡ row = ap row_in e ∙ row_again row in (back, e ∙ ap (option_map open_piece) (sym back))

-- together they are those of a window without its first segments
pub all-pieces : (pieces : List PieceOf) (piece : Option PieceOf) (n : ℕ) (w k : Compact) → pieces ≡ map finished_piece (drop n w.window)
    → piece ≡ option_map open_piece (unfinished w) → w ≡ k → rendered (rows_in pieces) (row_in piece) ≡ rendered (drop n k.window) (unfinished k)
all-pieces pieces piece n w k e f same =
    ap₂ rendered (all-finished pieces (drop n w.window) e).0 (one-open piece (unfinished w) f).0 ∙ ap (λ (x : Compact). rendered (drop n x.window) (unfinished x)) same

-- all but the first ones
dropped : {A : Type 0} (of : A → PieceOf) (n : ℕ) (xs : List A) → AreFinished (map of xs) → map of (drop n xs) ≡ map finished_piece (drop n (rows_in (map of xs)))
dropped of n xs e = sym (drop-map of n xs) ∙ ap (drop n) e ∙ drop-map finished_piece n (rows_in (map of xs))

length_rows : {A : Type 0} (of : A → PieceOf) (xs : List A) → length (rows_in (map of xs)) ≡ length xs
length_rows of xs = length-map (map of xs) (λ p. p.row) ∙ length-map xs of

-- the first ones, and those of two lists
pub first-finished : {A : Type 0} (of : A → PieceOf) (n : ℕ) (xs ys : List A) → ys ≡ take n xs → AreFinished (map of xs) → AreFinished (map of ys)
first-finished of n xs ys e f =
    (all-finished (map of ys) (take n (rows_in (map of xs))) (ap (map of) e ∙ sym (take-map of n xs) ∙ ap (take n) f ∙ take-map finished_piece n (rows_in (map of xs)))).1

pub both-finished : {A : Type 0} (of : A → PieceOf) (xs ys zs : List A) → zs ≡ xs ++ ys → AreFinished (map of xs) → AreFinished (map of ys) → AreFinished (map of zs)
both-finished of xs ys zs e f g =
    let one = rows_in (map of xs) in
    let two = rows_in (map of ys) in
    (all-finished (map of zs) (one ++ two) (ap (map of) e ∙ map-append of xs ys ∙ ap₂ (λ a b. a ++ b) f g ∙ sym (map-append finished_piece one two))).1

pub still-finished : {A : Type 0} (of : A → PieceOf) (n : ℕ) (xs ys : List A) → ys ≡ drop n xs → AreFinished (map of xs)
    → (rows_in (map of ys) ≡ drop n (rows_in (map of xs))) × AreFinished (map of ys)
still-finished of n xs ys e f = all-finished (map of ys) (drop n (rows_in (map of xs))) (ap (map of) e ∙ dropped of n xs f)

-- the last ones, of which at most that many are left
pub last-pieces : {A : Type 0} (of : A → PieceOf) (n count : ℕ) (xs ys : List A) (open_one : Option Row) (p : PiecesOf) → rendered (rows_in (map of xs)) open_one ≡ p
    → AreFinished (map of xs) → ys ≡ drop n xs → n ≡ length xs - count
    → rendered (rows_in (map of ys)) open_one ≡ record p { finished = drop (length p.finished - count) p.finished }
last-pieces of n count xs ys open_one p is f e gone =
    ap (λ rows. rendered rows open_one) (still-finished of n xs ys e f).0
    ∙ ap (λ m. rendered (drop m (rows_in (map of xs))) open_one) (gone ∙ ap (λ l. l - count) (sym (length_rows of xs)))
    ∙ ap (λ (q : PiecesOf). record q { finished = drop (length q.finished - count) q.finished }) is

abbrev pub row_of : Segment → List item.Part → Row
row_of s ps = record { segment = s; parts = ps }

-- the row at this place, read in two calls, comes after those before it
row_at : (rows : List Row) (i : ℕ) (s : Segment) (ps : List item.Part) → Some s ≡ segment_at rows i → ps ≡ parts_at rows i → take (suc i) rows ≡ take i rows ++ row_of s ps ∷ []
row_at [] i s ps e f = absurd (grind (arith, e))
row_at (row ∷ rows) zero s ps e f = ap₂ (λ x xs. row_of x xs ∷ []) (sym (same_Some s row.segment e)) (sym f)
row_at (row ∷ rows) (suc i) s ps e f = ap (λ more. row ∷ more) (row_at rows i s ps e f)

-- the pieces of the first rows, and one of the next
pub next-row : {A : Type 0} (of : A → PieceOf) (xs ys : List A) (x : A) (rows : List Row) (i : ℕ) (s : Segment) (ps : List item.Part) → Some s ≡ segment_at rows i
    → ps ≡ parts_at rows i → of x ≡ finished_piece (row_of s ps) → map of xs ≡ map finished_piece (take i rows) → ys ≡ xs ++ x ∷ [] → map of ys ≡ map finished_piece (take (i + 1) rows)
next-row of xs ys x rows i s ps e f is h pushed =
    let next : suc i ≡ i + 1 = omega arith in
    ap (map of) pushed
    ∙ map-append of xs (x ∷ [])
    ∙ ap₂ (λ before last. before ++ last ∷ []) h is
    ∙ sym (map-append finished_piece (take i rows) (row_of s ps ∷ []))
    ∙ ap (map finished_piece) (sym (row_at rows i s ps e f))
    ∙ ap (λ n. map finished_piece (take n rows)) next

-- the row at a place after the first ones
row_after : (rows : List Row) (n i : ℕ) → slice_get (drop n rows) i ≡ slice_get rows (n + i)
row_after rows zero i = let same : i ≡ 0 + i = omega arith in ap (slice_get rows) same
row_after [] (suc n) i = refl
row_after (row ∷ rows) (suc n) i = let next : suc (n + i) ≡ suc n + i = omega arith in row_after rows n i ∙ ap (slice_get (row ∷ rows)) next

pub segment_after : (rows : List Row) (n i place : ℕ) (s : Option Segment) → n + i ≡ place → s ≡ segment_at rows place → s ≡ segment_at (drop n rows) i
segment_after rows n i place s at e = e ∙ ap (segment_at rows) (sym at) ∙ ap (option_map (λ (r : Row). r.segment)) (sym (row_after rows n i))

pub parts_after : (rows : List Row) (n i place : ℕ) (ps : List item.Part) → n + i ≡ place → ps ≡ parts_at rows place → ps ≡ parts_at (drop n rows) i
parts_after rows n i place ps at e = e ∙ ap (parts_at rows) (sym at) ∙ ap parts_of (sym (row_after rows n i))

-- there is a segment at each place below their number
pub some-place : (rows : List Row) (i : ℕ) → i < length rows → None ≡ segment_at rows i → ⊥
some-place [] i h e = absurd (omega arith)
some-place (row ∷ rows) zero h e = absurd (grind (arith, e))
some-place (row ∷ rows) (suc i) h e = some-place rows i (omega arith) e

-- ---- lines of pieces

joined_rows : (leads : Bool) (rows : List Row) → joined_lines leads (map finished_piece rows) ≡ flat_map segment_lines (printed leads rows)
joined_rows leads [] = refl
joined_rows leads (row ∷ rows) = ap (λ more. segment_lines (finished_of leads row) ++ more) (joined_rows false rows)

-- the lines of all finished pieces
pub joined-finished : {A : Type 0} (of : A → PieceOf) (leads : Bool) (xs : List A) → AreFinished (map of xs)
    → joined_lines leads (map of xs) ≡ flat_map segment_lines (printed leads (rows_in (map of xs)))
joined-finished of leads xs e = ap (joined_lines leads) e ∙ joined_rows leads (rows_in (map of xs))

-- the text so far and the lines from this place on stay the whole text when this piece's are added
pub next-piece : {A : Type 0} (of : A → PieceOf) (leads : Bool) (old new whole : List ℕ) (xs : List A) (i : ℕ) (x : A) → i < length xs → x ≡ get_or xs i x
    → new ≡ old ++ text_of (piece_lines leads (of x))
    → old ++ text_of (joined_lines leads (map of (drop i xs))) ≡ whole → new ++ text_of (joined_lines false (map of (drop (i + 1) xs))) ≡ whole
next-piece of leads old new whole xs i x within read added h =
    let here : drop i xs ≡ x ∷ drop (i + 1) xs = drop_more xs i x within ∙ ap (λ y. y ∷ drop (i + 1) xs) (sym read) in
    let own = piece_lines leads (of x) in
    let rest = joined_lines false (map of (drop (i + 1) xs)) in
    ap (λ t. t ++ text_of rest) added
    ∙ append_assoc old (text_of own) (text_of rest)
    ∙ ap (λ t. old ++ t) (sym (texts own rest))
    ∙ ap (λ ys. old ++ text_of (joined_lines leads (map of ys))) (sym here)
    ∙ h
