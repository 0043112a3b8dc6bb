-- The date ranges of the first lines of a text, by its first line and the others.
use Rattle.std.proofs.Common.{◌≡◌, ℕ, suc, ◌+◌, ◌-◌, ◌<◌, ◌||◌, Bool, List, [], ◌∷◌, ◌++◌, length, take, drop, get_or, ap, sym, ◌∙◌, arith, append_assoc, add-one, drop-cons, length-drop, bytes_eq}
use Rattle.std.proofs.lemmas.List.{take_more, append-nil}
use Rattle.std.proofs.lemmas.List.Folds.{list_any-append}
use Rattle.std.specs.Str.Lines.{strip_carriage_return}
use Rattle.ll_attr.specs.Words.{pieces_at}
use Rattle.ll_line.specs.Line.{DateRangeLine}
use Rattle.ll_line.specs.Formats.{line_in}
use Rattle.ll_read.specs.Ranges.{has_id, ranges_of, ranges_in}

abbrev of_line : List ℕ → List DateRangeLine
of_line line = ranges_in (line_in (strip_carriage_return line))

first_of : (id line : List ℕ) (left : ℕ) (ps : List (List ℕ)) → 0 < left → has_id id (ranges_of (take left (line ∷ ps))) ≡ (has_id id (of_line line) || has_id id (ranges_of (take (left - 1) ps)))
first_of id line left ps some =
    let e : left ≡ suc (left - 1) = omega arith in
    ap (λ n. has_id id (ranges_of (take n (line ∷ ps)))) e
    ∙ list_any-append (λ (range : DateRangeLine). bytes_eq id range.id) (of_line line) (ranges_of (take (left - 1) ps))

-- the first line has the id, or those after it do
pub turn : (id line shown rest below : List ℕ) (left : ℕ) (b x : Bool) → pieces_at 10 rest ≡ line ∷ pieces_at 10 below → 0 < left → shown ≡ strip_carriage_return line
    → b ≡ has_id id (ranges_in (line_in shown)) → b ≡ x → has_id id (ranges_of (take left (pieces_at 10 rest))) ≡ (x || has_id id (ranges_of (take (left - 1) (pieces_at 10 below))))
turn id line shown rest below left b x e some s h is =
    let more = has_id id (ranges_of (take (left - 1) (pieces_at 10 below))) in
    ap (λ ps. has_id id (ranges_of (take left ps))) e ∙ first_of id line left (pieces_at 10 below) some
    ∙ ap (λ y. y || more) (ap (λ l. has_id id (ranges_in (line_in l))) (sym s) ∙ sym h ∙ is)

ranges_append : (xs : List (List ℕ)) (line : List ℕ) → ranges_of (xs ++ line ∷ []) ≡ ranges_of xs ++ of_line line
ranges_append [] line = append-nil (of_line line)
ranges_append (x ∷ xs) line = ap (λ rs. of_line x ++ rs) (ranges_append xs line) ∙ sym (append_assoc (of_line x) (ranges_of xs) (of_line line))

-- one more line of those that are passed
pub one_line : (count : ℕ) (whole parts : List (List ℕ)) (line : List ℕ) → drop count whole ≡ line ∷ parts → (drop (count + 1) whole ≡ parts) × (ranges_of (take (count + 1) whole) ≡ ranges_of (take count whole) ++ ranges_in (line_in (strip_carriage_return line)))
one_line count whole parts line left =
    let within : count < length whole = omega (arith, length-drop count whole, ap length left) in
    let cons : drop count whole ≡ get_or whole count [] ∷ drop (count + 1) whole = rw add-one (drop-cons whole count [] within) in
    let both : line ∷ parts ≡ get_or whole count [] ∷ drop (count + 1) whole = sym left ∙ cons in
    let here : get_or whole count [] ≡ line = cc in
    let after : drop (count + 1) whole ≡ parts = cc in
    (after, ap ranges_of (take_more whole count [] within ∙ ap (λ p. take count whole ++ p ∷ []) here) ∙ ranges_append (take count whole) line)
