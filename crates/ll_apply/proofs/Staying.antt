-- Which date ranges stay, and their lines, one place after another.
use Rattle.std.proofs.Common.{◌≡◌, ℕ, suc, ◌+◌, List, [], ◌∷◌, ◌++◌, Bool, true, false, not, ◌&&◌, ◌||◌, cond, drop, filter, map, Some, bytes_eq, refl, ap, sym, ◌∙◌, arith, append_assoc}
use Rattle.std.specs.Prelude.{slice_get}
use Rattle.ll_line.proofs.RestLemmas.{rest-from}
use Rattle.ll_line.specs.Line.{DateRangeLine, DateRange}
use Rattle.ll_line.specs.Text.{line_text, text_of}
use Rattle.ll_read.specs.Ranges.{has_id}
use Rattle.ll_apply.specs.Applied.{is_one_of, stays}

pub listed-same : (id : List ℕ) (ranges : List DateRangeLine) → is_one_of id (map (λ d. d.id) ranges) ≡ has_id id ranges
listed-same id [] = refl
listed-same id (r ∷ ranges) = ap (λ b. bytes_eq id r.id || b) (listed-same id ranges)

-- a date range that stays, by the two questions
pub stays-by : (removed : List (List ℕ)) (own : List DateRangeLine) (r : DateRangeLine) (taken listed : Bool)
    → taken ≡ is_one_of r.id removed → listed ≡ has_id r.id own → (not taken && not listed) ≡ stays removed own r
stays-by removed own r taken listed t l =
    ap (λ b. not b && not listed) t ∙ ap (λ b. not (is_one_of r.id removed) && not b) (l ∙ sym (listed-same r.id own))

-- the lines of date ranges
abbrev pub ranges_text : List DateRangeLine → List ℕ
ranges_text ranges = text_of (map DateRange ranges)

filter-cons : (keeps : DateRangeLine → Bool) (x : DateRangeLine) (xs : List DateRangeLine) (b : Bool) → keeps x ≡ b
    → ranges_text (filter keeps (x ∷ xs)) ≡ cond b (line_text (DateRange x)) [] ++ ranges_text (filter keeps xs)
filter-cons keeps x xs true e = ap (λ b. ranges_text (cond b (x ∷ filter keeps xs) (filter keeps xs))) e
filter-cons keeps x xs false e = ap (λ b. ranges_text (cond b (x ∷ filter keeps xs) (filter keeps xs))) e

-- the text so far and the lines from this place on stay the whole text when this date range's is added, or it doesn't stay
pub next-staying : (keeps : DateRangeLine → Bool) (old new whole : List ℕ) (ranges : List DateRangeLine) (i : ℕ) (x : DateRangeLine) (b : Bool)
    → slice_get ranges i ≡ Some x → keeps x ≡ b → new ≡ old ++ cond b (line_text (DateRange x)) []
    → old ++ ranges_text (filter keeps (drop i ranges)) ≡ whole
    → new ++ ranges_text (filter keeps (drop (i + 1) ranges)) ≡ whole
next-staying keeps old new whole ranges i x b e k added h =
    let next : suc i ≡ i + 1 = omega arith in
    let more = ranges_text (filter keeps (drop (i + 1) ranges)) in
    ap (λ t. t ++ more) added
    ∙ append_assoc old (cond b (line_text (DateRange x)) []) more
    ∙ ap (λ t. old ++ t) (sym (filter-cons keeps x (drop (i + 1) ranges) b k))
    ∙ ap (λ j. old ++ ranges_text (filter keeps (x ∷ drop j ranges))) (sym next)
    ∙ ap (λ xs. old ++ ranges_text (filter keeps xs)) (sym (rest-from ranges i x e))
    ∙ h
