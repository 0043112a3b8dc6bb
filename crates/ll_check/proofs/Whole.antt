-- The result of a whole text.
use Rattle.std.proofs.Common.{◌≡◌, ◌≢◌, ◌≤◌, ◌+◌, ℕ, List, [], ◌∷◌, ◌++◌, false, Option, Some, None, Result, Ok, Err, IfOk, IfErr, refl, ap, sym, subst, ◌∙◌, length, true≢false, arith}
use Rattle.std.proofs.lemmas.List.{append-nil}
use Rattle.std.proofs.lemmas.List.Splits.{join_with_byte-slice_split}
use Rattle.std.specs.List.{join_with_byte}
use Rattle.ll_attr.specs.Words.{pieces_at}
use Rattle.ll_check.proofs.Places.{first-at}
use Rattle.ll_check.proofs.StepLemmas.{GoesTo}
use Rattle.ll_check.specs.Found.{ChainValue, IsAt, so_far, stands_inside}
use Rattle.ll_check.specs.Lines.{IsShort, lines_at}
use Rattle.ll_check.specs.Steps.{Moves}
use Rattle.ll_check.specs.declared.told.Told.{Told}
use Rattle.ll_entry.specs.Chain.{Between, Chain, Inside, Position, checked, checked_from, counted, entries, nothing_after, wrong}
use Rattle.ll_entry.specs.declared.fault.CheckFault.{CheckFault}
use Rattle.ll_entry.specs.declared.fault.CheckKind.TheVariants.{BadChunk, Memory}

-- the result of bytes that are read to their end from the start
pub whole : (bytes : List ℕ) (first kept : Option ChainValue) (r : Result ℕ CheckFault) → first ≡ None
    → ((p : Position) → IsAt first p → (now : Option Chain) × IsAt kept (Between now) × (checked_from p (pieces_at 10 bytes) ≡ Ok now))
    → ((p : Position) → IsAt kept p → r ≡ counted (Ok (so_far p))) → checked bytes ≡ r
whole bytes first kept r e read count =
    let got = read (Between None) (first-at first e) in
    ap counted got.2 ∙ sym (count (Between got.0) got.1)

pub where-ok : (x r : Result ℕ CheckFault) → x ≡ r → IfOk r (λ n. x ≡ Ok n)
where-ok x (Ok n) e = e
where-ok x (Err f) e = tt

pub where-err : (x r : Result ℕ CheckFault) → x ≡ r → IfErr r (λ f. f.kind ≢ Memory → x ≡ Err f)
where-err x (Ok n) e = tt
where-err x (Err f) e = λ kind. e

-- what is wrong with the lines is wrong with the text
pub wrong-whole : (bytes : List ℕ) (f : CheckFault) → (f.kind ≢ Memory → checked_from (Between None) (pieces_at 10 bytes) ≡ Err f) → f.kind ≢ Memory
    → checked bytes ≡ Err f
wrong-whole bytes f h kind = ap counted (h kind)

-- ---- nothing after a text

pub moves-alone : (kept : Option ChainValue) (p : Position) (t : Told) (text rest : List ℕ) → Moves kept p t (pieces_at 10 (text ++ [])) (pieces_at 10 (rest ++ []))
    → Moves kept p t (pieces_at 10 text) (pieces_at 10 rest)
moves-alone kept p t text rest m =
    subst (λ r. Moves kept p t (pieces_at 10 text) (pieces_at 10 r)) (append-nil rest)
    (subst (λ x. Moves kept p t (pieces_at 10 x) (pieces_at 10 (rest ++ []))) (append-nil text) m)

pub result-alone : (P : Result (Option Chain) CheckFault → Type 0) (p : Position) (text : List ℕ) → P (checked_from p (pieces_at 10 (text ++ [])))
    → P (checked_from p (pieces_at 10 text))
result-alone P p text h = subst (λ x. P (checked_from p (pieces_at 10 x))) (append-nil text) h

-- no text after the last line of a chunk
pub over-right : (p : Position) (text : List ℕ) → text ≡ [] → stands_inside p ≡ false → checked_from p (pieces_at 10 text) ≡ Ok (so_far p)
over-right (Between before) text none between = ap (λ t. checked_from (Between before) (pieces_at 10 t)) none
over-right (Inside ch) text none between = absurd (true≢false between)

no_lines : (before : Option Chain) (text rest : List ℕ) → join_with_byte 10 (rest ∷ []) ≡ text → text ≢ [] → nothing_after before rest ≡ wrong before BadChunk
no_lines before text [] is some = absurd (some (sym is))
no_lines before text (b ∷ bs) is some = refl

short_of : (p : Position) (text : List ℕ) (lines : List (List ℕ)) → join_with_byte 10 lines ≡ text → length lines ≤ lines_at p
    → (stands_inside p ≡ false → text ≢ []) → checked_from p lines ≡ wrong (so_far p) BadChunk
short_of (Between before) text [] is short some = refl
short_of (Between before) text (a ∷ []) is short some = no_lines before text a is (some refl)
short_of (Between before) text (a ∷ b ∷ []) is short some = refl
short_of (Between before) text (a ∷ b ∷ c ∷ []) is short some = refl
short_of (Between before) text (a ∷ b ∷ c ∷ d ∷ lines) is short some = absurd (omega (arith, short))
short_of (Inside ch) text [] is short some = refl
short_of (Inside ch) text (a ∷ []) is short some = refl
short_of (Inside ch) text (a ∷ b ∷ lines) is short some = absurd (omega (arith, short))

-- fewer lines than come next
pub over-wrong : (p : Position) (text : List ℕ) → length (pieces_at 10 text) ≤ lines_at p → (stands_inside p ≡ false → text ≢ [])
    → checked_from p (pieces_at 10 text) ≡ wrong (so_far p) BadChunk
over-wrong p text short some = short_of p text (pieces_at 10 text) (join_with_byte-slice_split 10 text) short some

-- the result of a text, from that of its last lines
pub ended : (kept new : Option ChainValue) (bytes rest : List ℕ) (r : Result ℕ CheckFault)
    → GoesTo kept (Between None) (pieces_at 10 bytes) (pieces_at 10 rest) → ((q : Position) → IsAt kept q → IsShort kept new q rest)
    → ((q : Position) → IsAt new q → length (pieces_at 10 rest) ≤ lines_at q → r ≡ counted (checked_from q (pieces_at 10 rest))) → checked bytes ≡ r
ended kept new bytes rest r g short end =
    let s = short g.now g.at in
    ap counted g.same ∙ sym (end g.now (subst (λ k. IsAt k g.now) (sym s.same) g.at) s.short)

-- the entry at which a record without a chunk is wrong
pub counted-place : (before : Option Chain) (r : Result ℕ CheckFault) → r ≡ counted (Ok before) → IfErr r (λ f. f.entry ≡ entries before + 1)
counted-place None r e = subst (λ r. IfErr r (λ f. f.entry ≡ 1)) (sym e) refl
counted-place (Some ch) r e = subst (λ r. IfErr r (λ f. f.entry ≡ entries (Some ch) + 1)) (sym e) tt
