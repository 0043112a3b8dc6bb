-- The chain that the first three lines of a chunk begin or go on with.
use Rattle.std.proofs.Common.{◌≡◌, ℕ, ◌+◌, ◌==◌, List, [], ◌∷◌, Option, Result, refl, ap, ◌∙◌, length, arith}
use Rattle.std.proofs.lemmas.List.Splits.{length-slice_split}
use Rattle.ll_attr.specs.Words.{pieces_at}
use Rattle.ll_entry.specs.Chain.{Between, Chain, Inside, begun, checked_from, ended_line, go_on, text_in}
use Rattle.ll_entry.specs.declared.fault.CheckFault.{CheckFault}
use Rattle.ll_entry.specs.declared.fault.CheckKind.{CheckKind}

-- something always follows a line's end, if only the empty text
pub ended-parts : (bytes : List ℕ) (before : Option Chain) (more : Result (Option Chain) CheckFault) → ended_line (pieces_at 10 bytes) before more ≡ more
ended-parts bytes before more = by_list _ (pieces_at 10 bytes) (length-slice_split (λ b. b == 10) bytes)
  where
    by_list : (n : ℕ) (lines : List (List ℕ)) → length lines ≡ n + 1 → ended_line lines before more ≡ more
    by_list n [] e = absurd (omega (arith, e))
    by_list n (line ∷ lines) e = refl

pub header-is : (before : Option Chain) (lines : List (List ℕ)) (first settings at rest : List ℕ) (r : Result Chain CheckKind)
    → lines ≡ first ∷ settings ∷ at ∷ pieces_at 10 rest → begun before (text_in first) (text_in settings) (text_in at) ≡ r
    → checked_from (Between before) lines ≡ go_on before r (λ ch. checked_from (Inside ch) (pieces_at 10 rest))
header-is before lines first settings at rest r e is =
    ap (checked_from (Between before)) e
    ∙ ended-parts rest before (go_on before (begun before (text_in first) (text_in settings) (text_in at)) (λ ch. checked_from (Inside ch) (pieces_at 10 rest)))
    ∙ ap (λ r. go_on before r (λ ch. checked_from (Inside ch) (pieces_at 10 rest))) is

pub three : (text rest1 rest2 first settings at rest : List ℕ) → pieces_at 10 text ≡ first ∷ pieces_at 10 rest1 → pieces_at 10 rest1 ≡ settings ∷ pieces_at 10 rest2
    → pieces_at 10 rest2 ≡ at ∷ pieces_at 10 rest → pieces_at 10 text ≡ first ∷ settings ∷ at ∷ pieces_at 10 rest
three text rest1 rest2 first settings at rest a b c = a ∙ ap (λ ls. first ∷ ls) (b ∙ ap (λ ls. settings ∷ ls) c)
