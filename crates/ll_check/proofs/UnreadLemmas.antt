-- The bytes that are kept of those that were read.
use Rattle.std.proofs.Common.{◌≡◌, ℕ, ◌+◌, ◌-◌, ◌≤◌, List, ◌++◌, ap, ◌∙◌, sym, drop, length, max, arith}
use Rattle.std.proofs.lemmas.List.{drop-drop, length-append, length-drop}
use Rattle.std.proofs.Math.Seq.{drop-append_seam}

pub kept : (bytes front rest : List ℕ) (at count n : ℕ) → at ≤ length bytes → drop at bytes ≡ front ++ rest → count ≡ length rest
    → n ≡ max at (length bytes - count) → drop n bytes ≡ rest
kept bytes front rest at count n within text many is =
    let long : length bytes - at ≡ length front + length rest = sym (length-drop at bytes) ∙ ap length text ∙ length-append front rest in
    let place : n ≡ at + length front = omega (arith, long, many, is, within) in
    ap (λ n. drop n bytes) place ∙ sym (drop-drop (length front) at bytes) ∙ ap (drop (length front)) text ∙ drop-append_seam front rest
