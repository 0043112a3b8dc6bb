-- The lines of chains and one more.
use Rattle.std.proofs.Common.{◌≡◌, ℕ, suc, ◌+◌, ◌<◌, List, [], ◌∷◌, ◌++◌, ap, sym, ◌∙◌, append_assoc, append-nil, get_or, length, length-take-le, take, arith}
use Rattle.std.proofs.lemmas.List.{take_more}
use Rattle.ll_explain.specs.SummaryLines.{chain_text, chains_text}
use Rattle.ll_explain.specs.declared.summary.Summary.{Summary}

chains-push : (before : ℕ) (ss : List Summary) (s : Summary)
    → chains_text before (ss ++ s ∷ []) ≡ chains_text before ss ++ chain_text (before + length ss + 1) s
chains-push before [] s = append-nil (chain_text (before + 1) s) ∙ ap (λ n. chain_text n s) (one before)
  where
    one : (n : ℕ) → n + 1 ≡ n + 0 + 1
    one n = omega arith
chains-push before (t ∷ ss) s =
    ap (λ text. chain_text (before + 1) t ++ text) (chains-push (before + 1) ss s)
    ∙ sym (append_assoc (chain_text (before + 1) t) (chains_text (before + 1) ss) (chain_text (before + 1 + length ss + 1) s))
    ∙ ap (λ n. chain_text (before + 1) t ++ chains_text (before + 1) ss ++ chain_text n s) (further before (length ss))
  where
    further : (n m : ℕ) → n + 1 + m + 1 ≡ n + suc m + 1
    further n m = omega arith

-- the lines of the first chains, and of one more of them
pub chains-more : (text longer : List ℕ) (ss : List Summary) (i : ℕ) (d : Summary) → i < length ss → text ≡ chains_text 0 (take i ss)
    → longer ≡ text ++ chain_text (i + 1) (get_or ss i d) → longer ≡ chains_text 0 (take (i + 1) ss)
chains-more text longer ss i d within so_far more =
    more
    ∙ ap (λ t. t ++ chain_text (i + 1) (get_or ss i d)) so_far
    ∙ ap (λ n. chains_text 0 (take i ss) ++ chain_text n (get_or ss i d)) (sym (next (length (take i ss)) (length-take-le i ss (omega (arith, within)))))
    ∙ sym (chains-push 0 (take i ss) (get_or ss i d))
    ∙ ap (chains_text 0) (sym (take_more ss i d within))
  where
    next : (n : ℕ) → n ≡ i → 0 + n + 1 ≡ i + 1
    next n same = omega (arith, same)
