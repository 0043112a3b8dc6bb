-- What follows the first bytes of blocks that stand one after another.
use Rattle.std.proofs.Common.{◌≡◌, ℕ, ◌-◌, ◌+◌, ◌≤◌, ◌<◌, List, ◌∷◌, ◌++◌, ap, ◌∙◌, sym, arith, drop, length}
use Rattle.std.specs.List.{concat}
use Rattle.std.proofs.Math.Seq.{drop-append-add}
use Rattle.std.proofs.lemmas.List.{drop-append-le}

-- it begins in the first block
pub in_block : (left : ℕ) (block : List ℕ) (more blocks : List (List ℕ)) (whole : List ℕ) → blocks ≡ block ∷ more → left < length block
    → drop left (concat blocks) ≡ whole → drop left block ++ concat more ≡ whole
in_block left block more blocks whole are less is =
    sym (drop-append-le left block (concat more) (omega (arith, less))) ∙ sym (ap (λ bs. drop left (concat bs)) are) ∙ is

-- it begins after the first block
pub after_block : (left : ℕ) (block : List ℕ) (more blocks : List (List ℕ)) (whole : List ℕ) → blocks ≡ block ∷ more → length block ≤ left
    → drop left (concat blocks) ≡ whole → drop (left - length block) (concat more) ≡ whole
after_block left block more blocks whole are less is =
    let e : length block + (left - length block) ≡ left = omega (arith, less) in
    sym (drop-append-add block (concat more) (left - length block)) ∙ ap (λ n. drop n (block ++ concat more)) e
    ∙ sym (ap (λ bs. drop left (concat bs)) are) ∙ is

-- the head was passed
pub past_head : (head body : List ℕ) (n sent : ℕ) → length head + sent ≡ n → drop sent body ≡ drop n (head ++ body)
past_head head body n sent e = sym (drop-append-add head body sent) ∙ ap (λ k. drop k (head ++ body)) e
