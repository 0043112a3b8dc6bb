-- An answer is cut at its first space.
use Rattle.std.proofs.Common.{◌≡◌, ℕ, ◌<◌, List, true, false, Option, Some, None, MatchOption, Bor, ap₂, refl, sym, length, arith, lit<}
use Rattle.std.proofs.lemmas.List.Elements.{All-from_get_or}
use Rattle.std.proofs.lemmas.List.Folds.{list_any_none, list_any_at}
use Rattle.std.proofs.lemmas.List.Sums.{fails_before_first, passes_at_first}
use Rattle.std.proofs.lemmas.Str.Pattern.{IsSplitOnceResult, split_once_first}
use Rattle.std.specs.List.{list_any, position_or_len}
use Rattle.ll_push.specs.Answers.{halves, is_space}

-- whether a space stands in a text, from where the first one was found
has-space : (text : List ℕ) → position_or_len is_space text < length text → list_any is_space text ≡ true
has-space text h = list_any_at is_space text _ 0 h (passes_at_first is_space text 0 h)

has-none : (text : List ℕ) → position_or_len is_space text ≡ length text → list_any is_space text ≡ false
has-none text e =
    list_any_none is_space text (All-from_get_or (λ b. is_space b ≡ false) text 0 (λ i h. fails_before_first is_space text i 0 (omega arith)))

pub of-cut : (text : List ℕ) (r : Option (Bor (List ℕ) × Bor (List ℕ))) → IsSplitOnceResult 32 text r
    → MatchOption r (halves text ≡ None) (λ p. halves text ≡ Some (p.0.now, p.1.now))
of-cut text None h = let none = has-none text (split_once_first 32 text None h (lit< tt)) in rw (none) refl
of-cut text (Some x) h =
    let cut = split_once_first 32 text (Some x) h (lit< tt) in
    let yes = has-space text cut.0 in
    rw (yes) (ap₂ (λ a b. Some (a, b)) (sym cut.1) (sym cut.2))
