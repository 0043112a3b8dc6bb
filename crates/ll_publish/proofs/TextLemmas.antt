-- What a line says, by where it is cut.
use Rattle.std.proofs.Common.{◌≡◌, ◌==◌, ℕ, ◌<◌, List, Bool, true, false, Option, Some, None, MatchOption, Bor, ap₂, refl, sym, length, arith, lit<}
use Rattle.std.proofs.lemmas.List.Elements.{All-from_get_or}
use Rattle.std.proofs.lemmas.List.Folds.{list_any_none, list_any_at}
use Rattle.std.proofs.lemmas.List.Sums.{fails_before_first, passes_at_first}
use Rattle.std.proofs.lemmas.Str.{IsUtf8-from_is_utf8, is_utf8-from_IsUtf8}
use Rattle.std.proofs.lemmas.Str.Pattern.{IsSplitOnceResult, split_once_first}
use Rattle.std.specs.List.{list_any, position_or_len}
use Rattle.std.specs.Str.{IsUtf8, is_utf8}
use Rattle.ll_publish.specs.Lines.{parts, word_alone}

abbrev is_space : ℕ → Bool
is_space b = b == 32

-- whether a space stands in a text, from where the first one was found
has-space : (text : List ℕ) → position_or_len is_space text < length text → list_any is_space text ≡ true
has-space text h = list_any_at is_space text _ 0 h (passes_at_first is_space text 0 h)

has-none : (text : List ℕ) → position_or_len is_space text ≡ length text → list_any is_space text ≡ false
has-none text e =
    list_any_none is_space text (All-from_get_or (λ b. is_space b ≡ false) text 0 (λ i h. fails_before_first is_space text i 0 (omega arith)))

-- bytes that are no text have no parts
pub raw : (text : List ℕ) → ¬ (IsUtf8 text) → parts text ≡ None
raw text bytes = by_test (is_utf8 text) refl
  where
    by_test : (b : Bool) → is_utf8 text ≡ b → parts text ≡ None
    by_test true e = absurd (bytes (IsUtf8-from_is_utf8 text e))
    by_test false e = rw e refl

-- a line is cut at its first space
pub of-cut : (text : List ℕ) (r : Option (Bor (List ℕ) × Bor (List ℕ))) → IsUtf8 text → IsSplitOnceResult 32 text r
    → MatchOption r (parts text ≡ None) (λ p. parts text ≡ Some (p.0.now, p.1.now))
of-cut text None u h =
    let utf8 = is_utf8-from_IsUtf8 text u in
    let none = has-none text (split_once_first 32 text None h (lit< tt)) in
    rw (utf8, none) refl
of-cut text (Some x) u h =
    let utf8 = is_utf8-from_IsUtf8 text u in
    let cut = split_once_first 32 text (Some x) h (lit< tt) in
    let yes = has-space text cut.0 in
    rw (utf8, yes) (ap₂ (λ a b. Some (a, b)) (sym cut.1) (sym cut.2))

-- a text is one word if no space was found in it
pub one-word : (text : List ℕ) (r : Option (Bor (List ℕ) × Bor (List ℕ))) → IsSplitOnceResult 32 text r
    → MatchOption r (word_alone (Some text) ≡ Some text) (λ x. word_alone (Some text) ≡ None)
one-word text None h = rw (has-none text (split_once_first 32 text None h (lit< tt))) refl
one-word text (Some x) h = rw (has-space text (split_once_first 32 text (Some x) h (lit< tt)).0) refl
