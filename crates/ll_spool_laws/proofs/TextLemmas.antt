-- Lines of a text: digits stand on one line, a line is cut off the front, and what has no end is none.
use Rattle.std.proofs.Common.{◌≡◌, ℕ, ◌+◌, ◌-◌, ◌/◌, ◌%◌, ◌≤◌, ◌==◌, zero, suc, List, [], ◌∷◌, ◌++◌, Bool, true, false, refl, ap, sym, ◌∙◌, arith, decimal, drop, length, take, if◌then◌else◌}
use Rattle.std.specs.Fmt.{digit_glyph, digits, digits_onto}
use Rattle.std.proofs.Math.Seq.{take-append-add}
use Rattle.std.proofs.lemmas.Bool.{and_from, and_parts}
use Rattle.std.proofs.lemmas.Bool.Decides.{nat_tests}
use Rattle.std.proofs.lemmas.List.{take-append-drop}
use Rattle.std.proofs.lemmas.List.Folds.{list_all-append}
use Rattle.std.specs.Char.{is_ascii_digit}
use Rattle.std.specs.List.{list_all}
use Rattle.ll_format.proofs.WordLaws.{inside_from}
use Rattle.ll_format.specs.Words.{is_line_byte, is_one_line}

-- ---- digits

glyph : (n : ℕ) → is_ascii_digit (digit_glyph false (n % 10)) ≡ true
glyph n = grind (arith, nat_tests)

either : (last : Bool) (xs ys : List ℕ) → list_all is_ascii_digit xs ≡ true → list_all is_ascii_digit ys ≡ true
    → list_all is_ascii_digit (if last then xs else ys) ≡ true
either true xs ys h k = h
either false xs ys h k = k

onto : (k n : ℕ) (acc : List ℕ) → list_all is_ascii_digit acc ≡ true → list_all is_ascii_digit (digits_onto k 10 false n acc) ≡ true
onto zero n acc h = h
onto (suc k) n acc h =
    let more = and_from (is_ascii_digit (digit_glyph false (n % 10))) (list_all is_ascii_digit acc) (glyph n) h in
    either (n / 10 == 0) (digit_glyph false (n % 10) ∷ acc) (digits_onto k 10 false (n / 10) (digit_glyph false (n % 10) ∷ acc)) more
    (onto k (n / 10) (digit_glyph false (n % 10) ∷ acc) more)

pub are-digits : (n : ℕ) → list_all is_ascii_digit (decimal n) ≡ true
unfolding digits
are-digits n = onto 64 n [] refl

pub digits-line : (n : ℕ) → is_one_line (decimal n) ≡ true
digits-line n = inside_from is_ascii_digit (decimal n) refl refl (are-digits n)

-- ---- the front of a text

pub take-line : (n : ℕ) (line : List ℕ) → is_one_line line ≡ true → is_one_line (take n line) ≡ true
take-line n line h =
    (and_parts (is_one_line (take n line)) (is_one_line (drop n line))
    (sym (list_all-append is_line_byte (take n line) (drop n line)) ∙ ap is_one_line (take-append-drop n line) ∙ h)).0

pub take-past : {X : Type 0} (n : ℕ) (xs ys : List X) → length xs ≤ n → take n (xs ++ ys) ≡ xs ++ take (n - length xs) ys
take-past n xs ys le =
    let same : n ≡ length xs + (n - length xs) = omega (arith, le) in
    ap (λ k. take k (xs ++ ys)) same ∙ take-append-add xs ys (n - length xs)
