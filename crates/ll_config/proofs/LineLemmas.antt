-- Where the first line of a file ends.
use Rattle.std.proofs.Common.{◌≡◌, ℕ, ◌+◌, ◌-◌, ◌<◌, ◌==◌, List, [], ◌∷◌, Bool, true, false, cond, Some, None, Result, Ok, Err, refl, ap, sym, ◌∙◌, length, get_or, take, drop, arith}
use Rattle.std.proofs.lemmas.Bool.Decides.{nat_tests}
use Rattle.std.proofs.lemmas.List.{take_rest}
use Rattle.std.proofs.lemmas.List.Elements.{All-from_get_or}
use Rattle.std.proofs.lemmas.List.Splits.{slice_split_first, slice_split_none, slice_split-cons_no, slice_split-cons_yes}
use Rattle.std.proofs.lemmas.List.Sums.{position_or_len_is}
use Rattle.std.proofs.lemmas.Str.{IsUtf8-from_is_utf8, is_utf8-from_IsUtf8}
use Rattle.std.specs.List.{onto_first, position_or_len}
use Rattle.std.specs.Str.{IsUtf8, is_utf8}
use Rattle.std.specs.Str.Lines.{strip_carriage_return}
use Rattle.memchr.specs.Find.{IsFirstByte, is_byte}
use Rattle.ll_attr.proofs.Joined.{some_piece}
use Rattle.ll_attr.specs.Words.{pieces_at}
use Rattle.ll_config.specs.Config.{Left, file_lines, lines_of, next_text, text_of}

abbrev is_lf : ℕ → Bool
is_lf b = b == 10

not_true : (b : Bool) → ¬ (b ≡ true) → b ≡ false
not_true true h = absurd (h refl)
not_true false h = refl

-- a line that has its end, before the others
lines-cons : (line rest : List ℕ) → lines_of (line ∷ pieces_at 10 rest) ≡ strip_carriage_return line ∷ file_lines rest
lines-cons line rest =
    let (first, more, are) = some_piece 10 rest in
    ap (λ ps. lines_of (line ∷ ps)) are ∙ ap (λ ps. strip_carriage_return line ∷ lines_of ps) (sym are)

some-bytes : (n : ℕ) → 0 < n → (n == 0) ≡ false
some-bytes n some = grind (arith, nat_tests)

line-alone : (line : List ℕ) → 0 < length line → lines_of (line ∷ []) ≡ strip_carriage_return line ∷ []
line-alone line some = ap (λ b. cond b [] (strip_carriage_return line ∷ [])) (some-bytes (length line) some)

pub cut-some : (bytes : List ℕ) (end : ℕ) → IsFirstByte (is_byte 10) bytes (Some end)
    → file_lines bytes ≡ strip_carriage_return (take end bytes) ∷ file_lines (take (length bytes - (end + 1)) (drop (end + 1) bytes))
cut-some bytes end h =
    let first = h.0 in
    let at : position_or_len is_lf bytes ≡ end =
    position_or_len_is is_lf bytes end 0 (omega (arith, first.high)) (λ k l. not_true (is_lf (get_or bytes k 0)) (first.before k (omega arith) l)) (λ _. h.1) in
    let within : position_or_len is_lf bytes < length bytes = omega (arith, at, first.high) in
    ap lines_of (slice_split_first is_lf bytes 0 within)
    ∙ ap (λ n. lines_of (take n bytes ∷ pieces_at 10 (drop (n + 1) bytes))) at
    ∙ lines-cons (take end bytes) (drop (end + 1) bytes)
    ∙ ap (λ rest. strip_carriage_return (take end bytes) ∷ file_lines rest) (sym (take_rest bytes (end + 1)))

pub cut-none : (bytes : List ℕ) → IsFirstByte (is_byte 10) bytes None → 0 < length bytes → file_lines bytes ≡ strip_carriage_return bytes ∷ []
cut-none bytes h some =
    ap lines_of (slice_split_none is_lf bytes (All-from_get_or (λ b. is_lf b ≡ false) bytes 0 (λ i l. not_true (is_lf (get_or bytes i 0)) (h i (omega arith) l))))
    ∙ line-alone bytes some

-- ---- whether a line is left

-- some bytes are a line or more
abbrev HasLine : List (List ℕ) → Type 0
HasLine lines = (first : List ℕ) × (more : List (List ℕ)) × (lines ≡ first ∷ more)

onto-line : (b : ℕ) (pieces : List (List ℕ)) → HasLine (lines_of (onto_first b pieces))
onto-line b [] = (strip_carriage_return (b ∷ []), [], line-alone (b ∷ []) (omega arith))
onto-line b (piece ∷ []) = (strip_carriage_return (b ∷ piece), [], line-alone (b ∷ piece) (omega arith))
onto-line b (piece ∷ next ∷ more) = (strip_carriage_return (b ∷ piece), lines_of (next ∷ more), refl)

line-by : (b : ℕ) (bs : List ℕ) (end : Bool) → is_lf b ≡ end → HasLine (file_lines (b ∷ bs))
line-by b bs true e = (strip_carriage_return [], file_lines bs, ap lines_of (slice_split-cons_yes is_lf b bs e) ∙ lines-cons [] bs)
line-by b bs false e =
    let on = onto-line b (pieces_at 10 bs) in (on.0, on.1, ap lines_of (slice_split-cons_no is_lf b bs e) ∙ on.2)

over-by : (bytes : List ℕ) → (length bytes == 0) ≡ (length (file_lines bytes) == 0)
over-by [] = refl
over-by (b ∷ bs) =
    let line = line-by b bs (is_lf b) refl in
    some-bytes (length (b ∷ bs)) (omega arith)
    ∙ sym (some-bytes (length (line.0 ∷ line.1)) (omega arith))
    ∙ ap (λ ls. length ls == 0) (sym line.2)

-- no line is left if no bytes are
pub over-is : (left : Left) (bytes : List ℕ) (number : ℕ) → record { lines = file_lines bytes; number = number } ≡ left → (length bytes == 0) ≡ (length left.lines == 0)
over-is left bytes number is = over-by bytes ∙ ap (λ (l : Left). length l.lines == 0) is

-- ---- the next line

abbrev ok_line : List ℕ → Left → Result (List ℕ × Left) ℕ
ok_line line left = Ok (line, left)

module _ (left : Left) (bytes line rest : List ℕ) (number : ℕ) (is : record { lines = file_lines bytes; number = number } ≡ left)
    (cut : file_lines bytes ≡ line ∷ file_lines rest) where
  line-is : next_text left ≡ text_of (line ∷ file_lines rest) number
  line-is = ap next_text (sym is) ∙ ap (λ ls. text_of ls number) cut

  pub text-told : (text : List ℕ) → text ≡ line → IsUtf8 line → next_text left ≡ Ok (text, record { lines = file_lines rest; number = number + 1 })
  text-told text same u =
      line-is
      ∙ ap (λ b. cond b (ok_line line (record { lines = file_lines rest; number = number + 1 })) (Err number)) (is_utf8-from_IsUtf8 line u)
      ∙ ap (λ t. Ok (t, record { lines = file_lines rest; number = number + 1 })) (sym same)

  pub text-bad : ¬ (IsUtf8 line) → next_text left ≡ Err number
  text-bad raw =
      line-is
      ∙ ap (λ b. cond b (ok_line line (record { lines = file_lines rest; number = number + 1 })) (Err number))
      (not_true (is_utf8 line) (λ e. raw (IsUtf8-from_is_utf8 line e)))
