-- Where the first line of some bytes ends, whatever comes after them, and which lines are text.
use Rattle.std.proofs.Common.{◌≡◌, ℕ, ◌+◌, ◌-◌, ◌<◌, ◌≤◌, ◌==◌, List, [], ◌∷◌, ◌++◌, Bool, true, false, Some, None, refl, ap, sym, ◌∙◌, append_assoc, length, get_or, take, drop, arith}
use Rattle.std.proofs.lemmas.List.{append-nil, drop-append-le, get_or_append_left, length-append, length-take, take-append-drop, take-append-le, take_rest}
use Rattle.std.proofs.lemmas.List.Elements.{All-from_get_or}
use Rattle.std.proofs.lemmas.List.Splits.{slice_split_first, slice_split_none}
use Rattle.std.proofs.lemmas.List.Sums.{position_or_len_is}
use Rattle.std.proofs.lemmas.Str.{IsUtf8-from_is_utf8, is_utf8-from_IsUtf8}
use Rattle.std.specs.List.{position_or_len}
use Rattle.std.specs.Str.{IsUtf8, is_utf8}
use Rattle.memchr.specs.Find.{IsFirstByte, is_byte}
use Rattle.ll_attr.specs.Words.{pieces_at}
use Rattle.ll_check.specs.Lines.{IsBehind}
use Rattle.ll_entry.specs.Chain.{text_in}

abbrev is_lf : ℕ → Bool
is_lf b = b == 10

not_true : (b : Bool) → ¬ (b ≡ true) → b ≡ false
not_true true h = absurd (h refl)
not_true false h = refl

pub cut-none : (bytes : List ℕ) → IsFirstByte (is_byte 10) bytes None → pieces_at 10 bytes ≡ bytes ∷ []
cut-none bytes h = slice_split_none is_lf bytes (All-from_get_or (λ b. is_lf b ≡ false) bytes 0 (λ i l. not_true (is_lf (get_or bytes i 0)) (h i (omega arith) l)))

pub cut-some : (bytes : List ℕ) (end : ℕ) → IsFirstByte (is_byte 10) bytes (Some end) → (more : List ℕ)
    → pieces_at 10 (bytes ++ more) ≡ take end bytes ∷ pieces_at 10 (take (length bytes - (end + 1)) (drop (end + 1) bytes) ++ more)
cut-some bytes end h more =
    let first = h.0 in
    let all = bytes ++ more in
    let less : end < length bytes = first.high in
    let same : (k : ℕ) → k < length bytes → get_or all k 0 ≡ get_or bytes k 0 = get_or_append_left bytes more 0 in
    let at : position_or_len is_lf all ≡ end =
    position_or_len_is is_lf all end 0 (omega (arith, less, length-append bytes more))
    (λ k l. ap is_lf (same k (omega (arith, l, less))) ∙ not_true (is_lf (get_or bytes k 0)) (first.before k (omega arith) l))
    (λ _. ap is_lf (same end less) ∙ h.1) in
    let within : position_or_len is_lf all < length all = omega (arith, at, less, length-append bytes more) in
    slice_split_first is_lf all 0 within
    ∙ ap (λ n. take n all ∷ pieces_at 10 (drop (n + 1) all)) at
    ∙ ap (λ line. line ∷ pieces_at 10 (drop (end + 1) all)) (take-append-le end bytes more (omega (arith, less)))
    ∙ ap (λ rest. take end bytes ∷ pieces_at 10 rest) (drop-append-le (end + 1) bytes more (omega (arith, less)))
    ∙ ap (λ rest. take end bytes ∷ pieces_at 10 (rest ++ more)) (sym (take_rest bytes (end + 1)))

pub cut-behind : (bytes : List ℕ) (end : ℕ) → end < length bytes → IsBehind (take (length bytes - (end + 1)) (drop (end + 1) bytes)) bytes
cut-behind bytes end less = record {
  front = take (end + 1) bytes;
  some = omega (arith, less, length-take (end + 1) bytes);
  are = sym (take-append-drop (end + 1) bytes) ∙ ap (λ rest. take (end + 1) bytes ++ rest) (sym (take_rest bytes (end + 1)));
}

-- ---- more lines than one

pub behind-both : (rest mid text : List ℕ) → IsBehind rest mid → IsBehind mid text → IsBehind rest text
behind-both rest mid text a b = record {
  front = b.front ++ a.front;
  some = omega (arith, a.some, length-append b.front a.front);
  are = b.are ∙ ap (λ l. b.front ++ l) a.are ∙ sym (append_assoc b.front a.front rest);
}

-- the first line of a text that nothing follows
pub alone : (text line rest : List ℕ) → ((more : List ℕ) → pieces_at 10 (text ++ more) ≡ line ∷ pieces_at 10 (rest ++ more))
    → pieces_at 10 text ≡ line ∷ pieces_at 10 rest
alone text line rest parts = ap (pieces_at 10) (sym (append-nil text)) ∙ parts [] ∙ ap (λ r. line ∷ pieces_at 10 r) (append-nil rest)

-- a text with one more line
pub one-more : (text line rest : List ℕ) (n : ℕ) → ((more : List ℕ) → pieces_at 10 (text ++ more) ≡ line ∷ pieces_at 10 (rest ++ more))
    → length (pieces_at 10 rest) ≤ n → length (pieces_at 10 text) ≤ n + 1
one-more text line rest n parts few = omega (arith, few, ap (λ ls. length ls) (alone text line rest parts))

pub three-cut : (text rest1 rest2 first settings at rest : List ℕ)
    → ((more : List ℕ) → pieces_at 10 (text ++ more) ≡ first ∷ pieces_at 10 (rest1 ++ more))
    → ((more : List ℕ) → pieces_at 10 (rest1 ++ more) ≡ settings ∷ pieces_at 10 (rest2 ++ more))
    → ((more : List ℕ) → pieces_at 10 (rest2 ++ more) ≡ at ∷ pieces_at 10 (rest ++ more))
    → (more : List ℕ) → pieces_at 10 (text ++ more) ≡ first ∷ settings ∷ at ∷ pieces_at 10 (rest ++ more)
three-cut text rest1 rest2 first settings at rest a b c more = a more ∙ ap (λ ls. first ∷ ls) (b more ∙ ap (λ ls. settings ∷ ls) (c more))

-- ---- text

pub text-is : (line text : List ℕ) → text ≡ line → IsUtf8 line → Some text ≡ text_in line
text-is line text e u = let utf8 = is_utf8-from_IsUtf8 line u in rw utf8 (ap Some e)

pub text-none : (line : List ℕ) → ¬ (IsUtf8 line) → None ≡ text_in line
text-none line raw = by_test (is_utf8 line) refl
  where
    by_test : (b : Bool) → is_utf8 line ≡ b → None ≡ text_in line
    by_test true e = absurd (raw (IsUtf8-from_is_utf8 line e))
    by_test false e = rw e refl
