-- Where the first LF stands in bytes that more bytes follow.
use Rattle.std.proofs.Common.{◌≡◌, ℕ, suc, ◌+◌, ◌<◌, ◌==◌, ◌||◌, List, [], ◌∷◌, ◌++◌, Bool, true, false, not, cond, refl, ap, sym, ◌∙◌, length, take, drop, get_or, Option, Some, None, MatchOption, arith, drop-drop, drop_at}
use Rattle.std.proofs.lemmas.Bool.{or_parts}
use Rattle.std.proofs.lemmas.List.{take-append-le, drop-append-le}
use Rattle.std.proofs.lemmas.List.Elements.{All-from_get_or}
use Rattle.std.proofs.lemmas.List.Folds.{list_any-append, list_any_none, list_any_at}
use Rattle.std.proofs.lemmas.List.Sums.{position_or_len_is}
use Rattle.std.specs.List.{position_or_len}
use Rattle.memchr.specs.Find.{IsFirstByte, is_byte}
use Rattle.ll_publish.specs.Lines.{after_end, before_end, has_end}

abbrev pub is_lf : ℕ → Bool
is_lf b = b == 10

-- the place of the first LF, or the length
abbrev pub place : List ℕ → ℕ
place bytes = position_or_len is_lf bytes

not_true : (b : Bool) → ¬ (b ≡ true) → b ≡ false
not_true true h = absurd (h refl)
not_true false h = refl

-- what a search for LF found
pub end_of-found : (bytes : List ℕ) (r : Option ℕ) → IsFirstByte (is_byte 10) bytes r
    → MatchOption r (has_end bytes ≡ false)
    (λ end. (has_end bytes ≡ true) × (end ≡ position_or_len (λ b. b == 10) bytes) × (end < length bytes))
end_of-found bytes None h =
    list_any_none is_lf bytes (All-from_get_or (λ b. is_lf b ≡ false) bytes 0 (λ i l. not_true (is_lf (get_or bytes i 0)) (h i (omega arith) l)))
end_of-found bytes (Some end) h =
    let first = h.0 in (
      list_any_at is_lf bytes end 0 first.high h.1,
      sym (position_or_len_is is_lf bytes end 0 (omega (arith, first.high)) (λ k l. not_true (is_lf (get_or bytes k 0)) (first.before k (omega arith) l)) (λ _. h.1)),
      first.high,
    )

pub end-more : (bytes more : List ℕ) → has_end bytes ≡ true → has_end (bytes ++ more) ≡ true
end-more bytes more e = list_any-append is_lf bytes more ∙ ap (λ b. b || has_end more) e

pub end-none : (bytes more : List ℕ) → has_end bytes ≡ false → has_end (bytes ++ more) ≡ has_end more
end-none bytes more e = list_any-append is_lf bytes more ∙ ap (λ b. b || has_end more) e

at_by : (t : Bool) (b : ℕ) (bytes : List ℕ) → is_lf b ≡ t → place (b ∷ bytes) ≡ cond (not t) (1 + place bytes) 0
at_by t b bytes h = ap (λ x. cond (not x) (1 + place bytes) 0) h

rest_by : (t : Bool) (b : ℕ) (bytes : List ℕ) → is_lf b ≡ t → has_end (b ∷ bytes) ≡ true → (t || has_end bytes) ≡ true
rest_by t b bytes h e = ap (λ x. x || has_end bytes) (sym h) ∙ e

within_by : (t : Bool) (b : ℕ) (bytes : List ℕ) → is_lf b ≡ t → has_end (b ∷ bytes) ≡ true → (has_end bytes ≡ true → place bytes < length bytes)
    → place (b ∷ bytes) < length (b ∷ bytes)
within_by true b bytes h e rest = let z = at_by true b bytes h in omega (arith, z)
within_by false b bytes h e rest = let z = at_by false b bytes h in let m = rest (rest_by false b bytes h e) in omega (arith, z, m)

pub place-within : (bytes : List ℕ) → has_end bytes ≡ true → place bytes < length bytes
place-within [] e = absurd (cc)
place-within (b ∷ bytes) e = within_by (is_lf b) b bytes refl e (place-within bytes)

more_by : (t : Bool) (b : ℕ) (bytes more : List ℕ) → is_lf b ≡ t → has_end (b ∷ bytes) ≡ true → (has_end bytes ≡ true → place (bytes ++ more) ≡ place bytes)
    → place (b ∷ (bytes ++ more)) ≡ place (b ∷ bytes)
more_by true b bytes more h e rest = at_by true b (bytes ++ more) h ∙ sym (at_by true b bytes h)
more_by false b bytes more h e rest =
    at_by false b (bytes ++ more) h ∙ ap (λ n. 1 + n) (rest (rest_by false b bytes h e)) ∙ sym (at_by false b bytes h)

place-more : (bytes more : List ℕ) → has_end bytes ≡ true → place (bytes ++ more) ≡ place bytes
place-more [] more e = absurd (cc)
place-more (b ∷ bytes) more e = more_by (is_lf b) b bytes more refl e (place-more bytes more)

place-none : (bytes more : List ℕ) → has_end bytes ≡ false → place (bytes ++ more) ≡ length bytes + place more
place-none [] more e = omega arith
place-none (b ∷ bytes) more e =
    let n = or_parts (is_lf b) (has_end bytes) e in
    let z = at_by false b (bytes ++ more) n.0 in
    let m = place-none bytes more n.1 in
    omega (arith, z, m)

pub before-more : (bytes more : List ℕ) → has_end bytes ≡ true → before_end (bytes ++ more) ≡ before_end bytes
before-more bytes more e =
    let w = place-within bytes e in
    ap (λ n. take n (bytes ++ more)) (place-more bytes more e) ∙ take-append-le (place bytes) bytes more (omega (arith, w))

pub after-more : (bytes more : List ℕ) → has_end bytes ≡ true → after_end (bytes ++ more) ≡ after_end bytes ++ more
after-more bytes more e =
    let w = place-within bytes e in
    ap (λ n. drop (n + 1) (bytes ++ more)) (place-more bytes more e) ∙ drop-append-le (place bytes + 1) bytes more (omega (arith, w))

-- what follows the first bytes of two lists, more of them than the first list has
pub drop-past : (bytes more : List ℕ) (n : ℕ) → drop (length bytes + n) (bytes ++ more) ≡ drop n more
drop-past bytes more n = sym (drop-drop n (length bytes) (bytes ++ more)) ∙ ap (drop n) (drop_at bytes more (length bytes) refl)

take-past : (bytes more : List ℕ) (n : ℕ) → take (length bytes + n) (bytes ++ more) ≡ bytes ++ take n more
take-past [] more n = ap (λ m. take m more) (zero_more n)
  where
    zero_more : (n : ℕ) → 0 + n ≡ n
    zero_more n = omega arith
take-past (b ∷ bytes) more n = ap (λ m. take m (b ∷ (bytes ++ more))) (one_more (length bytes) n) ∙ ap (λ l. b ∷ l) (take-past bytes more n)
  where
    one_more : (m n : ℕ) → suc m + n ≡ suc (m + n)
    one_more m n = omega arith

pub after-none : (bytes more : List ℕ) → has_end bytes ≡ false → after_end (bytes ++ more) ≡ after_end more
after-none bytes more e =
    ap (λ n. drop (n + 1) (bytes ++ more)) (place-none bytes more e) ∙ ap (λ n. drop n (bytes ++ more)) (sums (length bytes) (place more))
    ∙ drop-past bytes more (place more + 1)
  where
    sums : (a b : ℕ) → a + b + 1 ≡ a + (b + 1)
    sums a b = omega arith

pub before-none : (bytes more : List ℕ) → has_end bytes ≡ false → before_end (bytes ++ more) ≡ bytes ++ before_end more
before-none bytes more e = ap (λ n. take n (bytes ++ more)) (place-none bytes more e) ∙ take-past bytes more (place more)
