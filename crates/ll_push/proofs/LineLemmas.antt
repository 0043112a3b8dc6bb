-- A line that is an answer has no LF in it, and none both accepts and refuses.
use Rattle.std.proofs.Common.{◌≡◌, ℕ, ◌<◌, ◌≤◌, Bool, true, false, List, ◌∷◌, ◌++◌, Some, None, ap, refl, sym, ◌∙◌, cond, drop, length, nat_eq, nat_lt, is_some, slice_index_or, arith}
use Rattle.std.specs.Prelude.{codes, not, ◌&&◌, ◌||◌}
use Rattle.std.specs.Char.{is_ascii_alphabetic, is_ascii_digit}
use Rattle.std.specs.List.{after_first, before_first, list_all, list_any, position_or_len, starts_with}
use Rattle.std.proofs.lemmas.Bool.Decides.{Decides-eqb, nat_tests}
use Rattle.std.proofs.lemmas.List.Elements.{All-from_get_or}
use Rattle.std.proofs.lemmas.List.Folds.{list_all-append, list_any_none}
use Rattle.std.proofs.lemmas.List.Sums.{AllPass-from_list_all, fails_before_first, list_all-from_AllPass, passes_at_first, split_at_first}
use Rattle.std.proofs.lemmas.Slice.Eq.{bytes_eq-Decides, starts_is}
use Rattle.ll_attr.proofs.Digits.{is_digits-parts, list_all-is_ascii_digit}
use Rattle.ll_attr.specs.Numbers.{is_digits, number_in}
use Rattle.ll_push.specs.Answers.{accepts, counts, gives, gives_reason, is_code_and_name, is_not_kept, is_ok, is_space, is_word, refuses}
use Rattle.ll_push.specs.Laws.{has_no_end, is_inside}

inside-by : (p : ℕ → Bool) → ((b : ℕ) → p b ≡ true → is_inside b ≡ true) → (text : List ℕ) → list_all p text ≡ true → has_no_end text ≡ true
inside-by p each text all = list_all-from_AllPass is_inside text (λ k d within. each (slice_index_or text k d) (AllPass-from_list_all p text all k d within))

digit-inside : (b : ℕ) → is_ascii_digit b ≡ true → is_inside b ≡ true
digit-inside b h = grind (arith, nat_tests)

letter-inside : (b : ℕ) → is_ascii_alphabetic b ≡ true → is_inside b ≡ true
letter-inside b h = grind (arith, nat_tests)

left-of : (a b : Bool) → (a && b) ≡ true → a ≡ true
left-of true b h = refl
left-of false b h = absurd (cc)

right-of : (a b : Bool) → (a && b) ≡ true → b ≡ true
right-of true b h = h
right-of false b h = absurd (cc)

some-if : (b : Bool) (x : ℕ) → is_some (cond b (Some x) None) ≡ true → b ≡ true
some-if true x h = refl
some-if false x h = absurd (cc)

number-inside : (text : List ℕ) → is_some (number_in 20 text) ≡ true → has_no_end text ≡ true
number-inside text h =
    let digits : is_digits 20 text ≡ true = left-of (is_digits 20 text) _ (some-if _ _ h) in
    inside-by is_ascii_digit digit-inside text (list_all-is_ascii_digit text ∙ (is_digits-parts 20 text digits).2)

word-inside : (text : List ℕ) → is_word text ≡ true → has_no_end text ≡ true
word-inside text h = inside-by is_ascii_alphabetic letter-inside text (right-of _ (list_all is_ascii_alphabetic text) h)

-- two texts, the second after the first
both-inside : (a b : List ℕ) → has_no_end a ≡ true → has_no_end b ≡ true → has_no_end (a ++ b) ≡ true
both-inside a b p q = list_all-append is_inside a b ∙ ap (λ x. x && has_no_end b) p ∙ q

space-within : (text : List ℕ) → list_any is_space text ≡ true → position_or_len is_space text < length text
space-within text h = by (nat_lt (position_or_len is_space text) (length text)) refl
  where
    by : (b : Bool) → nat_lt (position_or_len is_space text) (length text) ≡ b → position_or_len is_space text < length text
    by true e = grind (arith, nat_tests)
    by false e =
        let past : length text ≤ position_or_len is_space text = grind (arith, nat_tests) in
        let none = list_any_none is_space text (All-from_get_or (λ b. is_space b ≡ false) text 0 (λ i lt. fails_before_first is_space text i 0 (omega (arith, lt, past)))) in
        absurd (cc)

reason-by : (text : List ℕ) (s : Bool) → s ≡ list_any is_space text
    → is_code_and_name (cond s (Some (before_first is_space text, after_first is_space text)) None) ≡ true → has_no_end text ≡ true
reason-by text false e h = absurd (cc)
reason-by text true e h =
    let front = before_first is_space text in
    let back = after_first is_space text in
    let within = space-within text (sym e) in
    let space : is_inside (slice_index_or text (position_or_len is_space text) 0) ≡ true =
    let is = passes_at_first is_space text 0 within in grind (arith, nat_tests) in
    ap has_no_end (split_at_first is_space text 0 within)
    ∙ both-inside front (slice_index_or text (position_or_len is_space text) 0 ∷ back) (number-inside front (left-of (is_some (number_in 20 front)) (is_word back) h))
    (ap (λ x. x && has_no_end back) space ∙ word-inside back (right-of (is_some (number_in 20 front)) (is_word back) h))

-- a line that gives a number after a key is the key and the number
counted-by : (key line : List ℕ) (s : Bool) → s ≡ starts_with nat_eq line key → counts (cond s (Some (drop (length key) line)) None) ≡ true
    → (line ≡ key ++ drop (length key) line) × (is_some (number_in 20 (drop (length key) line)) ≡ true)
counted-by key line false e h = absurd (cc)
counted-by key line true e h = ((starts_is Decides-eqb line key true e).0 refl, h)

is-counted : (line : List ℕ) → is_ok line ≡ true → (line ≡ codes "ok " ++ drop 3 line) × (is_some (number_in 20 (drop 3 line)) ≡ true)
is-counted line h = counted-by (codes "ok ") line _ refl h

refuses-by : (key line : List ℕ) (s : Bool) → s ≡ starts_with nat_eq line key → has_no_end key ≡ true
    → gives (cond s (Some (drop (length key) line)) None) ≡ true → has_no_end line ≡ true
refuses-by key line false e k h = absurd (cc)
refuses-by key line true e k h =
    ap has_no_end ((starts_is Decides-eqb line key true e).0 refl)
    ∙ both-inside key (drop (length key) line) k (reason-by (drop (length key) line) (list_any is_space (drop (length key) line)) refl h)

-- a line that accepts has a number, or says that what was sent isn't kept
module _ (line : List ℕ) (P : Type 0) (ok : is_ok line ≡ true → P) (not_kept : is_not_kept line ≡ true → P) where
  accepted-so : accepts line ≡ true → P
  accepted-so h = by (is_ok line) refl
    where
      by : (b : Bool) → is_ok line ≡ b → P
      by true e = ok e
      by false e = not_kept (sym (ap (λ b. b || is_not_kept line) e) ∙ h)

pub accepts-inside : (line : List ℕ) → accepts line ≡ true → has_no_end line ≡ true
accepts-inside line h =
    accepted-so line (has_no_end line ≡ true)
    (λ ok. let is = is-counted line ok in ap has_no_end is.0 ∙ both-inside (codes "ok ") (drop 3 line) refl (number-inside (drop 3 line) is.1))
    (λ not_kept. ap has_no_end ((bytes_eq-Decides line (codes "no 20 NotKept")).0 not_kept)) h

pub refuses-inside : (line : List ℕ) → refuses line ≡ true → has_no_end line ≡ true
refuses-inside line h = refuses-by (codes "no ") line _ refl refl (left-of (gives_reason line) (not (is_not_kept line)) h)

and-none : (b : Bool) → (b && false) ≡ false
and-none true = refl
and-none false = refl

pub accepts-apart : (line : List ℕ) → accepts line ≡ true → refuses line ≡ false
accepts-apart line h =
    accepted-so line (refuses line ≡ false) (λ ok. ap refuses (is-counted line ok).0)
    (λ not_kept. ap (λ b. gives_reason line && not b) not_kept ∙ and-none (gives_reason line)) h
