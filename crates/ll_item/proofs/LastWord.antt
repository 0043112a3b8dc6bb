-- A text is cut at its last space.
use Rattle.std.proofs.Common.{◌≡◌, ℕ, ◌+◌, ◌<◌, ◌≤◌, ◌==◌, List, [], ◌∷◌, ◌++◌, Bool, true, false, not, Option, Some, None, MatchOption, bytes_eq, codes, is_some, Bor, refl, ap, ap₂, sym, ◌∙◌, length, take, drop, get_or, option_map, append_assoc, subst, arith, lit<, if◌then◌else◌}
use Rattle.std.specs.Str.Pattern.{RFindsChar}
use Rattle.std.proofs.lemmas.Bool.Decides.{nat_tests}
use Rattle.std.proofs.lemmas.List.{take-append-drop}
use Rattle.std.proofs.lemmas.List.Elements.{All-from_get_or}
use Rattle.std.proofs.lemmas.List.Splits.{slice_split_none, slice_split-cons_no, slice_split-cons_yes}
use Rattle.std.proofs.lemmas.Str.Pattern.{NoCharPasses-char, drop_at_char}
use Rattle.std.specs.List.{onto_first}
use Rattle.ll_attr.proofs.Joined.{joined_words, some_word}
use Rattle.ll_attr.specs.Words.{joined, words}
use Rattle.ll_item.specs.Announced.{cut_by, cut_last, has_bytes, lacks_length, split_last, told_by, told_bytes}

abbrev is_space : ℕ → Bool
is_space b = b == 32

not_true : (b : Bool) → ¬ (b ≡ true) → b ≡ false
not_true true h = absurd (h refl)
not_true false h = refl

onto_more : (x : ℕ) (ws vs : List (List ℕ)) (word : List ℕ) (more : List (List ℕ)) → ws ≡ word ∷ more → onto_first x (ws ++ vs) ≡ onto_first x ws ++ vs
onto_more x ws vs word more e = ap (λ l. onto_first x (l ++ vs)) e ∙ sym (ap (λ l. onto_first x l ++ vs) e)

-- the words before a space, and those after it
pub words-more : (a b : List ℕ) → words (a ++ 32 ∷ b) ≡ words a ++ words b
words-more [] b = slice_split-cons_yes is_space 32 b refl
words-more (x ∷ a) b = by_test (is_space x) refl (words-more a b)
  where
    by_test : (t : Bool) → is_space x ≡ t → words (a ++ 32 ∷ b) ≡ words a ++ words b → words ((x ∷ a) ++ 32 ∷ b) ≡ words (x ∷ a) ++ words b
    by_test true e more =
        slice_split-cons_yes is_space x (a ++ 32 ∷ b) e ∙ ap (λ l. [] ∷ l) more ∙ ap (λ l. l ++ words b) (sym (slice_split-cons_yes is_space x a e))
    by_test false e more =
        let some = some_word a in
        slice_split-cons_no is_space x (a ++ 32 ∷ b) e ∙ ap (onto_first x) more ∙ onto_more x (words a) (words b) some.0 some.1 some.2
        ∙ ap (λ l. l ++ words b) (sym (slice_split-cons_no is_space x a e))

space : (b : ℕ) → (b == 32) ≡ true → b ≡ 32
space b h = grind (arith, nat_tests)

-- a text without a space is one word
one : (text : List ℕ) → ((i : ℕ) → i < length text → ¬ (get_or text i 0 ≡ 32)) → words text ≡ text ∷ []
one text none = slice_split_none is_space text (All-from_get_or (λ b. is_space b ≡ false) text 0 (λ i l. not_true (is_space (get_or text i 0)) (λ e. none i l (space (get_or text i 0) e))))

pub cut : (text : List ℕ) (r : Option (Bor (List ℕ) × Bor (List ℕ)))
    → MatchOption r (RFindsChar 32 text None) (λ x. (i : ℕ) × (j : ℕ) × RFindsChar 32 text (Some (i, j)) × (x.0.now ≡ take i text) × (x.1.now ≡ drop j text) × (i ≤ j) × (length x.0.now ≡ i) × (length x.1.now + j ≡ length text))
    → MatchOption r (words text ≡ text ∷ []) (λ c. words text ≡ words c.0.now ++ c.1.now ∷ [])
cut text None h = one text (λ i l. NoCharPasses-char 32 text i h (lit< tt) l)
cut text (Some x) h =
    let i = h.0 in
    let j = h.1 in
    let split : text ≡ take i text ++ 32 ∷ drop j text = sym (take-append-drop i text) ∙ ap (λ l. take i text ++ l) (drop_at_char 32 text i j h.2.1 (lit< tt)) in
    ap words split ∙ words-more (take i text) (drop j text)
    ∙ ap (λ l. words (take i text) ++ l) (one (drop j text) (λ k l. NoCharPasses-char 32 (drop j text) k h.2.0 (lit< tt) l))
    ∙ ap₂ (λ a b. words a ++ b ∷ []) (sym h.3) (sym h.4)

split_more : (ws : List (List ℕ)) (last : List ℕ) → split_last (ws ++ last ∷ []) ≡ Some (ws, last)
split_more [] last = refl
split_more (w ∷ []) last = refl
split_more (w ∷ v ∷ ws) last = ap (option_map (λ s. (w ∷ s.0, s.1))) (split_more (v ∷ ws) last)

-- a line of this text and this last word is cut into them
pub cut-is : (line item last : List ℕ) → words line ≡ words item ++ last ∷ [] → cut_last line ≡ Some (item, last)
cut-is line item last h =
    let some = some_word item in
    ap (λ ws. cut_by (split_last ws)) h ∙ ap cut_by (split_more (words item) last) ∙ ap (λ ws. cut_by (Some (ws, last))) some.2
    ∙ ap (λ ws. let o : Option (List ℕ × List ℕ) = Some (joined ws, last) in o) (sym some.2) ∙ ap (λ text. Some (text, last)) (joined_words item)

pub cut-found : (line : List ℕ) (r : Option (Bor (List ℕ) × Bor (List ℕ))) → MatchOption r (words line ≡ line ∷ []) (λ c. words line ≡ words c.0.now ++ c.1.now ∷ [])
    → MatchOption r (cut_last line ≡ None) (λ c. cut_last line ≡ Some (c.0.now, c.1.now))
cut-found line None h = ap (λ ws. cut_by (split_last ws)) h
cut-found line (Some c) h = cut-is line c.0.now c.1.now h

pub told-has : (line item last : List ℕ) → cut_last line ≡ Some (item, last) → true ≡ has_bytes (words item) → told_bytes line ≡ Some (item, last)
told-has line item last h has = ap told_by h ∙ ap (λ b. if b then Some (item, last) else None) (sym has)

pub told-not : (line item last : List ℕ) → cut_last line ≡ Some (item, last) → false ≡ has_bytes (words item) → told_bytes line ≡ None
told-not line item last h has = ap told_by h ∙ ap (λ b. if b then Some (item, last) else None) (sym has)

pub told-none : (line : List ℕ) → cut_last line ≡ None → told_bytes line ≡ None
told-none line h = ap told_by h

five_words : (a b c d rest : List ℕ) → has_bytes (a ∷ b ∷ c ∷ d ∷ words rest) ≡ false
five_words a b c d rest = let some = some_word rest in ap (λ ws. has_bytes (a ∷ b ∷ c ∷ d ∷ ws)) some.2

-- a part has bytes if its fourth word is the last
pub part_by : (a b c last : List ℕ) (r : Option (Bor (List ℕ) × Bor (List ℕ))) (t : Bool) → MatchOption r (words last ≡ last ∷ []) (λ x. words last ≡ x.0.now ∷ words x.1.now)
    → bytes_eq a (codes "part") ≡ true → is_some r ≡ not t → t ≡ has_bytes (a ∷ b ∷ c ∷ words last)
part_by a b c last None true m e n = sym (ap (λ ws. has_bytes (a ∷ b ∷ c ∷ ws)) m ∙ e)
part_by a b c last None false m e n = absurd (cc)
part_by a b c last (Some x) true m e n = absurd (cc)
part_by a b c last (Some x) false m e n = sym (ap (λ ws. has_bytes (a ∷ b ∷ c ∷ ws)) m ∙ five_words a b c x.0.now x.1.now)

three_words : (a b rest : List ℕ) → lacks_length (a ∷ b ∷ words rest) ≡ false
three_words a b rest = let some = some_word rest in ap (λ ws. lacks_length (a ∷ b ∷ ws)) some.2

-- the line of an initialization section lacks the length if its second word is the last
pub alone_by : (a rest : List ℕ) (r : Option (Bor (List ℕ) × Bor (List ℕ))) (t : Bool) → MatchOption r (words rest ≡ rest ∷ []) (λ x. words rest ≡ x.0.now ∷ words x.1.now)
    → bytes_eq a (codes "init") ≡ true → is_some r ≡ not t → t ≡ lacks_length (a ∷ words rest)
alone_by a rest None true m e n = sym (ap (λ ws. lacks_length (a ∷ ws)) m ∙ e)
alone_by a rest None false m e n = absurd (cc)
alone_by a rest (Some x) true m e n = absurd (cc)
alone_by a rest (Some x) false m e n = sym (ap (λ ws. lacks_length (a ∷ ws)) m ∙ three_words a x.0.now x.1.now)

-- ---- a line is its item line, a space and the word after it

joined-last : (word : List ℕ) (ws : List (List ℕ)) (last : List ℕ) → joined (word ∷ (ws ++ last ∷ [])) ≡ joined (word ∷ ws) ++ 32 ∷ last
joined-last word [] last = refl
joined-last word (next ∷ ws) last = ap (λ l. word ++ 32 ∷ l) (joined-last next ws last) ∙ sym (append_assoc word (32 ∷ joined (next ∷ ws)) (32 ∷ last))

abbrev again : Option (List (List ℕ) × List ℕ) → List (List ℕ)
again None = []
again (Some s) = s.0 ++ s.1 ∷ []

split-again : (ws : List (List ℕ)) (word : List ℕ) → again (split_last (word ∷ ws)) ≡ word ∷ ws
split-again [] word = refl
split-again (next ∷ ws) word = by_split (split_last (next ∷ ws)) (split-again ws next)
  where
    by_split : (o : Option (List (List ℕ) × List ℕ)) → again o ≡ next ∷ ws → again (option_map (λ s. (word ∷ s.0, s.1)) o) ≡ word ∷ next ∷ ws
    by_split None e = absurd (cc)
    by_split (Some s) e = ap (λ l. word ∷ l) e

abbrev pub IsLine : List ℕ → Option (List ℕ × List ℕ) → Type 0
IsLine line None = Unit
IsLine line (Some t) = line ≡ t.0 ++ 32 ∷ t.1

cut-by : (o : Option (List (List ℕ) × List ℕ)) → IsLine (joined (again o)) (cut_by o)
cut-by None = tt
cut-by (Some ([], last)) = tt
cut-by (Some (word ∷ more, last)) = joined-last word more last

-- what a line is cut into, and the space between, are the line
pub cut-line : (line : List ℕ) → IsLine line (cut_last line)
cut-line line =
    let some = some_word line in
    let same : joined (again (split_last (words line))) ≡ line =
    ap (λ ws. joined (again (split_last ws))) some.2 ∙ ap joined (split-again some.1 some.0) ∙ ap joined (sym some.2) ∙ joined_words line in
    subst (λ l. IsLine l (cut_last line)) same (cut-by (split_last (words line)))

told_of : (line : List ℕ) (o : Option (List ℕ × List ℕ)) → IsLine line o → IsLine line (told_by o)
told_of line None h = tt
told_of line (Some (item, last)) h = by_has (has_bytes (words item))
  where
    by_has : (b : Bool) → IsLine line (if b then Some (item, last) else None)
    by_has true = h
    by_has false = tt

-- the item line, a space and the word after it are the line
pub told-line : (line : List ℕ) → IsLine line (told_bytes line)
told-line line = told_of line (cut_last line) (cut-line line)
