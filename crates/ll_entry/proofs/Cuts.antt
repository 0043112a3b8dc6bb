-- What is joined by a byte that its pieces lack is cut into them again.
use Rattle.std.proofs.Common.{◌≡◌, ℕ, ◌==◌, not, Bool, true, false, List, [], ◌∷◌, ◌++◌, refl, ap, ◌∙◌}
use Rattle.std.proofs.lemmas.Bool.{and_parts, and_from}
use Rattle.std.proofs.lemmas.List.Folds.{list_all-append}
use Rattle.std.proofs.lemmas.List.Elements.{All-from_recursion}
use Rattle.std.proofs.lemmas.List.Splits.{slice_split_none, slice_split_at}
use Rattle.std.specs.List.{list_all, join_with_byte, All, AllByRecursion}
use Rattle.ll_attr.specs.Words.{pieces_at, words, joined}
use Rattle.ll_attr.proofs.Joined.{some_word}
use Rattle.ll_entry.specs.Entries.{has_more}
use Rattle.ll_format.specs.Words.{is_line_byte, is_one_line}
use Rattle.ll_format.proofs.FormatLaws.{inside_both, lacks}

is_false : (b : Bool) → not b ≡ true → b ≡ false
is_false false h = refl
is_false true h = absurd cc

by_recursion : (c : ℕ) (text : List ℕ) → lacks c text ≡ true → AllByRecursion (λ b. (b == c) ≡ false) text
by_recursion c [] h = tt
by_recursion c (b ∷ bs) h =
    let p = and_parts (not (b == c)) (lacks c bs) h in (is_false (b == c) p.0, by_recursion c bs p.1)

without : (c : ℕ) (text : List ℕ) → lacks c text ≡ true → All (λ b. (b == c) ≡ false) text
without c text h = All-from_recursion (λ b. (b == c) ≡ false) text (by_recursion c text h)

-- a text without the byte is its one part
pub uncut : (c : ℕ) (text : List ℕ) → lacks c text ≡ true → pieces_at c text ≡ text ∷ []
uncut c text h = slice_split_none (λ b. b == c) text (without c text h)

-- and the first part if the byte follows it
pub cut_first : (c : ℕ) (text rest : List ℕ) → (c == c) ≡ true → lacks c text ≡ true → pieces_at c (text ++ (c ∷ rest)) ≡ text ∷ pieces_at c rest
cut_first c text rest is h = slice_split_at (λ b. b == c) text c rest (without c text h) is

pub cut_again : (c : ℕ) (text : List ℕ) (more : List (List ℕ)) → (c == c) ≡ true → list_all (lacks c) (text ∷ more) ≡ true
    → pieces_at c (join_with_byte c (text ∷ more)) ≡ text ∷ more
cut_again c text [] is h = uncut c text (and_parts (lacks c text) true h).0
cut_again c text (next ∷ more) is h =
    let p = and_parts (lacks c text) (list_all (lacks c) (next ∷ more)) h in
    cut_first c text (join_with_byte c (next ∷ more)) is p.0 ∙ ap (λ texts. text ∷ texts) (cut_again c next more is p.1)

-- all bytes of texts that are joined by a byte

pub all-joined : (p : ℕ → Bool) (c : ℕ) (texts : List (List ℕ)) → p c ≡ true → list_all (list_all p) texts ≡ true → list_all p (join_with_byte c texts) ≡ true
all-joined p c [] is h = refl
all-joined p c (text ∷ []) is h = (and_parts (list_all p text) true h).0
all-joined p c (text ∷ next ∷ more) is h =
    let q = and_parts (list_all p text) (list_all (list_all p) (next ∷ more)) h in
    list_all-append p text (c ∷ join_with_byte c (next ∷ more))
    ∙ and_from (list_all p text) (list_all p (c ∷ join_with_byte c (next ∷ more))) q.0
    (and_from (p c) (list_all p (join_with_byte c (next ∷ more))) is (all-joined p c (next ∷ more) is q.1))

-- words of a line

-- a text that holds no space and no end of a line
pub record IsWord (text : List ℕ) : Type 0 where
  pub spaceless : lacks 32 text ≡ true
  pub one_line : is_one_line text ≡ true

pub data AreWords : List (List ℕ) → Type 0 where
  no_more : AreWords []
  also : {text : List ℕ} {more : List (List ℕ)} → IsWord text → AreWords more → AreWords (text ∷ more)

all-lack : (texts : List (List ℕ)) → AreWords texts → list_all (lacks 32) texts ≡ true
all-lack [] no_more = refl
all-lack (text ∷ more) (also word others) = and_from (lacks 32 text) (list_all (lacks 32) more) word.spaceless (all-lack more others)

all-line : (texts : List (List ℕ)) → AreWords texts → list_all is_one_line texts ≡ true
all-line [] no_more = refl
all-line (text ∷ more) (also word others) = and_from (is_one_line text) (list_all is_one_line more) word.one_line (all-line more others)

-- words that are joined are words again, and stand on one line
pub words_back : (text : List ℕ) (more : List (List ℕ)) → AreWords (text ∷ more) → words (joined (text ∷ more)) ≡ text ∷ more
words_back text more w = cut_again 32 text more refl (all-lack (text ∷ more) w)

pub words_line : (texts : List (List ℕ)) → AreWords texts → is_one_line (joined texts) ≡ true
words_line texts w = all-joined is_line_byte 32 texts refl (all-line texts w)

-- a key and a value
pub keyed : (key value : List ℕ) → IsWord key → IsWord value → IsWord (key ++ value)
keyed key value k v = record {
  spaceless = list_all-append (λ b. not (b == 32)) key value ∙ and_from (lacks 32 key) (lacks 32 value) k.spaceless v.spaceless;
  one_line = inside_both key value k.one_line v.one_line;
}

more_by : (word : List ℕ) (ws : List (List ℕ)) → (first : List ℕ) × (more : List (List ℕ)) × (ws ≡ first ∷ more) → has_more (word ∷ ws) ≡ true
more_by word ws p = ap (λ ws. has_more (word ∷ ws)) p.2

-- if a text is cut, there is a word after the first
pub more_words : (word text : List ℕ) → has_more (word ∷ words text) ≡ true
more_words word text = more_by word (words text) (some_word text)
