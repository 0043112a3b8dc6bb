-- The laws of lists of texts that are spelled with one byte between two of them.
use Rattle.std.proofs.Common.{◌≡◌, ℕ, ◌==◌, not, Bool, true, false, List, [], ◌∷◌, refl, ap, sym, ◌∙◌, subst, Some, None, if◌then◌else◌}
use Rattle.std.proofs.lemmas.Bool.{and_from, and_parts, not_from_false}
use Rattle.std.proofs.lemmas.List.Elements.{All-from_recursion}
use Rattle.std.proofs.lemmas.List.Folds.{list_all-append}
use Rattle.std.proofs.lemmas.List.Splits.{join_with_byte-slice_split, slice_split_none, slice_split_at, slice_split-cons_yes, slice_split-cons_no}
use Rattle.std.specs.List.{list_all, join_with_byte, AllByRecursion, onto_first}
use Rattle.ll_attr.specs.Attributes.{is_quoted_byte}
use Rattle.ll_attr.specs.Words.{pieces_at}
use Rattle.ll_format.specs.Words.{is_quotable, cut_at, is_byte_between, is_one_empty, separated}
use Rattle.ll_format.proofs.FormatLaws.{WordLaws, guarded, some_is, lacks}
use Rattle.ll_format.proofs.WordLaws.{inside_from, lacks_from}

pub joined_again : (c : ℕ) (text : List ℕ) → join_with_byte c (cut_at c text) ≡ text
joined_again c [] = refl
joined_again c (b ∷ bs) = join_with_byte-slice_split c (b ∷ bs)

is_false : (b : Bool) → not b ≡ true → b ≡ false
is_false false h = refl
is_false true h = absurd cc

without : (c : ℕ) (text : List ℕ) → list_all (is_byte_between c) text ≡ true → AllByRecursion (λ b. (b == c) ≡ false) text
without c [] h = tt
without c (b ∷ bs) h =
    let p = and_parts (is_byte_between c b) (list_all (is_byte_between c) bs) h in
    (is_false (b == c) (and_parts (is_quoted_byte b) (not (b == c)) p.0).1, without c bs p.1)

-- joined texts are cut at the places where they were joined
cut_again : (c : ℕ) (text : List ℕ) (more : List (List ℕ)) → (c == c) ≡ true → list_all (list_all (is_byte_between c)) (text ∷ more) ≡ true
    → pieces_at c (join_with_byte c (text ∷ more)) ≡ text ∷ more
cut_again c text [] is h =
    let p = and_parts (list_all (is_byte_between c) text) true h in
    slice_split_none (λ b. b == c) text (All-from_recursion (λ b. (b == c) ≡ false) text (without c text p.0))
cut_again c text (next ∷ more) is h =
    let p = and_parts (list_all (is_byte_between c) text) (list_all (list_all (is_byte_between c)) (next ∷ more)) h in
    slice_split_at (λ b. b == c) text c (join_with_byte c (next ∷ more)) (All-from_recursion (λ b. (b == c) ≡ false) text (without c text p.0)) is
    ∙ ap (λ texts. text ∷ texts) (cut_again c next more is p.1)

read_again : (c : ℕ) (texts : List (List ℕ)) → (c == c) ≡ true → list_all (list_all (is_byte_between c)) texts ≡ true → is_one_empty texts ≡ false
    → cut_at c (join_with_byte c texts) ≡ texts
read_again c [] is h some = refl
read_again c ([] ∷ []) is h some = absurd cc
read_again c ([] ∷ next ∷ more) is h some = cut_again c [] (next ∷ more) is h
read_again c ((b ∷ bs) ∷ []) is h some = cut_again c (b ∷ bs) [] is h
read_again c ((b ∷ bs) ∷ next ∷ more) is h some = cut_again c (b ∷ bs) (next ∷ more) is h

quotable_text : (c : ℕ) (text : List ℕ) → list_all (is_byte_between c) text ≡ true → is_quotable text ≡ true
quotable_text c [] h = refl
quotable_text c (b ∷ bs) h =
    let p = and_parts (is_byte_between c b) (list_all (is_byte_between c) bs) h in
    and_from (is_quoted_byte b) (is_quotable bs) (and_parts (is_quoted_byte b) (not (b == c)) p.0).0 (quotable_text c bs p.1)

quotable_joined : (c : ℕ) (texts : List (List ℕ)) → is_quoted_byte c ≡ true → list_all (list_all (is_byte_between c)) texts ≡ true
    → is_quotable (join_with_byte c texts) ≡ true
quotable_joined c [] q h = refl
quotable_joined c (text ∷ []) q h = quotable_text c text (and_parts (list_all (is_byte_between c) text) true h).0
quotable_joined c (text ∷ next ∷ more) q h =
    let p = and_parts (list_all (is_byte_between c) text) (list_all (list_all (is_byte_between c)) (next ∷ more)) h in
    list_all-append is_quoted_byte text (c ∷ join_with_byte c (next ∷ more))
    ∙ and_from (is_quotable text) (is_quotable (c ∷ join_with_byte c (next ∷ more))) (quotable_text c text p.0)
    (and_from (is_quoted_byte c) (is_quotable (join_with_byte c (next ∷ more))) q (quotable_joined c (next ∷ more) q p.1))

onto : (p : ℕ → Bool) (b : ℕ) (texts : List (List ℕ)) → p b ≡ true → list_all (list_all p) texts ≡ true → list_all (list_all p) (onto_first b texts) ≡ true
onto p b [] h all = and_from (list_all p (b ∷ [])) true (and_from (p b) true h refl) refl
onto p b (text ∷ more) h all =
    let q = and_parts (list_all p text) (list_all (list_all p) more) all in
    and_from (list_all p (b ∷ text)) (list_all (list_all p) more) (and_from (p b) (list_all p text) h q.0) q.1

between_by : (c b : ℕ) (bs : List ℕ) (is : Bool) → (b == c) ≡ is → is_quoted_byte b ≡ true → list_all (list_all (is_byte_between c)) (pieces_at c bs) ≡ true
    → list_all (list_all (is_byte_between c)) (pieces_at c (b ∷ bs)) ≡ true
between_by c b bs true e q h = ap (list_all (list_all (is_byte_between c))) (slice_split-cons_yes (λ x. x == c) b bs e) ∙ h
between_by c b bs false e q h =
    ap (list_all (list_all (is_byte_between c))) (slice_split-cons_no (λ x. x == c) b bs e)
    ∙ onto (is_byte_between c) b (pieces_at c bs) (and_from (is_quoted_byte b) (not (b == c)) q (not_from_false (b == c) e)) h

between : (c : ℕ) (text : List ℕ) → is_quotable text ≡ true → list_all (list_all (is_byte_between c)) (pieces_at c text) ≡ true
between c [] h = refl
between c (b ∷ bs) h =
    let p = and_parts (is_quoted_byte b) (is_quotable bs) h in
    between_by c b bs (b == c) refl p.0 (between c bs p.1)

cut_between : (c : ℕ) (text : List ℕ) → is_quotable text ≡ true → list_all (list_all (is_byte_between c)) (cut_at c text) ≡ true
cut_between c [] h = refl
cut_between c (b ∷ bs) h = between c (b ∷ bs) h

one_empty_by : (c b : ℕ) (bs : List ℕ) (texts : List (List ℕ)) → join_with_byte c texts ≡ b ∷ bs → not (is_one_empty texts) ≡ true
one_empty_by c b bs [] e = refl
one_empty_by c b bs ([] ∷ []) e = absurd cc
one_empty_by c b bs ([] ∷ next ∷ more) e = refl
one_empty_by c b bs ((x ∷ xs) ∷ more) e = refl

not_one_empty : (c : ℕ) (text : List ℕ) → not (is_one_empty (cut_at c text)) ≡ true
not_one_empty c [] = refl
not_one_empty c (b ∷ bs) = one_empty_by c b bs (pieces_at c (b ∷ bs)) (join_with_byte-slice_split c (b ∷ bs))

-- the texts are quotable, joined
pub joined_quotable : (c : ℕ) (texts : List (List ℕ)) → is_quoted_byte c ≡ true → (separated c).Within texts → is_quotable (join_with_byte c texts) ≡ true
joined_quotable c texts q h = quotable_joined c texts q (and_parts (list_all (list_all (is_byte_between c)) texts) (not (is_one_empty texts)) h).0

pub separated-lacks : (c : ℕ) (texts : List (List ℕ)) → is_quoted_byte c ≡ true → (separated c).Within texts → lacks 34 (join_with_byte c texts) ≡ true
separated-lacks c texts q h = lacks_from is_quoted_byte 34 (join_with_byte c texts) refl (joined_quotable c texts q h)

pub separated-laws : (c : ℕ) → is_quoted_byte c ≡ true → (c == c) ≡ true → WordLaws (separated c)
separated-laws c q is = record {
  takes = λ text texts e.
      let p = guarded (is_quotable text) (Some (cut_at c text)) texts e in
      let cut = some_is (cut_at c text) texts p.1 in (
        sym (joined_again c text) ∙ ap (join_with_byte c) cut,
        subst (λ texts. (separated c).Within texts) cut
            (and_from (list_all (list_all (is_byte_between c)) (cut_at c text)) (not (is_one_empty (cut_at c text))) (cut_between c text p.0) (not_one_empty c text)),
      );
  again = λ texts h.
      let p = and_parts (list_all (list_all (is_byte_between c)) texts) (not (is_one_empty texts)) h in
      ap (λ b. if b then Some (cut_at c (join_with_byte c texts)) else None) (joined_quotable c texts q h)
      ∙ ap Some (read_again c texts is p.0 (is_false (is_one_empty texts) p.1));
  inside = λ texts h. inside_from is_quoted_byte (join_with_byte c texts) refl refl (joined_quotable c texts q h);
}
