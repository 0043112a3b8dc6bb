-- What a value's text means, by the tests of its bytes and by its quotation marks; and how it is spelled again.
use Rattle.std.proofs.Common.{◌≡◌, ℕ, ◌<◌, ◌==◌, ◌&&◌, Bool, true, false, List, [], ◌∷◌, ◌++◌, length, refl, ap, sym, ◌∙◌, arith, Option, Some, None, if◌then◌else◌}
use Rattle.std.proofs.lemmas.Bool.Decides.{nat_tests}
use Rattle.std.proofs.lemmas.List.Elements.{All-from_recursion}
use Rattle.std.proofs.lemmas.List.Splits.{slice_split_none, join_with_byte-slice_split, length-slice_split}
use Rattle.std.specs.List.{AllByRecursion, list_all, join_with_byte, onto_first}
use Rattle.ll_attr.specs.Attributes.{value_in, value_by, value_spelling, is_bare, is_bare_byte, is_quoted_byte}
use Rattle.ll_attr.specs.Reading.{inner_of}
use Rattle.ll_attr.specs.Words.{pieces_at}
use Rattle.ll_attr.specs.declared.attributes.AttrValue.{AttrValue}
use Rattle.ll_attr.specs.declared.attributes.AttrValue.TheVariants.{Quoted, Bare}

abbrev is_mark : ℕ → Bool
is_mark b = b == 34

no_mark_by_recursion : (bs : List ℕ) → list_all is_bare_byte bs ≡ true → AllByRecursion (λ b. is_mark b ≡ false) bs
no_mark_by_recursion [] h = tt
no_mark_by_recursion (b ∷ bs) h = (grind (arith, nat_tests), no_mark_by_recursion bs (grind (arith, nat_tests)))

-- a bare value holds no mark, so it is its one part
bare_uncut : (text : List ℕ) → is_bare text ≡ true → pieces_at 34 text ≡ text ∷ []
bare_uncut text h =
    slice_split_none is_mark text (All-from_recursion (λ b. is_mark b ≡ false) text (no_mark_by_recursion text (grind (arith, nat_tests))))

one_part : (text : List ℕ) → is_bare text ≡ true → value_by text (text ∷ []) ≡ Some (Bare text)
one_part [] h = grind (arith, nat_tests)
one_part (b ∷ bs) h = rw h refl

pub value_in-bare : (text : List ℕ) → is_bare text ≡ true → value_in text ≡ Some (Bare text)
value_in-bare text h = ap (value_by text) (bare_uncut text h) ∙ one_part text h

abbrev pub inner_if : Bool → List ℕ → Option (List ℕ)
inner_if true inner = Some inner
inner_if false inner = None

inner_same : (b : Bool) (inner : List ℕ) → (if b then Some inner else None) ≡ inner_if b inner
inner_same true inner = refl
inner_same false inner = refl

more_parts : (inner part : List ℕ) (parts : List (List ℕ)) → 0 < length parts → inner_of ([] ∷ inner ∷ part ∷ parts) ≡ None
more_parts inner [] [] h = absurd (omega arith)
more_parts inner [] (next ∷ parts) h = refl
more_parts inner (b ∷ bs) parts h = refl

front_part : (inner : List ℕ) (b : ℕ) (parts : List (List ℕ)) → inner_of ([] ∷ inner ∷ onto_first b parts) ≡ None
front_part inner b [] = refl
front_part inner b (part ∷ parts) = refl

end_by : (x : Bool) (inner : List ℕ) (b : ℕ) (parts : List (List ℕ)) → 0 < length parts
    → inner_of ([] ∷ inner ∷ (if x then [] ∷ parts else onto_first b parts)) ≡ None
end_by true inner b parts h = more_parts inner [] parts h
end_by false inner b parts h = front_part inner b parts

some_left : (b : ℕ) (bs : List ℕ) → (length (b ∷ bs) == 0) ≡ false
some_left b bs = grind (arith, nat_tests)

-- what is between two marks, by what is before the first and after the second
pub inner_by_cut : (before inner end : List ℕ) → inner_of (before ∷ inner ∷ pieces_at 34 end)
    ≡ inner_if (length before == 0 && (length end == 0 && list_all is_quoted_byte inner)) inner
inner_by_cut (b ∷ bs) inner end =
    sym (ap (λ x. inner_if (x && (length end == 0 && list_all is_quoted_byte inner)) inner) (some_left b bs))
inner_by_cut [] inner [] = inner_same (list_all is_quoted_byte inner) inner
inner_by_cut [] inner (b ∷ bs) =
    end_by (is_mark b) inner b (pieces_at 34 bs) (omega (arith, length-slice_split is_mark bs))
    ∙ sym (ap (λ x. inner_if (x && list_all is_quoted_byte inner) inner) (some_left b bs))

pub inner_in_cut : (text before after inner end : List ℕ) (b : Bool) → pieces_at 34 text ≡ before ∷ pieces_at 34 after → pieces_at 34 after ≡ inner ∷ pieces_at 34 end
    → (length before == 0 && (length end == 0 && list_all is_quoted_byte inner)) ≡ b → inner_of (pieces_at 34 text) ≡ inner_if b inner
inner_in_cut text before after inner end b e d h =
    ap inner_of (e ∙ ap (λ parts. before ∷ parts) d) ∙ inner_by_cut before inner end ∙ ap (λ x. inner_if x inner) h

pub first_fails : (x y z : Bool) → false ≡ x → (x && (y && z)) ≡ false
first_fails x y z e = ap (λ b. b && (y && z)) (sym e)

pub second_fails : (x y z : Bool) → false ≡ y → (x && (y && z)) ≡ false
second_fails true y z e = ap (λ b. b && z) (sym e)
second_fails false y z e = refl

pub third_fails : (x y z : Bool) → false ≡ z → (x && (y && z)) ≡ false
third_fails true true z e = sym e
third_fails true false z e = refl
third_fails false y z e = refl

bare_spelled : (b : Bool) (text : List ℕ) (v : AttrValue) → (if b then Some (Bare text) else None) ≡ Some v → value_spelling v ≡ text
bare_spelled true text v h = let e : v ≡ Bare text = cc in ap value_spelling e
bare_spelled false text v h = cc

quoted_spelled : (b : Bool) (inner : List ℕ) (v : AttrValue) → (if b then Some (Quoted inner) else None) ≡ Some v → value_spelling v ≡ 34 ∷ (inner ++ (34 ∷ []))
quoted_spelled true inner v h = let e : v ≡ Quoted inner = cc in ap value_spelling e
quoted_spelled false inner v h = cc

spelled_by : (text : List ℕ) (parts : List (List ℕ)) (v : AttrValue) → join_with_byte 34 parts ≡ text → value_by text parts ≡ Some v → value_spelling v ≡ text
spelled_by text [] v e h = bare_spelled (is_bare text) text v h
spelled_by text ((b ∷ bs) ∷ parts) v e h = bare_spelled (is_bare text) text v h
spelled_by text ([] ∷ []) v e h = bare_spelled (is_bare text) text v h
spelled_by text ([] ∷ inner ∷ []) v e h = bare_spelled (is_bare text) text v h
spelled_by text ([] ∷ inner ∷ (b ∷ bs) ∷ parts) v e h = bare_spelled (is_bare text) text v h
spelled_by text ([] ∷ inner ∷ [] ∷ part ∷ parts) v e h = bare_spelled (is_bare text) text v h
spelled_by text ([] ∷ inner ∷ [] ∷ []) v e h = quoted_spelled (list_all is_quoted_byte inner) inner v h ∙ e

-- what a value spells is the text that it was read from
pub value_spelled : (text : List ℕ) (v : AttrValue) → value_in text ≡ Some v → value_spelling v ≡ text
value_spelled text v h = spelled_by text (pieces_at 34 text) v (join_with_byte-slice_split 34 text) h
