-- An attribute list that can be read stands on one line.
use Rattle.std.proofs.Common.{◌≡◌, ℕ, Bool, true, false, List, [], ◌∷◌, ◌++◌, length, nat_le, refl, ap, sym, ◌∙◌, codes, Some, None, Ok, if◌then◌else◌}
use Rattle.std.proofs.lemmas.Bool.{and_parts}
use Rattle.std.specs.List.{list_all, list_any, after_first}
use Rattle.ll_attr.specs.Attributes.{attributes_in, attributes_of, attribute_in, attribute_spelling, spelling, value_spelling, value_by, value_in, parts_outside, is_attribute_name, is_name_byte, is_bare, is_bare_byte, is_quoted_byte, is_equals}
use Rattle.ll_attr.specs.Reading.{name_of, is_named}
use Rattle.ll_attr.specs.Words.{pieces_at}
use Rattle.ll_attr.specs.declared.attributes.Attribute.{Attribute}
use Rattle.ll_attr.specs.declared.attributes.AttrValue.{AttrValue}
use Rattle.ll_attr.specs.declared.attributes.AttrValue.TheVariants.{Quoted, Bare}
use Rattle.ll_attr.proofs.Spelled.{read_ok, then_ok}
use Rattle.ll_format.specs.Words.{is_one_line}
use Rattle.ll_format.proofs.FormatLaws.{inside_both}
use Rattle.ll_format.proofs.WordLaws.{inside_from}

bare_line : (text : List ℕ) → is_bare text ≡ true → is_one_line text ≡ true
bare_line text h = inside_from is_bare_byte text refl refl (and_parts (nat_le 1 (length text)) (list_all is_bare_byte text) h).1

quoted_line : (text : List ℕ) → list_all is_quoted_byte text ≡ true → is_one_line (text ++ codes "\"") ≡ true
quoted_line text h = inside_both text (codes "\"") (inside_from is_quoted_byte text refl refl h) refl

value_if : (b : Bool) (x v : AttrValue) → (b ≡ true → is_one_line (value_spelling x) ≡ true) → (if b then Some x else None) ≡ Some v → is_one_line (value_spelling v) ≡ true
value_if true x v one h = let e : x ≡ v = cc in sym (ap (λ y. is_one_line (value_spelling y)) e) ∙ one refl
value_if false x v one h = cc

one_value : (text : List ℕ) (parts : List (List ℕ)) (v : AttrValue) → value_by text parts ≡ Some v → is_one_line (value_spelling v) ≡ true
one_value text [] v h = value_if (is_bare text) (Bare text) v (bare_line text) h
one_value text ((b ∷ bs) ∷ parts) v h = value_if (is_bare text) (Bare text) v (bare_line text) h
one_value text ([] ∷ []) v h = value_if (is_bare text) (Bare text) v (bare_line text) h
one_value text ([] ∷ inner ∷ []) v h = value_if (is_bare text) (Bare text) v (bare_line text) h
one_value text ([] ∷ inner ∷ (b ∷ bs) ∷ parts) v h = value_if (is_bare text) (Bare text) v (bare_line text) h
one_value text ([] ∷ inner ∷ [] ∷ part ∷ parts) v h = value_if (is_bare text) (Bare text) v (bare_line text) h
one_value text ([] ∷ inner ∷ [] ∷ []) v h = value_if (list_all is_quoted_byte inner) (Quoted inner) v (quoted_line inner) h

one_attribute : (names : List (List ℕ)) (part : List ℕ) (a : Attribute) → attribute_in names part ≡ Ok a → is_one_line (attribute_spelling a) ≡ true
one_attribute names part a h =
    let text = after_first is_equals part in
    let p = read_ok (is_named part) _ (name_of part) (value_in text) a h in
    let named = (and_parts (list_any is_equals part) (is_attribute_name (name_of part)) p.0).1 in
    let bytes = (and_parts (nat_le 1 (length (name_of part))) (list_all is_name_byte (name_of part)) named).1 in
    inside_both a.name (61 ∷ value_spelling a.value) (ap is_one_line p.1 ∙ inside_from is_name_byte (name_of part) refl refl bytes)
    (one_value text (pieces_at 34 text) a.value p.2)

one_more : (a : Attribute) (more : List Attribute) → is_one_line (attribute_spelling a) ≡ true → is_one_line (spelling more) ≡ true
    → is_one_line (spelling (a ∷ more)) ≡ true
one_more a [] h k = h
one_more a (b ∷ more) h k = inside_both (attribute_spelling a) (44 ∷ spelling (b ∷ more)) h k

of_parts : (names parts : List (List ℕ)) (found : List Attribute) → attributes_of names parts ≡ Ok found → is_one_line (spelling found) ≡ true
of_parts names [] found h = let e : [] ≡ found = cc in sym (ap (λ (list : List Attribute). is_one_line (spelling list)) e)
of_parts names (part ∷ parts) found h =
    let p = then_ok (attribute_in names part) (λ (a : Attribute). attributes_of (a.name ∷ names) parts) found h in
    ap (λ (list : List Attribute). is_one_line (spelling list)) p.4 ∙ one_more p.0 p.1 (one_attribute names part p.0 p.2) (of_parts (p.0.name ∷ names) parts p.1 p.3)

pub list-line : (text : List ℕ) (found : List Attribute) → attributes_in text ≡ Ok found → is_one_line (spelling found) ≡ true
list-line text found h = of_parts [] (parts_outside false text) found h
