-- A text that spells an attribute list begins with the first attribute's name, an equals sign and its value.
use Rattle.std.proofs.Common.{◌≡◌, ℕ, ◌&&◌, Bool, true, false, List, [], ◌∷◌, ◌++◌, refl, ap, sym, ◌∙◌, take, drop, append_assoc, Some, None, Ok, if◌then◌else◌}
use Rattle.std.proofs.lemmas.List.{append-nil}
use Rattle.std.specs.List.{list_all, list_any, after_first}
use Rattle.ll_attr.specs.Attributes.{attributes_in, attributes_of, attribute_in, spelling, value_spelling, value_by, value_in, is_attribute_name, is_bare, is_quoted_byte, is_equals}
use Rattle.ll_attr.specs.Reading.{name_of, is_named, part_len}
use Rattle.ll_attr.specs.Words.{pieces_at}
use Rattle.ll_attr.specs.declared.attributes.Attribute.{Attribute}
use Rattle.ll_attr.specs.declared.attributes.AttrValue.{AttrValue}
use Rattle.ll_attr.specs.declared.attributes.AttrValue.TheVariants.{Quoted, Bare}
use Rattle.ll_attr.proofs.PartsOutside.{first_part, parts_after}
use Rattle.ll_attr.proofs.Spelled.{read_ok, then_ok, written_again}

-- what is not quoted is a bare value
abbrev pub is_formed : AttrValue → Bool
is_formed (Quoted text) = true
is_formed (Bare text) = is_bare text

bare_formed : (b : Bool) (text : List ℕ) (v : AttrValue) → is_bare text ≡ b → (if b then Some (Bare text) else None) ≡ Some v → is_formed v ≡ true
bare_formed true text v bare h = let e : Bare text ≡ v = cc in sym (ap is_formed e) ∙ bare
bare_formed false text v bare h = cc

quoted_formed : (b : Bool) (inner : List ℕ) (v : AttrValue) → (if b then Some (Quoted inner) else None) ≡ Some v → is_formed v ≡ true
quoted_formed true inner v h = let e : Quoted inner ≡ v = cc in sym (ap is_formed e)
quoted_formed false inner v h = cc

formed_by : (text : List ℕ) (parts : List (List ℕ)) (v : AttrValue) → value_by text parts ≡ Some v → is_formed v ≡ true
formed_by text [] v h = bare_formed (is_bare text) text v refl h
formed_by text ((b ∷ bs) ∷ parts) v h = bare_formed (is_bare text) text v refl h
formed_by text ([] ∷ []) v h = bare_formed (is_bare text) text v refl h
formed_by text ([] ∷ inner ∷ []) v h = bare_formed (is_bare text) text v refl h
formed_by text ([] ∷ inner ∷ (b ∷ bs) ∷ parts) v h = bare_formed (is_bare text) text v refl h
formed_by text ([] ∷ inner ∷ [] ∷ part ∷ parts) v h = bare_formed (is_bare text) text v refl h
formed_by text ([] ∷ inner ∷ [] ∷ []) v h = quoted_formed (list_all is_quoted_byte inner) inner v h

both_right : (x y : Bool) → (x && y) ≡ true → y ≡ true
both_right true y h = h
both_right false y h = cc

read_formed : (names : List (List ℕ)) (part : List ℕ) (a : Attribute) → attribute_in names part ≡ Ok a → (is_attribute_name a.name ≡ true) × (is_formed a.value ≡ true)
read_formed names part a h =
    let p = read_ok (is_named part) _ (name_of part) (value_in (after_first is_equals part)) a h in
    (ap is_attribute_name p.1 ∙ both_right (list_any is_equals part) _ p.0, formed_by (after_first is_equals part) (pieces_at 34 (after_first is_equals part)) a.value p.2)

-- a list's first attribute has a name and a value
pub first_formed : (text : List ℕ) (a : Attribute) (more : List Attribute) → attributes_in text ≡ Ok (a ∷ more) → (is_attribute_name a.name ≡ true) × (is_formed a.value ≡ true)
first_formed text a more h =
    let part = take (part_len false text) text in
    let after = drop (part_len false text) text in
    let cut : attributes_of [] (part ∷ parts_after after) ≡ Ok (a ∷ more) = ap (attributes_of []) (sym (first_part false text)) ∙ h in
    let p = then_ok (attribute_in [] part) (λ (x : Attribute). attributes_of (x.name ∷ []) (parts_after after)) (a ∷ more) cut in
    let is : p.0 ≡ a = cc in
    read_formed [] part a (p.2 ∙ ap Ok is)

spelled_first : (a : Attribute) (more : List Attribute) → (rest : List ℕ) × (spelling (a ∷ more) ≡ a.name ++ (61 ∷ (value_spelling a.value ++ rest)))
spelled_first a [] = ([], ap (λ text. a.name ++ (61 ∷ text)) (sym (append-nil (value_spelling a.value))))
spelled_first a (b ∷ more) =
    let rest = 44 ∷ spelling (b ∷ more) in
    (rest, append_assoc a.name (61 ∷ value_spelling a.value) rest)

-- and the text begins with them
pub first_spelled : (text : List ℕ) (a : Attribute) (more : List Attribute) → attributes_in text ≡ Ok (a ∷ more) → (rest : List ℕ) × (text ≡ a.name ++ (61 ∷ (value_spelling a.value ++ rest)))
first_spelled text a more h =
    let p = spelled_first a more in
    (p.0, sym (written_again text (a ∷ more) h) ∙ p.1)
