-- What was read from a text is spelled as the text.
use Rattle.std.proofs.Common.{◌≡◌, ℕ, ◌&&◌, not, Bool, true, false, List, [], ◌∷◌, ◌++◌, length, refl, ap, sym, ◌∙◌, arith, codes, Option, Some, None, Result, Ok, Err, if◌then◌else◌}
use Rattle.std.specs.List.{list_any, join_with_byte, after_first}
use Rattle.ll_attr.specs.Attributes.{attributes_in, attributes_of, attribute_in, attribute_spelling, spelling, value_spelling, value_in, valued, in_front, and_then, parts_outside, is_equals}
use Rattle.ll_attr.specs.Reading.{name_of, is_named}
use Rattle.ll_attr.specs.declared.attributes.Attribute.{Attribute}
use Rattle.ll_attr.specs.declared.attributes.AttrValue.{AttrValue}
use Rattle.ll_attr.specs.declared.attributes.AttrFault.{AttrFault}
use Rattle.ll_attr.specs.declared.attributes.AttrFault.TheVariants.{BadName, Twice}
use Rattle.ll_attr.proofs.Names.{part_joined}
use Rattle.ll_attr.proofs.PartsOutside.{join_outside}
use Rattle.ll_attr.proofs.Values.{value_spelled}

-- what is read of a part, by whether it is named, whether its name was given before, its name and its value
abbrev pub read_by : Bool → Bool → List ℕ → Option AttrValue → Result Attribute AttrFault
read_by x y name v = if not x then Err BadName else if y then Err Twice else valued name v

pub read_ok : (x y : Bool) (name : List ℕ) (v : Option AttrValue) (a : Attribute) → read_by x y name v ≡ Ok a → (x ≡ true) × (a.name ≡ name) × (v ≡ Some a.value)
read_ok false y name v a h = cc
read_ok true true name v a h = cc
read_ok true false name None a h = cc
read_ok true false name (Some value) a h =
    let e : record { name = name; value = value } ≡ a = cc in
    (refl, sym (ap (λ (b : Attribute). b.name) e), ap (λ (b : Attribute). Some b.value) e)

both_left : (x y : Bool) → (x && y) ≡ true → x ≡ true
both_left true y h = refl
both_left false y h = h

pub part_spelled : (names : List (List ℕ)) (part : List ℕ) (a : Attribute) → attribute_in names part ≡ Ok a → attribute_spelling a ≡ part
part_spelled names part a h =
    let p = read_ok (is_named part) _ (name_of part) (value_in (after_first is_equals part)) a h in
    ap (λ name. name ++ (codes "=" ++ value_spelling a.value)) p.1
    ∙ ap (λ text. name_of part ++ (61 ∷ text)) (value_spelled (after_first is_equals part) a.value p.2)
    ∙ part_joined part (both_left (list_any is_equals part) _ p.0)

front_ok : (a : Attribute) (r : Result (List Attribute) AttrFault) (found : List Attribute) → in_front a r ≡ Ok found → (more : List Attribute) × (r ≡ Ok more) × (found ≡ a ∷ more)
front_ok a (Ok more) found h = (more, refl, cc)
front_ok a (Err fault) found h = cc

pub then_ok : (r : Result Attribute AttrFault) (f : Attribute → Result (List Attribute) AttrFault) (found : List Attribute) → and_then r f ≡ Ok found
    → (a : Attribute) × (more : List Attribute) × (r ≡ Ok a) × (f a ≡ Ok more) × (found ≡ a ∷ more)
then_ok (Err fault) f found h = cc
then_ok (Ok a) f found h = let p = front_ok a (f a) found h in (a, p.0, refl, p.1, p.2)

front_spelled : (a : Attribute) (more : List Attribute) (part : List ℕ) (parts : List (List ℕ)) → attribute_spelling a ≡ part → length more ≡ length parts
    → spelling more ≡ join_with_byte 44 parts → spelling (a ∷ more) ≡ join_with_byte 44 (part ∷ parts)
front_spelled a [] part [] s l e = s
front_spelled a [] part (q ∷ qs) s l e = absurd (omega arith)
front_spelled a (b ∷ bs) part [] s l e = absurd (omega arith)
front_spelled a (b ∷ bs) part (q ∷ qs) s l e = ap (λ text. text ++ (44 ∷ spelling (b ∷ bs))) s ∙ ap (λ text. part ++ (44 ∷ text)) e

pub parts_spelled : (names parts : List (List ℕ)) (found : List Attribute) → attributes_of names parts ≡ Ok found → (length found ≡ length parts) × (spelling found ≡ join_with_byte 44 parts)
parts_spelled names [] found h = let e : [] ≡ found = cc in (sym (ap length e), sym (ap spelling e))
parts_spelled names (part ∷ parts) found h =
    let p = then_ok (attribute_in names part) (λ (a : Attribute). attributes_of (a.name ∷ names) parts) found h in
    let a = p.0 in
    let more = p.1 in
    let q = parts_spelled (a.name ∷ names) parts more p.3 in
    let one = ap length p.4 in
    (omega (arith, q.0), ap spelling p.4 ∙ front_spelled a more part parts (part_spelled names part a p.2) q.0 q.1)

pub written_again : (text : List ℕ) (found : List Attribute) → attributes_in text ≡ Ok found → spelling found ≡ text
written_again text found h = (parts_spelled [] (parts_outside false text) found h).1 ∙ join_outside false text

pub read_again : (text : List ℕ) (found : List Attribute) → attributes_in text ≡ Ok found → attributes_in (spelling found) ≡ Ok found
read_again text found h = ap attributes_in (written_again text found h) ∙ h
