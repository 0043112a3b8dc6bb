-- What a text means, by the attributes read from its front and the parts that are left.
use Rattle.std.proofs.Common.{◌≡◌, ℕ, ◌||◌, Bool, true, false, List, [], ◌∷◌, ◌++◌, refl, ap, sym, ◌∙◌, Option, Some, None, MatchOption, Bor, Result, Ok, Err}
use Rattle.std.proofs.lemmas.List.{append-nil}
use Rattle.std.specs.Result.{IsOk}
use Rattle.ll_attr.specs.Attributes.{attributes_of, attribute_in, in_front, and_then, parts_outside}
use Rattle.ll_attr.specs.Reading.{names_so_far}
use Rattle.ll_attr.specs.declared.attributes.Attribute.{Attribute}
use Rattle.ll_attr.specs.declared.attributes.AttrFault.{AttrFault}

-- these attributes in front of what is left
abbrev pub joined : List Attribute → Result (List Attribute) AttrFault → Result (List Attribute) AttrFault
joined [] r = r
joined (a ∷ more) r = in_front a (joined more r)

joined_push : (found : List Attribute) (a : Attribute) (r : Result (List Attribute) AttrFault) → joined (found ++ a ∷ []) r ≡ joined found (in_front a r)
joined_push [] a r = refl
joined_push (b ∷ found) a r = ap (in_front b) (joined_push found a r)

joined_err : (found : List Attribute) (fault : AttrFault) → joined found (Err fault) ≡ Err fault
joined_err [] fault = refl
joined_err (b ∷ found) fault = ap (in_front b) (joined_err found fault)

joined_ok : (found bs : List Attribute) → joined found (Ok bs) ≡ Ok (found ++ bs)
joined_ok [] bs = refl
joined_ok (b ∷ found) bs = ap (in_front b) (joined_ok found bs)

names_push : (names : List (List ℕ)) (found : List Attribute) (a : Attribute) → names_so_far names (found ++ a ∷ []) ≡ a.name ∷ names_so_far names found
names_push names [] a = refl
names_push names (b ∷ found) a = names_push (b.name ∷ names) found a

-- what the parts mean after these attributes
abbrev pub read_on : List Attribute → List (List ℕ) → Result (List Attribute) AttrFault
read_on found parts = joined found (attributes_of (names_so_far [] found) parts)

one_more : (names : List (List ℕ)) (part : List ℕ) (parts : List (List ℕ)) (a : Attribute) → attribute_in names part ≡ Ok a
    → attributes_of names (part ∷ parts) ≡ in_front a (attributes_of (a.name ∷ names) parts)
one_more names part parts a h = ap (λ r. and_then r (λ (b : Attribute). attributes_of (b.name ∷ names) parts)) h

pub read_more : (found : List Attribute) (a : Attribute) (part : List ℕ) (parts whole : List (List ℕ)) (r : Result (List Attribute) AttrFault)
    → whole ≡ part ∷ parts → attribute_in (names_so_far [] found) part ≡ Ok a → read_on found whole ≡ r → read_on (found ++ a ∷ []) parts ≡ r
read_more found a part parts whole r e h so_far =
    joined_push found a (attributes_of (names_so_far [] (found ++ a ∷ [])) parts)
    ∙ ap (λ names. joined found (in_front a (attributes_of names parts))) (names_push [] found a)
    ∙ ap (joined found) (sym (one_more (names_so_far [] found) part parts a h))
    ∙ ap (read_on found) (sym e) ∙ so_far

pub read_last : (found : List Attribute) (a : Attribute) (part : List ℕ) (whole : List (List ℕ)) (r : Result (List Attribute) AttrFault)
    → whole ≡ part ∷ [] → attribute_in (names_so_far [] found) part ≡ Ok a → read_on found whole ≡ r → r ≡ Ok (found ++ a ∷ [])
read_last found a part whole r e h so_far =
    sym (read_more found a part [] whole r e h so_far) ∙ joined_ok (found ++ a ∷ []) [] ∙ ap Ok (append-nil (found ++ a ∷ []))

-- the first part and others
pub with_others : (whole : List (List ℕ)) (part : List ℕ) (r : Option (Bor (List ℕ)))
    → MatchOption r (whole ≡ part ∷ []) (λ after. whole ≡ part ∷ parts_outside false after.now) → (parts : List (List ℕ)) × (whole ≡ part ∷ parts)
with_others whole part None h = ([], h)
with_others whole part (Some after) h = (parts_outside false after.now, h)

read_by : (found : List Attribute) (x : Result Attribute AttrFault) (g : Attribute → Result (List Attribute) AttrFault) (r : Result (List Attribute) AttrFault)
    → joined found (and_then x g) ≡ r → IsOk r → (a : Attribute) × (x ≡ Ok a)
read_by found (Ok a) g r e ok = (a, refl)
read_by found (Err fault) g r e ok = let fails : r ≡ Err fault = sym e ∙ joined_err found fault in cc

-- a part of a text that spells attributes is one
pub read_part : (found : List Attribute) (part : List ℕ) (parts whole : List (List ℕ)) (r : Result (List Attribute) AttrFault)
    → whole ≡ part ∷ parts → read_on found whole ≡ r → IsOk r → (a : Attribute) × (attribute_in (names_so_far [] found) part ≡ Ok a)
read_part found part parts whole r e so_far ok =
    read_by found (attribute_in (names_so_far [] found) part) (λ (b : Attribute). attributes_of (b.name ∷ names_so_far [] found) parts) r
    (ap (read_on found) (sym e) ∙ so_far) ok

pub or_false : (x : Bool) → x ≡ (x || false)
or_false true = refl
or_false false = refl

pub swap_or : (x y z : Bool) → ((x || y) || z) ≡ (y || (x || z))
swap_or true true z = refl
swap_or true false z = refl
swap_or false true z = refl
swap_or false false z = refl
