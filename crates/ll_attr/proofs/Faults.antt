-- The first fault of parts, found without their attributes.
use Rattle.std.proofs.Common.{◌≡◌, ℕ, ◌+◌, ◌<◌, ◌||◌, Bool, true, false, List, [], ◌∷◌, ◌++◌, length, take, drop, get_or, refl, ap, sym, ◌∙◌, add-one, drop-cons, length-drop, arith, Option, Some, None, MatchOption, Result, Ok, Err, bytes_eq}
use Rattle.std.proofs.lemmas.List.{take_more}
use Rattle.std.specs.List.{list_any, after_first}
use Rattle.std.specs.Result.{IsOk}
use Rattle.ll_attr.specs.Attributes.{attributes_of, attribute_in, in_front, and_then, is_equals, value_in}
use Rattle.ll_attr.specs.Reading.{name_of, is_named, names_of_parts, fault_of, fault_after, fault_in, first_of}
use Rattle.ll_attr.specs.declared.attributes.Attribute.{Attribute}
use Rattle.ll_attr.specs.declared.attributes.AttrValue.{AttrValue}
use Rattle.ll_attr.specs.declared.attributes.AttrFault.{AttrFault}
use Rattle.ll_attr.proofs.ReadSoFar.{or_false, swap_or}
use Rattle.ll_attr.proofs.Spelled.{read_by}

outcome_by : (x y : Bool) (name : List ℕ) (v : Option AttrValue) → MatchOption (fault_after x y v) ((a : Attribute) × (read_by x y name v ≡ Ok a) × (a.name ≡ name)) (λ fault. read_by x y name v ≡ Err fault)
outcome_by false y name v = refl
outcome_by true true name v = refl
outcome_by true false name None = refl
outcome_by true false name (Some value) = (record { name = name; value = value }, refl, refl)

outcome : (names : List (List ℕ)) (part : List ℕ) → MatchOption (fault_of names part) ((a : Attribute) × (attribute_in names part ≡ Ok a) × (a.name ≡ name_of part)) (λ fault. attribute_in names part ≡ Err fault)
outcome names part = outcome_by (is_named part) (list_any (bytes_eq (name_of part)) names) (name_of part) (value_in (after_first is_equals part))

-- whether parts are attributes, by their first fault
abbrev Ends : Option AttrFault → Result (List Attribute) AttrFault → Type 0
Ends fault r = MatchOption fault (IsOk r) (λ f. r ≡ Err f)

front_ends : (a : Attribute) (later : Option AttrFault) (r : Result (List Attribute) AttrFault) → Ends later r → Ends later (in_front a r)
front_ends a None (Ok more) h = h
front_ends a None (Err fault) h = h
front_ends a (Some fault) r h = ap (in_front a) h

ends_by : (fault later : Option AttrFault) (name : List ℕ) (x : Result Attribute AttrFault) (g : List ℕ → Result (List Attribute) AttrFault) → Ends later (g name)
    → MatchOption fault ((a : Attribute) × (x ≡ Ok a) × (a.name ≡ name)) (λ f. x ≡ Err f)
    → Ends (first_of fault later) (and_then x (λ (a : Attribute). g a.name))
ends_by None later name x g h p = rw p.1 (front_ends p.0 later (g p.0.name) (rw p.2 h))
ends_by (Some fault) later name x g h p = ap (λ y. and_then y (λ (a : Attribute). g a.name)) p

pub ends : (names parts : List (List ℕ)) → Ends (fault_in names parts) (attributes_of names parts)
ends names [] = refl
ends names (part ∷ parts) =
    ends_by (fault_of names part) (fault_in (name_of part ∷ names) parts) (name_of part) (attribute_in names part) (λ name. attributes_of (name ∷ names) parts)
    (ends (name_of part ∷ names) parts) (outcome names part)

names_any : (name : List ℕ) (names parts : List (List ℕ))
    → list_any (bytes_eq name) (names_of_parts names parts) ≡ (list_any (bytes_eq name) names || list_any (λ part. bytes_eq name (name_of part)) parts)
names_any name names [] = or_false (list_any (bytes_eq name) names)
names_any name names (part ∷ parts) =
    names_any name (name_of part ∷ names) parts
    ∙ swap_or (bytes_eq name (name_of part)) (list_any (bytes_eq name) names) (list_any (λ part. bytes_eq name (name_of part)) parts)

pub named_before : (name : List ℕ) (parts : List (List ℕ)) → list_any (λ part. bytes_eq name (name_of part)) parts ≡ list_any (bytes_eq name) (names_of_parts [] parts)
named_before name parts = sym (names_any name [] parts)

names_push : (names parts : List (List ℕ)) (part : List ℕ) → names_of_parts names (parts ++ part ∷ []) ≡ name_of part ∷ names_of_parts names parts
names_push names [] part = refl
names_push names (p ∷ parts) part = names_push (name_of p ∷ names) parts part

no_first : (fault later r : Option AttrFault) → None ≡ fault → first_of fault later ≡ r → later ≡ r
no_first None later r e h = h
no_first (Some fault) later r e h = cc

-- after a part without a fault
pub fault_next : (names rest parts : List (List ℕ)) (part : List ℕ) (r : Option AttrFault) → rest ≡ part ∷ parts → None ≡ fault_of names part
    → fault_in names rest ≡ r → fault_in (name_of part ∷ names) parts ≡ r
fault_next names rest parts part r first fine so_far =
    no_first (fault_of names part) (fault_in (name_of part ∷ names) parts) r fine (ap (fault_in names) (sym first) ∙ so_far)

-- one part on: what is left of the parts, and that their first fault stays
pub fault_more : (count : ℕ) (whole rest parts : List (List ℕ)) (part : List ℕ) (r : Option AttrFault) → drop count whole ≡ rest → rest ≡ part ∷ parts
    → None ≡ fault_of (names_of_parts [] (take count whole)) part → fault_in (names_of_parts [] (take count whole)) rest ≡ r
    → (drop (count + 1) whole ≡ parts) × (fault_in (names_of_parts [] (take (count + 1) whole)) parts ≡ r)
fault_more count whole rest parts part r left first fine so_far =
    let within : count < length whole = omega (arith, length-drop count whole, ap length (left ∙ first)) in
    let cons : drop count whole ≡ get_or whole count [] ∷ drop (count + 1) whole = rw add-one (drop-cons whole count [] within) in
    let here : get_or whole count [] ≡ part = cc in
    let after : drop (count + 1) whole ≡ parts = cc in
    let more : take (count + 1) whole ≡ take count whole ++ part ∷ [] = take_more whole count [] within ∙ ap (λ p. take count whole ++ p ∷ []) here in
    let names = names_of_parts [] (take count whole) in
    let step = fault_next names rest parts part r first fine so_far in
    (after, ap (λ ps. fault_in (names_of_parts [] ps) parts) more ∙ ap (λ ns. fault_in ns parts) (names_push [] (take count whole) part) ∙ step)

-- the last part
pub fault_none : (names rest : List (List ℕ)) (part : List ℕ) (r : Option AttrFault) → rest ≡ part ∷ [] → None ≡ fault_of names part → fault_in names rest ≡ r → r ≡ None
fault_none names rest part r first fine so_far = sym (no_first (fault_of names part) None r fine (ap (fault_in names) (sym first) ∙ so_far))

pub fault_here : (names rest : List (List ℕ)) (part : List ℕ) (fault : AttrFault) (r : Option AttrFault) → (parts : List (List ℕ)) × (rest ≡ part ∷ parts)
    → Some fault ≡ fault_of names part → fault_in names rest ≡ r → r ≡ Some fault
fault_here names rest part fault r others e so_far =
    sym so_far ∙ ap (fault_in names) others.1 ∙ ap (λ f. first_of f (fault_in (name_of part ∷ names) others.0)) (sym e)

is_ok : (fault : Option AttrFault) (r : Result (List Attribute) AttrFault) → Ends fault r → fault ≡ None → IsOk r
is_ok None r h e = h
is_ok (Some fault) r h e = cc

pub none_ends : (names parts : List (List ℕ)) → fault_in names parts ≡ None → IsOk (attributes_of names parts)
none_ends names parts e = is_ok (fault_in names parts) (attributes_of names parts) (ends names parts) e

is_err : (fault : Option AttrFault) (f : AttrFault) (r : Result (List Attribute) AttrFault) → Ends fault r → fault ≡ Some f → r ≡ Err f
is_err None f r h e = cc
is_err (Some fault) f r h e = let same : fault ≡ f = cc in h ∙ ap Err same

pub some_ends : (names parts : List (List ℕ)) (f : AttrFault) → fault_in names parts ≡ Some f → attributes_of names parts ≡ Err f
some_ends names parts f e = is_err (fault_in names parts) f (attributes_of names parts) (ends names parts) e

-- the first fault of a part, by what was found of it
pub checked : (part name : List ℕ) (parts : List (List ℕ)) (twice : Bool) (v : Option AttrValue) → is_named part ≡ true → name ≡ name_of part
    → list_any (λ part. bytes_eq name (name_of part)) parts ≡ twice → value_in (after_first is_equals part) ≡ v
    → fault_after true twice v ≡ fault_of (names_of_parts [] parts) part
checked part name parts twice v is named stands value =
    let before = names_of_parts [] parts in
    let among : list_any (bytes_eq (name_of part)) before ≡ twice =
    ap (λ n. list_any (bytes_eq n) before) (sym named) ∙ sym (named_before name parts) ∙ stands in
    ap (λ b. fault_after b twice v) (sym is)
    ∙ ap (λ b. fault_after (is_named part) b v) (sym among)
    ∙ ap (λ w. fault_after (is_named part) (list_any (bytes_eq (name_of part)) before) w) (sym value)
