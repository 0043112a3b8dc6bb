-- A list that is read from its spelling stays so without its first attribute.
use Rattle.std.proofs.Common.{◌≡◌, ◌≢◌, ℕ, Bool, true, false, List, [], ◌∷◌, ◌++◌, refl, ap, sym, ◌∙◌, take, drop, ◌||◌, bytes_eq, Option, Ok}
use Rattle.std.specs.List.{list_any, after_first}
use Rattle.ll_attr.specs.Attributes.{attributes_in, attributes_of, attribute_in, spelling, value_in, and_then, in_front, parts_outside, is_equals}
use Rattle.ll_attr.specs.Reading.{name_of, is_named, part_len}
use Rattle.ll_attr.specs.declared.attributes.Attribute.{Attribute}
use Rattle.ll_attr.proofs.PartsOutside.{parts_after, first_part, join_outside}
use Rattle.ll_attr.proofs.Spelled.{read_by, then_ok, parts_spelled}

-- each name among the first is among the second
abbrev Within : List (List ℕ) → List (List ℕ) → Type 0
Within few many = (name : List ℕ) → list_any (bytes_eq name) many ≡ false → list_any (bytes_eq name) few ≡ false

or_within : (x few many : Bool) → (many ≡ false → few ≡ false) → (x || many) ≡ false → (x || few) ≡ false
or_within true few many f h = h
or_within false few many f h = f h

within_more : (few many : List (List ℕ)) (name : List ℕ) → Within few many → Within (name ∷ few) (name ∷ many)
within_more few many name f = λ other. or_within (bytes_eq other name) (list_any (bytes_eq other) few) (list_any (bytes_eq other) many) (f other)

read_within : (x few many : Bool) (name : List ℕ) (v : Option _) (a : Attribute) → (many ≡ false → few ≡ false) → read_by x many name v ≡ Ok a → read_by x few name v ≡ Ok a
read_within false few many name v a f h = cc
read_within true few true name v a f h = cc
read_within true few false name v a f h = rw (f refl) h

attribute_within : (few many : List (List ℕ)) (part : List ℕ) (a : Attribute) → Within few many → attribute_in many part ≡ Ok a → attribute_in few part ≡ Ok a
attribute_within few many part a f h =
    read_within (is_named part) (list_any (bytes_eq (name_of part)) few) (list_any (bytes_eq (name_of part)) many) (name_of part) (value_in (after_first is_equals part)) a (f (name_of part)) h

-- fewer names before refuse no more
of_within : (few many parts : List (List ℕ)) (found : List Attribute) → Within few many → attributes_of many parts ≡ Ok found → attributes_of few parts ≡ Ok found
of_within few many [] found f h = h
of_within few many (part ∷ parts) found f h =
    let p = then_ok (attribute_in many part) (λ (a : Attribute). attributes_of (a.name ∷ many) parts) found h in
    let a = p.0 in
    let more = p.1 in
    ap (λ r. and_then r (λ (b : Attribute). attributes_of (b.name ∷ few) parts)) (attribute_within few many part a f p.2)
    ∙ ap (in_front a) (of_within (a.name ∷ few) (a.name ∷ many) parts more (within_more few many a.name f) p.3)
    ∙ sym (ap Ok p.4)

after_read : (names : List (List ℕ)) (after : List ℕ) (b : Attribute) (more : List Attribute) → attributes_of names (parts_after after) ≡ Ok (b ∷ more)
    → attributes_in (spelling (b ∷ more)) ≡ Ok (b ∷ more)
after_read names [] b more h = cc
after_read names (comma ∷ text) b more h =
    let parts = parts_outside false text in
    let spelled = (parts_spelled names parts (b ∷ more) h).1 ∙ join_outside false text in
    ap attributes_in spelled ∙ of_within [] names parts (b ∷ more) (λ name e. refl) h

tail_by : (a : Attribute) (more : List Attribute) (text : List ℕ) → attributes_in text ≡ Ok (a ∷ more) → more ≢ [] → attributes_in (spelling more) ≡ Ok more
tail_by a [] text h some = absurd (some refl)
tail_by a (b ∷ more) text h some =
    let part = take (part_len false text) text in
    let after = drop (part_len false text) text in
    let cut : attributes_of [] (part ∷ parts_after after) ≡ Ok (a ∷ b ∷ more) = ap (attributes_of []) (sym (first_part false text)) ∙ h in
    let p = then_ok (attribute_in [] part) (λ (x : Attribute). attributes_of (x.name ∷ []) (parts_after after)) (a ∷ b ∷ more) cut in
    let is : b ∷ more ≡ p.1 = cc in
    after_read (p.0.name ∷ []) after b more (p.3 ∙ ap Ok (sym is))

-- what is left of a list that meets the invariant meets it
pub left_read : (items left : List Attribute) → (items ≢ [] → attributes_in (spelling items) ≡ Ok items) → left ≡ take 0 items ++ drop 1 items → left ≢ [] → attributes_in (spelling left) ≡ Ok left
left_read [] left h e some = absurd (some e)
left_read (a ∷ more) left h e some = rw e (tail_by a more (spelling (a ∷ more)) (h (λ no. cc)) (λ none. some (e ∙ none)))
