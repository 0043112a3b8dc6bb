-- Names that are kept in a set, in the order in which they came, find the same faults as those of the definition.
use Rattle.std.proofs.Common.{◌≡◌, ℕ, ◌||◌, Bool, true, false, not, List, [], ◌∷◌, ◌++◌, refl, ap, sym, ◌∙◌, Option, Some, None, Bor, bytes_eq, if◌then◌else◌}
use Rattle.std.specs.List.{list_any, after_first}
use Rattle.ll_attr.specs.Attributes.{is_equals, value_in}
use Rattle.ll_attr.specs.Reading.{name_of, is_named, fault_of, fault_after, fault_of_value, fault_in, first_of, texts}
use Rattle.ll_attr.specs.declared.attributes.AttrValue.{AttrValue}
use Rattle.ll_attr.specs.declared.attributes.AttrFault.{AttrFault}
use Rattle.ll_attr.specs.declared.attributes.AttrFault.TheVariants.{BadName, Twice}

any_texts : (name : Bor (List ℕ)) (keys : List (Bor (List ℕ))) → list_any (λ key. bytes_eq name.now key.now) keys ≡ list_any (bytes_eq name.now) (texts keys)
any_texts name [] = refl
any_texts name (k ∷ keys) = ap (λ b. bytes_eq name.now k.now || b) (any_texts name keys)

or_middle : (x y z : Bool) → (x || (y || z)) ≡ (y || (x || z))
or_middle true true z = refl
or_middle true false z = refl
or_middle false y z = refl

any_last : (x name : List ℕ) (names : List (List ℕ)) → list_any (bytes_eq x) (names ++ name ∷ []) ≡ (bytes_eq x name || list_any (bytes_eq x) names)
any_last x name [] = refl
any_last x name (n ∷ names) = ap (λ b. bytes_eq x n || b) (any_last x name names) ∙ or_middle (bytes_eq x n) (bytes_eq x name) (list_any (bytes_eq x) names)

-- the order of names doesn't matter
fault_same : (parts ns ms : List (List ℕ)) → ((x : List ℕ) → list_any (bytes_eq x) ns ≡ list_any (bytes_eq x) ms) → fault_in ns parts ≡ fault_in ms parts
fault_same [] ns ms same = refl
fault_same (part ∷ parts) ns ms same =
    let here : fault_of ns part ≡ fault_of ms part = ap (λ b. fault_after (is_named part) b (value_in (after_first is_equals part))) (same (name_of part)) in
    let later = fault_same parts (name_of part ∷ ns) (name_of part ∷ ms) (λ x. ap (λ b. bytes_eq x (name_of part) || b) (same x)) in
    ap (λ f. first_of f (fault_in (name_of part ∷ ns) parts)) here ∙ ap (first_of (fault_of ms part)) later

-- whether a part's name is in the set
pub stands : (name : Bor (List ℕ)) (keys : List (Bor (List ℕ))) (part : List ℕ) (b : Bool) → name.now ≡ name_of part
    → list_any (λ key. bytes_eq name.now key.now) keys ≡ b → list_any (bytes_eq (name_of part)) (texts keys) ≡ b
stands name keys part b is h = ap (λ n. list_any (bytes_eq n) (texts keys)) (sym is) ∙ sym (any_texts name keys) ∙ h

-- one name more
pub put : (names new parts : List (List ℕ)) (name : List ℕ) (r : Option AttrFault) → new ≡ names ++ name ∷ [] → fault_in (name ∷ names) parts ≡ r → fault_in new parts ≡ r
put names new parts name r e so_far = ap (λ ns. fault_in ns parts) e ∙ fault_same parts (names ++ name ∷ []) (name ∷ names) (λ x. any_last x name names) ∙ so_far

pub is_new : (x : Bool) → not x ≡ true → x ≡ false
is_new true h = cc
is_new false h = refl

pub is_old : (x : Bool) → not x ≡ false → x ≡ true
is_old true h = refl
is_old false h = cc

pub named_twice : (named twice : Bool) (v : Option AttrValue) → None ≡ (if named then None else Some BadName) → twice ≡ true → Some Twice ≡ fault_after named twice v
named_twice true true v n t = refl
named_twice true false v n t = cc
named_twice false twice v n t = cc

pub valued : (named twice : Bool) (v : Option AttrValue) (fault : Option AttrFault) → None ≡ (if named then None else Some BadName) → twice ≡ false → fault ≡ fault_of_value v
    → fault ≡ fault_after named twice v
valued true true v fault n t h = cc
valued true false v fault n t h = h
valued false twice v fault n t h = cc
