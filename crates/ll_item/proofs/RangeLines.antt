-- What stands after the name on the line of a date range, and what its list begins with.
use Rattle.std.proofs.Common.{◌≡◌, ℕ, ◌&&◌, Bool, true, false, List, [], ◌∷◌, ◌++◌, refl, ap, sym, ◌∙◌, arith, bytes_eq, codes, nat_eq, Some, None, Result, Ok, Err, if◌then◌else◌}
use Rattle.std.proofs.lemmas.Bool.Decides.{nat_tests}
use Rattle.std.specs.List.{starts_with}
use Rattle.std.specs.Result.{IsOk}
use Rattle.ll_attr.specs.Attributes.{attributes_in, is_attribute_name, value_spelling}
use Rattle.ll_attr.specs.Words.{words, joined, after}
use Rattle.ll_attr.specs.declared.attributes.Attribute.{Attribute}
use Rattle.ll_attr.specs.declared.attributes.AttrFault.{AttrFault}
use Rattle.ll_attr.specs.declared.attributes.AttrValue.{AttrValue}
use Rattle.ll_attr.specs.declared.attributes.AttrValue.TheVariants.{Quoted, Bare}
use Rattle.ll_attr.proofs.Firsts.{is_formed, first_formed, first_spelled}
use Rattle.ll_attr.proofs.Spelled.{written_again}
use Rattle.ll_attr.proofs.Joined.{joined_words, some_word}
use Rattle.ll_item.specs.Items.{range_in, unrange_in, range_at, unrange_at, named, range_of, range_with}
use Rattle.ll_settings.specs.Settings.{Configuration}
use Rattle.ll_item.specs.declared.item.Item.{Item}
use Rattle.ll_item.specs.declared.item.Item.TheVariants.{Range}
use Rattle.ll_item.specs.declared.item.ItemFault.TheVariants.{BadAttribute}

range_by : (c : Configuration) (name : List ℕ) (ws : List (List ℕ)) → (word : List ℕ) × (more : List (List ℕ)) × (ws ≡ word ∷ more)
    → range_in c (name ∷ ws) ≡ range_at (named c name) (joined ws)
range_by c name ws p = rw p.2 refl

-- the list of a date range is what stands after the name
pub range_words : (c : Configuration) (name text : List ℕ) → range_in c (name ∷ words text) ≡ range_at (named c name) text
range_words c name text = range_by c name (words text) (some_word text) ∙ ap (range_at (named c name)) (joined_words text)

unrange_by : (c : Configuration) (name : List ℕ) (ws : List (List ℕ)) → (word : List ℕ) × (more : List (List ℕ)) × (ws ≡ word ∷ more)
    → unrange_in c (name ∷ ws) ≡ unrange_at (named c name) (joined ws)
unrange_by c name ws p = rw p.2 refl

-- the ID of a removed date range is what stands after the name
pub unrange_words : (c : Configuration) (name text : List ℕ) → unrange_in c (name ∷ words text) ≡ unrange_at (named c name) text
unrange_words c name text = unrange_by c name (words text) (some_word text) ∙ ap (unrange_at (named c name)) (joined_words text)

abbrev is_quoted : AttrValue → Bool
is_quoted (Quoted text) = true
is_quoted (Bare text) = false

-- a name, an equals sign and a value begin with `ID="` exactly if the name is ID and the value is quoted
begins : (name : List ℕ) (value : AttrValue) (rest : List ℕ) → is_attribute_name name ≡ true → is_formed value ≡ true
    → starts_with nat_eq (name ++ (61 ∷ (value_spelling value ++ rest))) (codes "ID=\"") ≡ (bytes_eq name (codes "ID") && is_quoted value)
begins [] value rest n f = grind (arith, nat_tests)
begins (x ∷ []) value rest n f = grind (arith, nat_tests)
begins (x ∷ y ∷ z ∷ name) value rest n f = grind (arith, nat_tests)
begins (x ∷ y ∷ []) (Quoted text) rest n f = grind (arith, nat_tests)
begins (x ∷ y ∷ []) (Bare []) rest n f = grind (arith, nat_tests)
begins (x ∷ y ∷ []) (Bare (b ∷ bs)) rest n f = grind (arith, nat_tests)

ok_by : (b : Bool) (item : Item) → (b && true) ≡ true → IsOk (if b then Ok item else Err BadAttribute)
ok_by true item h = refl
ok_by false item h = cc

err_by : (b : Bool) (item : Item) → (b && true) ≡ false → (if b then Ok item else Err BadAttribute) ≡ Err BadAttribute
err_by true item h = cc
err_by false item h = refl

not_right : {X : Type 0} (b : Bool) → (b && false) ≡ true → X
not_right true h = cc
not_right false h = cc

quoted_id : (r : ℕ) (name : List ℕ) (value : AttrValue) (more : List Attribute) → (bytes_eq name (codes "ID") && is_quoted value) ≡ true → IsOk (range_with r name value more)
quoted_id r name (Quoted id) more h = ok_by (bytes_eq name (codes "ID")) (Range r id more) h
quoted_id r name (Bare text) more h = not_right (bytes_eq name (codes "ID")) h

other_first : (r : ℕ) (name : List ℕ) (value : AttrValue) (more : List Attribute) → (bytes_eq name (codes "ID") && is_quoted value) ≡ false → range_with r name value more ≡ Err BadAttribute
other_first r name (Quoted id) more h = err_by (bytes_eq name (codes "ID")) (Range r id more) h
other_first r name (Bare text) more h = refl

no_front : {X : Type 0} (text : List ℕ) → [] ≡ text → starts_with nat_eq text (codes "ID=\"") ≡ true → X
no_front [] e h = cc
no_front (b ∷ bs) e h = cc

-- a list begins with a quoted ID exactly if its text begins with `ID="`
by_list : (r : ℕ) (text : List ℕ) (list : Result (List Attribute) AttrFault) → attributes_in text ≡ list → IsOk list
    → (starts_with nat_eq text (codes "ID=\"") ≡ true → IsOk (range_of r list)) × (starts_with nat_eq text (codes "ID=\"") ≡ false → range_of r list ≡ Err BadAttribute)
by_list r text (Err fault) e ok = cc
by_list r text (Ok []) e ok =
    (λ begin. no_front text (written_again text [] e) begin, λ begin. refl)
by_list r text (Ok (a ∷ more)) e ok =
    let formed = first_formed text a more e in
    let spelled = first_spelled text a more e in
    let is = ap (λ t. starts_with nat_eq t (codes "ID=\"")) spelled.1 ∙ begins a.name a.value spelled.0 formed.0 formed.1 in
    (λ begin. quoted_id r a.name a.value more (sym is ∙ begin), λ begin. other_first r a.name a.value more (sym is ∙ begin))

key_stands : (b : Bool) (left rest : List ℕ) → (if b then Some left else None) ≡ Some rest → b ≡ true
key_stands true left rest h = refl
key_stands false left rest h = cc

no_key_stands : (b : Bool) (left : List ℕ) → (if b then Some left else None) ≡ None → b ≡ false
no_key_stands true left h = cc
no_key_stands false left h = refl

pub begins_with_id : (r : ℕ) (text rest : List ℕ) → IsOk (attributes_in text) → after (codes "ID=\"") text ≡ Some rest → IsOk (range_of r (attributes_in text))
begins_with_id r text rest ok h =
    (by_list r text (attributes_in text) refl ok).0 (key_stands (starts_with nat_eq text (codes "ID=\"")) _ rest h)

pub begins_otherwise : (r : ℕ) (text : List ℕ) → IsOk (attributes_in text) → after (codes "ID=\"") text ≡ None → range_of r (attributes_in text) ≡ Err BadAttribute
begins_otherwise r text ok h =
    (by_list r text (attributes_in text) refl ok).1 (no_key_stands (starts_with nat_eq text (codes "ID=\"")) _ h)
