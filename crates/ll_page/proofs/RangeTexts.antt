-- The text of a date range is parsed as an attribute list: its ID is first, and no other attribute has that name.
use Rattle.std.proofs.Common.{◌≡◌, ℕ, ◌==◌, ◌||◌, Bool, true, false, List, [], ◌∷◌, ◌++◌, refl, ap, sym, ◌∙◌, arith, bytes_eq, codes, Option, Some, None, Ok, if◌then◌else◌}
use Rattle.std.proofs.lemmas.Bool.{and_parts, and_from, or_parts, or_from}
use Rattle.std.proofs.lemmas.Bool.Decides.{nat_tests}
use Rattle.std.proofs.lemmas.List.Elements.{All-from_recursion}
use Rattle.std.proofs.lemmas.List.Folds.{list_any-append}
use Rattle.std.proofs.lemmas.List.Splits.{slice_split_at}
use Rattle.std.proofs.lemmas.Slice.Eq.{bytes_eq-Decides}
use Rattle.std.specs.List.{list_all, list_any, AllByRecursion, after_first}
use Rattle.ll_attr.specs.Attributes.{attributes_in, attributes_of, attribute_in, and_then, in_front, parts_outside, put_front, value_in, value_by, is_quoted_byte, is_equals}
use Rattle.ll_attr.specs.Reading.{name_of, is_named}
use Rattle.ll_attr.specs.Words.{pieces_at}
use Rattle.ll_attr.specs.declared.attributes.Attribute.{Attribute}
use Rattle.ll_attr.specs.declared.attributes.AttrValue.{AttrValue}
use Rattle.ll_attr.specs.declared.attributes.AttrValue.TheVariants.{Quoted}
use Rattle.ll_attr.proofs.Spelled.{read_by, read_ok, then_ok}
use Rattle.ll_line.specs.Formats.{attributes_text}
use Rattle.ll_range.specs.Attributes.{is_id, is_id_byte, is_allowed, are_allowed}

-- a test that follows from another for each byte does so for a text
pub all-so : (p q : ℕ → Bool) → ((b : ℕ) → p b ≡ true → q b ≡ true) → (text : List ℕ) → list_all p text ≡ true → list_all q text ≡ true
all-so p q f [] h = refl
all-so p q f (b ∷ bs) h =
    let both = and_parts (p b) (list_all p bs) h in and_from (q b) (list_all q bs) (f b both.0) (all-so p q f bs both.1)

-- bytes of an ID are allowed in quotes

id_byte : (b : ℕ) → is_id_byte b ≡ true → is_quoted_byte b ≡ true
id_byte b h = grind (arith, nat_tests)

no_mark : (b : ℕ) → is_quoted_byte b ≡ true → (b == 34) ≡ false
no_mark b h = grind (arith, nat_tests)

no_marks : (id : List ℕ) → list_all is_quoted_byte id ≡ true → AllByRecursion (λ b. (b == 34) ≡ false) id
no_marks [] h = tt
no_marks (b ∷ bs) h = let p = and_parts (is_quoted_byte b) (list_all is_quoted_byte bs) h in (no_mark b p.0, no_marks bs p.1)

-- what is quoted and ends with its quotation mark is one part

quoted_part : (id rest : List ℕ) (more : List (List ℕ)) → list_all is_quoted_byte id ≡ true → parts_outside false rest ≡ [] ∷ more
    → parts_outside true (id ++ 34 ∷ rest) ≡ (id ++ 34 ∷ []) ∷ more
quoted_part [] rest more h e = ap (put_front 34) e
quoted_part (b ∷ bs) rest more h e =
    let p = and_parts (is_quoted_byte b) (list_all is_quoted_byte bs) h in
    ap (λ x. put_front b (parts_outside (if x then false else true) (bs ++ 34 ∷ rest))) (no_mark b p.0) ∙ ap (put_front b) (quoted_part bs rest more p.1 e)

abbrev id_text : List ℕ → List ℕ
id_text id = codes "ID=\"" ++ (id ++ codes "\"")

id_part : (id rest : List ℕ) (more : List (List ℕ)) → list_all is_quoted_byte id ≡ true → parts_outside false rest ≡ [] ∷ more
    → parts_outside false (codes "ID=\"" ++ (id ++ (34 ∷ rest))) ≡ id_text id ∷ more
id_part id rest more h e = ap (λ ps. put_front 73 (put_front 68 (put_front 61 (put_front 34 ps)))) (quoted_part id rest more h e)

-- and it is parsed as the ID

between_marks : (id : List ℕ) → list_all is_quoted_byte id ≡ true → pieces_at 34 (34 ∷ (id ++ 34 ∷ [])) ≡ [] ∷ id ∷ [] ∷ []
between_marks id h = ap (λ ps. [] ∷ ps) (slice_split_at (λ b. b == 34) id 34 [] (All-from_recursion (λ b. (b == 34) ≡ false) id (no_marks id h)) refl)

quoted_value : (id : List ℕ) → list_all is_quoted_byte id ≡ true → value_in (34 ∷ (id ++ 34 ∷ [])) ≡ Some (Quoted id)
quoted_value id h =
    ap (value_by (34 ∷ (id ++ 34 ∷ []))) (between_marks id h) ∙ ap (λ b. let v : Option AttrValue = if b then Some (Quoted id) else None in v) h

abbrev pub id_of : List ℕ → Attribute
id_of id = record { name = codes "ID"; value = Quoted id }

id_read : (id : List ℕ) → list_all is_quoted_byte id ≡ true → attribute_in [] (id_text id) ≡ Ok (id_of id)
id_read id h = ap (λ v. read_by true false (codes "ID") v) (quoted_value id h)

-- a name that no attribute has is allowed before

one_more : (x few many : Bool) (name : List ℕ) (v : Option AttrValue) (a : Attribute) → (few ≡ false → many ≡ false)
    → read_by x few name v ≡ Ok a → read_by x many name v ≡ Ok a
one_more false few many name v a f h = cc
one_more true true many name v a f h = cc
one_more true false many name v a f h = rw (f refl) h

attribute_after : (names : List (List ℕ)) (name part : List ℕ) (a : Attribute) → bytes_eq a.name name ≡ false → attribute_in names part ≡ Ok a
    → attribute_in (names ++ name ∷ []) part ≡ Ok a
attribute_after names name part a other h =
    let is = (read_ok (is_named part) (list_any (bytes_eq (name_of part)) names) (name_of part) (value_in (after_first is_equals part)) a h).1 in
    one_more (is_named part) (list_any (bytes_eq (name_of part)) names) (list_any (bytes_eq (name_of part)) (names ++ name ∷ [])) (name_of part)
    (value_in (after_first is_equals part)) a
    (λ none. list_any-append (bytes_eq (name_of part)) names (name ∷ [])
    ∙ or_from (list_any (bytes_eq (name_of part)) names) (bytes_eq (name_of part) name || false) none
    (or_from (bytes_eq (name_of part) name) false (ap (λ n. bytes_eq n name) (sym is) ∙ other) refl)) h

abbrev is_called : List ℕ → Attribute → Bool
is_called name a = bytes_eq a.name name

read_after : (names parts : List (List ℕ)) (name : List ℕ) (found : List Attribute) → attributes_of names parts ≡ Ok found → list_any (is_called name) found ≡ false
    → attributes_of (names ++ name ∷ []) parts ≡ Ok found
read_after names [] name found h none = h
read_after names (part ∷ parts) name found h none =
    let p = then_ok (attribute_in names part) (λ (a : Attribute). attributes_of (a.name ∷ names) parts) found h in
    let others = or_parts (is_called name p.0) (list_any (is_called name) p.1) (ap (list_any (is_called name)) (sym p.4) ∙ none) in
    ap (λ r. and_then r (λ (a : Attribute). attributes_of (a.name ∷ (names ++ name ∷ [])) parts)) (attribute_after names name part p.0 others.0 p.2)
    ∙ ap (in_front p.0) (read_after (p.0.name ∷ names) parts name p.1 p.3 others.1)
    ∙ ap Ok (sym p.4)

-- none of the other attributes of a date range is called ID

allowed_by : (name : List ℕ) (value : AttrValue) → name ≡ codes "ID" → is_allowed (record { name = name; value = value }) ≡ false
allowed_by name value e = ap (λ n. is_allowed (record { name = n; value = value })) e

no_id : (a : Attribute) (b : Bool) → bytes_eq a.name (codes "ID") ≡ b → is_allowed a ≡ true → b ≡ false
no_id a true e h = let wrong = allowed_by a.name a.value ((bytes_eq-Decides a.name (codes "ID")).0 e) in cc
no_id a false e h = refl

none_called : (list : List Attribute) → list_all is_allowed list ≡ true → list_any (is_called (codes "ID")) list ≡ false
none_called [] h = refl
none_called (a ∷ more) h =
    let p = and_parts (is_allowed a) (list_all is_allowed more) h in
    or_from (is_called (codes "ID") a) (list_any (is_called (codes "ID")) more) (no_id a (bytes_eq a.name (codes "ID")) refl p.0) (none_called more p.1)

-- the text of an ID and of an attribute list after it is parsed as both
read_by_text : (id text : List ℕ) (list : List Attribute) → list_all is_quoted_byte id ≡ true → attributes_in text ≡ Ok list
    → list_any (is_called (codes "ID")) list ≡ false → attributes_in (codes "ID=\"" ++ (id ++ (codes "\"" ++ attributes_text text))) ≡ Ok (id_of id ∷ list)
read_by_text id [] list h read none = cc
read_by_text id (b ∷ bs) list h read none =
    ap (attributes_of []) (id_part id (44 ∷ b ∷ bs) (parts_outside false (b ∷ bs)) h refl)
    ∙ ap (λ r. and_then r (λ (a : Attribute). attributes_of (a.name ∷ []) (parts_outside false (b ∷ bs)))) (id_read id h)
    ∙ ap (in_front (id_of id)) (read_after [] (parts_outside false (b ∷ bs)) (codes "ID") list read none)

pub quotable-id : (id : List ℕ) → is_id id ≡ true → list_all is_quoted_byte id ≡ true
quotable-id id is = all-so is_id_byte is_quoted_byte id_byte id (and_parts _ (list_all is_id_byte id) is).1

pub read-with_id : (id text : List ℕ) (list : List Attribute) → is_id id ≡ true → attributes_in text ≡ Ok list → are_allowed list ≡ true
    → attributes_in (codes "ID=\"" ++ (id ++ (codes "\"" ++ attributes_text text))) ≡ Ok (id_of id ∷ list)
read-with_id id text list is read allowed =
    read_by_text id text list (quotable-id id is) read
    (none_called list (and_parts (list_all is_allowed list) _ allowed).0)
