-- Attribute lists (section 4.2 of draft-pantos-hls-rfc8216bis): `NAME=VALUE` pairs with commas between them.
use Rattle.std.specs.Prelude.{ℕ, List, [], ◌∷◌, ◌++◌, Bool, true, false, not, ◌&&◌, ◌||◌, ◌==◌, Option, Some, None, Result, Ok, Err, if◌then◌else◌, length, nat_le, bytes_eq, codes}
use Rattle.std.specs.Char.{is_ascii_digit, is_ascii_uppercase}
use Rattle.std.specs.List.{list_all, list_any, before_first, after_first}
use Rattle.ll_attr.specs.Words.{pieces_at}
use Rattle.ll_attr.specs.declared.attributes.Attribute.{Attribute}
use Rattle.ll_attr.specs.declared.attributes.AttrValue.{AttrValue}
use Rattle.ll_attr.specs.declared.attributes.AttrValue.TheVariants.{Quoted, Bare}
use Rattle.ll_attr.specs.declared.attributes.AttrFault.{AttrFault}
use Rattle.ll_attr.specs.declared.attributes.AttrFault.TheVariants.{BadName, BadValue, Twice}

-- A-Z, 0-9 or -
abbrev pub is_name_byte : ℕ → Bool
is_name_byte b = is_ascii_uppercase b || is_ascii_digit b || b == 45

-- an AttributeName: one or more of these bytes
abbrev pub is_attribute_name : List ℕ → Bool
is_attribute_name text = nat_le 1 (length text) && list_all is_name_byte text

-- a byte of a quoted string: no quotation mark, CR or LF
abbrev pub is_quoted_byte : ℕ → Bool
is_quoted_byte b = not (b == 34 || b == 13 || b == 10)

-- a byte of a bare value: also no comma, space or tab
abbrev pub is_bare_byte : ℕ → Bool
is_bare_byte b = is_quoted_byte b && not (b == 44 || b == 32 || b == 9)

abbrev pub is_bare : List ℕ → Bool
is_bare text = nat_le 1 (length text) && list_all is_bare_byte text

-- the value that `text` means, which is cut at its quotation marks into `parts`: if nothing is outside two marks, it
-- is quoted
abbrev pub value_by : List ℕ → List (List ℕ) → Option AttrValue
value_by text ([] ∷ inner ∷ [] ∷ []) = if list_all is_quoted_byte inner then Some (Quoted inner) else None
value_by text parts = if is_bare text then Some (Bare text) else None

-- the value that a text spells
abbrev pub value_in : List ℕ → Option AttrValue
value_in text = value_by text (pieces_at 34 text)

abbrev pub is_equals : ℕ → Bool
is_equals b = b == 61

abbrev pub put_front : ℕ → List (List ℕ) → List (List ℕ)
put_front b [] = (b ∷ []) ∷ []
put_front b (part ∷ parts) = (b ∷ part) ∷ parts

abbrev pub cut_by : Bool → ℕ → List (List ℕ) → List (List ℕ)
cut_by true b parts = [] ∷ parts
cut_by false b parts = put_front b parts

-- whether the byte after b is in quotes: a quotation mark opens or closes them
abbrev pub quoted_after : Bool → ℕ → Bool
quoted_after quoted b = if b == 34 then not quoted else quoted

-- the parts of a text between commas outside quotes; `quoted` says whether it begins inside quotes
abbrev pub parts_outside : Bool → List ℕ → List (List ℕ)
parts_outside quoted [] = [] ∷ []
parts_outside quoted (b ∷ bs) = cut_by (not quoted && b == 44) b (parts_outside (quoted_after quoted b) bs)

abbrev pub valued : List ℕ → Option AttrValue → Result Attribute AttrFault
valued name None = Err BadValue
valued name (Some value) = Ok (record { name = name; value = value })

-- the attribute that `part` spells after attributes of these names, or its first fault: what is before the first
-- equals sign is no name, the name was given before, or what follows the equals sign is no value
abbrev pub attribute_in : List (List ℕ) → List ℕ → Result Attribute AttrFault
attribute_in names part =
    if not (list_any is_equals part && is_attribute_name (before_first is_equals part)) then Err BadName
    else if list_any (bytes_eq (before_first is_equals part)) names then Err Twice
    else valued (before_first is_equals part) (value_in (after_first is_equals part))

abbrev pub in_front : Attribute → Result (List Attribute) AttrFault → Result (List Attribute) AttrFault
in_front attribute (Ok more) = Ok (attribute ∷ more)
in_front attribute (Err fault) = Err fault

abbrev pub and_then : Result Attribute AttrFault → (Attribute → Result (List Attribute) AttrFault) → Result (List Attribute) AttrFault
and_then (Err fault) more = Err fault
and_then (Ok attribute) more = in_front attribute (more attribute)

-- the attributes of the parts, after attributes of these names, or the first fault from the left
abbrev pub attributes_of : List (List ℕ) → List (List ℕ) → Result (List Attribute) AttrFault
attributes_of names [] = Ok []
attributes_of names (part ∷ parts) = and_then (attribute_in names part) (λ a. attributes_of (a.name ∷ names) parts)

-- the attribute list that a text spells, or its first fault
abbrev pub attributes_in : List ℕ → Result (List Attribute) AttrFault
attributes_in text = attributes_of [] (parts_outside false text)

abbrev pub value_spelling : AttrValue → List ℕ
value_spelling (Quoted text) = codes "\"" ++ (text ++ codes "\"")
value_spelling (Bare text) = text

abbrev pub attribute_spelling : Attribute → List ℕ
attribute_spelling a = a.name ++ (codes "=" ++ value_spelling a.value)

-- how an attribute list is spelled
abbrev pub spelling : List Attribute → List ℕ
spelling [] = []
spelling (a ∷ []) = attribute_spelling a
spelling (a ∷ b ∷ more) = attribute_spelling a ++ (codes "," ++ spelling (b ∷ more))

-- `value` if its attribute has the name, else what is found later
abbrev pub value_by_name : Bool → AttrValue → Option AttrValue → Option AttrValue
value_by_name true value later = Some value
value_by_name false value later = later

-- the value of the first attribute named `name`
abbrev pub value_named : List ℕ → List Attribute → Option AttrValue
value_named name [] = None
value_named name (a ∷ more) = value_by_name (bytes_eq a.name name) a.value (value_named name more)
