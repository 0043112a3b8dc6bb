-- For private contracts: the steps by which an attribute list is read (section 4.2).
use Rattle.std.specs.Prelude.{ℕ, suc, map, List, [], ◌∷◌, Bool, true, false, not, ◌&&◌, ◌==◌, Option, Some, None, bytes_eq, if◌then◌else◌}
use Rattle.std.specs.Borrow.{Bor}
use Rattle.std.specs.List.{list_any, list_all, before_first, after_first}
use Rattle.ll_attr.specs.Attributes.{quoted_after, is_equals, is_attribute_name, is_quoted_byte, value_in}
use Rattle.ll_attr.specs.declared.attributes.Attribute.{Attribute}
use Rattle.ll_attr.specs.declared.attributes.AttrValue.{AttrValue}
use Rattle.ll_attr.specs.declared.attributes.AttrValue.TheVariants.{Quoted, Bare}
use Rattle.ll_attr.specs.declared.attributes.AttrFault.{AttrFault}
use Rattle.ll_attr.specs.declared.attributes.AttrFault.TheVariants.{BadName, BadValue, Twice}

abbrev pub len_by : Bool → ℕ → ℕ
len_by true more = 0
len_by false more = suc more

-- the number of bytes before the first comma outside quotes
abbrev pub part_len : Bool → List ℕ → ℕ
part_len quoted [] = 0
part_len quoted (b ∷ bs) = len_by (not quoted && b == 44) (part_len (quoted_after quoted b) bs)

-- what is between the two quotation marks of a quoted string
abbrev pub inner_of : List (List ℕ) → Option (List ℕ)
inner_of ([] ∷ inner ∷ [] ∷ []) = if list_all is_quoted_byte inner then Some inner else None
inner_of parts = None

-- the value of this text, in quotes or bare
abbrev pub value_as : Bool → List ℕ → AttrValue
value_as true text = Quoted text
value_as false text = Bare text

abbrev pub name_of : List ℕ → List ℕ
name_of part = before_first is_equals part

-- whether a part begins with a name and an equals sign
abbrev pub is_named : List ℕ → Bool
is_named part = list_any is_equals part && is_attribute_name (name_of part)

-- the names of the attributes, last first, in front of `names`
abbrev pub names_so_far : List (List ℕ) → List Attribute → List (List ℕ)
names_so_far names [] = names
names_so_far names (a ∷ more) = names_so_far (a.name ∷ names) more

-- the names of the parts, last first, in front of `names`
abbrev pub names_of_parts : List (List ℕ) → List (List ℕ) → List (List ℕ)
names_of_parts names [] = names
names_of_parts names (part ∷ parts) = names_of_parts (name_of part ∷ names) parts

-- the names of a set, as bytes
abbrev pub texts : List (Bor (List ℕ)) → List (List ℕ)
texts keys = map (λ key. key.now) keys

abbrev pub fault_of_value : Option AttrValue → Option AttrFault
fault_of_value None = Some BadValue
fault_of_value (Some value) = None

abbrev pub fault_after : Bool → Bool → Option AttrValue → Option AttrFault
fault_after false twice value = Some BadName
fault_after true true value = Some Twice
fault_after true false value = fault_of_value value

-- the first fault of `part` after parts of these names
abbrev pub fault_of : List (List ℕ) → List ℕ → Option AttrFault
fault_of names part = fault_after (is_named part) (list_any (bytes_eq (name_of part)) names) (value_in (after_first is_equals part))

abbrev pub first_of : Option AttrFault → Option AttrFault → Option AttrFault
first_of None later = later
first_of (Some fault) later = Some fault

-- the first fault of the parts after parts of these names
abbrev pub fault_in : List (List ℕ) → List (List ℕ) → Option AttrFault
fault_in names [] = None
fault_in names (part ∷ parts) = first_of (fault_of names part) (fault_in (name_of part ∷ names) parts)
