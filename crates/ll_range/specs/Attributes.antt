-- The attributes and ids that a date range is allowed to have (section 4.4.5.1 of draft-pantos-hls-rfc8216bis).
use Rattle.std.specs.Prelude.{ℕ, List, [], ◌∷◌, Bool, true, false, not, ◌&&◌, ◌||◌, ◌==◌, length, nat_eq, nat_le, bytes_eq, codes, if◌then◌else◌}
use Rattle.std.specs.Char.{is_ascii_digit}
use Rattle.std.specs.List.{list_all, list_any, starts_with}
use Rattle.ll_attr.specs.Words.{pieces_at}
use Rattle.ll_attr.specs.declared.attributes.Attribute.{Attribute}
use Rattle.ll_attr.specs.declared.attributes.AttrValue.{AttrValue}
use Rattle.ll_attr.specs.declared.attributes.AttrValue.TheVariants.{Quoted, Bare}
use Rattle.ll_format.specs.Dates.{is_date_time}

-- neither a quotation mark nor a tab, CR or LF
abbrev pub is_id_byte : ℕ → Bool
is_id_byte b = not (b == 34 || b == 9 || b == 13 || b == 10)

-- one or more of these bytes; a tab isn't one, since tabs separate the ids in a list of removals (section 4.4.5.2)
abbrev pub is_id : List ℕ → Bool
is_id text = nat_le 1 (length text) && list_all is_id_byte text

abbrev pub are_digits : List ℕ → Bool
are_digits text = nat_le 1 (length text) && list_all is_ascii_digit text

abbrev pub seconds_of : List (List ℕ) → Bool
seconds_of (whole ∷ []) = are_digits whole
seconds_of (whole ∷ fraction ∷ []) = are_digits whole && are_digits fraction
seconds_of other = false

-- digits, and perhaps `.` and digits
abbrev pub is_seconds : List ℕ → Bool
is_seconds text = seconds_of (pieces_at 46 text)

-- whether this is a value of START-DATE or END-DATE
abbrev pub is_date_value : AttrValue → Bool
is_date_value (Quoted text) = is_date_time text
is_date_value (Bare text) = false

-- whether this is a value of CLASS
abbrev pub is_class_value : AttrValue → Bool
is_class_value (Quoted text) = true
is_class_value (Bare text) = false

-- whether this is a value of DURATION or PLANNED-DURATION
abbrev pub is_seconds_value : AttrValue → Bool
is_seconds_value (Quoted text) = false
is_seconds_value (Bare text) = is_seconds text

-- whether a date range is allowed to have an attribute with this name and value beside its ID (rule 17)
abbrev pub is_allowed : Attribute → Bool
is_allowed a =
    if bytes_eq a.name (codes "START-DATE") || bytes_eq a.name (codes "END-DATE") then is_date_value a.value
    else if bytes_eq a.name (codes "CLASS") then is_class_value a.value
    else if bytes_eq a.name (codes "DURATION") || bytes_eq a.name (codes "PLANNED-DURATION") then is_seconds_value a.value
    else starts_with nat_eq a.name (codes "X-")

-- each attribute is allowed, and one is START-DATE
abbrev pub are_allowed : List Attribute → Bool
are_allowed attributes = list_all is_allowed attributes && list_any (λ a. bytes_eq a.name (codes "START-DATE")) attributes
