-- The items that a publisher announces, and the lines that spell them.
use Rattle.std.specs.Prelude.{ℕ, List, [], ◌∷◌, Bool, true, false, Option, Some, None, Result, Ok, Err, if◌then◌else◌, ◌==◌, nat_le, option_and_then, length, bytes_eq, codes}
use Rattle.ll_attr.specs.Numbers.{number_in}
use Rattle.ll_attr.specs.Words.{words, joined}
use Rattle.ll_attr.specs.Attributes.{attributes_in}
use Rattle.ll_attr.specs.declared.attributes.Attribute.{Attribute}
use Rattle.ll_attr.specs.declared.attributes.AttrFault.{AttrFault}
use Rattle.ll_attr.specs.declared.attributes.AttrValue.{AttrValue}
use Rattle.ll_attr.specs.declared.attributes.AttrValue.TheVariants.{Quoted, Bare}
use Rattle.ll_item.specs.Media.{zeros}
use Rattle.ll_settings.specs.Names.{is_name}
use Rattle.ll_settings.specs.Settings.{Configuration, rendition_named}
use Rattle.ll_item.specs.declared.item.Item.{Item}
use Rattle.ll_item.specs.declared.item.Item.TheVariants.{Part, Init, Finish, Break, End, Range, Unrange}
use Rattle.ll_item.specs.declared.item.ItemFault.{ItemFault}
use Rattle.ll_item.specs.declared.item.ItemFault.TheVariants.{BadLine, NoRendition, BadAttribute}

-- the index of the rendition that an item belongs to
abbrev pub rendition_of : Item → ℕ
rendition_of (Part part) = part.rendition
rendition_of (Init rendition media) = rendition
rendition_of (Finish rendition) = rendition
rendition_of (Break rendition time) = rendition
rendition_of (End rendition) = rendition
rendition_of (Range rendition id attributes) = rendition
rendition_of (Unrange rendition id) = rendition

-- the bytes of an item
abbrev pub media_of : Item → List ℕ
media_of (Part part) = part.media
media_of (Init rendition media) = media
media_of (Finish rendition) = []
media_of (Break rendition time) = []
media_of (End rendition) = []
media_of (Range rendition id attributes) = []
media_of (Unrange rendition id) = []

-- the item with zeros in place of its bytes: what is known of it if only their number is
abbrev pub blank : Item → Item
blank (Part part) = Part (record part { media = zeros (length part.media) })
blank (Init rendition media) = Init rendition (zeros (length media))
blank (Finish rendition) = Finish rendition
blank (Break rendition time) = Break rendition time
blank (End rendition) = End rendition
blank (Range rendition id attributes) = Range rendition id attributes
blank (Unrange rendition id) = Unrange rendition id

-- whether an item adds a date range or removes one
abbrev pub is_about_ranges : Item → Bool
is_about_ranges (Part part) = false
is_about_ranges (Init rendition media) = false
is_about_ranges (Finish rendition) = false
is_about_ranges (Break rendition time) = false
is_about_ranges (End rendition) = false
is_about_ranges (Range rendition id attributes) = true
is_about_ranges (Unrange rendition id) = true

-- the flags of a part: whether it is independent, and whether it finishes its segment
abbrev pub flags_text : Bool → Bool → List ℕ
flags_text false false = codes "-"
flags_text true false = codes "i"
flags_text false true = codes "f"
flags_text true true = codes "if"

-- the flags that a text spells
abbrev pub flags_in : List ℕ → Option (Bool × Bool)
flags_in text =
    if bytes_eq text (flags_text false false) then Some (false, false)
    else if bytes_eq text (flags_text true false) then Some (true, false)
    else if bytes_eq text (flags_text false true) then Some (false, true)
    else if bytes_eq text (flags_text true true) then Some (true, true)
    else None

abbrev pub named_at : Option ℕ → Result ℕ ItemFault
named_at None = Err NoRendition
named_at (Some rendition) = Ok rendition

-- the index of the rendition with this name, or the fault of the name
abbrev pub named : Configuration → List ℕ → Result ℕ ItemFault
named c name = if is_name name then named_at (rendition_named c name) else Err BadLine

abbrev pub part_at : Result ℕ ItemFault → ℕ → Bool × Bool → List ℕ → Result Item ItemFault
part_at (Err fault) duration flags media = Err fault
part_at (Ok rendition) duration flags media =
    Ok (Part (record { rendition = rendition; duration = duration; independent = flags.0; finish = flags.1; media = media }))

abbrev pub part_by : Configuration → List ℕ → Option ℕ → Option (Bool × Bool) → List ℕ → Result Item ItemFault
part_by c name None flags media = Err BadLine
part_by c name (Some duration) None media = Err BadLine
part_by c name (Some duration) (Some flags) media = part_at (named c name) duration flags media

-- `RENDITION MICROSECONDS FLAGS`
abbrev pub part_in : Configuration → List (List ℕ) → List ℕ → Result Item ItemFault
part_in c (name ∷ duration ∷ flags ∷ []) media = part_by c name (number_in 20 duration) (flags_in flags) media
part_in c other media = Err BadLine

-- `RENDITION`
abbrev pub alone_in : Configuration → List (List ℕ) → Result ℕ ItemFault
alone_in c (name ∷ []) = named c name
alone_in c other = Err BadLine

abbrev pub init_at : Result ℕ ItemFault → List ℕ → Result Item ItemFault
init_at (Err fault) media = Err fault
init_at (Ok rendition) media = Ok (Init rendition media)

abbrev pub finish_at : Result ℕ ItemFault → Result Item ItemFault
finish_at (Err fault) = Err fault
finish_at (Ok rendition) = Ok (Finish rendition)

abbrev pub break_at : Result ℕ ItemFault → Option ℕ → Result Item ItemFault
break_at (Err fault) time = Err fault
break_at (Ok rendition) time = Ok (Break rendition time)

-- the last millisecond of the year 9999
abbrev pub last_milli : ℕ
last_milli = 253402300799999

-- whether a text begins with a zero and has more than one character
abbrev pub leads_with_zero : List ℕ → Bool
leads_with_zero [] = false
leads_with_zero (first ∷ []) = false
leads_with_zero (first ∷ next ∷ more) = first == 48

-- milliseconds since 1970, in 1 to 15 digits without leading zeros, up to the year 9999
abbrev pub time_in : List ℕ → Option ℕ
time_in text =
    if leads_with_zero text then None
    else option_and_then (λ ms. if nat_le ms last_milli then Some ms else None) (number_in 15 text)

abbrev pub timed_break : Configuration → List ℕ → Option ℕ → Result Item ItemFault
timed_break c name None = Err BadLine
timed_break c name (Some ms) = break_at (named c name) (Some ms)

-- `RENDITION`, or `RENDITION MILLISECONDS`
abbrev pub break_in : Configuration → List (List ℕ) → Result Item ItemFault
break_in c (name ∷ []) = break_at (named c name) None
break_in c (name ∷ time ∷ []) = timed_break c name (time_in time)
break_in c other = Err BadLine

abbrev pub end_at : Result ℕ ItemFault → Result Item ItemFault
end_at (Err fault) = Err fault
end_at (Ok rendition) = Ok (End rendition)

-- the date range whose attribute list begins with this name and value
abbrev pub range_with : ℕ → List ℕ → AttrValue → List Attribute → Result Item ItemFault
range_with rendition name (Quoted id) attributes = if bytes_eq name (codes "ID") then Ok (Range rendition id attributes) else Err BadAttribute
range_with rendition name (Bare text) attributes = Err BadAttribute

-- the date range that an attribute list spells: its first attribute is ID, quoted (section 4.4.5.1)
abbrev pub range_of : ℕ → Result (List Attribute) AttrFault → Result Item ItemFault
range_of rendition (Err fault) = Err BadAttribute
range_of rendition (Ok []) = Err BadAttribute
range_of rendition (Ok (first ∷ more)) = range_with rendition first.name first.value more

abbrev pub range_at : Result ℕ ItemFault → List ℕ → Result Item ItemFault
range_at (Err fault) list = Err fault
range_at (Ok rendition) list = range_of rendition (attributes_in list)

-- `RENDITION LIST`; the list is the rest of the line
abbrev pub range_in : Configuration → List (List ℕ) → Result Item ItemFault
range_in c (name ∷ first ∷ more) = range_at (named c name) (joined (first ∷ more))
range_in c other = Err BadLine

abbrev pub unrange_at : Result ℕ ItemFault → List ℕ → Result Item ItemFault
unrange_at (Err fault) id = Err fault
unrange_at (Ok rendition) id = Ok (Unrange rendition id)

-- `RENDITION ID`; the id is the rest of the line
abbrev pub unrange_in : Configuration → List (List ℕ) → Result Item ItemFault
unrange_in c (name ∷ first ∷ more) = unrange_at (named c name) (joined (first ∷ more))
unrange_in c other = Err BadLine

-- the items without bytes: `break RENDITION`, `break RENDITION MILLISECONDS`, `finish RENDITION`, `range RENDITION LIST`, `unrange RENDITION ID` or
-- `end RENDITION`
abbrev pub bare_of : Configuration → List ℕ → List (List ℕ) → Result Item ItemFault
bare_of c kind rest =
    if bytes_eq kind (codes "break") then break_in c rest
    else if bytes_eq kind (codes "finish") then finish_at (alone_in c rest)
    else if bytes_eq kind (codes "range") then range_in c rest
    else if bytes_eq kind (codes "unrange") then unrange_in c rest
    else if bytes_eq kind (codes "end") then end_at (alone_in c rest)
    else Err BadLine

-- `part RENDITION MICROSECONDS FLAGS` or `init RENDITION` with these bytes, or an item that has none
abbrev pub item_of : Configuration → List (List ℕ) → List ℕ → Result Item ItemFault
item_of c [] media = Err BadLine
item_of c (kind ∷ rest) media =
    if bytes_eq kind (codes "part") then part_in c rest media
    else if bytes_eq kind (codes "init") then init_at (alone_in c rest) media
    else if length media == 0 then bare_of c kind rest
    else Err BadLine

-- the item that a line spells and that has these bytes, or the fault of the line
abbrev pub item_in : Configuration → List ℕ → List ℕ → Result Item ItemFault
item_in c line media = item_of c (words line) media
