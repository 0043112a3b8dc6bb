-- How items are spelled on a line.
use Rattle.std.specs.Prelude.{◌≡◌, ◌≢◌, ◌≤◌, ℕ, List, [], ◌∷◌, ◌++◌, Option, None, Some, Ok, length, slice_index_or, codes, decimal}
use Rattle.ll_attr.specs.Attributes.{attributes_in, spelling}
use Rattle.ll_attr.specs.declared.attributes.Attribute.{Attribute}
use Rattle.ll_attr.specs.declared.attributes.AttrValue.TheVariants.{Quoted}
use Rattle.ll_item.specs.Items.{flags_text, media_of}
use Rattle.ll_item.specs.Media.{media_limit}
use Rattle.ll_settings.specs.Settings.{Configuration}
use Rattle.ll_item.specs.declared.item.Item.{Item}
use Rattle.ll_item.specs.declared.item.Item.TheVariants.{Part, Init, Finish, Break, End, Range, Unrange}
use Rattle.ll_item.specs.declared.item_text.ItemLine.{ItemLine}
use Rattle.ll_item.specs.declared.item_text.ItemLine.TheVariants as line

-- the name of the rendition with this index, empty if there is none
abbrev pub name_of : Configuration → ℕ → List ℕ
name_of c rendition = slice_index_or c.renditions rendition []

-- the attributes of a date range: its id, quoted, before the others
abbrev pub with_id : List ℕ → List Attribute → List Attribute
with_id id attributes = record { name = codes "ID"; value = Quoted id } ∷ attributes

-- `part RENDITION MICROSECONDS FLAGS`
unfoldable pub part_line : List ℕ → ℕ → List ℕ → List ℕ
part_line name duration flags = codes "part " ++ (name ++ (codes " " ++ (decimal duration ++ (codes " " ++ flags))))

-- `init RENDITION`
unfoldable pub init_line : List ℕ → List ℕ
init_line name = codes "init " ++ name

-- `finish RENDITION`
unfoldable pub finish_line : List ℕ → List ℕ
finish_line name = codes "finish " ++ name

-- `break RENDITION`
unfoldable pub break_line : List ℕ → List ℕ
break_line name = codes "break " ++ name

-- `break RENDITION MILLISECONDS`
unfoldable pub timed_break_line : List ℕ → ℕ → List ℕ
timed_break_line name ms = codes "break " ++ (name ++ (codes " " ++ decimal ms))

-- `end RENDITION`
unfoldable pub end_line : List ℕ → List ℕ
end_line name = codes "end " ++ name

-- `range RENDITION LIST`
unfoldable pub range_line : List ℕ → List ℕ → List ℕ
range_line name list = codes "range " ++ (name ++ (codes " " ++ list))

-- `unrange RENDITION ID`
unfoldable pub unrange_line : List ℕ → List ℕ → List ℕ
unrange_line name id = codes "unrange " ++ (name ++ (codes " " ++ id))

abbrev pub after_comma : List ℕ → List ℕ
after_comma [] = []
after_comma (b ∷ bs) = 44 ∷ b ∷ bs

-- the attribute list of a date range: its id, quoted, before the text of its other attributes
abbrev pub list_text : List ℕ → List ℕ → List ℕ
list_text id others = codes "ID=\"" ++ (id ++ (codes "\"" ++ after_comma others))

abbrev pub break_text : List ℕ → Option ℕ → List ℕ
break_text name None = break_line name
break_text name (Some ms) = timed_break_line name ms

-- an item line that has the name of its rendition in place of an index
abbrev pub line_text : ItemLine → List ℕ
line_text (line.Part rendition duration independent finish) = part_line rendition.now duration (flags_text independent finish)
line_text (line.Init rendition) = init_line rendition.now
line_text (line.Finish rendition) = finish_line rendition.now
line_text (line.Break rendition time) = break_text rendition.now time
line_text (line.End rendition) = end_line rendition.now
line_text (line.Range rendition id attributes) = range_line rendition.now (list_text id.now attributes.now)
line_text (line.Unrange rendition id) = unrange_line rendition.now id.now

-- the item line that spells an item, without the number of its bytes
abbrev pub item_line : Configuration → Item → List ℕ
item_line c (Part part) = part_line (name_of c part.rendition) part.duration (flags_text part.independent part.finish)
item_line c (Init rendition media) = init_line (name_of c rendition)
item_line c (Finish rendition) = finish_line (name_of c rendition)
item_line c (Break rendition time) = break_text (name_of c rendition) time
item_line c (End rendition) = end_line (name_of c rendition)
item_line c (Range rendition id attributes) = range_line (name_of c rendition) (spelling (with_id id attributes))
item_line c (Unrange rendition id) = unrange_line (name_of c rendition) id

-- an item line, and after it the number of the item's bytes
abbrev pub counted_line : List ℕ → ℕ → List ℕ
counted_line line n = line ++ (codes " " ++ decimal n)

-- the line that announces an item: that of a part or an initialization section ends with the number of its bytes
abbrev pub published_line : Configuration → Item → List ℕ
published_line c (Part part) = counted_line (item_line c (Part part)) (length part.media)
published_line c (Init rendition media) = counted_line (item_line c (Init rendition media)) (length media)
published_line c (Finish rendition) = item_line c (Finish rendition)
published_line c (Break rendition time) = item_line c (Break rendition time)
published_line c (End rendition) = item_line c (End rendition)
published_line c (Range rendition id attributes) = item_line c (Range rendition id attributes)
published_line c (Unrange rendition id) = item_line c (Unrange rendition id)

-- the invariant of an item's attribute list: a list that isn't empty is parsed again from its spelling
abbrev pub HasAttributes : Item → Type 0
HasAttributes (Range rendition id attributes) = attributes ≢ [] → attributes_in (spelling attributes) ≡ Ok attributes
HasAttributes (Unrange rendition id) = Unit
HasAttributes (Part part) = Unit
HasAttributes (Init rendition media) = Unit
HasAttributes (Finish rendition) = Unit
HasAttributes (Break rendition time) = Unit
HasAttributes (End rendition) = Unit

-- the invariants of an item's fields: that of its attribute list, and no more bytes than are allowed
abbrev pub IsTyped : Item → Type 0
IsTyped item = HasAttributes item × (length (media_of item) ≤ media_limit)
