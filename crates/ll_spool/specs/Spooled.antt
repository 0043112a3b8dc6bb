-- The text of a channel's spool: the settings line, and a line for each item that the channel has accepted.
use Rattle.std.specs.Prelude.{ℕ, ◌+◌, List, [], ◌∷◌, ◌++◌, Option, Some, None, Result, Ok, Err, bytes_eq, codes, decimal, if◌then◌else◌, option_and_then}
use Rattle.std.specs.Str.{is_utf8}
use Rattle.ll_attr.specs.Words.{after, pieces_at}
use Rattle.ll_entry.specs.Entries.{entry_in}
use Rattle.ll_entry.specs.Leads.{with_end}
use Rattle.ll_entry.specs.SettingsLine.{settings_line}
use Rattle.ll_entry.specs.declared.entry.EntryFault.{EntryFault}
use Rattle.ll_entry.specs.declared.entry.Recorded.{Recorded}
use Rattle.ll_entry.specs.declared.entry.Recorded.TheVariants.{Publish, Ask, Clock, Collect, Close}
use Rattle.ll_entry.specs.declared.version.Version.TheVariants.{Two}
use Rattle.ll_item.specs.ItemLines.{published_line}
use Rattle.ll_settings.specs.Settings.{Configuration}
use Rattle.ll_item.specs.declared.item.Item.{Item}

-- ---- how it is written

-- what stands before an item's line: the item's number in the channel, and a space
abbrev pub numbered : ℕ → List ℕ
numbered n = decimal n ++ codes " "

-- the line of the item of the number `n`, with its end
abbrev pub spooled_line : Configuration → ℕ → Item → List ℕ
spooled_line c n item = with_end (numbered n ++ published_line c item)

-- the lines of these items, the first of which has the number `n`
abbrev pub spooled_lines : Configuration → ℕ → List Item → List ℕ
spooled_lines c n [] = []
spooled_lines c n (item ∷ items) = spooled_line c n item ++ spooled_lines c (n + 1) items

-- the text of a channel's spool after these items
abbrev pub spool_text : Configuration → List Item → List ℕ
spool_text c items = with_end (settings_line c) ++ spooled_lines c 1 items

-- ---- how it is read

abbrev pub published_by : Result Recorded EntryFault → Option Item
published_by (Ok (Publish item)) = Some item
published_by (Ok (Ask ask want reply)) = None
published_by (Ok (Clock ms)) = None
published_by (Ok (Collect ask reply)) = None
published_by (Ok (Close ask)) = None
published_by (Err fault) = None

-- the item that this text spells, as the line of an entry in a record does; it has zeros in place of its bytes
abbrev pub published_in : Configuration → List ℕ → Option Item
published_in c text = published_by (entry_in Two c (codes "P " ++ text))

-- the item that a line, without its end, spells as the one of the number `n`
abbrev pub spooled_in : Configuration → ℕ → List ℕ → Option Item
spooled_in c n line = if is_utf8 line then option_and_then (published_in c) (after (numbered n) line) else None

-- the lines of a text, given the pieces between line feeds: what stands after the last line feed isn't one
abbrev pub whole : List (List ℕ) → List (List ℕ)
whole [] = []
whole (piece ∷ []) = []
whole (piece ∷ next ∷ more) = piece ∷ whole (next ∷ more)

abbrev pub lines_in : List ℕ → List (List ℕ)
lines_in text = whole (pieces_at 10 text)

-- one more item in front; or the number of the line that isn't one, which is one more than the item's, since the settings line is the first
abbrev pub item_then : ℕ → Option Item → Result (List Item) ℕ → Result (List Item) ℕ
item_then n None more = Err (n + 1)
item_then n (Some item) (Ok items) = Ok (item ∷ items)
item_then n (Some item) (Err line) = Err line

-- the items that these lines spell, the first of which has the number `n`; or the number of the first line that can't stand in its place
abbrev pub items_from : Configuration → ℕ → List (List ℕ) → Result (List Item) ℕ
items_from c n [] = Ok []
items_from c n (line ∷ more) = item_then n (spooled_in c n line) (items_from c (n + 1) more)

abbrev pub items_of : Configuration → List (List ℕ) → Result (List Item) ℕ
items_of c [] = Ok []
items_of c (first ∷ lines) = if bytes_eq first (settings_line c) then items_from c 1 lines else Err 1

-- The items of a spool's text, with zeros in place of their bytes, or the number of the first line that can't stand in its place. What stands
-- after the last line's end is passed over: it is what was left of a line when the server was stopped in the middle of it.
abbrev pub spool_in : Configuration → List ℕ → Result (List Item) ℕ
spool_in c text = items_of c (lines_in text)
