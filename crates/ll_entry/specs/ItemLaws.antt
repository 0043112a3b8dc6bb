-- What is written of items and settings is read again.
use Rattle.std.specs.Prelude.{◌≡◌, ℕ, ◌<◌, ◌≤◌, ◌^◌, Option, None, Some, Ok, length, true}
use Rattle.ll_attr.specs.Attributes.{attributes_in, spelling}
use Rattle.ll_format.specs.Words.{is_one_line}
use Rattle.ll_item.specs.ItemLines.{item_line, with_id}
use Rattle.ll_item.specs.Items.{item_in, last_milli, media_of}
use Rattle.ll_item.specs.Media.{media_limit}
use Rattle.ll_settings.specs.Settings.{Configuration, limit_broken, settings_in}
use Rattle.ll_item.specs.declared.item.Item.{Item}
use Rattle.ll_item.specs.declared.item.Item.TheVariants.{Part, Init, Finish, Break, End, Range, Unrange}
use Rattle.ll_entry.specs.SettingsLine.{settings_line}

-- a time that the line of a break can set
abbrev pub IsBreakTime : Option ℕ → Type 0
IsBreakTime None = Unit
IsBreakTime (Some ms) = ms ≤ last_milli

-- items that are read again from their lines: the rendition is one of the channel's, the duration is below 2^64, there are no more bytes
-- than an item may have, a break sets no time past the year 9999, the attributes are read from their spelling, and an id is on one line
abbrev pub IsWritable : Configuration → Item → Type 0
IsWritable c (Part part) = (part.rendition < length c.renditions) × (part.duration < 2 ^ 64) × (length part.media ≤ media_limit)
IsWritable c (Init rendition media) = (rendition < length c.renditions) × (length media ≤ media_limit)
IsWritable c (Finish rendition) = rendition < length c.renditions
IsWritable c (Break rendition time) = (rendition < length c.renditions) × IsBreakTime time
IsWritable c (End rendition) = rendition < length c.renditions
IsWritable c (Range rendition id attributes) =
    (rendition < length c.renditions) × (attributes_in (spelling (with_id id attributes)) ≡ Ok (with_id id attributes))
IsWritable c (Unrange rendition id) = (rendition < length c.renditions) × (is_one_line id ≡ true)

-- the line of an item is read as that item, if it has these bytes, and is one line
abbrev pub ItemLaw : Type 0
ItemLaw = (c : Configuration) (item : Item) → limit_broken c ≡ None → IsWritable c item
    → (item_in c (item_line c item) (media_of item) ≡ Ok item) × (is_one_line (item_line c item) ≡ true)

-- the line of settings within the limits is read as those settings, and is one line
abbrev pub SettingsLaw : Type 0
SettingsLaw = (c : Configuration) → limit_broken c ≡ None
    → (settings_in (settings_line c) ≡ Ok c) × (is_one_line (settings_line c) ≡ true)
