-- What a start publishes of a spool.
use Rattle.std.specs.Prelude.{◌≡◌, ◌+◌, ◌-◌, ℕ, List, [], ◌∷◌, ◌++◌, Option, Some, None, Result, Ok, Err, flat_map, length, map, slice_get}
use Rattle.ll_entry.specs.Leads.{with_end}
use Rattle.ll_entry.specs.SettingsLine.{settings_line}
use Rattle.ll_item.specs.Items.{blank, media_of}
use Rattle.ll_item.specs.declared.item.Item.{Item}
use Rattle.ll_layout.specs.Held.{LayoutValue}
use Rattle.ll_settings.specs.Settings.{Configuration}
use Rattle.ll_spool.specs.Files.{AreStored, Files}
use Rattle.ll_spool.specs.Layouts.{layouts_after}
use Rattle.ll_spool.specs.Spooled.{items_from, lines_in, spool_in, spooled_in}

abbrev pub bytes_or_none : Option Item → List ℕ
bytes_or_none None = []
bytes_or_none (Some item) = media_of item

-- the items after these more, if they are known
abbrev pub accepted_after : Option (List Item) → List Item → Option (List Item)
accepted_after None more = None
accepted_after (Some items) more = Some (items ++ more)

-- the line spells this item as the one of the number `n`; it may have other bytes, as many as the line says
pub record IsSpelledBy (c : Configuration) (n : ℕ) (line : List ℕ) (item : Item) : Type 0 where
  pub spelled : Item
  pub is : spooled_in c n line ≡ Some spelled
  pub same : blank item ≡ blank spelled

-- the items that the lines spell are published, each once and in order, and nothing else is; they may have other bytes, as many as the lines say
pub record IsPublished (read : Result (List Item) ℕ) (old new : Option (List Item)) (count : ℕ) : Type 0 where
  pub spelled : List Item
  pub are : read ≡ Ok spelled
  pub items : List Item
  pub same : map blank items ≡ map blank spelled
  pub published : new ≡ accepted_after old items
  pub number : length items ≡ count

-- a spool's text was restored: `count` items
abbrev pub IsRestored : Configuration → List ℕ → Option (List Item) → Option (List Item) → ℕ → Type 0
IsRestored c text old new count = IsPublished (spool_in c text) old new count

-- the bytes of the item of the number `n` among these, which have the numbers from 1 on
abbrev pub nth_bytes : List Item → ℕ → List ℕ
nth_bytes items n = bytes_or_none (slice_get items (n - 1))

-- The spool was restored: the layouts are those after the items that were published, and these have the bytes that its files have: wherever
-- bytes of an item are kept, they are just its own, whatever items follow.
pub record IsRestoredFrom (c : Configuration) (text : List ℕ) (old new : Option (List Item)) (count : ℕ) (layouts : List LayoutValue) (files : Option Files) : Type 0 where
  pub restored : IsRestored c text old new count
  pub laid : layouts ≡ layouts_after c restored.items
  pub held : (more : List Item) → AreStored (nth_bytes (restored.items ++ more)) layouts files

-- ---- the whole lines

-- the whole lines of a text, with their ends
abbrev pub whole_text : List ℕ → List ℕ
whole_text text = flat_map with_end (lines_in text)

-- the whole lines have the first `n` bytes of a text
pub record IsWhole (text : List ℕ) (n : ℕ) : Type 0 where
  pub rest : List ℕ
  pub is : text ≡ whole_text text ++ rest
  pub long : length (whole_text text) ≡ n

abbrev pub begun_by : Configuration → List (List ℕ) → List ℕ
begun_by c [] = with_end (settings_line c)
begun_by c (line ∷ lines) = flat_map with_end (line ∷ lines)

-- a spool's text that is ready for the next line: its whole lines, or the settings line if there are none
abbrev pub begun_text : Configuration → List ℕ → List ℕ
begun_text c text = begun_by c (lines_in text)

-- ---- while lines are read

-- the lines of a spool's items that weren't read yet, the number of those that were, and the bytes that are left
pub record Left : Type 0 where
  pub lines : List (List ℕ)
  pub count : ℕ
  pub text : List ℕ

-- the items in front of those of what is left
abbrev pub in_front : List Item → Result (List Item) ℕ → Result (List Item) ℕ
in_front items (Ok more) = Ok (items ++ more)
in_front items (Err line) = Err line

-- the items of the lines that were read are published
pub record IsPublishing (c : Configuration) (all : List (List ℕ)) (left : Left) (old new : Option (List Item)) : Type 0 where
  pub spelled : List Item
  pub are : items_from c 1 all ≡ in_front spelled (items_from c (left.count + 1) left.lines)
  pub items : List Item
  pub same : map blank items ≡ map blank spelled
  pub published : new ≡ accepted_after old items
  pub number : length items ≡ left.count
