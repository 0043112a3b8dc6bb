-- The text of a channel's spool is read again, and so is any beginning of it; and what a start publishes of it is accepted.
use Rattle.std.specs.Prelude.{◌≡◌, ◌≤◌, ℕ, List, [], Option, None, Some, Ok, length, map, option_map, slice_get, take, true}
use Rattle.std.specs.List.{All}
use Rattle.std.specs.Str.{is_utf8}
use Rattle.ll_attr.specs.Attributes.{spelling}
use Rattle.ll_entry.specs.ItemLaws.{IsWritable}
use Rattle.ll_item.specs.ItemLines.{IsTyped, with_id}
use Rattle.ll_item.specs.Items.{blank}
use Rattle.ll_item.specs.declared.item.Item.{Item}
use Rattle.ll_item.specs.declared.item.Item.TheVariants.{Part, Init, Finish, Break, End, Range, Unrange}
use Rattle.ll_item.specs.declared.skip_kind.SkipKind.{SkipKind}
use Rattle.ll_item.specs.declared.what.What.{What}
use Rattle.ll_layout.specs.Held.{Each, LayoutValue, stored}
use Rattle.ll_layout.specs.declared.stored.StoredItem.{StoredItem}
use Rattle.ll_page.specs.Page.{text_in}
use Rattle.ll_pieces.specs.View.{seen}
use Rattle.ll_settings.specs.Settings.{Configuration, limit_broken}
use Rattle.ll_spool.specs.Files.{AreHeld, AreStored, Files}
use Rattle.ll_spool.specs.Layouts.{layouts_after}
use Rattle.ll_spool.specs.Restored.{IsRestored, IsRestoredFrom, nth_bytes}
use Rattle.ll_spool.specs.Spooled.{spool_in, spool_text}
use Rattle.ll_store.specs.Media.{media}
use Rattle.ll_verdict.specs.Events.{Event, Publish, items}
use Rattle.ll_verdict.specs.Full.{event_end}
use Rattle.ll_window.specs.Segments.{own}

-- the texts of an item are UTF-8: the attribute list of a date range, and the id of one that is removed
abbrev pub HasUtf8 : Item → Type 0
HasUtf8 (Part part) = Unit
HasUtf8 (Init rendition media) = Unit
HasUtf8 (Finish rendition) = Unit
HasUtf8 (Break rendition time) = Unit
HasUtf8 (End rendition) = Unit
HasUtf8 (Range rendition id attributes) = is_utf8 (spelling (with_id id attributes)) ≡ true
HasUtf8 (Unrange rendition id) = is_utf8 id ≡ true

-- an item whose line is read again, and whose texts are UTF-8
abbrev pub IsSpooled : Configuration → Item → Type 0
IsSpooled c item = IsWritable c item × HasUtf8 item

-- the text of a spool is read as its items, with zeros in place of their bytes
abbrev pub SpoolLaw : Type 0
SpoolLaw = (c : Configuration) (items : List Item) → limit_broken c ≡ None → All (IsSpooled c) items → spool_in c (spool_text c items) ≡ Ok (map blank items)

-- `n` is the number of items whose lines are whole among the first `count` bytes of their spool's text
pub record AreWhole (c : Configuration) (items : List Item) (count n : ℕ) : Type 0 where
  pub some : n ≤ length items
  -- if the text of the first `k` items is among the bytes, they count
  pub all : (k : ℕ) → k ≤ length items → length (spool_text c (take k items)) ≤ count → k ≤ n
  -- and the text of those that count is among the bytes, if any do
  pub only : 1 ≤ n → length (spool_text c (take n items)) ≤ count

-- The first `count` bytes of a spool's text are read as the items of the lines that are whole: a last line without its end is dropped.
abbrev pub CutLaw : Type 0
CutLaw = (c : Configuration) (items : List Item) (count : ℕ) → limit_broken c ≡ None → All (IsSpooled c) items
    → (n : ℕ) × AreWhole c items count n × (spool_in c (take count (spool_text c items)) ≡ Ok (map blank (take n items)))

-- ---- a start

-- an item as a program has it: its fields are of their types, and its texts are UTF-8
abbrev pub IsHeld : Item → Type 0
IsHeld item = IsTyped item × HasUtf8 item

-- These items, published on a new channel, stand for those that a channel has accepted.
pub record AreAgain (c : Configuration) (accepted restored : List Item) (count : ℕ) : Type 0 where
  pub number : count ≡ length accepted
  -- they are the same but for bytes, of which there are as many
  pub same : map blank restored ≡ map blank accepted
  pub accepted_again : items c (map Publish restored) ≡ restored
  -- each text is what it was, and the same media is there, with as many bytes
  pub texts : (form : Option SkipKind) (rendition : ℕ) → text_in form (seen c restored rendition) ≡ text_in form (seen c accepted rendition)
  pub media : (rendition : ℕ) (what : What) → option_map length (media c (own rendition restored) what) ≡ option_map length (media c (own rendition accepted) what)

-- What a start publishes of the first `bytes` bytes of the spool of all items that a channel has accepted stands for those whose lines are whole.
abbrev pub RestartLaw : Type 0
RestartLaw = (c : Configuration) (events : List Event) (bytes : ℕ) (restored : List Item) (count : ℕ) → limit_broken c ≡ None → length events ≤ event_end
    → All IsHeld (items c events) → IsRestored c (take bytes (spool_text c (items c events))) (Some []) (Some restored) count
    → (n : ℕ) × AreWhole c (items c events) bytes n × AreAgain c (take n (items c events)) restored count

-- ---- bytes

-- of all bytes that these layouts keep, the items that were published have just those of the accepted items
abbrev pub HaveSameBytes : List Item → List Item → List LayoutValue → Type 0
HaveSameBytes accepted restored layouts =
    (rendition : ℕ) (l : LayoutValue) → slice_get layouts rendition ≡ Some l → Each (λ (s : StoredItem). nth_bytes restored s.count ≡ nth_bytes accepted s.count) (stored l)

-- The same start, of files that are known: it finds the layouts of the items whose lines are whole, and if the files have the bytes of the
-- accepted items that these layouts keep, it publishes each of them with these.
abbrev pub BytesLaw : Type 0
BytesLaw = (c : Configuration) (events : List Event) (bytes : ℕ) (restored : List Item) (count : ℕ) (layouts : List LayoutValue) (files : Files) → limit_broken c ≡ None
    → length events ≤ event_end → All IsHeld (items c events)
    → IsRestoredFrom c (take bytes (spool_text c (items c events))) (Some []) (Some restored) count layouts (Some files)
    → (n : ℕ) × AreWhole c (items c events) bytes n × AreAgain c (take n (items c events)) restored count
    × (layouts ≡ layouts_after c (take n (items c events)))
    × (AreStored (nth_bytes (items c events)) layouts (Some files) → HaveSameBytes (items c events) restored layouts)

-- files that hold all bytes that are kept have them, whatever stands after these
abbrev pub StoredLaw : Type 0
StoredLaw = (of : ℕ → List ℕ) (layouts : List LayoutValue) (files : Option Files) → AreHeld of layouts files → AreStored of layouts files
