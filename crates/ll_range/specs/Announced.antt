-- Which date ranges playlists list (section 4.4.5.1), and which were removed recently (section 4.4.5.2), from the whole list of the items of one
-- rendition. Everywhere `now` is the duration of all parts so far, in microseconds.
use Rattle.std.specs.Prelude.{◌≡◌, ℕ, ◌+◌, List, Bool, false, not, ◌||◌, drop, filter, length, nat_le, nat_lt, bytes_eq, Option, Some, None, if◌then◌else◌}
use Rattle.std.specs.List.{list_any, find}
use Rattle.ll_attr.specs.declared.attributes.Attribute.{Attribute}
use Rattle.ll_settings.specs.Settings.{Configuration, skip_limit}
use Rattle.ll_item.specs.declared.item.Item.{Item}
use Rattle.ll_item.specs.declared.item.Item.TheVariants as item
use Rattle.ll_item.specs.Told.{end_time, Listed, Removal, told}
use Rattle.ll_range.specs.Attributes.{is_id, are_allowed}
use Rattle.ll_range.specs.declared.ranges.RangeFault.{RangeFault}
use Rattle.ll_range.specs.declared.ranges.RangeFault.TheVariants.{IdTaken, BadAttribute, IdUnknown}

-- a removal is recent while the parts after it last no longer than `limit`, the Skip Boundary in microseconds (rule 18)
abbrev pub is_recent : ℕ → ℕ → Removal → Bool
is_recent limit now removal = nat_le now (removal.removed + limit)

-- what is kept of all items of a rendition for its date ranges
pub record Announced : Type 0 where
  -- the Skip Boundary, in microseconds
  pub limit : ℕ
  -- in order of adding
  pub listed : List Listed
  -- in order of removal
  pub recent : List Removal

-- the removals that are recent now
abbrev pub recent_at : ℕ → Announced → List Removal
recent_at now a = filter (is_recent a.limit now) a.recent

-- A delta update may skip a date range if the parts after its adding last longer than `limit` (section 6.2.5.1, rule 21).
abbrev pub is_skipped : ℕ → ℕ → Listed → Bool
is_skipped limit now range = nat_lt (range.added + limit) now

-- how many of the date ranges that are listed a delta update may skip now
abbrev pub skipped_at : ℕ → Announced → ℕ
skipped_at now a = length (filter (is_skipped a.limit now) a.listed)

-- the date ranges that a delta update lists all the same: the skipped ones were added first
abbrev pub left_at : ℕ → Announced → List Listed
left_at now a = drop (skipped_at now a) a.listed

abbrev pub announced : Configuration → List Item → Announced
announced c items = record {
  limit = skip_limit c;
  listed = (told items).listed;
  recent = filter (is_recent (skip_limit c) (end_time items)) (told items).removals;
}

-- whether a date range with this id is listed
abbrev pub is_listed : List ℕ → Announced → Bool
is_listed id a = list_any (λ (range : Listed). bytes_eq id range.id) a.listed

abbrev pub is_recent_one : ℕ → ℕ → Option Removal → Bool
is_recent_one limit now None = false
is_recent_one limit now (Some removal) = is_recent limit now removal

-- whether the removal of this id is recent now
abbrev pub was_removed : ℕ → List ℕ → Announced → Bool
was_removed now id a = is_recent_one a.limit now (find (λ (removal : Removal). bytes_eq id removal.id) a.recent)

-- the first rule that refuses to add a date range: its id is taken, or its id or an attribute isn't allowed (rules 17 and 18)
abbrev pub add_refusal : ℕ → List ℕ → List Attribute → Announced → Option RangeFault
add_refusal now id attributes a =
    if is_listed id a || was_removed now id a then Some IdTaken
    else if is_id id then (if are_allowed attributes then None else Some BadAttribute)
    else Some BadAttribute

-- the rule that refuses to remove a date range
abbrev pub remove_refusal : List ℕ → Announced → Option RangeFault
remove_refusal id a = if is_listed id a then None else Some IdUnknown

-- the first rule of date ranges that refuses an item now
abbrev pub refusal_after : ℕ → Announced → Item → Option RangeFault
refusal_after now a (item.Range rendition id attributes) = add_refusal now id attributes a
refusal_after now a (item.Unrange rendition id) = remove_refusal id a
refusal_after now a (item.Part part) = None
refusal_after now a (item.Finish rendition) = None
refusal_after now a (item.Break rendition time) = None
refusal_after now a (item.Init rendition media) = None
refusal_after now a (item.End rendition) = None

-- the first rule of date ranges that refuses an item after these items of its rendition
abbrev pub refusal : Configuration → List Item → Item → Option RangeFault
refusal c before item = refusal_after (end_time before) (announced c before) item

-- The date ranges that a delta update may skip are the first ones in order of adding, so those after them are all the others.
abbrev pub SkippedLaw : Type 0
SkippedLaw = (c : Configuration) (items : List Item) (now : ℕ)
    → left_at now (announced c items) ≡ filter (λ (range : Listed). not (is_skipped (skip_limit c) now range)) (announced c items).listed
