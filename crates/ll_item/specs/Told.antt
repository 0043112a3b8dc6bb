-- The state of a rendition after its items, applied one after another.
use Rattle.std.specs.Prelude.{ℕ, Option, Some, None, ◌+◌, List, [], ◌∷◌, ◌++◌, Bool, true, false, not, fold, filter, bytes_eq}
use Rattle.ll_attr.specs.Attributes.{spelling}
use Rattle.ll_item.specs.declared.item.Item.{Item}
use Rattle.ll_item.specs.declared.item.Item.TheVariants as item
use Rattle.ll_item.specs.declared.item.PartItem.{PartItem}
use Rattle.ll_item.specs.declared.part.Part.{Part}

-- a date range that is listed (section 4.4.5.1)
pub record Listed : Type 0 where
  pub id : List ℕ
  -- its other attributes, as they are spelled
  pub attributes : List ℕ
  -- how long all parts before it last, in microseconds
  pub added : ℕ

-- a date range that was removed (section 4.4.5.2)
pub record Removal : Type 0 where
  pub id : List ℕ
  -- how long all parts before its removal last, in microseconds
  pub removed : ℕ

pub record Told : Type 0 where
  pub parts : List Part
  -- whether a break came after the last part
  pub pending : Bool
  -- the time that the last timed break after the last part set, if there is one: milliseconds since 1970-01-01T00:00:00Z (rule 13)
  pub restart : Option ℕ
  -- whether the rendition has ended (section 4.4.3.4)
  pub ended : Bool
  -- how long all parts last, in microseconds
  pub end_time : ℕ
  -- the date ranges that are listed, in order of adding (rule 17)
  pub listed : List Listed
  -- the last removal of each id, in order of removal
  pub removals : List Removal

-- the date ranges with other ids
abbrev pub others : List ℕ → List Listed → List Listed
others id ranges = filter (λ (range : Listed). not (bytes_eq id range.id)) ranges

-- the removals with other ids
abbrev pub other_removals : List ℕ → List Removal → List Removal
other_removals id removals = filter (λ (removal : Removal). not (bytes_eq id removal.id)) removals

-- a part as its rendition keeps it: with whether a break came right before it, and the time that such a break set, if one did (rule 19)
abbrev pub kept_part : Bool → Option ℕ → PartItem → Part
kept_part after_break restart part = record {
  duration = part.duration;
  independent = part.independent;
  finish = part.finish;
  after_break = after_break;
  restart = restart;
}

-- the same parts, of which the last finishes its segment (rules 3 and 5)
abbrev pub finished_last : List Part → List Part
finished_last [] = []
finished_last (p ∷ []) = (record p { finish = true }) ∷ []
finished_last (p ∷ q ∷ more) = p ∷ finished_last (q ∷ more)

abbrev pub first_of : Option ℕ → Option ℕ → Option ℕ
first_of (Some ms) before = Some ms
first_of None before = before

-- the state before the first item
abbrev pub start : Told
start = record { parts = []; pending = false; restart = None; ended = false; end_time = 0; listed = []; removals = [] }

-- the state after one more item
abbrev pub step : Told → Item → Told
step t (item.Part part) = record t {
  parts = t.parts ++ kept_part t.pending t.restart part ∷ [];
  pending = false;
  restart = None;
  end_time = t.end_time + part.duration;
}
step t (item.Init rendition media) = t
step t (item.Finish rendition) = record t { parts = finished_last t.parts }
step t (item.Break rendition time) = record t { pending = true; restart = first_of time t.restart }
step t (item.End rendition) = record t { ended = true }
step t (item.Range rendition id attributes) = record t { listed = t.listed ++ (record { id = id; attributes = spelling attributes; added = t.end_time }) ∷ [] }
step t (item.Unrange rendition id) = record t {
  listed = others id t.listed;
  removals = other_removals id t.removals ++ (record { id = id; removed = t.end_time }) ∷ [];
}

-- the state after all items of one rendition
abbrev pub told : List Item → Told
told items = fold step start items

-- how long all parts last, in microseconds
abbrev pub end_time : List Item → ℕ
end_time items = (told items).end_time
