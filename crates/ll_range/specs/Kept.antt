-- How the code keeps date ranges, and what is kept after one more change.
use Rattle.std.specs.Prelude.{ℕ, ◌++◌, List, [], ◌∷◌, string_bytes}
use Rattle.std.specs.declared.string.String.{String}
use Rattle.ll_attr.specs.Attributes.{spelling}
use Rattle.ll_attr.specs.declared.attributes.Attribute.{Attribute}
use Rattle.ll_item.specs.Told.{Listed, Removal, others, other_removals}
use Rattle.ll_range.specs.Announced.{Announced, recent_at}
use Rattle.ll_range.specs.declared.listed.RangeEntry.{RangeEntry}

-- a date range that is kept under its id
abbrev pub listed_at : {A : Type 0} → String A × RangeEntry → Listed
listed_at entry = record { id = string_bytes entry.0; attributes = entry.1.attributes; added = entry.1.added }

-- a removal that is kept under its id
abbrev pub removal_at : {A : Type 0} → String A × ℕ → Removal
removal_at entry = record { id = string_bytes entry.0; removed = entry.1 }

-- one more date range, added at this time
abbrev pub with_range : ℕ → List ℕ → List Attribute → Announced → Announced
with_range time id attributes a = record a { listed = a.listed ++ (record { id = id; attributes = spelling attributes; added = time }) ∷ [] }

-- without the date range with this id, removed at this time
abbrev pub without_range : ℕ → List ℕ → Announced → Announced
without_range time id a = record a {
  listed = others id a.listed;
  recent = other_removals id a.recent ++ (record { id = id; removed = time }) ∷ [];
}

-- without the removals that are no longer recent now
abbrev pub at_time : ℕ → Announced → Announced
at_time now a = record a { recent = recent_at now a }
