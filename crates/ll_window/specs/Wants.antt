-- The segment or part that a request waits for: whether it is there, or too far ahead (section 6.2.5.2).
use Rattle.std.specs.Prelude.{◌≡◌, ◌≤◌, ℕ, ◌+◌, ◌/◌, ◌&&◌, ◌||◌, ◌==◌, List, [], ◌∷◌, ◌++◌, Bool, true, false, Option, Some, None, if◌then◌else◌, length, nat_le, nat_lt}
use Rattle.std.specs.List.{list_any}
use Rattle.ll_item.specs.Items.{is_about_ranges}
use Rattle.ll_settings.specs.Settings.{Configuration}
use Rattle.ll_item.specs.declared.item.Item.{Item}
use Rattle.ll_item.specs.declared.part.Part.{Part}
use Rattle.ll_window.specs.declared.part_position.PartPosition.{PartPosition}
use Rattle.ll_window.specs.Compact.{all_rows}
use Rattle.ll_window.specs.Numbers.{NumberedPart, numbered_parts, last_place}
use Rattle.ll_window.specs.Segments.{parts, segments, open_segment}

-- the position of a part
abbrev pub place_of : NumberedPart → PartPosition
place_of p = record { number = p.number; index = p.index }

-- whether the part at this position is part `part` of segment `msn`, or comes after it
abbrev pub reaches : ℕ → ℕ → PartPosition → Bool
reaches msn part here = nat_lt msn here.number || (msn == here.number && nat_le part here.index)

-- Whether part `part` of segment `msn`, or a later one, is among these items of a rendition, also if playlists no longer list it. So an index past
-- the last part of a finished segment stands for the first part of the next one (rule 24).
abbrev pub holds_part : Configuration → List Item → ℕ → ℕ → Bool
holds_part c items msn part = list_any (λ p. reaches msn part (place_of p)) (numbered_parts c.first 0 (parts items))

-- whether segment `msn`, or a later one, is finished, also if it has left the window; the end of the rendition finishes the last one (rule 24)
abbrev pub holds_segment : Configuration → List Item → ℕ → Bool
holds_segment c items msn = list_any (λ row. nat_le msn row.segment.number) (all_rows c items)

-- the number after that of the last segment that has a part, finished or open; before the first part, the first number
abbrev pub number_after_last : Configuration → Option PartPosition → ℕ
number_after_last c None = c.first
number_after_last c (Some last) = last.number + 1

-- the Advance Part Limit: how many parts make three seconds, rounded down, or three if the part target duration is a second or longer (rule 25)
abbrev pub advance_limit : Configuration → ℕ
advance_limit c = if nat_lt c.part_target 1000000 then 3000000 / c.part_target else 3

-- whether `part` is past the index of the last of these parts by more than `limit`; it isn't if there are none
abbrev pub is_past : ℕ → List Part → ℕ → Bool
is_past limit [] part = false
is_past limit (p ∷ ps) part = nat_lt (length ps + limit) part

-- whether a part, if one is wanted, is too far ahead in the open segment, which has this number and these parts
abbrev pub far_part : Configuration → ℕ → List Part → ℕ → Option ℕ → Bool
far_part c number open_parts msn None = false
far_part c number open_parts msn (Some part) = msn == number && is_past (advance_limit c) open_parts part

abbrev pub far_by : Configuration → Option PartPosition → ℕ → List Part → ℕ → Option ℕ → Bool
far_by c last number open_parts msn part = nat_lt (number_after_last c last + 1) msn || far_part c number open_parts msn part

-- Whether segment `msn`, or its part `part`, is too far ahead (section 6.2.5.2): the segment is more than two after the last one that has a part, or,
-- before the first part, more than one after the first; or the part is of the open segment, and past its last part by more than the Advance Part
-- Limit (rule 25).
abbrev pub far : Configuration → List Item → ℕ → Option ℕ → Bool
far c items msn part = far_by c (last_place (numbered_parts c.first 0 (parts items))) (c.first + length (segments items)) (open_segment items) msn part

pub record WantsLaw : Type 0 where
  -- what is there stays there, whatever items follow
  pub parts_stay : (c : Configuration) (items : List Item) (i : Item) (msn part : ℕ) → holds_part c items msn part ≡ true
      → holds_part c (items ++ i ∷ []) msn part ≡ true
  pub segments_stay : (c : Configuration) (items : List Item) (i : Item) (msn : ℕ) → holds_segment c items msn ≡ true
      → holds_segment c (items ++ i ∷ []) msn ≡ true
  -- date ranges don't change what is there
  pub ranges : (c : Configuration) (items : List Item) (i : Item) (msn part : ℕ) → is_about_ranges i ≡ true
      → (holds_part c (items ++ i ∷ []) msn part ≡ holds_part c items msn part)
      × (holds_segment c (items ++ i ∷ []) msn ≡ holds_segment c items msn)
  -- an index past the last part of a finished segment stands for the first part of the next one
  pub past_the_end : (c : Configuration) (items : List Item) (before after : List (List Part)) (segment : List Part) (part : ℕ)
      → segments items ≡ before ++ segment ∷ after → length segment ≤ part
      → holds_part c items (c.first + length before) part ≡ holds_part c items (c.first + length before + 1) 0
