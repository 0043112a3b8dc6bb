-- Which finished segments a full playlist shows, and which of them with their parts.
use Rattle.std.specs.Prelude.{◌≡◌, ℕ, ◌+◌, ◌*◌, ◌≤◌, ◌<◌, List, [], ◌∷◌, ◌++◌, Bool, true, false, Option, Some, None, length, nat_le, nat_lt, if◌then◌else◌, slice_get}
use Rattle.std.specs.Option.{option_map}
use Rattle.ll_settings.specs.Settings.{Configuration}
use Rattle.ll_item.specs.declared.part.Part.{Part}
use Rattle.ll_window.specs.declared.segment.Segment.{Segment}
use Rattle.ll_window.specs.Rows.{Row, one_if, lasting}

-- the least duration of the window, in microseconds (rule 9)
abbrev pub window_limit : Configuration → ℕ
window_limit c = c.window * 1000000

-- the segments that have left the window: a segment leaves if those after it last at least `least` microseconds
abbrev pub gone : ℕ → List Row → List Row
gone least [] = []
gone least (r ∷ rs) = if nat_le least (lasting rs) then r ∷ gone least rs else []

-- the window: the shortest suffix of the segments that lasts at least `least` microseconds, or all of them if they last less (section 6.2.2,
-- rule 9)
abbrev pub window : ℕ → List Row → List Row
window least [] = []
window least (r ∷ rs) = if nat_le least (lasting rs) then window least rs else r ∷ rs

-- what makes the window of these segments, without recursion
pub record IsShortestSuffix (least : ℕ) (rs : List Row) : Type 0 where
  pub suffix : gone least rs ++ window least rs ≡ rs
  pub long_enough : least ≤ lasting rs → least ≤ lasting (window least rs)
  pub all_of_them : lasting rs < least → window least rs ≡ rs
  pub shortest : (before after : List Row) → before ++ after ≡ rs → least ≤ lasting after → length (window least rs) ≤ length after

abbrev pub WindowLaw : Type 0
WindowLaw = (least : ℕ) (rs : List Row) → IsShortestSuffix least rs

-- three target durations, in microseconds (rule 10)
abbrev pub near_limit : Configuration → ℕ
near_limit c = 3 * (c.target * 1000000)

abbrev pub shown_by : Bool → Row → Row
shown_by true r = r
shown_by false r = record { segment = r.segment; parts = [] }

-- the segments, each with its parts if what follows it (the segments after it, and open parts of `tail` microseconds) lasts less
-- than `near` microseconds, and else without parts (section 4.4.4.9, rule 10)
abbrev pub listed : ℕ → ℕ → List Row → List Row
listed near tail [] = []
listed near tail (r ∷ rs) = shown_by (nat_lt (lasting rs + tail) near) r ∷ listed near tail rs

-- how many of these segments a delta update skips: those after which come more than `limit` microseconds, the `tail` microseconds of
-- open parts included (section 6.2.5.1, rule 21)
abbrev pub skipped_in : ℕ → ℕ → List Row → ℕ
skipped_in limit tail [] = 0
skipped_in limit tail (r ∷ rs) = one_if (nat_lt limit (lasting rs + tail)) + skipped_in limit tail rs

-- the segment at a place of the window, if there is one
abbrev pub segment_at : List Row → ℕ → Option Segment
segment_at rs place = option_map (λ r. r.segment) (slice_get rs place)

abbrev pub parts_of : Option Row → List Part
parts_of None = []
parts_of (Some r) = r.parts

-- the parts that playlists list of the segment at a place of the window
abbrev pub parts_at : List Row → ℕ → List Part
parts_at rs place = parts_of (slice_get rs place)
