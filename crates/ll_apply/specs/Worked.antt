-- A worked example: an earlier playlist, a delta update that removes one date range and changes another, and the result of applying it.
use Rattle.std.specs.Prelude.{◌≡◌, ℕ, List, [], ◌∷◌, false, Option, Some, None, Ok, Err, codes}
use Rattle.ll_line.specs.Playlist.{DateRangeLine, Finished, Playlist, Skip}
use Rattle.ll_apply.specs.Applied.{applied}
use Rattle.ll_apply.specs.declared.fault.ApplyFault.TheVariants.{NotRecent}

-- a segment of one second, without parts
abbrev pub segment : Option (List ℕ) → List ℕ → Finished
segment map uri = record { block = record { broken = false; map = map; time = codes "noon"; parts = [] }; duration = 1000000; uri = uri }

-- the playlist of a rendition that has ended
abbrev pub playlist : ℕ → List DateRangeLine → Option Skip → List Finished → Playlist
playlist number ranges skipped segments = record {
  header = record { version = 9; target = 4; hold_back = 3000000; skip_until = 24000000; skips_date_ranges = false; part_target = 1000000 };
  sequence = number;
  discontinuity = 0;
  ranges = ranges;
  skipped = skipped;
  segments = segments;
  open_block = None;
  reports = [];
  hint = None;
}

abbrev pub a : DateRangeLine
a = record { id = codes "a"; attributes = [] }

abbrev pub b : DateRangeLine
b = record { id = codes "b"; attributes = codes "X-A=1" }

abbrev pub other_b : DateRangeLine
other_b = record { id = codes "b"; attributes = codes "X-A=2" }

abbrev pub c : DateRangeLine
c = record { id = codes "c"; attributes = [] }

-- three date ranges, a segment that leaves, and one that stays
abbrev pub earlier : Playlist
earlier = playlist 4 (a ∷ b ∷ c ∷ []) None (segment (Some (codes "init")) (codes "s4") ∷ segment None (codes "s5") ∷ [])

-- the first segment is skipped, `a` is removed, and `b` has another attribute
abbrev pub update : Playlist
update = playlist 5 (other_b ∷ []) (Some (record { count = 1; removed = Some (codes "a" ∷ []) })) (segment None (codes "s6") ∷ [])

-- `c` stays, and `b` is the update's; the first segment has the map that is in force there
abbrev pub later : Playlist
later = playlist 5 (c ∷ other_b ∷ []) None (segment (Some (codes "init")) (codes "s5") ∷ segment None (codes "s6") ∷ [])

-- a playlist that lacks the segment which the update skips
abbrev pub too_old : Playlist
too_old = playlist 4 (a ∷ b ∷ c ∷ []) None (segment (Some (codes "init")) (codes "s4") ∷ [])

pub record WorkedUpdate : Type 0 where
  pub recent : applied earlier update ≡ Ok later
  pub not_recent : applied too_old update ≡ Err (NotRecent 5)
