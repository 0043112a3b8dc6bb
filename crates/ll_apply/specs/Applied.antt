-- The playlist that a delta update makes of an earlier one (sections 4.4.5.2 and 6.2.5.1).
use Rattle.std.specs.Prelude.{ℕ, zero, suc, ◌+◌, ◌-◌, List, [], ◌∷◌, ◌++◌, Bool, true, false, not, ◌&&◌, Option, Some, None, Result, Ok, Err, length, map, filter, take, drop, nat_le, nat_lt, bytes_eq}
use Rattle.std.specs.List.{list_any}
use Rattle.ll_line.specs.Playlist.{Finished, DateRangeLine, Skip, Playlist}
use Rattle.ll_apply.specs.declared.fault.ApplyFault.{ApplyFault}
use Rattle.ll_apply.specs.declared.fault.ApplyFault.TheVariants.{NotRecent}

abbrev pub with_map : Option (List ℕ) → Finished → Finished
with_map uri s = record s { block = record s.block { map = uri } }

abbrev pub without_parts : Finished → Finished
without_parts s = record s { block = record s.block { parts = [] } }

abbrev pub or_else : Option (List ℕ) → Option (List ℕ) → Option (List ℕ)
or_else (Some uri) before = Some uri
or_else None before = before

-- each segment with the map that is in force, which the nearest EXT-X-MAP line at or before it names
abbrev pub in_force : Option (List ℕ) → List Finished → List Finished
in_force before [] = []
in_force before (s ∷ more) = with_map (or_else s.block.map before) s ∷ in_force (or_else s.block.map before) more

abbrev pub unless_broken : Bool → Finished → Finished
unless_broken true s = s
unless_broken false s = with_map None s

-- segments with their maps in force, as the lines of a full playlist: a MAP line stands at the first segment and at each broken one
abbrev pub mapped : List Finished → List Finished
mapped [] = []
mapped (s ∷ more) = s ∷ map (λ t. unless_broken t.block.broken t) more

-- `count` segments of a playlist from the number `number` on, with the maps in force, and without parts
abbrev pub kept_segments : Playlist → ℕ → ℕ → List Finished
kept_segments base number count = map without_parts (take count (drop (number - base.sequence) (in_force None base.segments)))

-- whether a playlist has a finished segment of the number `number`
abbrev pub has : Playlist → ℕ → Bool
has p number = nat_le p.sequence number && nat_lt number (p.sequence + length p.segments)

abbrev pub missing_by : Bool → ℕ → Option ℕ → Option ℕ
missing_by true number later = later
missing_by false number later = Some number

-- the smallest of `count` numbers, from `number` on, of which a playlist has no finished segment
abbrev pub missing : Playlist → ℕ → ℕ → Option ℕ
missing p number zero = None
missing p number (suc count) = missing_by (has p number) number (missing p (number + 1) count)

abbrev pub is_one_of : List ℕ → List (List ℕ) → Bool
is_one_of id ids = list_any (bytes_eq id) ids

-- whether a date range of the earlier playlist stays: it wasn't removed, and the update doesn't list it
abbrev pub stays : List (List ℕ) → List DateRangeLine → DateRangeLine → Bool
stays removed own r = not (is_one_of r.id removed) && not (is_one_of r.id (map (λ d. d.id) own))

-- the update's date ranges, if it doesn't say which were removed; else those of the earlier playlist that stay, and then the update's
abbrev pub ranges_by : Option (List (List ℕ)) → List DateRangeLine → List DateRangeLine → List DateRangeLine
ranges_by None earlier own = own
ranges_by (Some removed) earlier own = filter (stays removed own) earlier ++ own

abbrev pub updated : Playlist → Playlist → Skip → Playlist
updated base delta skip = record delta {
  ranges = ranges_by skip.removed base.ranges delta.ranges;
  skipped = None;
  segments = mapped (in_force None (kept_segments base delta.sequence skip.count ++ delta.segments));
}

abbrev pub unless_missing : Option ℕ → Playlist → Result Playlist ApplyFault
unless_missing (Some number) p = Err (NotRecent number)
unless_missing None p = Ok p

abbrev pub applied_by : Option Skip → Playlist → Playlist → Result Playlist ApplyFault
applied_by None base delta = Ok delta
applied_by (Some skip) base delta = unless_missing (missing base delta.sequence skip.count) (updated base delta skip)

-- the playlist that a delta update makes of an earlier one, or why it makes none; an update that skips nothing is the result itself
abbrev pub applied : Playlist → Playlist → Result Playlist ApplyFault
applied base delta = applied_by delta.skipped base delta
