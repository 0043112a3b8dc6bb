-- For private contracts: what was read of a text, and what follows from it.
use Rattle.std.specs.Prelude.{◌≡◌, ◌≤◌, ℕ, List, Option, Some, None, Result, Ok, Err, IfSome, IsOk, Bool, bytes_eq}
use Rattle.std.specs.Borrow.{Bor}
use Rattle.std.specs.List.{list_any}
use Rattle.ll_line.specs.Playlist.{Skip, Playlist}
use Rattle.ll_line.specs.Formats.{largest_number}
use Rattle.ll_read.specs.Outline.{outline_of}
use Rattle.ll_read.specs.declared.outline.Outline.{Outline}
use Rattle.ll_apply.specs.Applied.{missing, updated}
use Rattle.ll_apply.specs.declared.fault.ApplyFault.{ApplyFault}
use Rattle.ll_apply.specs.declared.fault.ApplyFault.TheVariants.{Memory}
use Rattle.ll_apply.specs.declared.found.Found.{Found}

-- the outline of the playlist that a text spells, and the playlist itself, unless memory was missing for it
abbrev pub IsFound : {E : Type 0} → Found → Result Playlist E → Type 0
IsFound f (Err fault) = ⊥
IsFound f (Ok p) = (f.outline ≡ outline_of p) × IfSome f.playlist (λ q. q ≡ p)

-- numbers that were read are within their limit
abbrev pub AreRead : Outline → Type 0
AreRead o = (o.sequence ≤ largest_number) × IfSome o.skipped (λ n. n ≤ largest_number)

abbrev pub missing_by_skip : Option Skip → Playlist → Playlist → Option ℕ
missing_by_skip None base delta = None
missing_by_skip (Some skip) base delta = missing base delta.sequence skip.count

-- the smallest number that an update skips and a playlist lacks
abbrev pub missing_of : Playlist → Playlist → Option ℕ
missing_of base delta = missing_by_skip delta.skipped base delta

abbrev pub merged_by : Option Skip → Playlist → Playlist → Playlist
merged_by None base delta = delta
merged_by (Some skip) base delta = updated base delta skip

-- the playlist that an update makes of one that lacks nothing
abbrev pub merged : Playlist → Playlist → Playlist
merged base delta = merged_by delta.skipped base delta

-- the answer is `right`, or out of memory if that is a text
abbrev pub IsAnswer : Result (List ℕ) ApplyFault → Result (List ℕ) ApplyFault → Type 0
IsAnswer (Ok text) right = right ≡ Ok text
IsAnswer (Err Memory) right = IsOk right
IsAnswer (Err fault) right = right ≡ Err fault

-- whether an id is one of the borrowed texts
abbrev pub is_among : List ℕ → List (Bor (List ℕ)) → Bool
is_among id texts = list_any (λ (text : Bor (List ℕ)). bytes_eq id text.now) texts
