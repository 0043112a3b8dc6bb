-- The playlist that a delta update makes of an earlier one, all as texts (section 6.2.5.1).
use Rattle.std.specs.Prelude.{◌≡◌, ℕ, List, Option, Some, None, Result, Ok, Err}
use Rattle.ll_line.specs.Playlist.{Skip, Playlist}
use Rattle.ll_line.specs.Spelling.{spelling}
use Rattle.ll_read.specs.Reading.{playlist_in, with_line_feeds}
use Rattle.ll_read.specs.declared.fault.ReadFault.{ReadFault}
use Rattle.ll_apply.specs.Applied.{applied}
use Rattle.ll_apply.specs.declared.fault.ApplyFault.{ApplyFault}
use Rattle.ll_apply.specs.declared.fault.ApplyFault.TheVariants.{BadBase, BadDelta}

abbrev pub unless_skipping : Option Skip → Playlist → Result Playlist ApplyFault
unless_skipping None p = Ok p
unless_skipping (Some skip) p = Err BadBase

-- the full playlist that the earlier text spells, or why there is none
abbrev pub base_of : Result Playlist ReadFault → Result Playlist ApplyFault
base_of (Err fault) = Err BadBase
base_of (Ok p) = unless_skipping p.skipped p

abbrev pub delta_of : Result Playlist ReadFault → Result Playlist ApplyFault
delta_of (Err fault) = Err BadDelta
delta_of (Ok p) = Ok p

abbrev pub and_then : {A B : Type 0} → Result A ApplyFault → (A → Result B ApplyFault) → Result B ApplyFault
and_then (Err fault) more = Err fault
and_then (Ok x) more = more x

-- the text of the full playlist that an update makes of an earlier one, or the first fault
abbrev pub chain : Result Playlist ApplyFault → Result Playlist ApplyFault → Result (List ℕ) ApplyFault
chain base delta = and_then base (λ b. and_then delta (λ d. and_then (applied b d) (λ p. Ok (spelling p))))

-- The same for texts. The first fault is that the earlier text spells no full playlist, that the other one spells no playlist, or that a skipped
-- segment is missing.
abbrev pub applied_text : List ℕ → List ℕ → Result (List ℕ) ApplyFault
applied_text base delta = chain (base_of (playlist_in base)) (delta_of (playlist_in delta))

-- a full playlist in the place of an update is returned, with LF at the end of each line
abbrev pub FullLaw : Type 0
FullLaw = (base delta : List ℕ) (b d : Playlist) → playlist_in base ≡ Ok b → b.skipped ≡ None → playlist_in delta ≡ Ok d → d.skipped ≡ None
    → applied_text base delta ≡ Ok (with_line_feeds delta)
