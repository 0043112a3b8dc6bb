-- For private contracts: what is kept of the last chain of a record while it is read.
use Rattle.std.specs.Prelude.{◌≡◌, ℕ, zero, suc, List, [], ◌∷◌, ◌++◌, Option, Some, None, Ok}
use Rattle.ll_check.specs.declared.told.Told.{Told}
use Rattle.ll_check.specs.declared.told.Told.TheVariants as told
use Rattle.ll_entry.specs.Chain.{Chain}
use Rattle.ll_entry.specs.Entered.{event_of}
use Rattle.ll_entry.specs.Entries.{entry_in}
use Rattle.ll_entry.specs.declared.entry.Recorded.{Recorded}
use Rattle.ll_entry.specs.declared.version.Version.{Version}
use Rattle.ll_settings.specs.Settings.{Configuration, settings_in}
use Rattle.ll_multivariant.specs.Additions.{additions_in, additions_of}
use Rattle.ll_variants.specs.declared.segments.Addition.{Addition}

-- the settings of the last chain, and the additions of its items
pub record KeptValue : Type 0 where
  pub settings : Option Configuration
  pub additions : List Addition

-- it is kept of the chains so far
abbrev pub kept_of : Option Chain → KeptValue
kept_of None = record { settings = None; additions = [] }
kept_of (Some ch) = record { settings = Some ch.settings; additions = additions_of ch.events }

-- an addition, if there is one
abbrev pub addition_list : Option Addition → List Addition
addition_list None = []
addition_list (Some addition) = addition ∷ []

-- what is kept with an entry's line that is right, in the format `version`
pub record AddsLine (old new : KeptValue) (version : Version) (line : List ℕ) (c : Configuration) : Type 0 where
  pub entry : Recorded
  pub read : entry_in version c line ≡ Ok entry
  pub next : new ≡ record { settings = old.settings; additions = old.additions ++ additions_in (event_of entry) }

-- what is kept with settings that a line spells, before any item
pub record Begins (new : KeptValue) (line : List ℕ) : Type 0 where
  pub settings : Configuration
  pub read : settings_in line ≡ Ok settings
  pub next : new ≡ record { settings = Some settings; additions = [] }

-- what is kept with the next lines
abbrev pub AddsTold : KeptValue → KeptValue → Told → Type 0
AddsTold old new (told.Begun settings zero) = Begins new settings.now
AddsTold old new (told.Begun settings (suc at)) = new ≡ old
AddsTold old new (told.Entry version line entry) = (c : Configuration) → old.settings ≡ Some c → AddsLine old new version line.now c
AddsTold old new told.Ended = new ≡ old
