-- For private contracts: the faults of reading a settings file.
use Rattle.std.specs.Prelude.{◌≡◌, ◌<◌, ℕ, Result, Ok, Err}
use Rattle.ll_config.specs.Config.{Left}
use Rattle.ll_config.specs.declared.fault.ConfigFault.{ConfigFault}
use Rattle.ll_config.specs.declared.fault.ConfigFault.TheVariants.{BadLine, Memory}

-- the fault is that of a reading; or out of memory, and then `wanting` holds
abbrev pub IsFault : {A : Type 0} → ConfigFault → Result A ℕ → Type 0 → Type 0
IsFault (BadLine number) r wanting = r ≡ Err number
IsFault Memory r wanting = wanting

-- a reading succeeds, and leads past the line `number`
abbrev pub LeadsPast : {A : Type 0} → ℕ → Result (A × Left) ℕ → Type 0
LeadsPast number (Ok read) = number < read.1.number
LeadsPast number (Err bad) = ⊥

-- the line that is wrong, if any is, comes after the line `number`
abbrev pub IsRightTo : {A : Type 0} → ℕ → Result A ℕ → Type 0
IsRightTo number (Ok value) = Unit
IsRightTo number (Err bad) = number < bad

-- a reading that succeeds leads past the line `number`, and the line that is wrong, if any is, comes after it
abbrev pub IsRightPast : {A : Type 0} → ℕ → Result (A × Left) ℕ → Type 0
IsRightPast number (Ok read) = number < read.1.number
IsRightPast number (Err bad) = number < bad
