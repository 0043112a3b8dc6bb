-- For private contracts: what is kept of a chain that a chunk begins or goes on with, and of one with one more entry.
use Rattle.std.specs.Prelude.{ℕ, suc, zero, Option, Some, None, Result, Ok, Err, if◌then◌else◌}
use Rattle.ll_check.specs.Found.{ChainValue, IsOf}
use Rattle.ll_entry.specs.Chain.{Chain, another}
use Rattle.ll_entry.specs.declared.fault.CheckKind.{CheckKind}
use Rattle.ll_entry.specs.declared.fault.CheckKind.TheVariants.{Gap, OtherChannel}
use Rattle.ll_entry.specs.declared.version.Version.{Version}
use Rattle.ll_settings.specs.Same.{same_settings}
use Rattle.ll_settings.specs.Settings.{Configuration}

-- it is what is kept of the chain that a chunk begins or goes on with
abbrev pub IsBegun : Option ChainValue → Result Chain CheckKind → Type 0
IsBegun (Some k) (Ok ch) = IsOf k ch
IsBegun kept joined = ⊥

-- it is what is kept of a chain with one more entry
abbrev pub IsJoined : ChainValue → Result Chain CheckKind → Type 0
IsJoined k (Ok ch) = IsOf k ch
IsJoined k (Err kind) = ⊥

-- the chain of a chunk in this format, of a channel of these settings, at a place where it can be: after no entries of its chain, or after
-- `at` entries
abbrev pub met : Option Chain → Version → Configuration → ℕ → Result Chain CheckKind
met before v c zero = another before v c
met None v c (suc at) = Err Gap
met (Some ch) v c (suc at) = if same_settings ch.settings c then Ok (record ch { version = v }) else Err OtherChannel
