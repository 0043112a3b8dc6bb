-- Faults that have nothing to do with what is named.
use Rattle.std.specs.Prelude.{◌≡◌, ◌⊎◌}
use Rattle.ll_multivariant.specs.declared.fault.MultivariantFault.{MultivariantFault}
use Rattle.ll_multivariant.specs.declared.fault.MultivariantFault.TheVariants.{TooLarge, Memory}

-- a number is too large, or there is no memory
abbrev pub IsBeside : MultivariantFault → Type 0
IsBeside fault = (fault ≡ TooLarge) ⊎ (fault ≡ Memory)
