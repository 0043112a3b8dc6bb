-- What calls return, as contracts see it.
use Rattle.std.specs.Prelude.{◌≡◌, ◌⊎◌, ℕ, List, Option, Some, None, Result, Ok, Err}
use Rattle.std.specs.Borrow.{Bor}
use Rattle.ll_mp4.specs.declared.fault.StreamFault.{StreamFault}
use Rattle.ll_mp4.specs.declared.fault.StreamFault.TheVariants.{Memory}

-- the unit that was given
abbrev pub given : Result (Option (Bor (List ℕ))) StreamFault → Result (Option (List ℕ)) StreamFault
given (Ok None) = Ok None
given (Ok (Some unit)) = Ok (Some unit.now)
given (Err fault) = Err fault

-- The result is `asked`, or Memory if `asked` needs memory.
abbrev pub AnswersButForMemory : {A : Type 0} → Result A StreamFault → Type 0 → Result A StreamFault → Type 0
AnswersButForMemory asked Needs (Ok x) = asked ≡ Ok x
AnswersButForMemory asked Needs (Err fault) = (asked ≡ Err fault) ⊎ ((fault ≡ Memory) × Needs)
