-- What the fault of a connection says of its link.
use Rattle.std.specs.Prelude.{◌≡◌, ◌≢◌, ◌<◌, ℕ, Result, Err, IfErr}
use Rattle.ll_service.specs.declared.fault.LinkFault.{LinkFault}
use Rattle.ll_service.specs.declared.fault.LinkFault.TheVariants.{Read, Write, Endless}

-- Read and Write say that a read or a write has failed, and every other result that none has
abbrev pub IsTrue : {A : Type 0} → Result A LinkFault → ℕ → ℕ → Type 0
IsTrue (Err Read) before after = before < after
IsTrue (Err Write) before after = before < after
IsTrue other before after = after ≡ before

-- a result that depends neither on reads and writes nor on their number
abbrev pub IsOwn : {A : Type 0} → Result A LinkFault → Type 0
IsOwn result = ((failures : ℕ) → IsTrue result failures failures) × IfErr result (λ fault. fault ≢ Endless)
