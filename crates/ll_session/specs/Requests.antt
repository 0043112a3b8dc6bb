-- The requests in a connection's bytes.
use Rattle.std.specs.Prelude.{ℕ, zero, suc, List, [], ◌∷◌, Bool, false, Result, Ok, Err, length, drop, if◌then◌else◌}
use Rattle.ll_directive.specs.Targets.{WantValue, want_in}
use Rattle.ll_directive.specs.declared.fault.TargetFault.{TargetFault}
use Rattle.ll_wire.specs.Heads.{RequestValue, HeadValue, Unfinished, Whole, Fault, head_of}
use Rattle.ll_wire.specs.declared.fault.HeadFault.{HeadFault}

-- what one head asks for, or why it is refused
pub data Entry : Type 0 where
  -- a want, and whether the connection is kept after it
  Wanted : WantValue → Bool → Entry
  -- a target that is refused, and whether the connection is kept after it
  Refused : TargetFault → Bool → Entry
  -- a head that is refused: nothing after it is a request
  Faulty : HeadFault → Entry

-- whether the connection is kept after it
abbrev pub keeps : Entry → Bool
keeps (Wanted want keep) = keep
keeps (Refused fault keep) = keep
keeps (Faulty fault) = false

-- what a target wants, or its first fault
unfoldable pub wanted : List ℕ → Result WantValue TargetFault
wanted target = want_in target

abbrev pub entry_by : Result WantValue TargetFault → Bool → Entry
entry_by (Ok want) keep = Wanted want keep
entry_by (Err fault) keep = Refused fault keep

abbrev pub entry_of : RequestValue → Entry
entry_of r = entry_by (wanted r.target) r.keep

-- the entry of the head at the front, and those that follow it
abbrev pub requests_by : (List ℕ → List Entry) → List ℕ → HeadValue → List Entry
requests_by later bytes Unfinished = []
requests_by later bytes (Fault fault) = Faulty fault ∷ []
requests_by later bytes (Whole r) = entry_of r ∷ (if r.keep then later (drop r.len bytes) else [])

-- the entries of at most `n` heads
abbrev pub requests_in : ℕ → List ℕ → List Entry
requests_in zero bytes = []
requests_in (suc n) bytes = requests_by (requests_in n) bytes (head_of bytes)

-- the requests in the bytes, up to the first after which the connection isn't kept, or the first head that is refused. A head
-- has at least one byte, so there are no more of them than bytes
unfoldable pub requests : List ℕ → List Entry
requests bytes = requests_in (length bytes) bytes
