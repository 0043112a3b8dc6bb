-- How a device was read, and which bytes came.
use Rattle.std.specs.Prelude.{ℕ, ◌+◌, List, Option, None, Some}
use Rattle.std.specs.Io.KnownBytes.{append_known}

-- the number of reads, and how often its peer was found to have ended it
pub record Looks : Type 0 where
  pub reads : ℕ
  pub ends : ℕ

-- these numbers, and the bytes that came by all reads: either is known or not
pub record Inward : Type 0 where
  pub looks : Option Looks
  pub bytes : Option (List ℕ)

-- nothing is known
abbrev pub untold : Inward
untold = record { looks = None; bytes = None }

abbrev pub looked : ℕ → ℕ → Option Looks → Option Looks
looked reads ends None = None
looked reads ends (Some before) = Some (record { reads = before.reads + reads; ends = before.ends + ends })

-- after `reads` more reads, by which the bytes `came` came, and after its peer was found `ends` more times to have ended it
abbrev pub looked_at : ℕ → ℕ → List ℕ → Inward → Inward
looked_at reads ends came before = record { looks = looked reads ends before.looks; bytes = append_known before.bytes came }
