-- What is written for a Multivariant Playlist.
use Rattle.std.specs.Prelude.{◌≡◌, ℕ, List, Bool, true, false, Some, None, Ok, Err}
use Rattle.ll_attr.specs.Words.{pieces_at}
use Rattle.ll_check.specs.Answer.{answer_line}
use Rattle.ll_entry.specs.Chain.{Between, Chain, checked, checked_from}
use Rattle.ll_entry.specs.declared.fault.CheckFault.{CheckFault}
use Rattle.ll_multivariant.specs.Naming.{multivariant}
use Rattle.ll_multivariant.specs.declared.naming.NamedSection.{NamedSection}

-- the playlist of the last chain of a record; or, if the record is wrong, the line that says how
abbrev pub IsMultivariant : List ℕ → List NamedSection → Bool → List ℕ → Type 0
IsMultivariant bytes sources true text =
    (ch : Chain) × (checked_from (Between None) (pieces_at 10 bytes) ≡ Ok (Some ch)) × (multivariant ch sources ≡ Ok text)
IsMultivariant bytes sources false text = (f : CheckFault) × (checked bytes ≡ Err f) × (text ≡ answer_line (Err f))
