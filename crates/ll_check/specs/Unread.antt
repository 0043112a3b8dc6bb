-- What was read of a record and isn't checked yet, and why the record isn't read to its end.
use Rattle.std.specs.Prelude.{◌≡◌, ◌≢◌, ℕ, List, None, Err, true}
use Rattle.ll_attr.specs.Words.{pieces_at}
use Rattle.ll_check.specs.declared.unread.RecordReadFault.{RecordReadFault}
use Rattle.ll_check.specs.declared.unread.RecordReadFault.TheVariants.{Read, Endless, Memory}
use Rattle.ll_check.specs.declared.source.RecordFault.{RecordFault}
use Rattle.ll_check.specs.declared.source.RecordFault.TheVariants.{Wrong, Unread}
use Rattle.ll_entry.specs.Chain.{Between, checked, checked_from, not_before}
use Rattle.ll_entry.specs.declared.fault.CheckKind.TheVariants as kind

pub record UnreadValue : Type 0 where
  pub text : List ℕ
  -- the number of further reads
  pub reads : ℕ

-- why no more was read: a read failed, or as many were made as are allowed
abbrev pub IsReadFault : Type 0 → Type 0 → RecordReadFault → Type 0
IsReadFault failed endless Read = failed
IsReadFault failed endless Endless = endless
IsReadFault failed endless Memory = Unit

-- the same, if that is why there is no answer
abbrev pub IsStopped : Type 0 → Type 0 → RecordFault → Type 0
IsStopped failed endless (Wrong f) = Unit
IsStopped failed endless (Unread f) = IsReadFault failed endless f

-- what a fault says of a record: where it is wrong, or that nothing is found wrong before the entry at which memory ran out
abbrev pub IsFaultOf : List ℕ → RecordFault → Type 0
IsFaultOf bytes (Wrong f) =
    (f.kind ≢ kind.Memory → checked bytes ≡ Err f) × (f.kind ≡ kind.Memory → not_before f.entry (checked_from (Between None) (pieces_at 10 bytes)) ≡ true)
IsFaultOf bytes (Unread f) = Unit
