-- What is known if a fault of a record is returned.
use Rattle.std.proofs.Common.{◌≡◌, ◌≢◌, ℕ, List, Bool, true, false, Option, Result, Ok, Err, IfOk, IsErr, IsErrOf, ap, is_err, refl, true≢false}
use Rattle.std.specs.Io.KnownBytes.{Appends}
use Rattle.ll_check.specs.Answer.{answer_line}
use Rattle.ll_check.specs.Going.{IsEarly}
use Rattle.ll_check.specs.Unread.{IsFaultOf, IsReadFault, IsStopped}
use Rattle.ll_check.specs.declared.source.RecordFault.{RecordFault}
use Rattle.ll_check.specs.declared.source.RecordFault.TheVariants.{Wrong, Unread}
use Rattle.ll_check.specs.declared.unread.RecordReadFault.{RecordReadFault}
use Rattle.ll_check.specs.declared.unread.RecordReadFault.TheVariants as unread
use Rattle.ll_command.specs.Status.{changed_by, changed_fault, read_fault}
use Rattle.ll_command.specs.declared.fault.Fault.{Fault}
use Rattle.ll_command.specs.declared.fault.Fault.TheVariants.{Read, Endless, Changed}
use Rattle.ll_entry.specs.Chain.{checked}
use Rattle.ll_entry.specs.declared.fault.CheckFault.{CheckFault}
use Rattle.ll_entry.specs.declared.fault.CheckKind.{CheckKind}
use Rattle.ll_entry.specs.declared.fault.CheckKind.TheVariants as kind
use Rattle.ll_explain.specs.Words.{IsExplanation}

-- ---- of a record that wasn't read to its end

pub read-failed : (f : RecordReadFault) (failed endless : Type 0) (x : Fault) → x ≡ read_fault f → IsReadFault failed endless f → IsErrOf {T = Bool} (Err x) Read → failed
read-failed unread.Read failed endless x is h e = h
read-failed unread.Endless failed endless x is h e = cc
read-failed unread.Memory failed endless x is h e = cc

pub read-endless : (f : RecordReadFault) (failed endless : Type 0) (x : Fault) → x ≡ read_fault f → IsReadFault failed endless f → IsErrOf {T = Bool} (Err x) Endless → endless
read-endless unread.Read failed endless x is h e = cc
read-endless unread.Endless failed endless x is h e = h
read-endless unread.Memory failed endless x is h e = cc

not-changed : (f : RecordReadFault) (x : Fault) (P : Type 0) → x ≡ read_fault f → IsErrOf {T = Bool} (Err x) Changed → P
not-changed unread.Read x P is e = cc
not-changed unread.Endless x P is e = cc
not-changed unread.Memory x P is e = cc

-- ---- of a record that was read again

by-kind : (k : CheckKind) (x : Fault) → x ≡ changed_by k → IsErrOf {T = Bool} (Err x) Changed → k ≢ kind.Memory
by-kind kind.BadChunk x is e = λ memory. cc
by-kind kind.Gap x is e = λ memory. cc
by-kind kind.OtherChannel x is e = λ memory. cc
by-kind kind.Refused x is e = λ memory. cc
by-kind kind.WrongReply x is e = λ memory. cc
by-kind kind.Memory x is e = λ memory. cc

pub changed : (f : RecordFault) (input : List ℕ) (x : Fault) → x ≡ changed_fault f → IsFaultOf input f → IsErrOf {T = Bool} (Err x) Changed → IsErr (checked input)
changed (Wrong f) input x is h e = ap is_err (h.0 (by-kind f.kind x is e))
changed (Unread f) input x is h e = not-changed f x (IsErr (checked input)) is e

not-read : (k : CheckKind) (x : Fault) (P : Type 0) → x ≡ changed_by k → IsErrOf {T = Bool} (Err x) Read → P
not-read kind.BadChunk x P is e = cc
not-read kind.Gap x P is e = cc
not-read kind.OtherChannel x P is e = cc
not-read kind.Refused x P is e = cc
not-read kind.WrongReply x P is e = cc
not-read kind.Memory x P is e = cc

not-endless : (k : CheckKind) (x : Fault) (P : Type 0) → x ≡ changed_by k → IsErrOf {T = Bool} (Err x) Endless → P
not-endless kind.BadChunk x P is e = cc
not-endless kind.Gap x P is e = cc
not-endless kind.OtherChannel x P is e = cc
not-endless kind.Refused x P is e = cc
not-endless kind.WrongReply x P is e = cc
not-endless kind.Memory x P is e = cc

pub changed-failed : (f : RecordFault) (failed endless : Type 0) (x : Fault) → x ≡ changed_fault f → IsStopped failed endless f → IsErrOf {T = Bool} (Err x) Read → failed
changed-failed (Wrong f) failed endless x is h e = not-read f.kind x failed is e
changed-failed (Unread f) failed endless x is h e = read-failed f failed endless x is h e

pub changed-endless : (f : RecordFault) (failed endless : Type 0) (x : Fault) → x ≡ changed_fault f → IsStopped failed endless f → IsErrOf {T = Bool} (Err x) Endless
    → endless
changed-endless (Wrong f) failed endless x is h e = not-endless f.kind x endless is e
changed-endless (Unread f) failed endless x is h e = read-endless f failed endless x is h e

-- ---- of a record that is wrong up to an entry

pub explained-wrong : (r : Result Bool Fault) (input : List ℕ) (entry : ℕ) (f : CheckFault) (old new : Option (List ℕ))
    → IfOk r (λ right. (right ≡ false) × Appends old new (answer_line (Err f))) → IfOk r (λ right. f.kind ≢ kind.Memory)
    → IsFaultOf input (Wrong f) × IsEarly entry (Wrong f)
    → IfOk r (λ right. (text : List ℕ) × IsExplanation input entry right text × Appends old new text)
explained-wrong (Err x) input entry f old new w other h = tt
explained-wrong (Ok true) input entry f old new w other h = absurd (true≢false w.0)
explained-wrong (Ok false) input entry f old new w other h = (answer_line (Err f), (f, h.0.0 other, h.1, refl), w.1)
