-- What a command on a record has written, if it failed.
use Rattle.std.proofs.Common.{◌≡◌, ◌≢◌, ℕ, List, [], Bool, Option, Result, Ok, Err, OnErr, inl, inr, refl, subst, sym}
use Rattle.std.proofs.KnownBytes.{Appends-nil}
use Rattle.ll_check.specs.Answer.{answer_line, upgrade_answer}
use Rattle.ll_check.specs.Unread.{IsFaultOf}
use Rattle.ll_check.specs.declared.source.RecordFault.TheVariants.{Wrong}
use Rattle.ll_command.specs.Cuts.{IsCutShort}
use Rattle.ll_command.specs.declared.fault.Fault.{Fault}
use Rattle.ll_device.specs.Written.{AppendsPrefix}
use Rattle.ll_entry.specs.Chain.{checked}
use Rattle.ll_entry.specs.declared.fault.CheckFault.{CheckFault}
use Rattle.ll_entry.specs.declared.fault.CheckKind.{CheckKind}
use Rattle.ll_entry.specs.declared.fault.CheckKind.TheVariants as kind

-- nothing was written
pub none-cut : (out : Option (List ℕ)) (text : List ℕ) → AppendsPrefix out out text
none-cut out text = ([], text, refl, Appends-nil out)

-- the record was right at first
pub right-cut : (input text : List ℕ) (n : ℕ) (old new : Option (List ℕ)) → checked input ≡ Ok n → AppendsPrefix old new text
    → AppendsPrefix old new (upgrade_answer (checked input) text)
right-cut input text n old new right cut = subst (λ a. AppendsPrefix old new (upgrade_answer a text)) (sym right) cut

by_kind : (k : CheckKind) (P : Type 0) → (k ≡ kind.Memory → P) → (k ≢ kind.Memory → P) → P
by_kind kind.BadChunk P memory other = other (λ e. cc)
by_kind kind.Gap P memory other = other (λ e. cc)
by_kind kind.OtherChannel P memory other = other (λ e. cc)
by_kind kind.Refused P memory other = other (λ e. cc)
by_kind kind.WrongReply P memory other = other (λ e. cc)
by_kind kind.Memory P memory other = memory refl

-- the record was wrong: its line was written, or out of memory nothing
pub wrong-cut : (r : Result Bool Fault) (input text : List ℕ) (f : CheckFault) (old new : Option (List ℕ)) → OnErr r (AppendsPrefix old new (answer_line (Err f)))
    → (f.kind ≡ kind.Memory → new ≡ old) → IsFaultOf input (Wrong f) → OnErr r (AppendsPrefix old new (upgrade_answer (checked input) text))
wrong-cut (Ok right) input text f old new cut none h = tt
wrong-cut (Err x) input text f old new cut none h =
    by_kind f.kind (AppendsPrefix old new (upgrade_answer (checked input) text))
    (λ e. subst (λ out. AppendsPrefix old out (upgrade_answer (checked input) text)) (sym (none e)) (none-cut old (upgrade_answer (checked input) text)))
    (λ other. subst (λ a. AppendsPrefix old new (upgrade_answer a text)) (sym (h.0 other)) cut)

-- ---- of a text of which something holds

-- this text holds
pub text-cut : {T E : Type 0} (r : Result T E) (holds : List ℕ → Type 0) (text : List ℕ) (old new : Option (List ℕ)) → holds text → AppendsPrefix old new text
    → OnErr r (IsCutShort holds old new)
text-cut (Ok v) holds text old new h cut = tt
text-cut (Err x) holds text old new h cut = inr (text, h, cut)

-- the line of a wrong record holds, if that isn't out of memory
pub line-cut : (r : Result Bool Fault) (holds : List ℕ → Type 0) (f : CheckFault) (old new : Option (List ℕ)) → (f.kind ≢ kind.Memory → holds (answer_line (Err f)))
    → OnErr r (AppendsPrefix old new (answer_line (Err f))) → (f.kind ≡ kind.Memory → new ≡ old) → OnErr r (IsCutShort holds old new)
line-cut (Ok right) holds f old new h cut none = tt
line-cut (Err x) holds f old new h cut none =
    by_kind f.kind (IsCutShort holds old new) (λ e. inl (none e)) (λ other. inr (answer_line (Err f), h other, cut))
