-- Faults, and messages that were sent and accepted: for the proofs of this crate and of those above it.
use Rattle.std.proofs.Common.{◌≡◌, OnErr, IsErrAnd, IsErrOf, Result, Ok, Err, true, ℕ, ◌+◌, List, [], ◌∷◌, ◌++◌, refl, ap, sym, subst, ◌∙◌, append-nil, length, length-append}
use Rattle.std.proofs.KnownBytes.{Appends-nil, Appends-trans}
use Rattle.std.proofs.lemmas.Grind.{flat_map-append}
use Rattle.std.proofs.lemmas.List.Elements.{All-nil, All-push}
use Rattle.std.specs.Io.KnownBytes.{Appends}
use Rattle.ll_announce.specs.Messages.{MessageValue}
use Rattle.ll_device.specs.Inward.{looked_at}
use Rattle.ll_device.proofs.InwardLemmas.{looked_at-none, looked_at-on}
use Rattle.ll_push.specs.Answers.{accepts, ended, lines_text}
use Rattle.ll_push.specs.Exchanges.{AreExchanged, IsExchanged, LinkValue, bytes_of, text_of}
use Rattle.ll_push.specs.declared.fault.PushFault.{PushFault}

-- ---- faults

pub same-fault : {X : Type 0} (r : Result X PushFault) (f g : PushFault) → IsErrAnd r (λ y. y ≡ f) → r ≡ Err g → f ≡ g
same-fault (Ok x) f g h e = absurd h
same-fault (Err y) f g h e = let k = sym h in cc

pub on-err : {T E : Type 0} (r : Result T E) (P : Type 0) → P → OnErr r P
on-err (Ok x) P p = tt
on-err (Err x) P p = p

pub own-fault : {X : Type 0} (r : Result X PushFault) (f g : PushFault) (P : PushFault → Type 0) → IsErrAnd r (λ y. y ≡ f) → IsErrOf r g → P f → P g
own-fault r f g P h e p = subst P (same-fault r f g h e) p

-- ---- messages that were sent

-- none was
pub exchanged-none : (link : LinkValue) → AreExchanged [] link link
exchanged-none link = record {
  sent = Appends-nil link.written;
  answers = [];
  one_each = refl;
  accepted = All-nil _;
  reads = 0;
  read = looked_at-none link.inward;
  steady = refl;
}

lines-push : (lines : List (List ℕ)) (line : List ℕ) → lines_text (lines ++ line ∷ []) ≡ lines_text lines ++ ended line
lines-push lines line = flat_map-append ended lines (line ∷ []) ∙ ap (λ l. lines_text lines ++ l) (append-nil (ended line))

text-push : (messages : List MessageValue) (message : MessageValue) → text_of (messages ++ message ∷ []) ≡ text_of messages ++ message.bytes
text-push messages message = flat_map-append bytes_of messages (message ∷ []) ∙ ap (λ l. text_of messages ++ l) (append-nil message.bytes)

-- one more was
pub exchanged-more : (messages : List MessageValue) (message : MessageValue) (line : List ℕ) (first mid last : LinkValue) → AreExchanged messages first mid
    → IsExchanged message.bytes line mid last → accepts line ≡ true → AreExchanged (messages ++ message ∷ []) first last
exchanged-more messages message line first mid last h one ok = record {
  sent =
      subst (Appends first.written last.written) (sym (text-push messages message))
      (Appends-trans first.written mid.written last.written (text_of messages) message.bytes h.sent one.sent);
  answers = h.answers ++ line ∷ [];
  one_each = length-append h.answers (line ∷ []) ∙ ap (λ n. n + 1) h.one_each ∙ sym (length-append messages (message ∷ []));
  accepted = All-push (λ answer. accepts answer ≡ true) h.answers line h.accepted ok;
  reads = h.reads + one.reads;
  read =
      looked_at-on first.inward mid.inward last.inward h.reads 0 one.reads 0 (lines_text h.answers) (ended line) h.read one.read
      ∙ ap (λ came. looked_at (h.reads + one.reads) 0 came first.inward) (sym (lines-push h.answers line));
  steady = one.steady ∙ h.steady;
}
