-- Messages, one after another.
use Rattle.std.proofs.Common.{◌≡◌, Bool, true, false, ℕ, ◌+◌, ◌-◌, List, [], ◌∷◌, ◌++◌, Option, Some, None, refl, ap, sym, subst, ◌∙◌, append_assoc, append-nil, fold, length, length-append, nat_le, arith}
use Rattle.std.proofs.KnownBytes.{Appends-trans}
use Rattle.std.proofs.lemmas.Bool.Decides.{nat_tests}
use Rattle.std.proofs.lemmas.Grind.{flat_map-append}
use Rattle.std.proofs.lemmas.List.Sums.{fold-append}
use Rattle.std.specs.Io.KnownBytes.{Appends}
use Rattle.ll_announce.specs.Messages.{MessageValue}
use Rattle.ll_device.specs.Written.{AppendsPrefix}
use Rattle.ll_mp4.specs.declared.fault.StreamFault.{StreamFault}
use Rattle.ll_push.specs.Answers.{accepts, refuses}
use Rattle.ll_push.specs.Connecting.{HasFailed, TellsUnasked}
use Rattle.ll_push.specs.Exchanges.{AreExchanged, IsExchanged, IsLost, IsUnanswered, LinkValue, bytes_of, text_of}
use Rattle.ll_push.specs.Next.{IsDelivered, IsFirst, IsNothing, IsSent, IsTaken}
use Rattle.ll_push.specs.declared.answer.Answer.{Answer}
use Rattle.ll_push.specs.declared.connection.Sent.{Sent}
use Rattle.ll_push.specs.declared.connection.Sent.TheVariants.{Answered}
use Rattle.ll_push.specs.Publishing.{Ahead, GoesOn, HasGone, HasRefused, HasSent, HasSentUpTo, TargetValue, fault_to_come, led_by, messages_to_come}
use Rattle.ll_push.specs.declared.connection.Delivery.{Delivery}
use Rattle.ll_push.specs.declared.connection.Delivery.TheVariants as delivery
use Rattle.ll_push.specs.declared.publication.Publication.{Publication}
use Rattle.ll_push.proofs.ExchangeLemmas.{exchanged-more, exchanged-none}

-- a text, and then a prefix of what stands after it
pub prefix-on : (base mid after : Option (List ℕ)) (a b whole : List ℕ) → whole ≡ a ++ b → Appends base mid a → AppendsPrefix mid after b → AppendsPrefix base after whole
prefix-on base mid after a b whole e p q =
    (a ++ q.0, q.1, e ∙ ap (λ x. a ++ x) q.2 ∙ sym (append_assoc a q.0 q.1), Appends-trans base mid after a q.0 p q.3)

-- all of a text is a prefix of it
pub prefix-whole : (base after : Option (List ℕ)) (text : List ℕ) → Appends base after text → AppendsPrefix base after text
prefix-whole base after text p = (text, [], sym (append-nil text), p)

-- a text that was answered was sent whole
pub prefix-answered : (before after : LinkValue) (text bytes : List ℕ) (sent : Sent) (answer : Answer) → text ≡ bytes → sent ≡ Answered answer → IsSent before after text sent
    → AppendsPrefix before.written after.written bytes
prefix-answered before after text bytes sent answer e is said =
    let whole = subst (IsSent before after text) is said in
    subst (AppendsPrefix before.written after.written) e (prefix-whole before.written after.written text whole.1.sent)

-- some messages were sent and accepted, and what is still to be sent are those after them
pub record SoFar (t : TargetValue) (before : Publication) (ahead : Ahead) (first : LinkValue) (after : Publication) (left : Option Ahead) (last : LinkValue) (accepted : Bool) (many : ℕ)
    : Type 0 where
  pub sent : List MessageValue
  pub goes : GoesOn t before ahead sent after left
  pub exchanged : AreExchanged sent first last
  pub some : accepted ≡ nat_le 1 (length sent)
  pub are : length sent ≡ many

pub goes-first : (t : TargetValue) (p : Publication) (a : Ahead) (link : LinkValue) (left : Option Ahead) → left ≡ Some a → SoFar t p a link p left link false 0
goes-first t p a link left e = record {
  sent = [];
  goes = record { rest = a; is_left = e; messages = refl; fault = refl; place = refl };
  exchanged = exchanged-none link;
  some = refl;
  are = refl;
}

module _ (t : TargetValue) (p : Publication) (a : Ahead) (first : LinkValue) (s : Publication) (left : Option Ahead) (mid : LinkValue) (accepted : Bool) (n : ℕ)
    (so_far : SoFar t p a first s left mid accepted n) where
  -- some were, and no more
  pub some-sent : AppendsPrefix first.written mid.written (text_of (messages_to_come t p a))
  some-sent = (
    text_of so_far.sent,
    text_of (messages_to_come t s so_far.goes.rest),
    ap text_of so_far.goes.messages ∙ flat_map-append bytes_of so_far.sent (messages_to_come t s so_far.goes.rest),
    so_far.exchanged.sent,
  )

  -- too many were
  pub many-sent : (m : ℕ) → n ≡ m → HasSent m t p a first mid
  many-sent m e = record {
    sent = so_far.sent;
    later = messages_to_come t s so_far.goes.rest;
    all = so_far.goes.messages;
    exchanged = so_far.exchanged;
    are = so_far.are ∙ e;
  }

  -- there are no more
  pub all-sent : (fault : Option StreamFault) → ((rest : Ahead) → left ≡ Some rest → IsNothing t s rest fault) → AreExchanged (messages_to_come t p a) first mid × (fault_to_come p a ≡ fault)
  all-sent fault nothing =
      let none = nothing so_far.goes.rest so_far.goes.is_left in (
        subst (λ l. AreExchanged l first mid)
            (sym (so_far.goes.messages ∙ ap (λ l. so_far.sent ++ l) none.0 ∙ append-nil so_far.sent)) so_far.exchanged,
        so_far.goes.fault ∙ none.1,
      )

  module _ (after : Publication) (left_then : Option Ahead) (o : Option MessageValue) (taken : (rest : Ahead) → left ≡ Some rest → IsTaken t s rest after left_then o) where
    pub message-none : o ≡ None → AreExchanged (messages_to_come t p a) first mid × (fault_to_come p a ≡ None)
    message-none is = all-sent None (λ rest told. subst (IsTaken t s rest after left_then) is (taken rest told))

    module _ (message : MessageValue) (is : o ≡ Some message) where
      one : IsFirst t s so_far.goes.rest after left_then message
      one = subst (IsTaken t s so_far.goes.rest after left_then) is (taken so_far.goes.rest so_far.goes.is_left)

      abbrev next_ones : List MessageValue
      next_ones = messages_to_come t after one.rest

      -- all that was to be sent: what was sent, this message, and what comes after it
      in_all : messages_to_come t p a ≡ so_far.sent ++ message ∷ next_ones
      in_all = so_far.goes.messages ∙ ap (λ l. so_far.sent ++ l) one.messages

      fault_is : fault_to_come p a ≡ fault_to_come after one.rest
      fault_is = so_far.goes.fault ∙ one.fault

      place_is : after.place ≡ fold led_by p.place so_far.sent
      place_is = one.place ∙ so_far.goes.place

      abbrev up_to : HasSentUpTo t p a first
      up_to = record { sent = so_far.sent; message = message; later = next_ones; all = in_all; mid = mid; exchanged = so_far.exchanged }

      module _ (last : LinkValue) where
        -- a prefix of this one was sent
        pub message-cut : AppendsPrefix mid.written last.written message.bytes → AppendsPrefix first.written last.written (text_of (messages_to_come t p a))
        message-cut q =
            prefix-on first.written mid.written last.written (text_of so_far.sent) (message.bytes ++ text_of next_ones) (text_of (messages_to_come t p a))
            (ap text_of in_all ∙ flat_map-append bytes_of so_far.sent (message ∷ next_ones)) so_far.exchanged.sent
            (q.0, q.1 ++ text_of next_ones, ap (λ l. l ++ text_of next_ones) q.2 ∙ append_assoc q.0 q.1 (text_of next_ones), q.3)

        -- it has no answer
        pub message-failed : IsUnanswered TellsUnasked message.bytes mid last → HasFailed t p a first last
        message-failed why = record { at = up_to; unanswered = why }

        -- it was lost
        pub message-kept : (kept : List MessageValue) → kept ≡ message ∷ after.kept → IsLost message.bytes mid last
            → HasGone t p a first (record after { kept = kept }) left_then last accepted
        message-kept kept e lost = record {
          sent = so_far.sent;
          goes = record {
            rest = one.rest;
            is_left = one.is_left;
            messages = in_all ∙ ap (λ k. so_far.sent ++ messages_to_come t (record after { kept = k }) one.rest) (sym e);
            fault = fault_is;
            place = place_is;
          };
          message = message;
          later = after.kept;
          kept = e;
          mid = mid;
          exchanged = so_far.exchanged;
          lost = lost;
          some = so_far.some;
        }

        -- this one was refused
        pub message-refused : (line : List ℕ) → IsExchanged message.bytes line mid last × (refuses line ≡ true) → HasRefused t p a first last line
        message-refused line said = record { at = up_to; last_one = said.0; refuses = said.1 }

        -- it was accepted
        pub message-more : (line : List ℕ) → IsExchanged message.bytes line mid last → accepts line ≡ true
            → SoFar t p a first (record after { place = led_by after.place message }) left_then last true (n + 1)
        message-more line answered ok = record {
          sent = so_far.sent ++ message ∷ [];
          goes = record {
            rest = one.rest;
            is_left = one.is_left;
            messages = in_all ∙ sym (append_assoc so_far.sent (message ∷ []) next_ones);
            fault = fault_is;
            place = ap (λ place. led_by place message) place_is ∙ sym (fold-append led_by p.place so_far.sent (message ∷ []));
          };
          exchanged = exchanged-more so_far.sent message line first mid last so_far.exchanged answered ok;
          some = sym (some-by (length (so_far.sent ++ message ∷ [])) (length-append so_far.sent (message ∷ [])));
          are = length-append so_far.sent (message ∷ []) ∙ ap (λ k. k + 1) so_far.are;
        }
          where
            some-by : (m : ℕ) → m ≡ length so_far.sent + 1 → nat_le 1 m ≡ true
            some-by m h = grind (arith, nat_tests)

        -- by the answer that was read
        pub delivered : (d : Delivery) → IsDelivered message.bytes mid last d → (unkept : Bool) → d ≡ delivery.Accepted unkept
            → SoFar t p a first (record after { place = led_by after.place message }) left_then last true (n + 1)
        delivered d said unkept e = let ok = subst (IsDelivered message.bytes mid last) e said in message-more ok.0 ok.1 ok.2
