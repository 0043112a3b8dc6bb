-- Messages on a connection, one after another.
use Rattle.std.proofs.Common.{◌≡◌, ℕ, ◌+◌, Bool, true, false, List, [], ◌∷◌, ◌++◌, Option, Some, refl, ap, sym, subst, ◌∙◌, append_assoc, fold, length, length-append, nat_le, arith}
use Rattle.std.proofs.lemmas.Bool.Decides.{nat_tests}
use Rattle.std.proofs.lemmas.List.Sums.{fold-append}
use Rattle.ll_announce.specs.Messages.{MessageValue}
use Rattle.ll_announce.specs.Places.{led}
use Rattle.ll_push.specs.Connecting.{TellsUnasked}
use Rattle.ll_push.specs.Exchanges.{AreExchanged, IsUnanswered, LinkValue}
use Rattle.ll_push.specs.Faults.{most}
use Rattle.ll_push.specs.Next.{IsDelivered}
use Rattle.ll_push.specs.Publishing.{led_by}
use Rattle.ll_push.specs.declared.connection.Delivery.{Delivery}
use Rattle.ll_push.specs.declared.connection.Delivery.TheVariants as delivery
use Rattle.ll_push.proofs.ExchangeLemmas.{exchanged-more, exchanged-none}
use Rattle.ll_pair.specs.Carrying.{HasFailed, HasSentMost, IsStep}
use Rattle.ll_pair.specs.Coming.{IsFirst, IsFirstOf, IsKept, IsLetGo}
use Rattle.ll_pair.specs.declared.coming.First.{First}
use Rattle.ll_pair.specs.declared.coming.First.TheVariants as first
use Rattle.ll_pair.specs.declared.progress.Progress.{Progress}
use Rattle.ll_pair.specs.declared.progress.Step.TheVariants.{Whole, Refused, Left, Gone}

-- what stays
pub kept-by : (left new : Option (List MessageValue)) (rest : List MessageValue) → left ≡ Some rest → IsKept left new → new ≡ Some rest
kept-by left new rest e kept = subst (λ l. IsKept l new) e kept

-- what comes first
pub first-by : (left : Option (List MessageValue)) (rest : List MessageValue) (x y : First) → left ≡ Some rest → IsFirst left x → x ≡ y → IsFirst (Some rest) y
first-by left rest x y e told is = subst (IsFirst (Some rest)) is (subst (λ l. IsFirst l x) e told)

-- what is left once the first was let go of
pub let-go-by : (new newer : Option (List MessageValue)) (message : MessageValue) (later : List MessageValue) → new ≡ Some (message ∷ later) → IsLetGo new newer → newer ≡ Some later
let-go-by new newer message later e gone = subst (λ l. IsLetGo l newer) e gone

-- some messages were sent and accepted, and those after them are left
pub record SoFar (p : Progress) (messages : List MessageValue) (first : LinkValue) (q : Progress) (left : Option (List MessageValue)) (last : LinkValue) (accepted : Bool) (many : ℕ)
    : Type 0 where
  pub sent : List MessageValue
  pub rest : List MessageValue
  pub is_left : left ≡ Some rest
  pub all : messages ≡ sent ++ rest
  pub exchanged : AreExchanged sent first last
  pub place : q.place ≡ fold led_by p.place sent
  pub some : accepted ≡ nat_le 1 (length sent)
  pub are : length sent ≡ many

pub none-sent : (p : Progress) (messages : List MessageValue) (link : LinkValue) (left : Option (List MessageValue)) → left ≡ Some messages → SoFar p messages link p left link false 0
none-sent p messages link left e = record {
  sent = [];
  rest = messages;
  is_left = e;
  all = refl;
  exchanged = exchanged-none link;
  place = refl;
  some = refl;
  are = refl;
}

module _ (p : Progress) (messages : List MessageValue) (begun : LinkValue) (q : Progress) (left : Option (List MessageValue)) (mid : LinkValue) (accepted : Bool) (n : ℕ)
    (so_far : SoFar p messages begun q left mid accepted n) where
  -- too many were
  pub most-sent : n ≡ most → HasSentMost messages begun mid
  most-sent e = record { sent = so_far.sent; rest = so_far.rest; all = so_far.all; exchanged = so_far.exchanged; are = so_far.are ∙ e }

  module _ (new : Option (List MessageValue)) (kept : IsKept left new) (x : First) (told : IsFirst left x) where
    stays : new ≡ Some so_far.rest
    stays = kept-by left new so_far.rest so_far.is_left kept

    -- no more come
    pub at-end : x ≡ first.End → IsStep p messages begun q new mid Whole
    at-end is = record {
      sent = so_far.sent;
      rest = so_far.rest;
      is_left = stays;
      all = so_far.all;
      mid = mid;
      exchanged = so_far.exchanged;
      place = so_far.place;
      then = (first-by left so_far.rest x first.End so_far.is_left told is, refl);
    }

    -- the origin is left
    pub at-left : IsStep p messages begun q new mid Left
    at-left = record {
      sent = so_far.sent;
      rest = so_far.rest;
      is_left = stays;
      all = so_far.all;
      mid = mid;
      exchanged = so_far.exchanged;
      place = so_far.place;
      then = refl;
    }

    module _ (message : MessageValue) (is : x ≡ first.Message message) where
      one : IsFirstOf so_far.rest message
      one = first-by left so_far.rest x (first.Message message) so_far.is_left told is

      in_all : messages ≡ so_far.sent ++ message ∷ one.0
      in_all = so_far.all ∙ ap (λ l. so_far.sent ++ l) one.1

      module _ (last : LinkValue) (d : Delivery) (said : IsDelivered message.bytes mid last d) where
        -- it was refused
        pub one-refused : (line : List ℕ) → d ≡ delivery.Refused line → IsStep p messages begun q new last (Refused line)
        one-refused line e =
            let no = subst (IsDelivered message.bytes mid last) e said in
            record {
              sent = so_far.sent;
              rest = so_far.rest;
              is_left = stays;
              all = so_far.all;
              mid = mid;
              exchanged = so_far.exchanged;
              place = so_far.place;
              then = (message, one.0, one.1, no.0, no.1);
            }

        -- the connection was lost
        pub one-lost : d ≡ delivery.Lost → IsStep p messages begun (record { place = q.place; tried = true }) new last (Gone accepted)
        one-lost e = record {
          sent = so_far.sent;
          rest = so_far.rest;
          is_left = stays;
          all = so_far.all;
          mid = mid;
          exchanged = so_far.exchanged;
          place = so_far.place;
          then = (message, one.0, one.1, subst (IsDelivered message.bytes mid last) e said, refl, so_far.some);
        }

        -- it was accepted, and let go of
        pub one-more : (unkept : Bool) → d ≡ delivery.Accepted unkept → (newer : Option (List MessageValue)) → IsLetGo new newer
            → SoFar p messages begun (record { place = led q.place message.said; tried = false }) newer last true (n + 1)
        one-more unkept e newer gone =
            let ok = subst (IsDelivered message.bytes mid last) e said in
            record {
              sent = so_far.sent ++ message ∷ [];
              rest = one.0;
              is_left = let-go-by new newer message one.0 (stays ∙ ap Some one.1) gone;
              all = in_all ∙ sym (append_assoc so_far.sent (message ∷ []) one.0);
              exchanged = exchanged-more so_far.sent message ok.0 begun mid last so_far.exchanged ok.1 ok.2;
              place = ap (λ place. led_by place message) so_far.place ∙ sym (fold-append led_by p.place so_far.sent (message ∷ []));
              some = sym (some-by (length (so_far.sent ++ message ∷ [])) (length-append so_far.sent (message ∷ [])));
              are = length-append so_far.sent (message ∷ []) ∙ ap (λ k. k + 1) so_far.are;
            }
          where
            some-by : (m : ℕ) → m ≡ length so_far.sent + 1 → nat_le 1 m ≡ true
            some-by m h = grind (arith, nat_tests)

      -- it got no answer
      pub one-failed : (last : LinkValue) → IsUnanswered TellsUnasked message.bytes mid last → HasFailed messages begun last
      one-failed last why = record {
        sent = so_far.sent;
        message = message;
        later = one.0;
        all = in_all;
        mid = mid;
        exchanged = so_far.exchanged;
        unanswered = why;
      }
