-- Messages that are given, one after another.
use Rattle.std.proofs.Common.{◌≡◌, ℕ, ◌+◌, Bool, true, false, List, [], ◌∷◌, ◌++◌, Option, Some, None, refl, ap, sym, subst, ◌∙◌, append_assoc, append-nil, length, length-append}
use Rattle.ll_announce.specs.Messages.{MessageValue}
use Rattle.ll_mp4.specs.declared.fault.StreamFault.{StreamFault}
use Rattle.ll_push.specs.Faults.{most}
use Rattle.ll_push.specs.Next.{IsFirst, IsNothing, IsTaken}
use Rattle.ll_push.specs.Publishing.{Ahead, TargetValue, fault_to_come, messages_to_come}
use Rattle.ll_push.specs.declared.publication.Publication.{Publication}
use Rattle.ll_pair.specs.Feeding.{HasGivenAll, HasGivenMost, HasGivenSome, IsGivenSo}

-- some messages were given, and those after them are still to be given
pub record Fed_so_far (t : TargetValue) (p : Publication) (ahead : Ahead) (before : List MessageValue) (q : Publication) (left : Option Ahead) (given : Option (List MessageValue)) (many : ℕ)
    : Type 0 where
  pub sent : List MessageValue
  pub rest : Ahead
  pub is_left : left ≡ Some rest
  pub messages : messages_to_come t p ahead ≡ sent ++ messages_to_come t q rest
  pub fault : fault_to_come p ahead ≡ fault_to_come q rest
  pub is_given : given ≡ Some (before ++ sent)
  pub are : length sent ≡ many

pub none-given : (t : TargetValue) (p : Publication) (ahead : Ahead) (before : List MessageValue) (left : Option Ahead) (given : Option (List MessageValue)) → left ≡ Some ahead → given ≡ Some before
    → Fed_so_far t p ahead before p left given 0
none-given t p ahead before left given e is = record {
  sent = [];
  rest = ahead;
  is_left = e;
  messages = refl;
  fault = refl;
  is_given = is ∙ ap Some (sym (append-nil before));
  are = refl;
}

module _ (t : TargetValue) (p : Publication) (ahead : Ahead) (before : List MessageValue) (q : Publication) (left : Option Ahead) (given : Option (List MessageValue)) (n : ℕ)
    (so_far : Fed_so_far t p ahead before q left given n) where
  -- too many were
  pub most-given : n ≡ most → HasGivenMost t p ahead before given
  most-given e = record {
    some = record { sent = so_far.sent; later = messages_to_come t q so_far.rest; all = so_far.messages; given = so_far.is_given };
    are = so_far.are ∙ e;
  }

  -- there are no more
  pub all-given : (fault : Option StreamFault) → ((rest : Ahead) → left ≡ Some rest → IsNothing t q rest fault) → HasGivenAll t p ahead before given fault
  all-given fault nothing =
      let none = nothing so_far.rest so_far.is_left in (
        so_far.is_given ∙ ap (λ l. Some (before ++ l)) (sym (so_far.messages ∙ ap (λ l. so_far.sent ++ l) none.0 ∙ append-nil so_far.sent)),
        so_far.fault ∙ none.1,
      )

  module _ (after : Publication) (left_then : Option Ahead) (o : Option MessageValue) (taken : (rest : Ahead) → left ≡ Some rest → IsTaken t q rest after left_then o) where
    pub given-none : o ≡ None → HasGivenAll t p ahead before given None
    given-none is = all-given None (λ rest told. subst (IsTaken t q rest after left_then) is (taken rest told))

    module _ (message : MessageValue) (is : o ≡ Some message) (then : Option (List MessageValue)) (found : Bool) (so : IsGivenSo message given then found) where
      one : IsFirst t q so_far.rest after left_then message
      one = subst (IsTaken t q so_far.rest after left_then) is (taken so_far.rest so_far.is_left)

      -- all are left
      pub given-left : found ≡ false → HasGivenSome t p ahead before then
      given-left e = record {
        sent = so_far.sent;
        later = messages_to_come t q so_far.rest;
        all = so_far.messages;
        given = subst (λ g. IsGivenSo message g then false) so_far.is_given (subst (IsGivenSo message given then) e so);
      }

      -- one more was given
      pub given-more : found ≡ true → Fed_so_far t p ahead before after left_then then (n + 1)
      given-more e = record {
        sent = so_far.sent ++ message ∷ [];
        rest = one.rest;
        is_left = one.is_left;
        messages = so_far.messages ∙ ap (λ l. so_far.sent ++ l) one.messages ∙ sym (append_assoc so_far.sent (message ∷ []) (messages_to_come t after one.rest));
        fault = so_far.fault ∙ one.fault;
        is_given =
            subst (λ g. IsGivenSo message g then true) so_far.is_given (subst (IsGivenSo message given then) e so)
            ∙ ap Some (append_assoc before so_far.sent (message ∷ []));
        are = length-append so_far.sent (message ∷ []) ∙ ap (λ k. k + 1) so_far.are;
      }
