-- The messages of an encoder's bytes that are given to several origins.
use Rattle.std.specs.Prelude.{◌≡◌, ⊤, Bool, true, false, List, [], ◌∷◌, ◌++◌, Option, Some, None, length}
use Rattle.ll_announce.specs.Messages.{MessageValue}
use Rattle.ll_mp4.specs.declared.fault.StreamFault.{StreamFault}
use Rattle.ll_push.specs.Faults.{most}
use Rattle.ll_push.specs.Publishing.{Ahead, TargetValue, fault_to_come, messages_to_come}
use Rattle.ll_push.specs.declared.publication.Publication.{Publication}
use Rattle.ll_pair.specs.declared.feeding.Fed.{Fed}
use Rattle.ll_pair.specs.declared.feeding.Fed.TheVariants.{Whole, Left}

-- known messages get one more as the last
abbrev pub IsGiven : MessageValue → Option (List MessageValue) → Option (List MessageValue) → Type 0
IsGiven message None after = ⊤
IsGiven message (Some before) after = after ≡ Some (before ++ message ∷ [])

-- known messages stay as they are
abbrev pub IsUngiven : Option (List MessageValue) → Option (List MessageValue) → Type 0
IsUngiven None after = ⊤
IsUngiven (Some before) after = after ≡ Some before

abbrev pub IsGivenSo : MessageValue → Option (List MessageValue) → Option (List MessageValue) → Bool → Type 0
IsGivenSo message before after true = IsGiven message before after
IsGivenSo message before after false = IsUngiven before after

-- each origin that isn't left was given all messages that were to be sent, in order, and `fault` says whether one ends them
abbrev pub HasGivenAll : TargetValue → Publication → Ahead → List MessageValue → Option (List MessageValue) → Option StreamFault → Type 0
HasGivenAll t p ahead before after fault = (after ≡ Some (before ++ messages_to_come t p ahead)) × (fault_to_come p ahead ≡ fault)

-- each was given the first of them, before all were left
pub record HasGivenSome (t : TargetValue) (p : Publication) (ahead : Ahead) (before : List MessageValue) (after : Option (List MessageValue)) : Type 0 where
  pub sent : List MessageValue
  pub later : List MessageValue
  pub all : messages_to_come t p ahead ≡ sent ++ later
  pub given : after ≡ Some (before ++ sent)

abbrev pub HasFed : TargetValue → Publication → Ahead → List MessageValue → Option (List MessageValue) → Fed → Type 0
HasFed t p ahead before after Whole = HasGivenAll t p ahead before after None
HasFed t p ahead before after Left = HasGivenSome t p ahead before after

-- 2^64 - 1 were given
pub record HasGivenMost (t : TargetValue) (p : Publication) (ahead : Ahead) (before : List MessageValue) (after : Option (List MessageValue)) : Type 0 where
  pub some : HasGivenSome t p ahead before after
  pub are : length some.sent ≡ most
