-- How one connection goes: the origin is asked where the rendition stands, and publishing goes on there.
use Rattle.std.specs.Prelude.{◌≡◌, ℕ, true, false, List, ◌∷◌, Option, Some, None}
use Rattle.ll_announce.specs.Messages.{MessageValue, question}
use Rattle.ll_announce.specs.Places.{led}
use Rattle.ll_announce.specs.Standings.{standing}
use Rattle.ll_announce.specs.declared.place.Place.{Place}
use Rattle.ll_announce.specs.declared.standing.Standing.{Standing}
use Rattle.ll_push.specs.Answers.{accepts, refuses}
use Rattle.ll_push.specs.Exchanges.{AreExchanged, IsExchanged, IsLost, IsUnanswered, LinkValue}
use Rattle.ll_push.specs.Faults.{most}
use Rattle.ll_push.specs.Publishing.{Ahead, HasSent, HasSentUpTo, IsStep, TargetValue, at_start, fault_to_come, messages_to_come}
use Rattle.ll_push.specs.declared.fault.PushFault.{PushFault}
use Rattle.ll_push.specs.declared.fault.PushFault.TheVariants as fault
use Rattle.ll_push.specs.declared.publication.Publication.{Publication}
use Rattle.ll_push.specs.declared.publication.Step.{Step}
use Rattle.ll_push.specs.declared.publication.Step.TheVariants.{Refused, Gone}

-- What is still to be sent if the rendition's next part stands at `place`: all that isn't known to be accepted; or, if its first message
-- leads to `place`, what comes after that message. A message that moves no place, a section or a break, is sent again.
pub data IsResumed (p : Publication) (place : Place) : Publication → Type 0 where
  Here : p.place ≡ place → IsResumed p place p
  Accepted : (p.place ≡ place → ⊥) → (message : MessageValue) (later : List MessageValue) → p.kept ≡ message ∷ later → led p.place message.said ≡ place
      → IsResumed p place (record p { place = place; kept = later })

-- `place` is neither of these
pub record IsElsewhere (p : Publication) (place : Place) : Type 0 where
  pub not_here : p.place ≡ place → ⊥
  pub not_after : (message : MessageValue) (later : List MessageValue) → p.kept ≡ message ∷ later → led p.place message.said ≡ place → ⊥

-- what is to be sent if the rendition stands at `s`: on the first connection everything
abbrev pub IsPlaced : TargetValue → Option Publication → Standing → Publication → Type 0
IsPlaced t None s p = p ≡ at_start t s
IsPlaced t (Some before) s p = IsResumed before s.place p

abbrev pub IsPlacedSo : TargetValue → Option Publication → Standing → Option Publication → Type 0
IsPlacedSo t before s None = ⊥
IsPlacedSo t before s (Some p) = IsPlaced t before s p

abbrev pub HasMoved : Option Publication → Standing → Type 0
HasMoved None s = ⊥
HasMoved (Some before) s = IsElsewhere before s.place

-- the origin was asked where the rendition stands, and answered `s`
pub record IsAsked (t : TargetValue) (first : LinkValue) (s : Standing) (then : LinkValue) : Type 0 where
  pub line : List ℕ
  pub exchanged : IsExchanged (question t.names) line first then
  pub told : standing.read line ≡ Some s

-- publishing goes on where the rendition stands
pub record IsReady (t : TargetValue) (before : Option Publication) (first : LinkValue) (p : Publication) (then : LinkValue) : Type 0 where
  pub standing : Standing
  pub asked : IsAsked t first standing then
  pub placed : IsPlaced t before standing p

-- How a connection goes: it is lost before the question is answered, the question is refused, or publishing goes on.
pub data IsConnection (t : TargetValue) (before : Option Publication) (ahead : Ahead) (first : LinkValue) : Option Publication → Option Ahead → LinkValue → Step → Type 0 where
  Lost : (left : Option Ahead) (last : LinkValue) → left ≡ Some ahead → IsLost (question t.names) first last → IsConnection t before ahead first before left last (Gone false)
  Unknown : (after : Option Publication) (left : Option Ahead) (last : LinkValue) (line : List ℕ) → IsExchanged (question t.names) line first last → refuses line ≡ true
      → IsConnection t before ahead first after left last (Refused line)
  Went : (p q : Publication) (then : LinkValue) (left : Option Ahead) (last : LinkValue) (step : Step) → IsReady t before first p then → IsStep t p ahead then q left last step
      → IsConnection t before ahead first (Some q) left last step

-- a line that accepts, though no item was sent
abbrev pub AcceptsNothing : List ℕ → Type 0
AcceptsNothing line = accepts line ≡ true

-- a line that says where the rendition stands, though that wasn't asked
abbrev pub TellsUnasked : List ℕ → Type 0
TellsUnasked line = (s : Standing) × (standing.read line ≡ Some s)

-- Some messages were sent and accepted, and then one got no answer.
pub record HasFailed (t : TargetValue) (before : Publication) (ahead : Ahead) (first last : LinkValue) : Type 0 where
  pub at : HasSentUpTo t before ahead first
  pub unanswered : IsUnanswered TellsUnasked at.message.bytes at.mid last

-- Why publishing ends on a connection: the question or a message got no answer; the rendition stands elsewhere; or all messages before the
-- fault of the encoder's bytes were sent and accepted.
pub data IsBroken (t : TargetValue) (before : Option Publication) (ahead : Ahead) (first last : LinkValue) : PushFault → Type 0 where
  Unasked : IsUnanswered AcceptsNothing (question t.names) first last → IsBroken t before ahead first last fault.BadAnswer
  Moved : (s : Standing) → IsAsked t first s last → HasMoved before s → IsBroken t before ahead first last fault.Elsewhere
  Unanswered : (p : Publication) (then : LinkValue) → IsReady t before first p then → HasFailed t p ahead then last → IsBroken t before ahead first last fault.BadAnswer
  BadInput : (p : Publication) (then : LinkValue) → IsReady t before first p then → AreExchanged (messages_to_come t p ahead) then last → (why : _)
      → fault_to_come p ahead ≡ Some why → IsBroken t before ahead first last (fault.Input why)

-- 2^64 - 1 messages were sent on the connection and accepted
pub record IsEndless (t : TargetValue) (before : Option Publication) (ahead : Ahead) (first last : LinkValue) : Type 0 where
  pub publication : Publication
  pub then : LinkValue
  pub ready : IsReady t before first publication then
  pub sent : HasSent most t publication ahead then last
