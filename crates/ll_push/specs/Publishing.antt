-- The messages of an encoder's bytes that are still to be sent, and how they are sent on a connection.
use Rattle.std.specs.Prelude.{◌≡◌, ℕ, Bool, true, List, [], ◌∷◌, ◌++◌, Option, Some, None, fold, length, nat_le}
use Rattle.ll_announce.specs.Courses.{course_of, messages}
use Rattle.ll_announce.specs.Messages.{MessageValue, Names}
use Rattle.ll_announce.specs.Places.{led}
use Rattle.ll_announce.specs.declared.place.Place.{Place}
use Rattle.ll_announce.specs.declared.standing.Standing.{Standing}
use Rattle.ll_mp4.specs.declared.fault.StreamFault.{StreamFault}
use Rattle.ll_parts.specs.Stream.{begun_cutter, to_come}
use Rattle.ll_runs.specs.declared.lengths.Lengths.{Lengths}
use Rattle.ll_push.specs.Answers.{refuses}
use Rattle.ll_push.specs.Exchanges.{AreExchanged, IsExchanged, IsLost, LinkValue}
use Rattle.ll_push.specs.declared.publication.Publication.{Publication}
use Rattle.ll_push.specs.declared.publication.Step.{Step}
use Rattle.ll_push.specs.declared.publication.Step.TheVariants.{Whole, Refused, Gone}

-- where and how an encoder's output is published
pub record TargetValue : Type 0 where
  pub names : Names
  pub lengths : Lengths
  pub ends : Bool

-- what is still to come: bytes of the encoder, and readings of the clock
pub record Ahead : Type 0 where
  pub input : List ℕ
  pub readings : List ℕ

-- the same, if both are known
abbrev pub told_ahead : Option (List ℕ) → Option (List ℕ) → Option Ahead
told_ahead (Some input) (Some readings) = Some (record { input = input; readings = readings })
told_ahead (Some input) None = None
told_ahead None readings = None

-- the publication at the start, of a rendition that stands at `s`
abbrev pub at_start : TargetValue → Standing → Publication
at_start t s = record { place = s.place; course = course_of s; kept = []; cutter = begun_cutter t.lengths s.place.end; ends = t.ends }

-- the messages that are still to be sent: those that are kept, and those of what is still to come
abbrev pub messages_to_come : TargetValue → Publication → Ahead → List MessageValue
messages_to_come t p a = p.kept ++ messages t.names t.lengths.part p.ends p.course a.readings (to_come p.cutter a.input)

-- the fault that ends them, if one does
abbrev pub fault_to_come : Publication → Ahead → Option StreamFault
fault_to_come p a = (to_come p.cutter a.input).fault

-- the place after a message that was accepted
abbrev pub led_by : Place → MessageValue → Place
led_by place message = led place message.said

-- the messages `sent` were accepted, and those after them are still to be sent
pub record GoesOn (t : TargetValue) (before : Publication) (ahead : Ahead) (sent : List MessageValue) (after : Publication) (left : Option Ahead) : Type 0 where
  pub rest : Ahead
  pub is_left : left ≡ Some rest
  pub messages : messages_to_come t before ahead ≡ sent ++ messages_to_come t after rest
  pub fault : fault_to_come before ahead ≡ fault_to_come after rest
  pub place : after.place ≡ fold led_by before.place sent

-- Some messages were sent and accepted, up to one.
pub record HasSentUpTo (t : TargetValue) (before : Publication) (ahead : Ahead) (first : LinkValue) : Type 0 where
  pub sent : List MessageValue
  pub message : MessageValue
  pub later : List MessageValue
  pub all : messages_to_come t before ahead ≡ sent ++ message ∷ later
  pub mid : LinkValue
  pub exchanged : AreExchanged sent first mid

-- Some messages were sent and accepted. Then the connection was lost, before the next one was sent, amid it, or before its answer: that
-- message and those after it are still to be sent.
pub record HasGone (t : TargetValue) (before : Publication) (ahead : Ahead) (first : LinkValue) (after : Publication) (left : Option Ahead) (last : LinkValue) (accepted : Bool)
    : Type 0 where
  pub sent : List MessageValue
  pub goes : GoesOn t before ahead sent after left
  pub message : MessageValue
  pub later : List MessageValue
  pub kept : after.kept ≡ message ∷ later
  pub mid : LinkValue
  pub exchanged : AreExchanged sent first mid
  pub lost : IsLost message.bytes mid last
  pub some : accepted ≡ nat_le 1 (length sent)

-- Some messages were sent and accepted, and then one was answered by `line`, which refuses it.
pub record HasRefused (t : TargetValue) (before : Publication) (ahead : Ahead) (first last : LinkValue) (line : List ℕ) : Type 0 where
  pub at : HasSentUpTo t before ahead first
  pub last_one : IsExchanged at.message.bytes line at.mid last
  pub refuses : refuses line ≡ true

-- `many` messages were sent and accepted.
pub record HasSent (many : ℕ) (t : TargetValue) (before : Publication) (ahead : Ahead) (first last : LinkValue) : Type 0 where
  pub sent : List MessageValue
  pub later : List MessageValue
  pub all : messages_to_come t before ahead ≡ sent ++ later
  pub exchanged : AreExchanged sent first last
  pub are : length sent ≡ many

-- How far publishing went on a connection. All messages were sent and accepted, and no fault ends them; or those before one that was
-- refused; or those before the one at which the connection was lost.
abbrev pub IsStep : TargetValue → Publication → Ahead → LinkValue → Publication → Option Ahead → LinkValue → Step → Type 0
IsStep t before ahead first after left last Whole = AreExchanged (messages_to_come t before ahead) first last × (fault_to_come before ahead ≡ None)
IsStep t before ahead first after left last (Refused line) = HasRefused t before ahead first last line
IsStep t before ahead first after left last (Gone accepted) = HasGone t before ahead first after left last accepted
