-- The next message that is to be sent, and the result of sending one.
use Rattle.std.specs.Prelude.{◌≡◌, ◌⊎◌, ℕ, List, [], ◌∷◌, ◌++◌, Bool, true, false, Option, Some, None, ⊤}
use Rattle.std.specs.Io.KnownBytes.{Consumes, IsAtEnd, Keeps}
use Rattle.ll_announce.specs.Courses.{course_then, first_of, later_readings, spoken}
use Rattle.ll_announce.specs.Messages.{MessageValue, end_message}
use Rattle.ll_mp4.specs.declared.fault.StreamFault.{StreamFault}
use Rattle.ll_parts.specs.Stream.{CutterValue, Outcome, advanced_cutter, closed, to_come, with_bytes, with_piece}
use Rattle.ll_parts.specs.declared.pieces.Piece.{Piece}
use Rattle.ll_announce.specs.Standings.{standing}
use Rattle.ll_push.specs.Answers.{IsSaid, accepts, is_not_kept, refuses}
use Rattle.ll_push.specs.Exchanges.{IsExchanged, IsLost, LinkValue}
use Rattle.ll_push.specs.Publishing.{Ahead, TargetValue, fault_to_come, messages_to_come}
use Rattle.ll_push.specs.declared.answer.Answer.{Answer}
use Rattle.ll_push.specs.declared.connection.StandingAnswer.{StandingAnswer}
use Rattle.ll_push.specs.declared.connection.StandingAnswer.TheVariants as asked
use Rattle.ll_push.specs.declared.connection.Delivery.{Delivery}
use Rattle.ll_push.specs.declared.connection.Delivery.TheVariants as delivery
use Rattle.ll_push.specs.declared.connection.Sent.{Sent}
use Rattle.ll_push.specs.declared.connection.Sent.TheVariants.{Answered, Lost}
use Rattle.ll_push.specs.declared.fault.PushFault.{PushFault}
use Rattle.ll_push.specs.declared.fault.PushFault.TheVariants.{Input, Memory, BadAnswer}
use Rattle.ll_push.specs.declared.publication.Publication.{Publication}

-- ---- pieces that are there, or that the bytes read so far give

-- the fault was met in the encoder's bytes; or out of memory
abbrev pub IsUnitFault : CutterValue → PushFault → Type 0
IsUnitFault c (Input fault) = (c.progress.fault ≡ Some fault) × (c.is_over ≡ true)
IsUnitFault c Memory = ⊤
IsUnitFault c other = ⊥

abbrev pub with_fault : StreamFault → Outcome
with_fault fault = record { pieces = []; fault = Some fault }

-- only this fault is to come, whatever the input; or out of memory
abbrev pub IsPieceFault : CutterValue → PushFault → Type 0
IsPieceFault c (Input fault) = (input : List ℕ) → to_come c input ≡ with_fault fault
IsPieceFault c Memory = ⊤
IsPieceFault c other = ⊥

-- no piece is there, and the bytes read so far give none
abbrev pub IsEmpty : CutterValue → Type 0
IsEmpty c = (c.progress.pieces ≡ []) × (c.progress.fault ≡ None) × (advanced_cutter c ≡ (false, c))

-- the first piece of those to come, or none if more bytes are needed
abbrev pub IsFront : CutterValue → CutterValue → Option Piece → Type 0
IsFront c after (Some piece) = (input : List ℕ) → to_come c input ≡ with_piece piece (to_come after input)
IsFront c after None = ((input : List ℕ) → to_come c input ≡ to_come after input) × IsEmpty after

-- ---- messages, and the fault that ends them

-- the messages to be sent are those that were to be sent before, and none was accepted meanwhile
pub record IsSame (t : TargetValue) (before : Publication) (ahead : Ahead) (after : Publication) (left : Option Ahead) : Type 0 where
  pub rest : Ahead
  pub is_left : left ≡ Some rest
  pub messages : messages_to_come t before ahead ≡ messages_to_come t after rest
  pub fault : fault_to_come before ahead ≡ fault_to_come after rest
  pub place : after.place ≡ before.place

-- the message is the first of those that are to be sent
pub record IsFirst (t : TargetValue) (before : Publication) (ahead : Ahead) (after : Publication) (left : Option Ahead) (message : MessageValue) : Type 0 where
  pub rest : Ahead
  pub is_left : left ≡ Some rest
  pub messages : messages_to_come t before ahead ≡ message ∷ messages_to_come t after rest
  pub fault : fault_to_come before ahead ≡ fault_to_come after rest
  pub place : after.place ≡ before.place

-- no message is kept, and the bytes read so far give none
abbrev pub HasNone : Publication → Type 0
HasNone p = (p.kept ≡ []) × IsEmpty p.cutter

-- the next message, or none if more bytes are needed
abbrev pub IsReadily : TargetValue → Publication → Ahead → Publication → Option Ahead → Option MessageValue → Type 0
IsReadily t before ahead after left (Some message) = IsFirst t before ahead after left message
IsReadily t before ahead after left None = IsSame t before ahead after left × HasNone after

-- no message is to be sent, and `fault` says whether one ends the stream
abbrev pub IsNothing : TargetValue → Publication → Ahead → Option StreamFault → Type 0
IsNothing t before ahead fault = (messages_to_come t before ahead ≡ []) × (fault_to_come before ahead ≡ fault)

-- the next message, or none if no more are to be sent
abbrev pub IsTaken : TargetValue → Publication → Ahead → Publication → Option Ahead → Option MessageValue → Type 0
IsTaken t before ahead after left (Some message) = IsFirst t before ahead after left message
IsTaken t before ahead after left None = IsNothing t before ahead None

-- the publication with the messages of a piece, which is announced at the time `now`
abbrev pub announced : TargetValue → Publication → ℕ → Piece → Publication
announced t p now piece =
    record p {
      course = course_then p.course (spoken t.names t.lengths.part p.course now piece) piece;
      kept = p.kept ++ spoken t.names t.lengths.part p.course now piece;
    }

-- the messages of a piece were added to those that are kept, by the next reading of the clock if the piece needs one
pub record IsAnnounced (t : TargetValue) (piece : Piece) (before : Publication) (coming : Option (List ℕ)) (after : Publication) (coming_then : Option (List ℕ)) : Type 0 where
  pub now : ℕ
  pub is : after ≡ announced t before now piece
  pub read : (readings : List ℕ) → coming ≡ Some readings → (coming_then ≡ Some (later_readings piece readings)) × (after ≡ announced t before (first_of readings) piece)

-- the message of the end, if it is to be sent
abbrev pub IsLast : TargetValue → Publication → Publication → Option MessageValue → Type 0
IsLast t before after (Some message) = (before.ends ≡ true) × (message ≡ end_message t.names) × (after ≡ record before { ends = false })
IsLast t before after None = (before.ends ≡ false) × (after ≡ before)

-- some bytes were read and passed to the cutter, or the end was
abbrev pub IsFed : CutterValue → Option (List ℕ) → CutterValue → Option (List ℕ) → Type 0
IsFed before left after left_then =
    ((bytes : List ℕ) × Consumes left left_then bytes × (after ≡ with_bytes before bytes)) ⊎ (Keeps left left_then × IsAtEnd left_then × (after ≡ closed before))

-- ---- the result of sending a text

-- the text was sent and answered, or the connection was lost
abbrev pub IsSent : LinkValue → LinkValue → List ℕ → Sent → Type 0
IsSent before after text (Answered answer) = (line : List ℕ) × IsExchanged text line before after × IsSaid line answer
IsSent before after text Lost = IsLost text before after

-- the answer says where the rendition stands, or refuses, or the connection was lost
abbrev pub IsAskedSo : List ℕ → LinkValue → LinkValue → StandingAnswer → Type 0
IsAskedSo text before after (asked.Standing s) = (line : List ℕ) × IsExchanged text line before after × (standing.read line ≡ Some s)
IsAskedSo text before after (asked.Refused line) = IsExchanged text line before after × (refuses line ≡ true)
IsAskedSo text before after asked.Lost = IsLost text before after

-- the text was accepted, and `unkept` if it couldn't be kept on disk; or it was refused, or the connection was lost
abbrev pub IsDelivered : List ℕ → LinkValue → LinkValue → Delivery → Type 0
IsDelivered text before after (delivery.Accepted unkept) = (line : List ℕ) × IsExchanged text line before after × (accepts line ≡ true) × (unkept ≡ is_not_kept line)
IsDelivered text before after (delivery.Refused line) = IsExchanged text line before after × (refuses line ≡ true)
IsDelivered text before after delivery.Lost = IsLost text before after

-- what came isn't an answer; or out of memory
abbrev pub IsOwn : PushFault → Type 0
IsOwn BadAnswer = ⊤
IsOwn Memory = ⊤
IsOwn other = ⊥
