-- How the messages that come for an origin are brought to it on one connection.
use Rattle.std.specs.Prelude.{◌≡◌, ⊤, ℕ, Bool, true, false, List, [], ◌∷◌, ◌++◌, Option, Some, fold, length, nat_le}
use Rattle.ll_announce.specs.Messages.{MessageValue, Names, question}
use Rattle.ll_announce.specs.Places.{led}
use Rattle.ll_announce.specs.Standings.{standing}
use Rattle.ll_announce.specs.declared.place.Place.{Place}
use Rattle.ll_announce.specs.declared.standing.Standing.{Standing}
use Rattle.ll_push.specs.Answers.{refuses}
use Rattle.ll_push.specs.Connecting.{AcceptsNothing, TellsUnasked}
use Rattle.ll_push.specs.Exchanges.{AreExchanged, IsExchanged, IsLost, IsUnanswered, LinkValue}
use Rattle.ll_push.specs.Faults.{most}
use Rattle.ll_push.specs.Publishing.{led_by}
use Rattle.ll_push.specs.declared.fault.PushFault.{PushFault}
use Rattle.ll_push.specs.declared.fault.PushFault.TheVariants as fault
use Rattle.ll_pair.specs.declared.progress.Progress.{Progress}
use Rattle.ll_pair.specs.declared.progress.Resumed.{Resumed}
use Rattle.ll_pair.specs.declared.progress.Resumed.TheVariants as resumed
use Rattle.ll_pair.specs.declared.progress.Step.{Step}
use Rattle.ll_pair.specs.declared.progress.Step.TheVariants.{Whole, Refused, Left, Gone}

-- ---- where the messages go on

-- The messages that the origin is found to have accepted, those that are still to be sent, and how far it is, if the rendition's next part
-- stands at `place`: all are to be sent; or, if the first was sent already and leads there, those after it.
pub data IsResumed (p : Progress) (place : Place) : List MessageValue → List MessageValue → List MessageValue → Progress → Type 0 where
  Here : (messages : List MessageValue) → p.place ≡ place → IsResumed p place messages [] messages p
  Accepted : (message : MessageValue) (later : List MessageValue) → (p.place ≡ place → ⊥) → p.tried ≡ true → led p.place message.said ≡ place
      → IsResumed p place (message ∷ later) (message ∷ []) later (record { place = place; tried = false })

-- `place` is neither of these
pub record IsElsewhere (p : Progress) (place : Place) (messages : List MessageValue) : Type 0 where
  pub not_here : p.place ≡ place → ⊥
  pub not_after : (message : MessageValue) (later : List MessageValue) → p.tried ≡ true → messages ≡ message ∷ later → led p.place message.said ≡ place → ⊥

-- they go on at `place`: `known` was accepted, and `left` is still to be sent
pub record HasResumed (p : Progress) (place : Place) (messages : List MessageValue) (q : Progress) (left : Option (List MessageValue)) : Type 0 where
  pub known : List MessageValue
  pub rest : List MessageValue
  pub is_left : left ≡ Some rest
  pub resumed : IsResumed p place messages known rest q

abbrev pub IsResumption : Progress → Place → List MessageValue → Progress → Option (List MessageValue) → Resumed → Type 0
IsResumption p place messages q left resumed.On = HasResumed p place messages q left
IsResumption p place messages q left resumed.Elsewhere = IsElsewhere p place messages
IsResumption p place messages q left resumed.Left = (q ≡ p) × (left ≡ Some messages)

-- ---- messages on a connection

-- What comes after the messages that were accepted: nothing is left; the first of those that are left was refused, or the connection was
-- lost before it was sent, amid it, or before its answer; or the origin is left.
abbrev pub IsThen : Progress → List MessageValue → LinkValue → LinkValue → Bool → Step → Type 0
IsThen q left mid last some Whole = (left ≡ []) × (last ≡ mid)
IsThen q left mid last some (Refused line) = (message : MessageValue) × (later : List MessageValue) × (left ≡ message ∷ later) × IsExchanged message.bytes line mid last × (refuses line ≡ true)
IsThen q left mid last some Left = last ≡ mid
IsThen q left mid last some (Gone accepted) =
    (message : MessageValue) × (later : List MessageValue) × (left ≡ message ∷ later) × IsLost message.bytes mid last × (q.tried ≡ true) × (accepted ≡ some)

-- The first of the messages were sent and accepted, each once and in order, and those after them are left.
pub record IsStep (p : Progress) (messages : List MessageValue) (first : LinkValue) (q : Progress) (left : Option (List MessageValue)) (last : LinkValue) (step : Step) : Type 0 where
  pub sent : List MessageValue
  pub rest : List MessageValue
  pub is_left : left ≡ Some rest
  pub all : messages ≡ sent ++ rest
  pub mid : LinkValue
  pub exchanged : AreExchanged sent first mid
  pub place : q.place ≡ fold led_by p.place sent
  pub then : IsThen q rest mid last (nat_le 1 (length sent)) step

-- some messages were sent and accepted, and then one got no answer
pub record HasFailed (messages : List MessageValue) (first last : LinkValue) : Type 0 where
  pub sent : List MessageValue
  pub message : MessageValue
  pub later : List MessageValue
  pub all : messages ≡ sent ++ message ∷ later
  pub mid : LinkValue
  pub exchanged : AreExchanged sent first mid
  pub unanswered : IsUnanswered TellsUnasked message.bytes mid last

-- 2^64 - 1 messages were sent and accepted
pub record HasSentMost (messages : List MessageValue) (first last : LinkValue) : Type 0 where
  pub sent : List MessageValue
  pub rest : List MessageValue
  pub all : messages ≡ sent ++ rest
  pub exchanged : AreExchanged sent first last
  pub are : length sent ≡ most

-- ---- a whole connection

-- the origin was asked where the rendition stands, and answered `s`
pub record IsAsked (names : Names) (first : LinkValue) (s : Standing) (then : LinkValue) : Type 0 where
  pub line : List ℕ
  pub exchanged : IsExchanged (question names) line first then
  pub told : standing.read line ≡ Some s

-- the messages go on where the rendition stands
pub record IsReady (names : Names) (p : Progress) (messages : List MessageValue) (first : LinkValue) (known rest : List MessageValue) (r : Progress) (then : LinkValue) : Type 0 where
  pub standing : Standing
  pub asked : IsAsked names first standing then
  pub resumed : IsResumed p standing.place messages known rest r

-- How a connection goes: it is lost before the question is answered, the question is refused, the origin is left, or the messages go on.
pub data IsConnection (names : Names) (p : Progress) (messages : List MessageValue) (first : LinkValue) : Progress → Option (List MessageValue) → LinkValue → Step → Type 0 where
  Lost : (left : Option (List MessageValue)) (last : LinkValue) → left ≡ Some messages → IsLost (question names) first last → IsConnection names p messages first p left last (Gone false)
  Unknown : (left : Option (List MessageValue)) (last : LinkValue) (line : List ℕ) → left ≡ Some messages → IsExchanged (question names) line first last → refuses line ≡ true
      → IsConnection names p messages first p left last (Refused line)
  Unresumed : (s : Standing) (left : Option (List MessageValue)) (last : LinkValue) → left ≡ Some messages → IsAsked names first s last → IsConnection names p messages first p left last Left
  Went : (known rest : List MessageValue) (r q : Progress) (then : LinkValue) (left : Option (List MessageValue)) (last : LinkValue) (step : Step)
      → IsReady names p messages first known rest r then → IsStep r rest then q left last step → IsConnection names p messages first q left last step

-- the messages that the origin has accepted by a connection: the one that it is found to have, and those that were sent and accepted
abbrev pub accepted_on : {names : Names} {p : Progress} {messages : List MessageValue} {first : LinkValue} {q : Progress} {left : Option (List MessageValue)} {last : LinkValue} {step : Step}
    → IsConnection names p messages first q left last step → List MessageValue
accepted_on (Lost left last told lost) = []
accepted_on (Unknown left last line told answered refused) = []
accepted_on (Unresumed s left last told asked) = []
accepted_on (Went known rest r q then left last step ready went) = known ++ went.sent

-- a fault that contracts explain by what was sent on the last connection, and by what came
abbrev pub IsConnectionFault : PushFault → Type 0
IsConnectionFault fault.Elsewhere = ⊤
IsConnectionFault fault.BadAnswer = ⊤
IsConnectionFault other = ⊥

-- Why nothing more is sent: the question or a message got no answer, or the rendition stands elsewhere.
pub data IsBroken (names : Names) (p : Progress) (messages : List MessageValue) (first last : LinkValue) : PushFault → Type 0 where
  Unasked : IsUnanswered AcceptsNothing (question names) first last → IsBroken names p messages first last fault.BadAnswer
  Moved : (s : Standing) → IsAsked names first s last → IsElsewhere p s.place messages → IsBroken names p messages first last fault.Elsewhere
  Unanswered : (known rest : List MessageValue) (r : Progress) (then : LinkValue) → IsReady names p messages first known rest r then → HasFailed rest then last
      → IsBroken names p messages first last fault.BadAnswer

-- 2^64 - 1 messages were sent and accepted on the connection
pub record IsEndless (names : Names) (p : Progress) (messages : List MessageValue) (first last : LinkValue) : Type 0 where
  pub known : List MessageValue
  pub rest : List MessageValue
  pub progress : Progress
  pub then : LinkValue
  pub ready : IsReady names p messages first known rest progress then
  pub sent : HasSentMost rest then last

-- a line that is told as a refusal is one
abbrev pub TakesSteps : Step → Type 0
TakesSteps Whole = ⊤
TakesSteps (Refused line) = refuses line ≡ true
TakesSteps Left = ⊤
TakesSteps (Gone accepted) = ⊤
