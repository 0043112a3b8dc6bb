-- What was sent on a connection, and what was read from it.
use Rattle.std.specs.Prelude.{◌≡◌, ◌⊎◌, ◌<◌, ℕ, true, All, List, [], Option, Result, Ok, Err, flat_map, length, ⊤}
use Rattle.std.specs.Io.KnownBytes.{Appends}
use Rattle.ll_announce.specs.Messages.{MessageValue}
use Rattle.ll_device.specs.Inward.{Inward, looked_at}
use Rattle.ll_device.specs.Written.{AppendsPrefix}
use Rattle.ll_push.specs.Answers.{IsNone, IsSaid, accepts, ended, lines_text, refuses}
use Rattle.ll_push.specs.declared.answer.Answer.{Answer}
use Rattle.ll_push.specs.declared.answer.NoAnswer.{NoAnswer}
use Rattle.ll_push.specs.declared.answer.NoAnswer.TheVariants.{Lost, Bad, Memory}

-- what was written to a connection, how it was read and which bytes came, and how often it failed
pub record LinkValue : Type 0 where
  pub written : Option (List ℕ)
  pub inward : Inward
  pub failures : ℕ

-- the same of a link, by its ghost functions
abbrev pub link_value : {P : Type 0} → (P → Option (List ℕ)) → (P → Inward) → (P → ℕ) → P → LinkValue
link_value written inward failures link = record { written = written link; inward = inward link; failures = failures link }

abbrev pub bytes_of : MessageValue → List ℕ
bytes_of message = message.bytes

-- messages one after another
abbrev pub text_of : List MessageValue → List ℕ
text_of messages = flat_map bytes_of messages

-- The messages were sent, and each was answered by a line that accepts it. No other byte was sent, and no other came.
pub record AreExchanged (messages : List MessageValue) (before after : LinkValue) : Type 0 where
  pub sent : Appends before.written after.written (text_of messages)
  pub answers : List (List ℕ)
  pub one_each : length answers ≡ length messages
  pub accepted : All (λ line. accepts line ≡ true) answers
  pub reads : ℕ
  pub read : after.inward ≡ looked_at reads 0 (lines_text answers) before.inward
  pub steady : after.failures ≡ before.failures

-- A text was sent, and answered by a line.
pub record IsExchanged (text line : List ℕ) (before after : LinkValue) : Type 0 where
  pub sent : Appends before.written after.written text
  pub reads : ℕ
  pub read : after.inward ≡ looked_at reads 0 (ended line) before.inward
  pub steady : after.failures ≡ before.failures

-- bytes came, in any number of reads
abbrev pub HasCome : List ℕ → Inward → Inward → Type 0
HasCome came before after = (reads : ℕ) × (after ≡ looked_at reads 0 came before)

-- nothing more came: the peer was found to have ended the connection, or a read failed
abbrev pub HasStopped : Inward → Inward → ℕ → ℕ → Type 0
HasStopped before after failures failures_then = (after ≡ looked_at 1 1 [] before) ⊎ (failures < failures_then)

-- nothing more came after some bytes
abbrev pub IsCut : LinkValue → LinkValue → Type 0
IsCut before after = ((reads : ℕ) × (came : List ℕ) × (after.inward ≡ looked_at reads 1 came before.inward)) ⊎ (before.failures < after.failures)

-- a prefix of a text was sent, perhaps none or all of it; then the peer was found to have ended the connection, or that failed
abbrev pub IsLost : List ℕ → LinkValue → LinkValue → Type 0
IsLost text before after = AppendsPrefix before.written after.written text × IsCut before after

-- what came isn't an answer: a line that says nothing, or 128 bytes
abbrev pub IsBad : Inward → Inward → Type 0
IsBad before after = (came : List ℕ) × HasCome came before after × (((line : List ℕ) × (came ≡ ended line) × IsNone line) ⊎ (length came ≡ 128))

-- the result of reading an answer: what the line that came says, or why there is none
abbrev pub IsAnswered : LinkValue → LinkValue → Result Answer NoAnswer → Type 0
IsAnswered before after (Ok answer) = (line : List ℕ) × HasCome (ended line) before.inward after.inward × IsSaid line answer × (after.failures ≡ before.failures)
IsAnswered before after (Err Lost) = IsCut before after
IsAnswered before after (Err Bad) = IsBad before.inward after.inward
IsAnswered before after (Err Memory) = (line : List ℕ) × HasCome (ended line) before.inward after.inward × (refuses line ≡ true)

-- a text was sent, and what came after it isn't an answer
abbrev pub IsMisread : List ℕ → LinkValue → LinkValue → Type 0
IsMisread text before after = Appends before.written after.written text × IsBad before.inward after.inward

-- the same, or it is an answer to something else
abbrev pub IsUnanswered : (List ℕ → Type 0) → List ℕ → LinkValue → LinkValue → Type 0
IsUnanswered IsOther text before after = IsMisread text before after ⊎ ((line : List ℕ) × IsExchanged text line before after × IsOther line)
