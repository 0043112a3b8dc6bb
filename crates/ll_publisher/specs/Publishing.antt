-- A publisher's connection: the lines that came on it, and the answer to each.
use Rattle.std.specs.Prelude.{◌≡◌, ℕ, ⊤, List, [], ◌∷◌, ◌++◌, Option, Some, Result, Ok, Err, IfErr, IfOk, fold, map, flat_map}
use Rattle.std.specs.Io.KnownBytes.{Appends}
use Rattle.ll_device.specs.Inward.{Inward, looked_at}
use Rattle.ll_device.specs.Written.{AppendsPrefix}
use mathlib.Core.List.{IsPrefix}
use Rattle.ll_history.specs.declared.deed.Logged.{Logged}
use Rattle.ll_hub.specs.Calls.{HasSeen}
use Rattle.ll_hub.specs.Passes.{PassValue}
use Rattle.ll_settings.specs.Settings.{Configuration}
use Rattle.ll_publish.specs.Line.{Line}
use Rattle.ll_publish.specs.Lines.{lines}
use Rattle.ll_publish.specs.Refusals.{reply_line}
use Rattle.ll_publish.specs.declared.refusal.Refusal.{Refusal}
use Rattle.ll_publish.specs.declared.success.Success.{Success}
use Rattle.ll_publish.specs.declared.refusal.Refusal.TheVariants.{NotAllowed}
use Rattle.ll_publish.specs.declared.success.Success.TheVariants.{Opened}
use Rattle.ll_publisher.specs.Answers.{IsLineReason, IsSuccess, refused_before}
use Rattle.ll_publisher.specs.Doors.{Origin, Passage, Passes, Opens, Stays, passage}
use Rattle.ll_publisher.specs.Heard.{heard}

-- The allowed answers to a line that is read: the first reason that refuses it before any room is asked, if there is one; a number, if its item stands
-- in the hub's history as the one of that number of the channel of its name, after all that the pass had seen; the place that it asks for, by all
-- that was done to that channel up to `history`; or the first rule by which that channel refuses its item after that. Memory is allowed for an item
-- in place of either.
pub record IsReplyTo (channels : List Configuration) (pass : PassValue) (history : List Logged) (line : Line) (reply : Result Success Refusal) : Type 0 where
  pub refused : (reason : Refusal) → refused_before channels line ≡ Some reason → reply ≡ Err reason
  pub told : IfOk reply (IsSuccess channels pass history line)
  pub ruled : IfErr reply (IsLineReason channels pass history line)
  pub grows : IsPrefix pass.history history

-- What a connection remembers of the lines before: what its pass has seen and counted, and the places of the channels whose secret it gave.
pub record Caller : Type 0 where
  pub pass : PassValue
  pub opened : List ℕ

abbrev pub caller : PassValue → List ℕ → Caller
caller pass opened = record { pass = pass; opened = opened }

-- no line has come
abbrev pub newcomer : PassValue → Caller
newcomer pass = caller pass []

-- the allowed answer to a line, by what becomes of it
abbrev pub IsToldBy : Passage → Origin → Caller → List Logged → Line → Result Success Refusal → Type 0
IsToldBy Passes o caller history line reply = IsReplyTo o.channels caller.pass history line reply
IsToldBy (Opens place) o caller history line reply = (reply ≡ Ok Opened) × (history ≡ caller.pass.history)
IsToldBy (Stays place) o caller history line reply = (reply ≡ Err NotAllowed) × (history ≡ caller.pass.history)

-- the allowed answer to a line on a connection, which has then seen the history up to `history`
abbrev pub IsTold : Origin → Caller → List Logged → Line → Result Success Refusal → Type 0
IsTold o caller history line reply = IsToldBy (passage o caller.opened line) o caller history line reply

-- what the connection remembers after this answer to a line
abbrev pub caller_by : Passage → Origin → Line → Result Success Refusal → List Logged → Caller → Caller
caller_by Passes o line reply history caller = record caller { pass = heard o.channels line reply history caller.pass }
caller_by (Opens place) o line reply history caller = record caller { opened = caller.opened ++ place ∷ [] }
caller_by (Stays place) o line reply history caller = caller

abbrev pub caller_after : Origin → Line → Result Success Refusal → List Logged → Caller → Caller
caller_after o line reply history caller = caller_by (passage o caller.opened line) o line reply history caller

-- a line, its answer, and the hub's history as far as the connection has seen it then
pub record Exchange : Type 0 where
  pub line : Line
  pub reply : Result Success Refusal
  pub history : List Logged

abbrev pub lines_of : List Exchange → List Line
lines_of exchanges = map (λ e. e.line) exchanges

abbrev pub replies_of : List Exchange → List ℕ
replies_of exchanges = flat_map (λ e. reply_line e.reply) exchanges

-- what the connection remembers after one exchange, and after several in order
abbrev pub after_exchange : Origin → Caller → Exchange → Caller
after_exchange o caller e = caller_after o e.line e.reply e.history caller

abbrev pub after_all : Origin → Caller → List Exchange → Caller
after_all o caller exchanges = fold (after_exchange o) caller exchanges

-- each line got an allowed answer, after those before it
abbrev pub AreRight : Origin → Caller → List Exchange → Type 0
AreRight o caller [] = ⊤
AreRight o caller (e ∷ more) = IsTold o caller e.history e.line e.reply × AreRight o (after_exchange o caller e) more

-- The other end has ended the connection. Each line of the bytes that came was answered once, in their order; these answers were sent, and
-- nothing else. The pass has seen and counted exactly what they say.
pub record IsServed (o : Origin) (start pass : PassValue) (before after : Inward) (base written : Option (List ℕ)) : Type 0 where
  pub reads : ℕ
  pub came : List ℕ
  pub read : after ≡ looked_at reads 1 came before
  pub exchanges : List Exchange
  pub all : lines came ≡ lines_of exchanges
  pub right : AreRight o (newcomer start) exchanges
  pub passed : pass ≡ (after_all o (newcomer start) exchanges).pass
  pub sent : Appends base written (replies_of exchanges)

-- The connection was cut off. The first lines of the bytes that came were answered once each, in their order; a prefix of these answers was
-- sent, and nothing else. The pass has seen and counted exactly what they say, and perhaps more of the history.
pub record IsCutOff (o : Origin) (start pass : PassValue) (before after : Inward) (base written : Option (List ℕ)) : Type 0 where
  pub reads : ℕ
  pub came : List ℕ
  pub read : after ≡ looked_at reads 0 came before
  pub exchanges : List Exchange
  pub later : List Line
  pub first : lines came ≡ lines_of exchanges ++ later
  pub right : AreRight o (newcomer start) exchanges
  pub passed : HasSeen (after_all o (newcomer start) exchanges).pass pass
  pub sent : AppendsPrefix base written (replies_of exchanges)
