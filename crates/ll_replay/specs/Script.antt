-- What the lines of a script do, one after another: to its channels and connections, and to the text that is written.
use Rattle.std.specs.Prelude.{ℕ, zero, suc, ◌+◌, List, [], ◌∷◌, ◌++◌, Bool, true, false, Option, Some, None, length, filter, flat_map, fold, if◌then◌else◌, min, nat_lt}
use Rattle.ll_connection.specs.Turn as connection
use Rattle.ll_connection.specs.Visit.{Luck}
use Rattle.ll_script_rooms.specs.declared.owner.Owner.{Owner}
use Rattle.ll_script_rooms.specs.declared.owner.Owner.TheVariants.{Get, Connection}
use Rattle.ll_publish.specs.Refusals.{at_line, no_line, ok_line}
use Rattle.ll_publish.specs.declared.refusal.Refusal.TheVariants.{Rule}
use Rattle.ll_script.specs.Answers.{clock_line, fault_line, reply_lines, unasked_line}
use Rattle.ll_script.specs.Lines.{acts, starved}
use Rattle.ll_script.specs.declared.act.Act.{Act}
use Rattle.ll_script.specs.declared.act.Act.TheVariants.{Declare, Offer, At, Refuse, Ask, Answer, Close, Clock, RefuseClock, Bytes, Drop}
use Rattle.ll_verdict.specs.declared.fault.AskFault.TheVariants as unasked
use Rattle.ll_verdict.specs.declared.fault.ClockFault.TheVariants as refused
use Rattle.ll_verdict.specs.declared.standing.Standing.{Standing}
use Rattle.ll_script_rooms.specs.World as rooms
use Rattle.ll_verdict.specs.declared.reply.Reply.{Reply}
use Rattle.ll_script_rooms.specs.World.{all_settings, silent}
use Rattle.ll_script_rooms.specs.declared.answer.ActAnswer as answer
use Rattle.ll_script_rooms.specs.declared.answer.ActAnswer.TheVariants as said
use Rattle.ll_replay.specs.declared.outcome.RunSummary.{RunSummary}

-- the line that ends a script early, by its number, from 1
pub data Ending : Type 0 where
  BadLine : ℕ → Ending
  LineTooLong : ℕ → Ending

-- for what there is memory while an act is done, with what it makes happen; beyond the end of a list, for everything
pub record Lot : Type 0 where
  -- whether the item or the request of a line is out of memory
  pub refused : Bool
  -- for the requests in its bytes, one after another
  pub requests : List Luck
  -- for each reply that it makes due: for the reply, and for the requests of its connection after it
  pub replies : List (List Luck)

abbrev pub plain : Lot
plain = record { refused = false; requests = []; replies = [] }

-- a line, with a lot for each of its acts
pub record Marked : Type 0 where
  pub text : List ℕ
  pub lots : List Lot

-- a line with memory for everything
abbrev pub unmarked : List ℕ → Marked
unmarked text = record { text = text; lots = [] }

-- a script after the lines so far
pub record Script : Type 0 where
  -- the channels with the requests that wait in them; their answers are all written
  pub rooms : rooms.World
  -- the connections; their answers are all written
  pub connections : connection.Connections
  -- the number of lines so far
  pub lines : ℕ
  -- the number of the last request of a `get` line
  pub last_id : Option ℕ
  -- the number of replies written
  pub replies : ℕ
  -- the text written so far
  pub text : List ℕ
  pub ending : Option Ending

abbrev pub start : Script
start = record { rooms = rooms.start; connections = []; lines = 0; last_id = None; replies = 0; text = []; ending = None }

-- ---- answers

-- the text of a reply to a `get` line; one to a connection is put out there
abbrev pub reply_text : Owner → Reply → List ℕ
reply_text (Get id) reply = reply_lines id reply
reply_text (Connection n) reply = []

abbrev pub unavailable_text : Owner → List ℕ
unavailable_text (Get id) = unasked_line id unasked.RecordFull
unavailable_text (Connection n) = []

-- the lines of an answer
abbrev pub spelled : answer.ActAnswer → List ℕ
spelled (said.Accepted count) = ok_line count
spelled (said.Refused reason) = no_line (Rule reason)
spelled (said.ClockRefused reason) = clock_line reason
spelled (said.Replied owner reply) = reply_text owner reply
spelled (said.Unavailable owner) = unavailable_text owner

-- the line that says where a rendition stands, if it was found
abbrev pub standing_text : Option Standing → List ℕ
standing_text None = []
standing_text (Some s) = at_line s

abbrev pub is_get : Owner → Bool
is_get (Get id) = true
is_get (Connection n) = false

-- whether an answer is a reply to a `get` line
abbrev pub is_reply : answer.ActAnswer → Bool
is_reply (said.Accepted count) = false
is_reply (said.Refused reason) = false
is_reply (said.ClockRefused reason) = false
is_reply (said.Replied owner reply) = is_get owner
is_reply (said.Unavailable owner) = is_get owner

abbrev pub reply_count : List answer.ActAnswer → ℕ
reply_count answers = length (filter is_reply answers)

-- script `w` with the rooms `v`, whose answers are written
abbrev pub heard : Script → rooms.World → Script
heard w v = record w { rooms = silent v; replies = w.replies + reply_count v.answers; text = w.text ++ flat_map spelled v.answers }

abbrev pub says : Script → List ℕ → Script
says w text = record w { text = w.text ++ text }

abbrev pub asked_under : Script → ℕ → Script
asked_under w id = record w { last_id = Some id }

-- request `id`, which is no event of any channel, is answered
abbrev pub replied : Script → ℕ → List ℕ → Script
replied w id text = record w { text = w.text ++ text; replies = w.replies + 1; last_id = Some id }

-- script `w` after a turn of a connection
abbrev pub turned : Script → connection.Turn → Script
turned w t = record w { rooms = silent t.rooms; connections = t.connections; replies = w.replies + t.replies; text = w.text ++ t.text }

-- ---- acts

abbrev pub act : List Luck → Script → Act → Script
act lucks w (Declare settings) = heard w (rooms.declare settings w.rooms)
act lucks w (Offer place item) = heard w (rooms.offer place item w.rooms)
act lucks w (At place rendition) = says w (standing_text (rooms.standing place rendition w.rooms))
act lucks w (Refuse reason) = says w (no_line reason)
act lucks w (Ask id place want) = asked_under (heard w (rooms.ask (Get id) place want w.rooms)) id
act lucks w (Answer id reason) = replied w id (fault_line id reason)
act lucks w (Close id) = heard w (rooms.close (Get id) w.rooms)
act lucks w (Clock place ms) = heard w (rooms.clock place ms w.rooms)
act lucks w RefuseClock = says w (clock_line refused.ClockRange)
act lucks w (Bytes n piece) = turned w (connection.bytes lucks n piece w.connections w.rooms)
act lucks w (Drop n) = turned w (connection.end n w.connections w.rooms)

-- a reply is passed on to the connection that asked for it, which then hands in its next requests
abbrev pub passed_to : List Luck → Owner → Reply → Script → Script
passed_to lucks (Get id) reply w = w
passed_to lucks (Connection n) reply w = turned w (connection.reply lucks n reply w.connections w.rooms)

abbrev pub passed_on : List Luck → Script → answer.ActAnswer → Script
passed_on lucks w (said.Accepted count) = w
passed_on lucks w (said.Refused reason) = w
passed_on lucks w (said.ClockRefused reason) = w
passed_on lucks w (said.Replied owner reply) = passed_to lucks owner reply w
passed_on lucks w (said.Unavailable owner) = w

abbrev pub ticked : Script → List Luck → rooms.World → Script
ticked w lucks v = fold (passed_on lucks) (heard w v) v.answers

-- the reply of the channel at `place` that is due and was asked for first is written
abbrev pub next_reply : ℕ → Script → List Luck → Script
next_reply place w lucks = ticked w lucks (rooms.next_reply place w.rooms)

-- as many of these as asked for; if there are too few, the others have memory for everything
abbrev pub so_many : ℕ → List (List Luck) → List (List Luck)
so_many zero replies = []
so_many (suc n) [] = [] ∷ so_many n []
so_many (suc n) (lucks ∷ replies) = lucks ∷ so_many n replies

-- all replies of the channel at `place` that are due are written; no more are due than requests wait
abbrev pub rest_at : List (List Luck) → ℕ → Script → Script
rest_at replies place w = fold (next_reply place) w (so_many (length w.rooms.waits) replies)

-- the place of the channel in which an act may make replies due: only items and readings of the clock do
abbrev pub makes_due : Act → Option ℕ
makes_due (Declare settings) = None
makes_due (Offer place item) = Some place
makes_due (At place rendition) = None
makes_due (Refuse reason) = None
makes_due (Ask id place want) = None
makes_due (Answer id reason) = None
makes_due (Close id) = None
makes_due (Clock place ms) = Some place
makes_due RefuseClock = None
makes_due (Bytes n piece) = None
makes_due (Drop n) = None

-- after an act, the replies that it made due are written
abbrev pub rest : List (List Luck) → Option ℕ → Script → Script
rest replies None w = w
rest replies (Some place) w = rest_at replies place w

abbrev pub done_as : Lot → Script → Act → Script
done_as lot w a = rest lot.replies (makes_due a) (act lot.requests w a)

-- an act with its lot
abbrev pub done : Script → Lot × Act → Script
done w a = done_as a.0 w (if a.0.refused then starved a.1 else a.1)

-- each act with its lot; those beyond the last lot have memory for everything
abbrev pub with_lots : List Lot → List Act → List (Lot × Act)
with_lots lots [] = []
with_lots [] (a ∷ list) = (plain, a) ∷ with_lots [] list
with_lots (lot ∷ lots) (a ∷ list) = (lot, a) ∷ with_lots lots list

-- ---- lines

abbrev pub acted : List Lot → Script → Option (List Act) → Script
acted lots w None = record w { ending = Some (BadLine w.lines) }
acted lots w (Some list) = fold done w (with_lots lots list)

abbrev pub counted : Script → Script
counted w = record w { lines = w.lines + 1 }

-- the largest number of bytes of a line, without its end
abbrev pub longest_line : ℕ
longest_line = 65536

abbrev pub read_by : Bool → Script → Marked → Script
read_by true w l = record (counted w) { ending = Some (LineTooLong (w.lines + 1)) }
read_by false w l = acted l.lots (counted w) (acts (all_settings w.rooms) w.last_id l.text)

abbrev pub line_by : Option Ending → Script → Marked → Script
line_by (Some ending) w l = w
line_by None w l = read_by (nat_lt longest_line (length l.text)) w l

-- one more line, which does nothing once the script has ended early
unfoldable pub line : Script → Marked → Script
line w l = line_by w.ending w l

-- ---- the summary

-- the numbers of events that lines caused and of replies, each up to 2^64 - 1
abbrev pub summary_of : Script → RunSummary
summary_of w = record {
  events = rooms.event_count w.rooms;
  replies = min w.replies rooms.count_end;
}
