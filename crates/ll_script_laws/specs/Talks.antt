-- Laws of what comes and what is sent on each connection of a script.
use Rattle.std.specs.Prelude.{◌≡◌, ℕ, ◌≤◌, ◌==◌, ◌||◌, List, [], ◌∷◌, ◌++◌, Bool, false, Option, Some, None, is_some, flat_map, length, nat_lt, if◌then◌else◌}
use Rattle.std.specs.List.{concat}
use Rattle.ll_connection.specs.Met.{outs}
use Rattle.ll_connection.specs.Turn.{session_of}
use Rattle.ll_directive.specs.Targets.{WantValue}
use Rattle.ll_directive.specs.declared.fault.TargetFault.{TargetFault}
use Rattle.ll_publish.specs.Refusals.{at_line, no_line}
use Rattle.ll_publish.specs.declared.refusal.Refusal.{Refusal}
use Rattle.ll_replay.specs.Script.{Marked, Script, line, longest_line, spelled, start}
use Rattle.ll_replay.specs.Stream.{come_to}
use Rattle.ll_script.specs.Answers.{clock_line, fault_line, sent_line, shut_line}
use Rattle.ll_script.specs.Lines.{acts}
use Rattle.ll_script.specs.declared.act.Act.{Act}
use Rattle.ll_script.specs.declared.act.Act.TheVariants.{Bytes}
use Rattle.ll_verdict.specs.declared.fault.ClockFault.TheVariants as refused
use Rattle.ll_verdict.specs.declared.standing.Standing.{Standing}
use Rattle.ll_session.specs.Past.{Call, Past, conversation, past}
use Rattle.ll_session.specs.Requests.{Entry, requests}
use Rattle.ll_session.specs.Talk.{SessionValue, fresh}
use Rattle.ll_wire.specs.declared.answer.Answer.{Answer}
use Rattle.ll_script_rooms.specs.World.{all_settings}
use Rattle.ll_script_rooms.specs.declared.answer.ActAnswer as rooms
use Rattle.ll_script_laws.specs.Verdicts.{AreAnswered, wants_of}

-- one thing that a script writes
pub data Part : Type 0 where
  -- an answer on the connection with this number
  Sent : ℕ → List ℕ → Part
  -- the connection with this number has shut
  Shut : ℕ → Part
  -- an answer of the rooms to anything else
  Said : rooms.ActAnswer → Part
  -- the answer that says where a rendition stands
  Stands : Standing → Part
  -- a publisher's line is refused before it gets to a channel
  Refused : Refusal → Part
  -- the target of the `get` line with this number is refused
  Faulty : ℕ → TargetFault → Part
  -- a reading of the clock is too large
  Late : Part

abbrev pub part_text : Part → List ℕ
part_text (Sent n bytes) = sent_line n bytes
part_text (Shut n) = shut_line n
part_text (Said a) = spelled a
part_text (Stands s) = at_line s
part_text (Refused reason) = no_line reason
part_text (Faulty id fault) = fault_line id fault
part_text Late = clock_line refused.ClockRange

-- what is sent on connection `n`
abbrev pub sent_by : ℕ → Part → List ℕ
sent_by n (Sent m bytes) = if m == n then bytes else []
sent_by n other = []

-- the bytes that come on connection `n`
abbrev pub brought_by : ℕ → Act → List ℕ
brought_by n (Bytes m piece) = if m == n then piece else []
brought_by n other = []

abbrev pub listed : Option (List Act) → List Act
listed None = []
listed (Some list) = list

-- the acts that line `l` makes happen after script `w`
abbrev pub acts_in : Script → Marked → List Act
acts_in w l =
    if is_some w.ending || nat_lt longest_line (length l.text) then [] else listed (acts (all_settings w.rooms) w.last_id l.text)

-- all acts of these lines, which follow script `w`
abbrev pub acts_of : Script → List Marked → List Act
acts_of w [] = []
acts_of w (l ∷ lines) = acts_in w l ++ acts_of (line w l) lines

-- the state of a connection after the calls of `p`; once it has ended it takes no more bytes
abbrev pub StandsAt : Option (Option SessionValue) → Past → List ℕ → Type 0
StandsAt None p untaken = (p.session ≡ fresh) × (untaken ≡ [])
StandsAt (Some None) p untaken = Unit
StandsAt (Some (Some s)) p untaken = (p.session ≡ s) × (s.shut ≡ false) × (untaken ≡ [])

-- All that came and all that was sent on a connection are those of calls on a session, which `session_law` is about. The answers that the
-- session was given are right, each for the request at the same place; the requests in `unanswered` have none.
pub record IsServed (w : Script) (came sent : List ℕ) (n : ℕ) (unanswered : List WantValue) : Type 0 where
  pub calls : List Call
  pub untaken : List ℕ
  pub fed : came ≡ (past calls).fed ++ untaken
  pub gone : sent ≡ (past calls).gone
  pub all_sent : (past calls).session.answers ≡ []
  pub stands : StandsAt (session_of n w.connections) (past calls) untaken
  pub answered : AreAnswered w.rooms.channels (wants_of (past calls).entries) (past calls).replies unanswered
  -- at most one; if the session goes on, the one that it has out
  pub few : length unanswered ≤ 1
  pub is_out : (past calls).session.shut ≡ false → length unanswered ≡ outs (past calls).session.out

-- For each script: its text is made of parts, and what came and what was sent on each connection are those of calls on a session, in which
-- each answer is right.
abbrev pub TalksLaw : Type 0
TalksLaw = (lines : List Marked)
    → (parts : List Part) × ((come_to lines).text ≡ flat_map part_text parts)
    × ((n : ℕ) → (unanswered : List WantValue)
    × IsServed (come_to lines) (flat_map (brought_by n) (acts_of start lines)) (flat_map (sent_by n) parts) n unanswered)

-- What came on a connection holds requests, and what was sent on it is the answers to the first of them, in their order. Those that ask a
-- channel for something have the right answers, except that the last one may have none so far, or none at all if it was closed.
pub record IsAnswered (w : Script) (came sent : List ℕ) : Type 0 where
  -- a connection that has ended takes no more bytes
  pub taken : List ℕ
  pub untaken : List ℕ
  pub came_is : came ≡ taken ++ untaken
  pub entries : List Entry
  pub later : List Entry
  pub requests_are : requests taken ≡ entries ++ later
  pub answers : List Answer
  pub unanswered : List WantValue
  pub right : AreAnswered w.rooms.channels (wants_of entries) answers unanswered
  pub few : length unanswered ≤ 1
  -- whether too many bytes came after a request that waited, so that their answer is sent in place of its own
  pub overflowed : Bool
  pub sent_is : sent ≡ concat (conversation overflowed entries answers)

-- For each script: each connection is sent the right answers to its requests, in order, and nothing else.
abbrev pub AnswersLaw : Type 0
AnswersLaw = (lines : List Marked)
    → (parts : List Part) × ((come_to lines).text ≡ flat_map part_text parts)
    × ((n : ℕ) → IsAnswered (come_to lines) (flat_map (brought_by n) (acts_of start lines)) (flat_map (sent_by n) parts))

-- if a session goes on and has no want out, its unread bytes hold no request
abbrev pub IsIdle : SessionValue → Type 0
IsIdle s = s.shut ≡ false → s.out ≡ None → requests s.unread ≡ []

-- After each line no connection has a request left that could be handed in.
abbrev pub IdleLaw : Type 0
IdleLaw = (lines : List Marked) (n : ℕ) (s : SessionValue) → session_of n (come_to lines).connections ≡ Some (Some s) → IsIdle s
