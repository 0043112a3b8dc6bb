-- Laws of the channels of a script, of the texts that their requests get, and of replies that are due.
use Rattle.std.specs.Prelude.{◌≡◌, ℕ, ◌+◌, ◌≤◌, ◌<◌, List, [], ◌∷◌, ◌++◌, Option, Some, None, Ok, true, is_some, fold, length, map, slice_get}
use Rattle.ll_settings.specs.Settings.{Configuration, IsWithin, skip_limit}
use Rattle.ll_verdict.specs.Waiting.{IsRising, first_ready, is_ready, ticket_in}
use Rattle.ll_directive.specs.Targets.{WantValue}
use Rattle.ll_item.specs.Told.{end_time}
use Rattle.ll_window.specs.Segments.{own}
use Rattle.ll_pieces.specs.View.{Paged, seen}
use Rattle.ll_page.specs.Page.{page_text}
use Rattle.ll_item.specs.declared.skip_kind.SkipKind.{SkipKind}
use Rattle.ll_script.specs.Lines.{acts}
use Rattle.ll_script.specs.declared.act.Act.{Act}
use Rattle.ll_script.specs.declared.act.Act.TheVariants.{Bytes}
use Rattle.ll_room.specs.RoomValue.{AreDistinct}
use Rattle.ll_script_rooms.specs.Waits.{under}
use Rattle.ll_script_rooms.specs.declared.owner.Owner.{Owner}
use Rattle.ll_script_rooms.specs.declared.owner.Owner.TheVariants.{Get, Connection}
use Rattle.ll_script_rooms.specs.declared.wait.Wait.{Wait}
use Rattle.ll_session.specs.Talk.{SessionValue}
use Rattle.ll_connection.specs.Met.{AreMatched}
use Rattle.ll_connection.specs.Turn.{Connections, session_of}
use Rattle.ll_connection.specs.Visit.{Luck}
use Rattle.ll_verdict.specs.Events.{Event, Ask, items}
use Rattle.ll_verdict.specs.State.{state_of}
use Rattle.ll_verdict.specs.Verdict.{Pending, at_once, held, reply, wanted_of}
use Rattle.ll_verdict.specs.declared.entry.Slot.{Slot}
use Rattle.ll_verdict.specs.declared.reply.Reply.TheVariants as now
use Rattle.ll_verdict.specs.declared.reply.Settled.TheVariants.{Text}
use Rattle.ll_verdict.specs.declared.wanted.Wanted.{Wanted}
use Rattle.ll_script_rooms.specs.Kept.{tickets_at}
use Rattle.ll_script_rooms.specs.World.{Channel, World, first_due}
use Rattle.ll_replay.specs.Stream.{come_to}
use Rattle.ll_replay.specs.Script.{Lot, Marked, Script, act, done, longest_line, next_reply, unmarked}
use Rattle.ll_apply.specs.Texts.{applied_text}
use Rattle.ll_script_laws.specs.Verdicts.{verdict}
use Rattle.ll_laws.specs.Published.{ArePublished}

-- the delta update of kind `form` of a rendition, or its full playlist for `None`, after these events of its channel
abbrev pub page_after : Configuration → List Event → ℕ → Option SkipKind → Paged
page_after c events rendition form = record { seen = seen c (items c events) rendition; form = form }

-- For each channel of a script, after each prefix of its events: the settings are within their limits, and each accepted item is
-- allowed after those before it.
abbrev pub PublishedLaw : Type 0
PublishedLaw = (list : List Marked) (place : ℕ) (channel : Channel) (front later : List Event)
    → slice_get (come_to list).rooms.channels place ≡ Some channel → channel.events ≡ front ++ later
    → IsWithin channel.settings × ArePublished channel.settings [] (items channel.settings front)

-- For each channel of a script: the text of a delta update, applied to that of an earlier full playlist, is the text of the full
-- playlist of its own moment, if the parts accepted in between last no longer than the Skip Boundary, as rule 21 says (section 6.2.5.1).
abbrev pub PlayersLaw : Type 0
PlayersLaw = (list : List Marked) (place : ℕ) (channel : Channel) (first second later : List Event) (rendition : ℕ) (kind : SkipKind)
    → slice_get (come_to list).rooms.channels place ≡ Some channel → channel.events ≡ first ++ (second ++ later)
    → rendition < length channel.settings.renditions
    → end_time (own rendition (items channel.settings (first ++ second)))
    ≤ end_time (own rendition (items channel.settings first)) + skip_limit channel.settings
    → applied_text (page_text (page_after channel.settings first rendition None)) (page_text (page_after channel.settings (first ++ second) rendition (Some kind)))
    ≡ Ok (page_text (page_after channel.settings (first ++ second) rendition None))

-- `page` is the playlist that `a` asks for, of a rendition that the channel has, after these events
pub record IsWanted (c : Configuration) (events : List Event) (a : Wanted) (page : Paged) : Type 0 where
  pub rendition : a.rendition < length c.renditions
  pub is : page ≡ page_after c events a.rendition a.form

-- a text that a request gets at once is the playlist that it asks for, of the moment of the request
abbrev pub AtOnceLaw : Type 0
AtOnceLaw = (c : Configuration) (earlier : List Pending) (events : List Event) (want : WantValue) (page : Paged)
    → at_once c earlier events want ≡ Some (now.Text page)
    → (a : Wanted) × (wanted_of c want ≡ Some a) × IsWanted c events a page

-- A request that had to wait is one of the channel's events. A text that it gets is the playlist that it asks for, of a moment after it.
abbrev pub LaterLaw : Type 0
LaterLaw = (c : Configuration) (events : List Event) (place : ℕ) (r : Pending) (page : Paged)
    → slice_get (held c events) place ≡ Some r → reply c events r ≡ Some (Text page)
    → (want : WantValue) × (between : List Event) × (later : List Event) × (events ≡ (r.before ++ Ask want ∷ between) ++ later)
    × (wanted_of c want ≡ Some r.wanted) × IsWanted c (r.before ++ Ask want ∷ between) r.wanted page

-- A text that is the verdict of a request is the playlist that it asks for, of a moment of the channel that is not before it.
abbrev pub VerdictLaw : Type 0
VerdictLaw = (c : Configuration) (before later : List Event) (want : WantValue) (page : Paged) → verdict c (before ++ Ask want ∷ later) before want ≡ Some (now.Text page)
    → (a : Wanted) × (since : List Event) × (rest : List Event) × (before ++ Ask want ∷ later ≡ (before ++ since) ++ rest) × (wanted_of c want ≡ Some a)
    × IsWanted c (before ++ since) a page

-- the line `text` says in any script that the bytes `piece` came on connection `n`
abbrev pub Brings : ℕ → List ℕ → List ℕ → Type 0
Brings n piece text = (channels : List Configuration) (last : Option ℕ) → acts channels last text ≡ Some (Bytes n piece ∷ [])

-- Of two scripts, one has bytes of a connection in one line, the other has them in two lines next to each other, with memory for all that
-- these make happen; otherwise they have the same lines, with the same lots. They have the same text.
abbrev pub PiecesLaw : Type 0
PiecesLaw = (before later : List Marked) (whole first second : List ℕ) (n : ℕ) (a b : List ℕ)
    → Brings n (a ++ b) whole → Brings n a first → Brings n b second
    → length whole ≤ longest_line → length first ≤ longest_line → length second ≤ longest_line
    → (come_to (before ++ unmarked whole ∷ later)).text ≡ (come_to (before ++ unmarked first ∷ unmarked second ∷ later)).text

-- a script after some lines, some acts of the next line, and some of the replies that the last of these acts made due in the channel at `place`
abbrev pub moment : List Marked → List (Lot × Act) → List Luck → Act → ℕ → List (List Luck) → Script
moment before list lucks last place replies = fold (next_reply place) (act lucks (fold done (come_to before) list) last) replies

-- The owner of a request is there: if it is a connection, its session is open and has a want out.
abbrev pub IsThere : Owner → Connections → Type 0
IsThere (Get id) all = Unit
IsThere (Connection n) all = (s : SessionValue) × (session_of n all ≡ Some (Some s)) × (is_some s.out ≡ true)

-- a reply that is due finds the request that waits for it, and its owner
abbrev pub FindsAsker : Script → Type 0
FindsAsker w = (place : ℕ) (channel : Channel) (r : Pending)
    → slice_get w.rooms.channels place ≡ Some channel → first_due channel.settings channel.events ≡ Some r
    → (x : Wait) × (under place r.ticket w.rooms.waits ≡ Some x) × IsThere x.owner w.connections

-- the tickets of the open requests of a channel, in order of asking; none without a channel
abbrev pub open_tickets : Option Channel → List ℕ
open_tickets None = []
open_tickets (Some c) = map ticket_in (state_of c.settings c.events).slots

-- At each place the requests that wait are the open requests of the channel there, in their order, each once.
abbrev pub AreOpen : World → Type 0
AreOpen w = (place : ℕ) → (tickets_at place w.waits ≡ open_tickets (slice_get w.channels place)) × AreDistinct (tickets_at place w.waits)

-- At each moment of each script: a reply that is due finds its request and owner, and each connection has as many waiting requests as its
-- session has wants out, one or none.
abbrev pub DueLaw : Type 0
DueLaw = (before : List Marked) (list : List (Lot × Act)) (lucks : List Luck) (last : Act) (place : ℕ) (replies : List (List Luck))
    → FindsAsker (moment before list lucks last place replies)
    × AreMatched (moment before list lucks last place replies).rooms.waits (moment before list lucks last place replies).connections

-- At each moment of each script: the requests that wait are the open requests of the channels.
abbrev pub WaitsLaw : Type 0
WaitsLaw = (before : List Marked) (list : List (Lot × Act)) (lucks : List Luck) (last : Act) (place : ℕ) (replies : List (List Luck))
    → AreOpen (moment before list lucks last place replies).rooms

-- after each line no reply is due in any channel
abbrev pub NoneLeftLaw : Type 0
NoneLeftLaw = (list : List Marked) (place : ℕ) (channel : Channel) → slice_get (come_to list).rooms.channels place ≡ Some channel
    → first_due channel.settings channel.events ≡ None

-- the open requests of a channel are in the order of their tickets
abbrev pub OpenOrderLaw : Type 0
OpenOrderLaw = (c : Configuration) (events : List Event) → IsRising 0 (state_of c events).slots

-- of the open requests whose reply is there, the first has the least ticket
abbrev pub LeastReadyLaw : Type 0
LeastReadyLaw = (c : Configuration) (events : List Event) (ticket place : ℕ) (s : Slot) → first_ready (state_of c events).slots ≡ Some ticket
    → slice_get (state_of c events).slots place ≡ Some s → is_ready s ≡ true → ticket ≤ s.entry.ticket
