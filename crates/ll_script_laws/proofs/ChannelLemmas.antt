-- Each channel of a script has settings within their limits, and all that was published in it was read from a line.
use Rattle.std.proofs.Common.{◌≡◌, ℕ, zero, suc, List, [], ◌∷◌, Bool, true, false, Option, Some, None, length, nat_lt, fold, subst, slice_get, slice_set, if◌then◌else◌}
use Rattle.ll_directive.specs.Targets.{WantValue}
use Rattle.ll_script_rooms.specs.declared.owner.Owner.{Owner}
use Rattle.ll_script_rooms.specs.declared.owner.Owner.TheVariants.{Get, Connection}
use Rattle.ll_settings.specs.Settings.{Configuration, IsWithin}
use Rattle.ll_script.specs.Lines.{acts, starved}
use Rattle.ll_script.specs.declared.act.Act.{Act}
use Rattle.ll_script.specs.declared.act.Act.TheVariants.{Declare, Offer, At, Refuse, Ask, Answer, Close, Clock, RefuseClock, Bytes, Drop}
use Rattle.ll_verdict.specs.Events as event
use Rattle.ll_verdict.proofs.ListLemmas.{Each, each-append, each-at}
use Rattle.ll_connection.proofs.RoomsLaws.{bytes-keeps, end-keeps, reply-keeps}
use Rattle.ll_connection.specs.Visit.{Luck}
use Rattle.ll_script_rooms.specs.World as rooms
use Rattle.ll_script_rooms.proofs.EventLaws as events
use Rattle.ll_script_rooms.proofs.TieLemmas.{some_is}
use Rattle.ll_script_rooms.specs.declared.answer.ActAnswer as answer
use Rattle.ll_script_rooms.specs.declared.answer.ActAnswer.TheVariants as said
use Rattle.ll_replay.specs.Stream.{come_to}
use Rattle.ll_replay.specs.Script.{Ending, Lot, Marked, Script, act, acted, counted, done, done_as, heard, line, line_by, makes_due, passed_on, plain, read_by, rest, so_many, start, next_reply, with_lots}
use Rattle.ll_script_laws.proofs.ActLemmas.{AreSound, IsSound, acts-sound, starved-sound}
use Rattle.ll_script_laws.proofs.ItemTexts.{IsRead}

abbrev pub IsHeard : event.Event → Type 0
IsHeard (event.Publish item) = IsRead item
IsHeard (event.Ask want) = Unit
IsHeard (event.Collect ticket) = Unit
IsHeard (event.Close ticket) = Unit
IsHeard (event.Clock ms) = Unit

pub record IsKept (c : rooms.Channel) : Type 0 where
  pub settings : IsWithin c.settings
  pub events : Each IsHeard c.events

abbrev AreKept : rooms.World → Type 0
AreKept w = Each IsKept w.channels

-- ---- one event more

longer : (c : rooms.Channel) (e : event.Event) → IsKept c → IsHeard e → IsKept (rooms.with_event e c)
longer c e k h = record { settings = k.settings; events = each-append IsHeard c.events (e ∷ []) k.events (h, tt) }

one-kept : (cs : List rooms.Channel) (i : ℕ) (c : rooms.Channel) (e : event.Event) → IsHeard e → slice_get cs i ≡ Some c → Each IsKept cs
    → Each IsKept (slice_set cs i (rooms.with_event e c))
one-kept [] i c e heard h k = tt
one-kept (d ∷ cs) zero c e heard h k = (longer c e (subst IsKept (some_is d c h) k.0) heard, k.1)
one-kept (d ∷ cs) (suc i) c e heard h k = (k.0, one-kept cs i c e heard h k.1)

-- ---- what happens in the rooms

declare-kept : (w : rooms.World) (c : Configuration) → AreKept w → IsWithin c → AreKept (rooms.declare c w)
declare-kept w c k within =
    each-append IsKept w.channels ((record { settings = c; events = [] }) ∷ []) k (record { settings = within; events = tt }, tt)

asks-kept : (w : rooms.World) (owner : Owner) (i : ℕ) (want : WantValue) → AreKept w → AreKept (rooms.silent (rooms.ask owner i want (rooms.silent w)))
asks-kept w owner i want k = events.ask-keeps (Each IsKept) IsHeard one-kept (rooms.silent w) owner i want tt k

closes-kept : (w : rooms.World) (owner : Owner) → AreKept w → AreKept (rooms.close owner w)
closes-kept w owner k = events.close-keeps (Each IsKept) IsHeard one-kept w owner (λ t. tt) k

-- ---- acts and lines

act-kept : (lucks : List Luck) (w : Script) (a : Act) → AreKept w.rooms → IsSound a → AreKept (act lucks w a).rooms
act-kept lucks w (Declare settings) k s = declare-kept w.rooms settings k s
act-kept lucks w (Offer place item) k s = events.offer-keeps (Each IsKept) IsHeard one-kept w.rooms place item s k
act-kept lucks w (At place rendition) k s = k
act-kept lucks w (Refuse reason) k s = k
act-kept lucks w (Ask id place want) k s = events.ask-keeps (Each IsKept) IsHeard one-kept w.rooms (Get id) place want tt k
act-kept lucks w (Answer id reason) k s = k
act-kept lucks w (Close id) k s = closes-kept w.rooms (Get id) k
act-kept lucks w (Clock place ms) k s = events.clock-keeps (Each IsKept) IsHeard one-kept w.rooms place ms tt k
act-kept lucks w RefuseClock k s = k
act-kept lucks w (Bytes n piece) k s = bytes-keeps AreKept asks-kept closes-kept lucks n piece w.connections w.rooms k
act-kept lucks w (Drop n) k s = end-keeps AreKept asks-kept closes-kept n w.connections w.rooms k

passed_on-kept : (lucks : List Luck) (w : Script) (a : answer.ActAnswer) → AreKept w.rooms → AreKept (passed_on lucks w a).rooms
passed_on-kept lucks w (said.Accepted count) k = k
passed_on-kept lucks w (said.Refused reason) k = k
passed_on-kept lucks w (said.ClockRefused reason) k = k
passed_on-kept lucks w (said.Replied (Get id) r) k = k
passed_on-kept lucks w (said.Replied (Connection n) r) k = reply-keeps AreKept asks-kept closes-kept lucks n r w.connections w.rooms k
passed_on-kept lucks w (said.Unavailable owner) k = k

all_passed_on-kept : (lucks : List Luck) (w : Script) (answers : List answer.ActAnswer) → AreKept w.rooms → AreKept (fold (passed_on lucks) w answers).rooms
all_passed_on-kept lucks w [] k = k
all_passed_on-kept lucks w (a ∷ answers) k = all_passed_on-kept lucks (passed_on lucks w a) answers (passed_on-kept lucks w a k)

ticks-kept : (place : ℕ) (replies : List (List Luck)) (w : Script) → AreKept w.rooms → AreKept (fold (next_reply place) w replies).rooms
ticks-kept place [] w k = k
ticks-kept place (lucks ∷ replies) w k =
    let u = rooms.next_reply place w.rooms in
    ticks-kept place replies (next_reply place w lucks)
    (all_passed_on-kept lucks (heard w u) u.answers (events.next_reply-keeps (Each IsKept) IsHeard one-kept w.rooms place (λ t. tt) k))

rest-kept : (replies : List (List Luck)) (place : Option ℕ) (w : Script) → AreKept w.rooms → AreKept (rest replies place w).rooms
rest-kept replies None w k = k
rest-kept replies (Some place) w k = ticks-kept place (so_many (length w.rooms.waits) replies) w k

as-kept : (lot : Lot) (w : Script) (a : Act) → AreKept w.rooms → IsSound a → AreKept (done_as lot w a).rooms
as-kept lot w a k s = rest-kept lot.replies (makes_due a) (act lot.requests w a) (act-kept lot.requests w a k s)

done-kept : (refused : Bool) (lot : Lot) (w : Script) (a : Act) → AreKept w.rooms → IsSound a → AreKept (done_as lot w (if refused then starved a else a)).rooms
done-kept true lot w a k s = as-kept lot w (starved a) k (starved-sound a s)
done-kept false lot w a k s = as-kept lot w a k s

acted-kept : (lots : List Lot) (list : List Act) (w : Script) → AreKept w.rooms → Each IsSound list → AreKept (fold done w (with_lots lots list)).rooms
acted-kept lots [] w k s = k
acted-kept [] (a ∷ list) w k s = acted-kept [] list (done w (plain, a)) (done-kept false plain w a k s.0) s.1
acted-kept (lot ∷ lots) (a ∷ list) w k s = acted-kept lots list (done w (lot, a)) (done-kept lot.refused lot w a k s.0) s.1

acted_by-kept : (lots : List Lot) (o : Option (List Act)) (w : Script) → AreKept w.rooms → AreSound o → AreKept (acted lots w o).rooms
acted_by-kept lots None w k s = k
acted_by-kept lots (Some list) w k s = acted-kept lots list w k s

read_by-kept : (long : Bool) (w : Script) (l : Marked) → AreKept w.rooms → AreKept (read_by long w l).rooms
read_by-kept true w l k = k
read_by-kept false w l k =
    acted_by-kept l.lots (acts (rooms.all_settings w.rooms) w.last_id l.text) (counted w) k (acts-sound (rooms.all_settings w.rooms) w.last_id l.text)

line_by-kept : (o : Option Ending) (w : Script) (l : Marked) → AreKept w.rooms → AreKept (line_by o w l).rooms
line_by-kept (Some ending) w l k = k
line_by-kept None w l k = read_by-kept (nat_lt 65536 (length l.text)) w l k

line-kept : (w : Script) (l : Marked) → AreKept w.rooms → AreKept (line w l).rooms
unfolding line
line-kept w l k = line_by-kept w.ending w l k

lines-kept : (ls : List Marked) (w : Script) → AreKept w.rooms → AreKept (fold line w ls).rooms
lines-kept [] w k = k
lines-kept (l ∷ ls) w k = lines-kept ls (line w l) (line-kept w l k)

-- each channel of a script
pub channel-kept : (list : List Marked) (place : ℕ) (c : rooms.Channel) → slice_get (come_to list).rooms.channels place ≡ Some c → IsKept c
channel-kept list place c h = each-at IsKept (come_to list).rooms.channels place c (lines-kept list start tt) h
