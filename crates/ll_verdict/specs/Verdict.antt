-- What each request of a channel gets, over the list of all events (blocking playlist reload, section 6.2.5.2; Preload Hints, section 4.4.5.3).
use Rattle.std.specs.Prelude.{ℕ, ◌+◌, ◌*◌, ◌==◌, ◌&&◌, ◌||◌, List, [], ◌∷◌, ◌++◌, Bool, true, false, not, Option, Some, None, is_none, nat_le, nat_lt, length, fold, filter, find, if◌then◌else◌, option_and_then, option_map}
use Rattle.ll_settings.specs.Settings.{rendition_named, Configuration}
use Rattle.ll_item.specs.declared.item.Item.{Item}
use Rattle.ll_pieces.specs.View.{Paged, seen}
use Rattle.ll_store.specs.Media.{media}
use Rattle.ll_item.specs.declared.what.What.{What}
use Rattle.ll_item.specs.declared.what.What.TheVariants as what
use Rattle.ll_window.specs.Segments.{ended, open_segment, own, segments}
use Rattle.ll_verdict.specs.Events.{Event, Publish, Ask, Collect, Close, Clock, Step, until, steps, items, time, asks}
use Rattle.ll_directive.specs.Files.{is_playlist}
use Rattle.ll_directive.specs.Targets.{WantValue, awaited_in}
use Rattle.ll_directive.specs.declared.want.Awaited.{Awaited}
use Rattle.ll_directive.specs.declared.want.Awaited.TheVariants.{Nothing, Segment, Part}
use Rattle.ll_window.specs.Wants.{holds_segment, holds_part}
use Rattle.ll_window.specs.Wants as wants
use Rattle.ll_verdict.specs.declared.piece.MediaReply.{MediaReply}
use Rattle.ll_verdict.specs.declared.wanted.Wanted.{Wanted}
use Rattle.ll_verdict.specs.declared.reply.Reply.{Reply}
use Rattle.ll_verdict.specs.declared.reply.Reply.TheVariants.{TooFar, NotFound, Busy}
use Rattle.ll_verdict.specs.declared.reply.Reply.TheVariants as now
use Rattle.ll_verdict.specs.declared.reply.Settled.{Settled}
use Rattle.ll_verdict.specs.declared.reply.Settled.TheVariants.{Text, Timeout}
use Rattle.ll_verdict.specs.declared.reply.Settled.TheVariants as settled

abbrev pub wanted_at : WantValue → ℕ → Wanted
wanted_at want rendition = record { rendition = rendition; what = want.what; awaited = awaited_in want; form = want.skip }

-- what a request asks of a rendition of the channel; none if the channel has no rendition of that name
abbrev pub wanted_of : Configuration → WantValue → Option Wanted
wanted_of c want = option_map (wanted_at want) (rendition_named c want.rendition)

-- the playlist or delta update after `items` of the channel (rule 22)
abbrev pub page_of : Configuration → List Item → Wanted → Paged
page_of c items a = record { seen = seen c items a.rendition; form = a.form }

-- whether what is awaited is there, after the items `own` of a rendition (rule 24)
abbrev pub holds : Configuration → List Item → Awaited → Bool
holds c own Nothing = true
holds c own (Segment msn) = holds_segment c own msn
holds c own (Part msn part) = holds_part c own msn part

-- whether what is awaited is too far ahead to be waited for (rule 25)
abbrev pub far : Configuration → List Item → Awaited → Bool
far c own Nothing = false
far c own (Segment msn) = wants.far c own msn None
far c own (Part msn part) = wants.far c own msn (Some part)

-- Whether a request that waits is settled after `items` of the channel: what it awaits is there, or its rendition has ended.
unfoldable pub is_there : Configuration → List Item → Wanted → Bool
is_there c items a = holds c (own a.rendition items) a.awaited || ended (own a.rendition items)

-- the number of requests of a channel that can wait at one time
abbrev pub waiting_limit : ℕ
waiting_limit = 65536

-- whether no more requests can wait, when `waiting` do
abbrev pub is_busy : ℕ → Bool
is_busy waiting = nat_le waiting_limit waiting

-- the reply to a request for a playlist, or none if it has to wait; `waiting` others wait already
abbrev pub playlist_now : Configuration → ℕ → List Item → Wanted → Option Reply
playlist_now c waiting items a =
    if is_there c items a then Some (now.Text (page_of c items a))
    else if far c (own a.rendition items) a.awaited then Some TooFar
    else if is_busy waiting then Some Busy
    else None

-- the media of a rendition that a request is for, if it is there
abbrev pub media_of : Configuration → List Item → Wanted → Option (List ℕ)
media_of c items a = media c (own a.rendition items) a.what

-- the reply with that media, when the channel has accepted `count` items
abbrev pub piece_of : ℕ → Wanted → List ℕ → MediaReply
piece_of count a bytes = record { bytes = bytes; number = count; rendition = a.rendition; what = a.what }

-- whether the awaited part is that of the Preload Hint: the next one after the items `own` of a rendition, which hasn't ended (rules 16 and 31)
abbrev pub is_hinted : Configuration → List Item → Awaited → Bool
is_hinted c own Nothing = false
is_hinted c own (Segment msn) = false
is_hinted c own (Part msn part) = not (ended own) && (msn == c.first + length (segments own) && part == length (open_segment own))

abbrev pub media_or : ℕ → Wanted → Option (List ℕ) → Option Reply → Option Reply
media_or count a (Some bytes) other = Some (now.Media (piece_of count a bytes))
media_or count a None other = other

-- The reply to a request for media, or none if it has to wait; `waiting` others wait already. Media that is there is given; of other media, only the
-- part of the hint is waited for.
abbrev pub media_now : Configuration → ℕ → List Item → Wanted → Option Reply
media_now c waiting items a =
    media_or (length items) a (media_of c items a) (
    if not (is_hinted c (own a.rendition items) a.awaited) then Some NotFound
    else if is_busy waiting then Some Busy
    else None
    )

-- the reply to a request, or none if it has to wait; `waiting` others wait already
abbrev pub reply_now : Configuration → ℕ → List Item → Wanted → Option Reply
reply_now c waiting items a = if is_playlist a.what then playlist_now c waiting items a else media_now c waiting items a

abbrev pub reply_by : Configuration → ℕ → List Item → Option Wanted → Option Reply
reply_by c waiting items None = Some NotFound
reply_by c waiting items (Some a) = reply_now c waiting items a

-- a request that had to wait, and all events before it
pub record Pending : Type 0 where
  -- the number of the request, from 1
  pub ticket : ℕ
  pub wanted : Wanted
  pub before : List Event

-- the channel's time at which a request times out, in milliseconds: three target durations after it was made (rule 27)
abbrev pub deadline : Configuration → Pending → ℕ
deadline c r = time r.before + 3000 * c.target

-- the event comes after the request itself
abbrev pub comes_after : Pending → Step → Bool
comes_after r s = nat_lt (length r.before) (length s.before)

-- with this event what the request awaits is there, its rendition has ended, or its deadline is reached
abbrev pub settles : Configuration → Pending → Step → Bool
settles c r s = comes_after r s && (is_there c (items c (until s)) r.wanted || nat_le (deadline c r) (time (until s)))

abbrev pub is_close : ℕ → Event → Bool
is_close ticket (Publish item) = false
is_close ticket (Ask want) = false
is_close ticket (Collect other) = false
is_close ticket (Close other) = ticket == other
is_close ticket (Clock ms) = false

-- this event closes the request
abbrev pub closes : Pending → Step → Bool
closes r s = comes_after r s && is_close r.ticket s.event

-- the first event that decides the request (rule 27)
abbrev pub decided : Configuration → List Event → Pending → Option Step
decided c events r = find (λ s. settles c r s || closes r s) (steps events)

-- the reply to a held request, as any reply
abbrev pub reply_of : Settled → Reply
reply_of (Text page) = now.Text page
reply_of (settled.Media piece) = now.Media piece
reply_of settled.NotFound = now.NotFound
reply_of Timeout = now.Timeout

abbrev pub media_or_none : ℕ → Wanted → Option (List ℕ) → Settled
media_or_none count a (Some bytes) = settled.Media (piece_of count a bytes)
media_or_none count a None = settled.NotFound

-- what a request gets after `count` items: the playlist `page`, or the media `bytes`, or that there is no such media
abbrev pub given : ℕ → Wanted → Paged → Option (List ℕ) → Settled
given count a page bytes = if is_playlist a.what then Text page else media_or_none count a bytes

-- What a request gets once it is settled, after `items`: its playlist; the bytes of its part, or NotFound if that can't come any more; or Timeout.
abbrev pub reply_with : Configuration → List Item → Wanted → Settled
reply_with c items a = if is_there c items a then given (length items) a (page_of c items a) (media_of c items a) else Timeout

-- what a request gets from the event that decides it: nothing if the event closes it, else the reply of that very state (rule 22)
abbrev pub reply_at_step : Configuration → Pending → Step → Option Settled
reply_at_step c r s = if closes r s then None else Some (reply_with c (items c (until s)) r.wanted)

-- what a request gets; none while it is undecided, and none if it was closed (rule 27)
abbrev pub reply : Configuration → List Event → Pending → Option Settled
reply c events r = option_and_then (reply_at_step c r) (decided c events r)

-- how many of the requests `rs` wait after `events`
abbrev pub waiting : Configuration → List Event → List Pending → ℕ
waiting c events rs = length (filter (λ r. is_none (decided c events r)) rs)

-- The reply to a request at once, or none if it has to wait; the requests `earlier` had to wait before. The first case that applies: its
-- rendition is unknown; it awaits nothing that isn't there, or its rendition has ended; what it awaits is too far ahead, or is media that isn't
-- the next part; no more requests can wait. These are the cases from the fourth on (rule 26).
abbrev pub at_once : Configuration → List Pending → List Event → WantValue → Option Reply
at_once c earlier events want = reply_by c (waiting c events earlier) (items c events) (wanted_of c want)

abbrev pub held_by : Option Reply → ℕ → List Event → Option Wanted → List Pending
held_by None ticket before (Some a) = (record { ticket = ticket; wanted = a; before = before }) ∷ []
held_by None ticket before None = []
held_by (Some answer) ticket before wanted = []

abbrev pub hold_by : Configuration → List Pending → List Event → Event → List Pending
hold_by c rs before (Publish item) = rs
hold_by c rs before (Ask want) = rs ++ held_by (at_once c rs before want) (asks before + 1) before (wanted_of c want)
hold_by c rs before (Collect ticket) = rs
hold_by c rs before (Close ticket) = rs
hold_by c rs before (Clock ms) = rs

abbrev pub hold : Configuration → List Pending → Step → List Pending
hold c rs s = hold_by c rs s.before s.event

-- the requests that had to wait, in order of asking
abbrev pub held : Configuration → List Event → List Pending
held c events = fold (hold c) [] (steps events)
