-- What a section of a channel says of its history.
use Rattle.std.proofs.Common.{◌≡◌, ◌≢◌, ◌∙◌, ◌+◌, ℕ, Bool, List, [], ◌∷◌, ◌++◌, Option, None, Some, MatchOption, ◌≤◌, length, refl, ap, subst, sym, append_assoc}
use mathlib.Core.List.{IsPrefix}
use Rattle.ll_directive.specs.Targets.{WantValue}
use Rattle.ll_history.proofs.HistoryLemmas.{deeds-added, done, done-earlier}
use Rattle.ll_history.proofs.PrefixLemmas.{prefix-self}
use Rattle.ll_history.specs.History.{ChannelDeeds, IsAddedTo, IsDone, IsShown, deeds_at}
use Rattle.ll_history.specs.declared.deed.Deed.{Deed}
use Rattle.ll_history.specs.declared.deed.Deed.TheVariants as deed
use Rattle.ll_history.specs.declared.deed.Logged.{Logged}
use Rattle.ll_hub_channel.proofs.DeedLemmas.{IsEvent, both-record, events-more, filled-is, full-is, handed-out, record-more, record-out}
use Rattle.ll_hub_channel.specs.Deeds.{IsRecordOf, event_in, events_of, is_filled_after, is_record_full_after}
use Rattle.ll_hub_channel.specs.Section.{IsAskFaultBy, IsAt, IsClosed, IsCollected, IsMet, IsNotOpen, IsOpenAt, IsPublishFaultBy, is_filled}
use Rattle.ll_hub_channel.specs.Section as section
use Rattle.ll_hub_channel.specs.Told.{IsAccepted, IsAskRefused, IsDecided, IsOpen, IsReadingRefused, IsRefused, IsStanding, IsTotalOf}
use Rattle.ll_hub_channel.specs.declared.total.Total.{Total}
use Rattle.ll_hub_channel.specs.declared.channel.AtOnce.{AtOnce}
use Rattle.ll_hub_channel.specs.declared.channel.AtOnce.TheVariants.{Now, Held}
use Rattle.ll_hub_channel.specs.declared.fault.HubFault.{HubFault}
use Rattle.ll_hub_channel.specs.declared.fault.HubFault.TheVariants.{UnknownChannel, WentBack, Room, Stranger, Short, Memory}
use Rattle.ll_hub_channel.specs.declared.fault.RoomFault.TheVariants as room
use Rattle.ll_item.specs.declared.item.Item.{Item}
use Rattle.ll_ledger.specs.Sections as has
use Rattle.ll_ledger.specs.Sections.{IsRead}
use Rattle.ll_record.specs.Chunk.{ChunkValue, IsChunk, IsFaithful, emptied}
use Rattle.ll_record.specs.Recording.{GoesOn, IsRecorded, Recording, is_record_full, of_channel}
use Rattle.ll_rendition.specs.declared.fault.PublishFault.{PublishFault}
use Rattle.ll_room.specs.RoomValue.{RoomValue}
use Rattle.ll_settings.specs.Settings.{Configuration}
use Rattle.ll_verdict.specs.Events.{Event, Ask, Clock}
use Rattle.ll_verdict.specs.State.{state_of}
use Rattle.ll_verdict.specs.Waiting.{found}
use Rattle.ll_verdict.specs.declared.entry.Entry.{Entry}
use Rattle.ll_verdict.specs.declared.fault.ClockFault.{ClockFault}
use Rattle.ll_verdict.specs.declared.reply.Reply.{Reply}
use Rattle.ll_verdict.specs.declared.standing.Standing.{Standing}

-- ---- what was done, and what was shown, at the place by which the caller knows the channel

pub done-at : (h : ChannelDeeds) (d : Deed) (place : ℕ) (before after : List Logged) (R : List Deed → Type 0) → h.place ≡ place → IsAddedTo h d before after → R h.deeds
    → IsDone before after place d R
done-at h d place before after R at added right = subst (λ p. IsDone before after p d R) at (done h d before after R added right)

pub shown-at : (h : ChannelDeeds) (place : ℕ) (before after : List Logged) (R : List Deed → Type 0) → h.place ≡ place → IsPrefix before after → deeds_at h.place after ≡ h.deeds
    → R h.deeds → IsShown before after place R
shown-at h place before after R at grows all right =
    subst (λ p. IsShown before after p R) at (record { right = subst R (sym all) right; grows = grows })

-- the events that were recorded, by the settings that the caller knows
pub events-here : (r : Recording) (deeds : List Deed) (c : Configuration) → IsRecordOf r deeds → r.room.settings ≡ c → IsRecorded r (events_of c deeds)
events-here r deeds c k is = subst (λ c. IsRecorded r (events_of c deeds)) is k.recorded

full-here : (r : Recording) (deeds : List Deed) (c : Configuration) → IsRecordOf r deeds → r.room.settings ≡ c → is_record_full r ≡ is_record_full_after c deeds
full-here r deeds c k is = full-is r deeds k ∙ ap (λ c. is_record_full_after c deeds) is

pub filled-here : (r : Recording) (deeds : List Deed) (c : Configuration) → IsRecordOf r deeds → r.room.settings ≡ c → is_filled r ≡ is_filled_after c deeds
filled-here r deeds c k is = filled-is r deeds k ∙ ap (λ c. is_filled_after c deeds) is

-- ---- items

pub accepted : (r : Recording) (h : ChannelDeeds) (place : ℕ) (c : Configuration) (seen : ℕ) (item : Item) (n : ℕ) (before after : List Logged)
    → IsRecordOf r h.deeds → h.place ≡ r.room.channel → IsMet r place c seen → ((es : List Event) → IsRecorded r es → IsAccepted c es item seen n)
    → IsAddedTo h (deed.Publish item) before after → has.HasAccepted before after place c seen item n
accepted r h place c seen item n before after k at met told added =
    done-at h (deed.Publish item) place before after _ (at ∙ met.number) added (told (events_of c h.deeds) (events-here r h.deeds c k met.settings))

pub refused : (r : Recording) (h : ChannelDeeds) (place : ℕ) (c : Configuration) (seen : ℕ) (item : Item) (f : PublishFault) (before after : List Logged)
    → IsRecordOf r h.deeds → h.place ≡ r.room.channel → IsMet r place c seen → ((es : List Event) → IsRecorded r es → IsRefused c es (is_record_full r) item seen f)
    → IsPrefix before after → deeds_at h.place after ≡ h.deeds → has.HasRefused before after place c seen item f
refused r h place c seen item f before after k at met told grows all =
    shown-at h place before after _ (at ∙ met.number) grows all
    (subst (λ full. IsRefused c (events_of c h.deeds) full item seen f) (full-here r h.deeds c k met.settings) (told (events_of c h.deeds) (events-here r h.deeds c k met.settings)))

pub standing : (r : Recording) (h : ChannelDeeds) (place : ℕ) (c : Configuration) (seen rendition : ℕ) (o : Option Standing) (before after : List Logged)
    → IsRecordOf r h.deeds → h.place ≡ r.room.channel → IsMet r place c seen
    → ((es : List Event) → IsRecorded r es → MatchOption o (length c.renditions ≤ rendition) (IsStanding c es rendition seen))
    → IsPrefix before after → deeds_at h.place after ≡ h.deeds
    → MatchOption o (length c.renditions ≤ rendition) (has.HasStanding before after place c seen rendition)
standing r h place c seen rendition None before after k at met told grows all = told (events_of c h.deeds) (events-here r h.deeds c k met.settings)
standing r h place c seen rendition (Some s) before after k at met told grows all =
    shown-at h place before after _ (at ∙ met.number) grows all (told (events_of c h.deeds) (events-here r h.deeds c k met.settings))

-- ---- requests

-- a request after a reading
pub asked : (shows : ℕ → Type 0) (r : Recording) (h h2 : ChannelDeeds) (place : ℕ) (c : Configuration) (seen ms : ℕ) (want : WantValue) (a : AtOnce) (before mid after : List Logged)
    → IsRecordOf r h.deeds → h.place ≡ r.room.channel → IsMet r place c seen → shows ms
    → ((es : List Event) → IsRecorded r es → section.IsAskedBy place c (es ++ Clock ms ∷ []) seen want a)
    → IsAddedTo h (deed.Clock ms) before mid → h2 ≡ record h { deeds = h.deeds ++ deed.Clock ms ∷ [] } → IsAddedTo h2 (deed.Ask want) mid after
    → has.IsAskedBy shows before after place c seen want a
asked shows r h h2 place c seen ms want a before mid after k at met shown told read is added = by a (told (events_of c h.deeds) (events-here r h.deeds c k met.settings))
  where
    here : h2.place ≡ place
    here = ap (λ (x : ChannelDeeds). x.place) is ∙ at ∙ met.number

    last : h2.deeds ≡ h.deeds ++ deed.Clock ms ∷ []
    last = ap (λ (x : ChannelDeeds). x.deeds) is

    its : IsRead shows h2.deeds
    its = record { earlier = h.deeds; ms = ms; last = last; shown = shown }

    events : events_of c h.deeds ++ Clock ms ∷ [] ≡ events_of c h2.deeds
    events = sym (events-more c h.deeds (deed.Clock ms)) ∙ ap (events_of c) (sym last)

    earlier : IsPrefix before mid
    earlier = (done h (deed.Clock ms) before mid (λ deeds. Unit {0}) read tt).grows

    by : (a : AtOnce) → section.IsAskedBy place c (events_of c h.deeds ++ Clock ms ∷ []) seen want a → has.IsAskedBy shows before after place c seen want a
    by (Now mark) t =
        let right = subst (λ es. section.IsAskedBy place c es seen want (Now mark)) events t in record {
          number = _;
          room = right.0;
          stamp = right.1;
          answered = done-earlier before mid after place (deed.Ask want) _ earlier (done-at h2 (deed.Ask want) place mid after _ here added (record { read = its; answered = right.2 }));
        }
    by (Held entry) t =
        let right = subst (λ es. section.IsAskedBy place c es seen want (Held entry)) events t in
        done-earlier before mid after place (deed.Ask want) _ earlier (done-at h2 (deed.Ask want) place mid after _ here added (record { read = its; held = right }))

-- what is known of the channel after a request that is refused
pub refused-record : (r r2 : Recording) (h h2 : ChannelDeeds) (place ms : ℕ) (f : HubFault) (before after : List Logged) → IsRecordOf r h.deeds → h.place ≡ r.room.channel → GoesOn r r2
    → IsAskFaultBy r r2 place ms f → has.IsNoted h h2 ms f before after → IsRecordOf r2 h2.deeds × (h2.place ≡ r2.room.channel)
refused-record r r2 h h2 place ms (Room other (room.Publish g)) before after k at on fault noted = absurd fault
refused-record r r2 h h2 place ms (Room other (room.Ask g)) before after k at on fault noted = (
  subst (λ (x : ChannelDeeds). IsRecordOf r2 x.deeds) (sym noted.1) (record-more r r2 h.deeds (deed.Clock ms) (Clock ms) k (refl, λ x. refl) (fault.1.recorded (events_of r.room.settings h.deeds) k.recorded) on),
  ap (λ (x : ChannelDeeds). x.place) noted.1 ∙ at ∙ sym on.same.channel,
)
refused-record r r2 h h2 place ms (Room other (room.Clock g)) before after k at on fault noted = (
  rw (fault.1, noted.2) k,
  rw (fault.1, noted.2) at,
)
refused-record r r2 h h2 place ms Memory before after k at on fault noted = (rw (fault, noted.1) k, rw (fault, noted.1) at)
refused-record r r2 h h2 place ms UnknownChannel before after k at on fault noted = absurd fault
refused-record r r2 h h2 place ms (WentBack from found) before after k at on fault noted = absurd fault
refused-record r r2 h h2 place ms Stranger before after k at on fault noted = absurd fault
refused-record r r2 h h2 place ms Short before after k at on fault noted = absurd fault

pub unasked : (shows : ℕ → Type 0) (r r2 : Recording) (h h2 : ChannelDeeds) (place : ℕ) (c : Configuration) (seen ms : ℕ) (f : HubFault) (before after : List Logged)
    → IsRecordOf r h.deeds → h.place ≡ r.room.channel → GoesOn r r2 → IsMet r place c seen → shows ms → IsAskFaultBy r r2 place ms f → has.IsNoted h h2 ms f before after
    → has.IsUnaskedBy shows r before after place c seen f
unasked shows r r2 h h2 place c seen ms (Room other (room.Publish g)) before after k at on met shown fault noted = absurd fault
unasked shows r r2 h h2 place c seen ms (Room other (room.Ask g)) before after k at on met shown fault noted =
    let k2 = refused-record r r2 h h2 place ms (Room other (room.Ask g)) before after k at on fault noted in
    let full : is_filled r2 ≡ is_filled_after c (h.deeds ++ deed.Clock ms ∷ []) =
    filled-here r2 h2.deeds c k2.0 (on.same.settings ∙ met.settings) ∙ ap (λ (x : ChannelDeeds). is_filled_after c x.deeds) noted.1 in (
      fault.0,
      record {
        ms = ms;
        shown = shown;
        read = done-at h (deed.Clock ms) place before after _ (at ∙ met.number) noted.0 (subst (λ b. IsAskRefused b g) full fault.1.refused);
      },
    )
unasked shows r r2 h h2 place c seen ms (Room other (room.Clock g)) before after k at on met shown fault noted = (
  fault.0,
  record {
    ms = ms;
    shown = shown;
    refused = shown-at h place before after _ (at ∙ met.number) noted.0 noted.1 (subst (λ b. IsReadingRefused b ms g) (filled-here r h.deeds c k met.settings) fault.2);
  },
)
unasked shows r r2 h h2 place c seen ms Memory before after k at on met shown fault noted = tt
unasked shows r r2 h h2 place c seen ms UnknownChannel before after k at on met shown fault noted = absurd fault
unasked shows r r2 h h2 place c seen ms (WentBack from found) before after k at on met shown fault noted = absurd fault
unasked shows r r2 h h2 place c seen ms Stranger before after k at on met shown fault noted = absurd fault
unasked shows r r2 h h2 place c seen ms Short before after k at on met shown fault noted = absurd fault

-- ---- held requests

-- whether a request is open, by the events that were recorded
open-here : (r : Recording) (deeds : List Deed) (place : ℕ) (c : Configuration) (entry : Entry) → IsRecordOf r deeds → IsAt r place c → IsOpen c (events_of c deeds) entry
    → IsOpenAt r place c entry
open-here r deeds place c entry k here is = record {
  number = here.number;
  settings = here.settings;
  open_there = ap (λ (h : RoomValue). found entry.ticket h.slots) k.recorded.stands ∙ ap (λ s. found entry.ticket (state_of s (events_of s deeds)).slots) here.settings ∙ is;
}

open-there : (r : Recording) (deeds : List Deed) (place : ℕ) (c : Configuration) (entry : Entry) → IsRecordOf r deeds → IsOpenAt r place c entry → IsOpen c (events_of c deeds) entry
open-there r deeds place c entry k is =
    sym (ap (λ (h : RoomValue). found entry.ticket h.slots) k.recorded.stands ∙ ap (λ s. found entry.ticket (state_of s (events_of s deeds)).slots) is.settings) ∙ is.open_there

pub decided : (r r2 : Recording) (h : ChannelDeeds) (place : ℕ) (c : Configuration) (entry : Entry) (reply : Reply) (before after : List Logged) → IsRecordOf r h.deeds
    → h.place ≡ r.room.channel → IsAt r place c → IsCollected r r2 c entry reply → IsAddedTo h (deed.Collect entry.ticket) before after
    → has.HasDecided before after place c entry reply
decided r r2 h place c entry reply before after k at here its added =
    done-at h (deed.Collect entry.ticket) place before after _ (at ∙ here.number) added (its.decided (events_of c h.deeds) (events-here r h.deeds c k here.settings))

pub closed : (r r2 : Recording) (h : ChannelDeeds) (place : ℕ) (c : Configuration) (entry : Entry) (before after : List Logged) → IsRecordOf r h.deeds
    → h.place ≡ r.room.channel → IsClosed r r2 place c entry → IsAddedTo h (deed.Close entry.ticket) before after → has.HasClosed before after place c entry
closed r r2 h place c entry before after k at its added =
    done-at h (deed.Close entry.ticket) place before after _ (at ∙ its.open_there.number) added (open-there r h.deeds place c entry k its.open_there)

pub none-open : (r : Recording) (h : ChannelDeeds) (place : ℕ) (c : Configuration) (entry : Entry) (before after : List Logged) → IsRecordOf r h.deeds
    → h.place ≡ r.room.channel → IsAt r place c → (IsOpenAt r place c entry → ⊥) → IsPrefix before after → deeds_at h.place after ≡ h.deeds
    → has.HasNone before after place c entry
none-open r h place c entry before after k at here none grows all =
    shown-at h place before after _ (at ∙ here.number) grows all (λ is. none (open-here r h.deeds place c entry k here is))

-- ---- readings

pub ticked : (r : Recording) (h : ChannelDeeds) (place : ℕ) (c : Configuration) (ms : ℕ) (before after : List Logged) → h.place ≡ r.room.channel → IsAt r place c
    → IsAddedTo h (deed.Clock ms) before after → has.HasTicked before after place ms
ticked r h place c ms before after at here added = done-at h (deed.Clock ms) place before after _ (at ∙ here.number) added tt

pub not-ticked : (r : Recording) (h : ChannelDeeds) (place : ℕ) (c : Configuration) (ms : ℕ) (f : ClockFault) (before after : List Logged) → IsRecordOf r h.deeds
    → h.place ≡ r.room.channel → IsAt r place c → IsReadingRefused (is_filled r) ms f → IsPrefix before after → deeds_at h.place after ≡ h.deeds
    → has.HasNotTicked before after place c ms f
not-ticked r h place c ms f before after k at here why grows all =
    shown-at h place before after _ (at ∙ here.number) grows all (subst (λ b. IsReadingRefused b ms f) (filled-here r h.deeds c k here.settings) why)

-- ---- the record

pub rotated : (r : Recording) (h : ChannelDeeds) (place : ℕ) (c : Configuration) (chunk : ChunkValue) (before after : List Logged) → IsRecordOf r h.deeds
    → h.place ≡ r.room.channel → IsAt r place c → IsChunk r chunk → ((es : List Event) → IsRecorded r es → IsFaithful r es chunk) → IsAddedTo h deed.HandOut before after
    → has.HasHandedOut before after place c chunk
rotated r h place c chunk before after k at here text faithful added =
    done-at h deed.HandOut place before after _ (at ∙ here.number) added (handed-out r c h.deeds chunk k here.settings text faithful)

-- ---- what is known of the channel after an event

pub more-known : (r r2 : Recording) (h h2 : ChannelDeeds) (d : Deed) (e : Event) → IsRecordOf r h.deeds → h.place ≡ r.room.channel → GoesOn r r2
    → IsRecorded r2 (events_of r.room.settings h.deeds ++ e ∷ []) → IsEvent r.room.settings d e → h2 ≡ record h { deeds = h.deeds ++ d ∷ [] }
    → IsRecordOf r2 h2.deeds × (h2.place ≡ r2.room.channel)
more-known r r2 h h2 d e k at on recorded is same = (
  subst (λ (x : ChannelDeeds). IsRecordOf r2 x.deeds) (sym same) (record-more r r2 h.deeds d e k is recorded on),
  ap (λ (x : ChannelDeeds). x.place) same ∙ at ∙ sym on.same.channel,
)

-- after a request, two events are known more
pub both-known : (r r2 : Recording) (h mid h2 : ChannelDeeds) (ms : ℕ) (c : Configuration) (want : WantValue) → IsRecordOf r h.deeds → h.place ≡ r.room.channel → GoesOn r r2
    → r.room.settings ≡ c → IsRecorded r2 (events_of c h.deeds ++ Clock ms ∷ Ask (of_channel c want) ∷ []) → mid ≡ record h { deeds = h.deeds ++ deed.Clock ms ∷ [] }
    → h2 ≡ record mid { deeds = mid.deeds ++ deed.Ask want ∷ [] } → IsRecordOf r2 h2.deeds × (h2.place ≡ r2.room.channel)
both-known r r2 h mid h2 ms c want k at on is recorded m s = (
  subst (λ ds. IsRecordOf r2 ds) (sym deeds) (both-record r r2 h.deeds ms want k on (subst (λ c. IsRecorded r2 (events_of c h.deeds ++ Clock ms ∷ Ask (of_channel c want) ∷ [])) (sym is) recorded)),
  ap (λ (x : ChannelDeeds). x.place) s ∙ ap (λ (x : ChannelDeeds). x.place) m ∙ at ∙ sym on.same.channel,
)
  where
    deeds : h2.deeds ≡ (h.deeds ++ deed.Clock ms ∷ []) ++ deed.Ask want ∷ []
    deeds = ap (λ (x : ChannelDeeds). x.deeds) s ∙ ap (λ (x : ChannelDeeds). x.deeds ++ deed.Ask want ∷ []) m

-- after the record is handed out
pub out-known : (r r2 : Recording) (h h2 : ChannelDeeds) (d : Deed) → IsRecordOf r h.deeds → h.place ≡ r.room.channel → r2 ≡ emptied r
    → ((es : List Event) → IsRecorded r es → IsRecorded r2 es) → d ≡ deed.HandOut → h2 ≡ record h { deeds = h.deeds ++ d ∷ [] }
    → IsRecordOf r2 h2.deeds × (h2.place ≡ r2.room.channel)
out-known r r2 h h2 d k at is recorded out same = rw (same, is, out) (
  record-out r h.deeds k (subst (λ x. IsRecorded x (events_of r.room.settings h.deeds)) is (recorded (events_of r.room.settings h.deeds) k.recorded)),
  at,
)

-- an item that isn't published after its channel was asked
pub unpublished : (r : Recording) (h : ChannelDeeds) (place : ℕ) (c : Configuration) (seen : ℕ) (item : Item) (f : HubFault) (before after : List Logged)
    → IsRecordOf r h.deeds → h.place ≡ r.room.channel → IsMet r place c seen → ((es : List Event) → IsRecorded r es → IsPublishFaultBy r place c es seen item f)
    → IsPrefix before after → deeds_at h.place after ≡ h.deeds → has.IsUnpublishedBy r before after place c seen item f
unpublished r h place c seen item (Room other (room.Publish g)) before after k at met told grows all = (
  (told (events_of c h.deeds) (events-here r h.deeds c k met.settings)).0,
  refused r h place c seen item g before after k at met (λ es recorded. (told es recorded).1) grows all,
)
unpublished r h place c seen item (Room other (room.Ask g)) before after k at met told grows all = absurd (told (events_of c h.deeds) (events-here r h.deeds c k met.settings))
unpublished r h place c seen item (Room other (room.Clock g)) before after k at met told grows all = absurd (told (events_of c h.deeds) (events-here r h.deeds c k met.settings))
unpublished r h place c seen item UnknownChannel before after k at met told grows all = absurd (told (events_of c h.deeds) (events-here r h.deeds c k met.settings))
unpublished r h place c seen item (WentBack from found) before after k at met told grows all = absurd (told (events_of c h.deeds) (events-here r h.deeds c k met.settings))
unpublished r h place c seen item Stranger before after k at met told grows all = absurd (told (events_of c h.deeds) (events-here r h.deeds c k met.settings))
unpublished r h place c seen item Short before after k at met told grows all = absurd (told (events_of c h.deeds) (events-here r h.deeds c k met.settings))
unpublished r h place c seen item Memory before after k at met told grows all = absurd (told (events_of c h.deeds) (events-here r h.deeds c k met.settings))

-- what a refusal shows is no less than its caller had seen
pub noted-grows : (h h2 : ChannelDeeds) (ms : ℕ) (f : HubFault) (before after : List Logged) → has.IsNoted h h2 ms f before after → IsPrefix before after
noted-grows h h2 ms (Room other (room.Publish g)) before after noted = noted.0
noted-grows h h2 ms (Room other (room.Ask g)) before after noted = (done h (deed.Clock ms) before after (λ deeds. Unit {0}) noted.0 tt).grows
noted-grows h h2 ms (Room other (room.Clock g)) before after noted = noted.0
noted-grows h h2 ms UnknownChannel before after noted = subst (IsPrefix before) (sym noted.0) (prefix-self before)
noted-grows h h2 ms (WentBack from found) before after noted = subst (IsPrefix before) (sym noted.0) (prefix-self before)
noted-grows h h2 ms Stranger before after noted = subst (IsPrefix before) (sym noted.0) (prefix-self before)
noted-grows h h2 ms Short before after noted = subst (IsPrefix before) (sym noted.0) (prefix-self before)
noted-grows h h2 ms Memory before after noted = subst (IsPrefix before) (sym noted.0) (prefix-self before)

-- the total of all that was done to it
pub total : (r : Recording) (h : ChannelDeeds) (history : List Logged) (t : Total) → IsRecordOf r h.deeds → h.place ≡ r.room.channel → deeds_at h.place history ≡ h.deeds
    → ((es : List Event) → IsRecorded r es → IsTotalOf r.room.settings es t) → IsTotalOf r.room.settings (events_of r.room.settings (deeds_at r.room.channel history)) t
total r h history t k at all told =
    subst (λ p. IsTotalOf r.room.settings (events_of r.room.settings (deeds_at p history)) t) at
    (subst (λ ds. IsTotalOf r.room.settings (events_of r.room.settings ds) t) (sym all) (told (events_of r.room.settings h.deeds) k.recorded))
