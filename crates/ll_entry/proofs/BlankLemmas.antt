-- What happens on a channel doesn't depend on the bytes of its items: what media has in place of them is as long.
use Rattle.std.proofs.Common.{◌≡◌, ℕ, ◌+◌, ◌*◌, ◌==◌, ◌||◌, ◌&&◌, List, [], ◌∷◌, ◌++◌, Bool, true, false, not, cond, ◌^◌, Option, Some, None, is_none, is_some, option_and_then, option_map, refl, ap, ap₂, sym, ◌∙◌, length, map, filter, find, nat_le, if◌then◌else◌}
use Rattle.std.proofs.lemmas.List.{length-map, length-replicate, map-append}
use Rattle.std.specs.List.{list_any}
use Rattle.ll_directive.specs.Files.{is_playlist}
use Rattle.ll_directive.specs.Targets.{WantValue}
use Rattle.ll_directive.specs.declared.want.Awaited.{Awaited}
use Rattle.ll_directive.specs.declared.want.Awaited.TheVariants as awaited
use Rattle.ll_entry.specs.Blank.{BlankLaw, blank_event, blank_events}
use Rattle.ll_entry.specs.Entered.{is_open_after, same_answer, settled_after, unless_refused, where_it_can}
use Rattle.ll_entry.specs.Replies.{told_in}
use Rattle.ll_entry.specs.declared.entry.Recorded.TheVariants as recorded
use Rattle.ll_entry.specs.declared.version.Version.{Version}
use Rattle.ll_item.specs.Items.{blank}
use Rattle.ll_settings.specs.Settings.{Configuration}
use Rattle.ll_item.specs.Told.{Told}
use Rattle.ll_item.specs.declared.item.Item.{Item}
use Rattle.ll_pieces.specs.View.{Paged}
use Rattle.ll_rendition.specs.Refusal.{first_refusal}
use Rattle.ll_store.specs.Media.{media}
use Rattle.ll_verdict.proofs.StateLemmas.{at_once-is, state-snoc}
use Rattle.ll_verdict.proofs.StepLemmas.{along}
use Rattle.ll_verdict.specs.Accepted.{refusal}
use Rattle.ll_verdict.specs.Events.{Event, Publish, Ask, Collect, Close, Clock, asks, counted, items, later, taken}
use Rattle.ll_verdict.specs.Full.{full_by, is_full, refusal_after}
use Rattle.ll_verdict.specs.Outcome.{outcome_of}
use Rattle.ll_verdict.specs.State.{State, answer_of, is_waiting, new_slots, next, settle, slot_by, state_of, stays, waiting_in}
use Rattle.ll_verdict.specs.Verdict.{at_once, far, given, held, holds, is_busy, is_hinted, is_there, media_now, media_of, media_or, media_or_none, page_of, playlist_now, reply_by, reply_of, reply_with, wanted_of}
use Rattle.ll_verdict.specs.Waiting.{has_ticket, is_ready_at, reply_at, settled_in}
use Rattle.ll_verdict.specs.declared.entry.Slot.{Slot}
use Rattle.ll_verdict.specs.declared.reply.Outcome.{Outcome}
use Rattle.ll_verdict.specs.declared.reply.Outcome.TheVariants as outcome
use Rattle.ll_verdict.specs.declared.reply.Reply.{Reply}
use Rattle.ll_verdict.specs.declared.reply.Reply.TheVariants as now
use Rattle.ll_verdict.specs.declared.reply.Settled.{Settled}
use Rattle.ll_verdict.specs.declared.reply.Settled.TheVariants as settled
use Rattle.ll_verdict.specs.declared.wanted.Wanted.{Wanted}
use Rattle.ll_window.specs.Numbers.{numbered_parts}
use Rattle.ll_window.specs.Rows.{Row}
use Rattle.ll_window.specs.Segments.{ended, own}
use Rattle.ll_window.specs.Wants.{place_of, reaches}
use Rattle.ll_window.specs.Wants as wants
use Rattle.ll_entry.proofs.ItemBlanks.{each-blank, finished_of, last_in, open_of, own-blank, filter-same, refusal-blank, rows_of, told-blank}
use Rattle.ll_entry.proofs.StoreBlanks.{media-blank, zeros_for}

-- ---- what is there

holds-blank : (c : Configuration) (xs : List Item) (a : Awaited) → holds c (map blank xs) a ≡ holds c xs a
holds-blank c xs awaited.Nothing = refl
holds-blank c xs (awaited.Segment msn) = ap (λ t. list_any (λ (r : Row). nat_le msn r.segment.number) (rows_of c t)) (told-blank xs)
holds-blank c xs (awaited.Part msn part) =
    ap (λ (t : Told). list_any (λ p. reaches msn part (place_of p)) (numbered_parts c.first 0 t.parts)) (told-blank xs)

ended-blank : (xs : List Item) → ended (map blank xs) ≡ ended xs
ended-blank xs = ap (λ (t : Told). t.ended) (told-blank xs)

there-blank : (c : Configuration) (xs : List Item) (a : Wanted) → is_there c (map blank xs) a ≡ is_there c xs a
unfolding is_there
there-blank c xs a =
    ap (λ ys. holds c ys a.awaited || ended ys) (own-blank a.rendition xs)
    ∙ ap₂ (λ h e. h || e) (holds-blank c (own a.rendition xs) a.awaited) (ended-blank (own a.rendition xs))

far_of : (c : Configuration) (xs : List Item) (msn : ℕ) (part : Option ℕ) → wants.far c (map blank xs) msn part ≡ wants.far c xs msn part
far_of c xs msn part = ap (λ t. wants.far_by c (last_in c t) (c.first + length (finished_of t)) (open_of t) msn part) (told-blank xs)

far_by : (c : Configuration) (xs : List Item) (a : Awaited) → far c (map blank xs) a ≡ far c xs a
far_by c xs awaited.Nothing = refl
far_by c xs (awaited.Segment msn) = far_of c xs msn None
far_by c xs (awaited.Part msn part) = far_of c xs msn (Some part)

far-blank : (c : Configuration) (xs : List Item) (a : Wanted) → far c (own a.rendition (map blank xs)) a.awaited ≡ far c (own a.rendition xs) a.awaited
far-blank c xs a = ap (λ ys. far c ys a.awaited) (own-blank a.rendition xs) ∙ far_by c (own a.rendition xs) a.awaited

page-blank : (c : Configuration) (xs : List Item) (a : Wanted) → page_of c (map blank xs) a ≡ page_of c xs a
page-blank c xs a =
    ap₂ (λ ks n. record { seen = record { settings = c; renditions = ks; rendition = a.rendition; count = n }; form = a.form })
    (each-blank c xs 0 c.renditions) (length-map xs blank)

-- ---- replies

-- a reply with zeros in place of bytes
abbrev blank_reply : Reply → Reply
blank_reply (now.Media piece) = now.Media (record piece { bytes = zeros_for piece.bytes })
blank_reply (now.Text page) = now.Text page
blank_reply now.NotFound = now.NotFound
blank_reply now.TooFar = now.TooFar
blank_reply now.Busy = now.Busy
blank_reply now.Timeout = now.Timeout

abbrev blank_settled : Settled → Settled
blank_settled (settled.Media piece) = settled.Media (record piece { bytes = zeros_for piece.bytes })
blank_settled (settled.Text page) = settled.Text page
blank_settled settled.NotFound = settled.NotFound
blank_settled settled.Timeout = settled.Timeout

-- a reply has the same outcome
outcome-blank : (r : Reply) → outcome_of (blank_reply r) ≡ outcome_of r
outcome-blank (now.Media piece) = ap (outcome.Media piece.number) (length-replicate (length piece.bytes) 0)
outcome-blank (now.Text page) = refl
outcome-blank now.NotFound = refl
outcome-blank now.TooFar = refl
outcome-blank now.Busy = refl
outcome-blank now.Timeout = refl

settled-blank : (s : Settled) → outcome_of (reply_of (blank_settled s)) ≡ outcome_of (reply_of s)
settled-blank (settled.Media piece) = ap (outcome.Media piece.number) (length-replicate (length piece.bytes) 0)
settled-blank (settled.Text page) = refl
settled-blank settled.NotFound = refl
settled-blank settled.Timeout = refl

own-media : (c : Configuration) (xs : List Item) (a : Wanted) → media_of c (map blank xs) a ≡ option_map zeros_for (media_of c xs a)
own-media c xs a = ap (λ ys. media c ys a.what) (own-blank a.rendition xs) ∙ media-blank c (own a.rendition xs) a.what

given_by : (list : Bool) (n : ℕ) (a : Wanted) (page : Paged) (bytes : Option (List ℕ))
    → cond list (settled.Text page) (media_or_none n a (option_map zeros_for bytes)) ≡ blank_settled (cond list (settled.Text page) (media_or_none n a bytes))
given_by true n a page bytes = refl
given_by false n a page None = refl
given_by false n a page (Some bytes) = refl

settled_by : (there : Bool) (s : Settled) → cond there (blank_settled s) settled.Timeout ≡ blank_settled (cond there s settled.Timeout)
settled_by true s = refl
settled_by false s = refl

with-blank : (c : Configuration) (xs : List Item) (a : Wanted) → reply_with c (map blank xs) a ≡ blank_settled (reply_with c xs a)
with-blank c xs a =
    rw (there-blank c xs a, page-blank c xs a, own-media c xs a, length-map xs blank) refl
    ∙ ap (λ s. cond (is_there c xs a) s settled.Timeout) (given_by (is_playlist a.what) (length xs) a (page_of c xs a) (media_of c xs a))
    ∙ settled_by (is_there c xs a) (given (length xs) a (page_of c xs a) (media_of c xs a))

-- a reply with a playlist, or with nothing, is the same
plain_by : (there far busy : Bool) (page : Paged)
    → (let o : Option Reply = if there then Some (now.Text page) else if far then Some now.TooFar else if busy then Some now.Busy else None in o)
    ≡ option_map blank_reply (if there then Some (now.Text page) else if far then Some now.TooFar else if busy then Some now.Busy else None)
plain_by true far busy page = refl
plain_by false true busy page = refl
plain_by false false true page = refl
plain_by false false false page = refl

playlist-blank : (c : Configuration) (n : ℕ) (xs : List Item) (a : Wanted) → playlist_now c n (map blank xs) a ≡ option_map blank_reply (playlist_now c n xs a)
playlist-blank c n xs a =
    rw (there-blank c xs a, page-blank c xs a, far-blank c xs a) refl
    ∙ plain_by (is_there c xs a) (far c (own a.rendition xs) a.awaited) (is_busy n) (page_of c xs a)

hinted-own : (c : Configuration) (xs : List Item) (a : Awaited) → is_hinted c (map blank xs) a ≡ is_hinted c xs a
hinted-own c xs awaited.Nothing = refl
hinted-own c xs (awaited.Segment msn) = refl
hinted-own c xs (awaited.Part msn part) =
    ap (λ (t : Told). not t.ended && (msn == c.first + length (finished_of t) && part == length (open_of t))) (told-blank xs)

hinted-blank : (c : Configuration) (xs : List Item) (a : Wanted)
    → is_hinted c (own a.rendition (map blank xs)) a.awaited ≡ is_hinted c (own a.rendition xs) a.awaited
hinted-blank c xs a = ap (λ ys. is_hinted c ys a.awaited) (own-blank a.rendition xs) ∙ hinted-own c (own a.rendition xs) a.awaited

media_by : (hinted busy : Bool) (n : ℕ) (a : Wanted) (bytes : Option (List ℕ))
    → media_or n a (option_map zeros_for bytes) (if not hinted then Some now.NotFound else if busy then Some now.Busy else None)
    ≡ option_map blank_reply (media_or n a bytes (if not hinted then Some now.NotFound else if busy then Some now.Busy else None))
media_by hinted busy n a (Some bytes) = refl
media_by true true n a None = refl
media_by true false n a None = refl
media_by false busy n a None = refl

piece-blank : (c : Configuration) (n : ℕ) (xs : List Item) (a : Wanted) → media_now c n (map blank xs) a ≡ option_map blank_reply (media_now c n xs a)
piece-blank c n xs a =
    rw (length-map xs blank, own-media c xs a, hinted-blank c xs a) refl
    ∙ media_by (is_hinted c (own a.rendition xs) a.awaited) (is_busy n) (length xs) a (media_of c xs a)

either_by : (list : Bool) (o p q r : Option Reply) → o ≡ option_map blank_reply q → p ≡ option_map blank_reply r
    → cond list o p ≡ option_map blank_reply (cond list q r)
either_by true o p q r h k = h
either_by false o p q r h k = k

by-blank : (c : Configuration) (n : ℕ) (xs : List Item) (a : Option Wanted) → reply_by c n (map blank xs) a ≡ option_map blank_reply (reply_by c n xs a)
by-blank c n xs None = refl
by-blank c n xs (Some a) =
    either_by (is_playlist a.what) (playlist_now c n (map blank xs) a) (media_now c n (map blank xs) a) (playlist_now c n xs a) (media_now c n xs a)
    (playlist-blank c n xs a) (piece-blank c n xs a)

-- ---- states

taken_by : (b : Bool) (xs : List Item) (i : Item) → cond b (map blank xs ++ blank i ∷ []) (map blank xs) ≡ map blank (cond b (xs ++ i ∷ []) xs)
taken_by true xs i = sym (map-append blank xs (i ∷ []))
taken_by false xs i = refl

taken-blank : (c : Configuration) (xs : List Item) (e : Event) → taken c (map blank xs) (blank_event e) ≡ map blank (taken c xs e)
taken-blank c xs (Publish i) =
    ap (λ o. cond (is_none o) (map blank xs ++ blank i ∷ []) (map blank xs)) (refusal-blank c xs i) ∙ taken_by (is_none (refusal c xs i)) xs i
taken-blank c xs (Ask want) = refl
taken-blank c xs (Collect ticket) = refl
taken-blank c xs (Close ticket) = refl
taken-blank c xs (Clock ms) = refl

later-blank : (t : ℕ) (e : Event) → later t (blank_event e) ≡ later t e
later-blank t (Publish i) = refl
later-blank t (Ask want) = refl
later-blank t (Collect ticket) = refl
later-blank t (Close ticket) = refl
later-blank t (Clock ms) = refl

counted-blank : (n : ℕ) (e : Event) → counted n (blank_event e) ≡ counted n e
counted-blank n (Publish i) = refl
counted-blank n (Ask want) = refl
counted-blank n (Collect ticket) = refl
counted-blank n (Close ticket) = refl
counted-blank n (Clock ms) = refl

-- an open request with zeros in place of bytes
abbrev blank_slot : Slot → Slot
blank_slot s = record s { settled = option_map blank_settled s.settled }

-- whether there is a reply doesn't depend on its bytes
none-blank : (o : Option Settled) → is_none (option_map blank_settled o) ≡ is_none o
none-blank None = refl
none-blank (Some s) = refl

some-blank : (o : Option Settled) → is_some (option_map blank_settled o) ≡ is_some o
some-blank None = refl
some-blank (Some s) = refl

stays-blank : (e : Event) (s : Slot) → stays (blank_event e) (blank_slot s) ≡ stays e s
stays-blank (Publish i) s = refl
stays-blank (Ask want) s = refl
stays-blank (Collect ticket) s = ap (λ b. not (s.entry.ticket == ticket && b)) (some-blank s.settled)
stays-blank (Close ticket) s = refl
stays-blank (Clock ms) s = refl

stay-blank : (e : Event) (ss : List Slot) → filter (stays (blank_event e)) (map blank_slot ss) ≡ map blank_slot (filter (stays e) ss)
stay-blank e ss = filter-same blank_slot (stays e) (stays (blank_event e)) (stays-blank e) ss

waiting-blank : (ss : List Slot) → waiting_in (map blank_slot ss) ≡ waiting_in ss
waiting-blank ss =
    ap length (filter-same blank_slot is_waiting is_waiting (λ s. none-blank s.settled) ss) ∙ length-map (filter is_waiting ss) blank_slot

due_by : (due : Bool) (r : Settled) (o : Option Settled)
    → cond due (Some (blank_settled r)) (option_map blank_settled o) ≡ option_map blank_settled (cond due (Some r) o)
due_by true r o = refl
due_by false r o = refl

one-blank : (c : Configuration) (xs : List Item) (ms : ℕ) (s : Slot) → settle c (map blank xs) ms (blank_slot s) ≡ blank_slot (settle c xs ms s)
one-blank c xs ms s =
    let late = nat_le s.entry.deadline ms in
    let due = is_none s.settled && (is_there c xs s.entry.wanted || late) in
    let before = option_map blank_settled s.settled in
    ap₂ (λ none there. let t : Slot = record s { settled = cond (none && (there || late)) (Some (reply_with c (map blank xs) s.entry.wanted)) before } in t)
    (none-blank s.settled) (there-blank c xs s.entry.wanted)
    ∙ ap (λ r. let t : Slot = record s { settled = cond due (Some r) before } in t) (with-blank c xs s.entry.wanted)
    ∙ ap (λ o. let t : Slot = record s { settled = o } in t) (due_by due (reply_with c xs s.entry.wanted) s.settled)

settle-blank : (c : Configuration) (xs : List Item) (ms : ℕ) (ss : List Slot)
    → map (settle c (map blank xs) ms) (map blank_slot ss) ≡ map blank_slot (map (settle c xs ms) ss)
settle-blank c xs ms [] = refl
settle-blank c xs ms (s ∷ ss) = ap₂ (λ t ts. t ∷ ts) (one-blank c xs ms s) (settle-blank c xs ms ss)

-- the state with zeros in place of all bytes
abbrev blank_state : State → State
blank_state s = record s { items = map blank s.items; slots = map blank_slot s.slots }

answer-blank : (c : Configuration) (s : State) (want : WantValue) → answer_of c (blank_state s) want ≡ option_map blank_reply (answer_of c s want)
answer-blank c s want =
    ap (λ n. reply_by c n (map blank s.items) (wanted_of c want)) (waiting-blank s.slots) ∙ by-blank c (waiting_in s.slots) s.items (wanted_of c want)

slot-blank : (c : Configuration) (o : Option Reply) (s : State) (a : Option Wanted)
    → slot_by c (option_map blank_reply o) (blank_state s) a ≡ map blank_slot (slot_by c o s a)
slot-blank c None s None = refl
slot-blank c None s (Some a) =
    ap (λ n. (record {
      entry = record { ticket = s.asks + 1; wanted = a; seen = n; deadline = s.time + 3000 * c.target };
      settled = None;
    }) ∷ []) (length-map s.items blank)
slot-blank c (Some answer) s a = refl

new-blank : (c : Configuration) (s : State) (e : Event) → new_slots c (blank_state s) (blank_event e) ≡ map blank_slot (new_slots c s e)
new-blank c s (Publish i) = refl
new-blank c s (Ask want) =
    ap (λ o. slot_by c o (blank_state s) (wanted_of c want)) (answer-blank c s want) ∙ slot-blank c (answer_of c s want) s (wanted_of c want)
new-blank c s (Collect ticket) = refl
new-blank c s (Close ticket) = refl
new-blank c s (Clock ms) = refl

slots-blank : (c : Configuration) (s : State) (e : Event) → (next c (blank_state s) (blank_event e)).slots ≡ map blank_slot (next c s e).slots
slots-blank c s e =
    let kept = map (settle c (taken c s.items e) (later s.time e)) (filter (stays e) s.slots) in
    ap₂ (λ xs ms. map (settle c xs ms) (filter (stays (blank_event e)) (map blank_slot s.slots)) ++ new_slots c (blank_state s) (blank_event e))
    (taken-blank c s.items e) (later-blank s.time e)
    ∙ ap₂ (λ ss new. map (settle c (map blank (taken c s.items e)) (later s.time e)) ss ++ new) (stay-blank e s.slots) (new-blank c s e)
    ∙ ap (λ ss. ss ++ map blank_slot (new_slots c s e)) (settle-blank c (taken c s.items e) (later s.time e) (filter (stays e) s.slots))
    ∙ sym (map-append blank_slot kept (new_slots c s e))

abbrev with_all : State → List Item → ℕ → ℕ → List Slot → State
with_all s xs time asks slots = record { items = xs; time = time; asks = asks; slots = slots; events = s.events + 1 }

next-blank : (c : Configuration) (s : State) (e : Event) → next c (blank_state s) (blank_event e) ≡ blank_state (next c s e)
next-blank c s e =
    ap₂ (λ xs ms. with_all s xs ms (counted s.asks (blank_event e)) (next c (blank_state s) (blank_event e)).slots) (taken-blank c s.items e) (later-blank s.time e)
    ∙ ap₂ (λ n ss. with_all s (map blank (taken c s.items e)) (later s.time e) n ss) (counted-blank s.asks e) (slots-blank c s e)

pub state-blank : (c : Configuration) (es : List Event) → state_of c (blank_events es) ≡ blank_state (state_of c es)
state-blank c es = along (λ fs. state_of c (blank_events fs) ≡ blank_state (state_of c fs)) refl
    (λ fs e h.
    ap (state_of c) (map-append blank_event fs (e ∷ []))
    ∙ state-snoc c (blank_events fs) (blank_event e)
    ∙ ap (λ s. next c s (blank_event e)) h
    ∙ next-blank c (state_of c fs) e
    ∙ ap blank_state (sym (state-snoc c fs e))) es

-- ---- entries

refused-blank : (c : Configuration) (es : List Event) (i : Item) → refusal_after c (blank_events es) (blank i) ≡ refusal_after c es i
refused-blank c es i =
    ap₂ (λ xs n. first_refusal (refusal c xs (blank i)) (full_by (is_full n))) (ap (λ (s : State). s.items) (state-blank c es)) (length-map es blank_event)
    ∙ ap (λ o. first_refusal o (full_by (is_full (length es)))) (refusal-blank c (items c es) i)

answered-blank : (c : Configuration) (es : List Event) (want : WantValue)
    → at_once c (held c (blank_events es)) (blank_events es) want ≡ option_map blank_reply (at_once c (held c es) es want)
answered-blank c es want =
    at_once-is c (blank_events es) want ∙ ap (λ s. answer_of c s want) (state-blank c es) ∙ answer-blank c (state_of c es) want
    ∙ ap (option_map blank_reply) (sym (at_once-is c es want))

asks-blank : (c : Configuration) (es : List Event) → asks (blank_events es) ≡ asks es
asks-blank c es = ap (λ (s : State). s.asks) (state-blank c es)

-- the outcome of a reply to a request that had to wait
abbrev settled_outcome : Settled → Outcome
settled_outcome s = outcome_of (reply_of s)

told-once : (v : Version) (o : Option Reply)
    → option_map (λ r. told_in v (outcome_of r)) (option_map blank_reply o) ≡ option_map (λ r. told_in v (outcome_of r)) o
told-once v None = refl
told-once v (Some r) = ap (λ o. Some (told_in v o)) (outcome-blank r)

told-later : (o : Option Settled) → option_map settled_outcome (option_map blank_settled o) ≡ option_map settled_outcome o
told-later None = refl
told-later (Some s) = ap Some (settled-blank s)

-- ---- open requests

any-blank : (ask : ℕ) (ss : List Slot) → list_any (has_ticket ask) (map blank_slot ss) ≡ list_any (has_ticket ask) ss
any-blank ask [] = refl
any-blank ask (s ∷ ss) = ap (λ b. has_ticket ask s || b) (any-blank ask ss)

found_by : (b : Bool) (s : Slot) (o p : Option Slot) → option_and_then settled_in o ≡ option_map blank_settled (option_and_then settled_in p)
    → option_and_then settled_in (cond b (Some (blank_slot s)) o) ≡ option_map blank_settled (option_and_then settled_in (cond b (Some s) p))
found_by true s o p h = refl
found_by false s o p h = h

reply-blank : (ask : ℕ) (ss : List Slot) → reply_at ask (map blank_slot ss) ≡ option_map blank_settled (reply_at ask ss)
reply-blank ask [] = refl
reply-blank ask (s ∷ ss) =
    let later = find (is_ready_at ask) (map blank_slot ss) in
    ap (λ b. option_and_then settled_in (cond (s.entry.ticket == ask && b) (Some (blank_slot s)) later)) (some-blank s.settled)
    ∙ found_by (is_ready_at ask s) s later (find (is_ready_at ask) ss) (reply-blank ask ss)

open-same : (c : Configuration) (es : List Event) (ask : ℕ) → is_open_after c (blank_events es) ask ≡ is_open_after c es ask
open-same c es ask = ap (λ (s : State). list_any (has_ticket ask) s.slots) (state-blank c es) ∙ any-blank ask (state_of c es).slots

settled-same : (c : Configuration) (es : List Event) (ask : ℕ) → settled_after c (blank_events es) ask ≡ settled_after c es ask
settled-same c es ask =
    ap (λ (s : State). option_map settled_outcome (reply_at ask s.slots)) (state-blank c es)
    ∙ ap (option_map settled_outcome) (reply-blank ask (state_of c es).slots)
    ∙ told-later (reply_at ask (state_of c es).slots)

pub fault-blank : BlankLaw
fault-blank v c es (recorded.Publish i) = ap unless_refused (refused-blank c es i)
fault-blank v c es (recorded.Ask ask want reply) =
    let now = at_once c (held c es) es want in
    let told : Option Reply → Option Outcome = option_map (λ r. told_in v (outcome_of r)) in
    ap₂ (λ n k. where_it_can (ask == n + 1 && not (is_full k)) (same_answer reply (told (at_once c (held c (blank_events es)) (blank_events es) want))))
    (asks-blank c es) (length-map es blank_event)
    ∙ ap (λ o. where_it_can (ask == asks es + 1 && not (is_full (length es))) (same_answer reply o)) (ap told (answered-blank c es want) ∙ told-once v now)
fault-blank v c es (recorded.Clock ms) = ap (λ k. where_it_can (nat_le ms (2 ^ 60) && not (is_full k)) true) (length-map es blank_event)
fault-blank v c es (recorded.Collect ask reply) =
    ap₂ (λ can o. where_it_can can (same_answer (Some reply) (option_map (told_in v) o))) (open-same c es ask) (settled-same c es ask)
fault-blank v c es (recorded.Close ask) = ap (λ can. where_it_can can true) (open-same c es ask)
