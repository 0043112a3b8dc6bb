-- After each act, and so after each line, no reply is due: all were handed out.
use Rattle.std.proofs.Common.{◌≡◌, ℕ, zero, suc, ◌+◌, ◌≤◌, ◌==◌, ◌||◌, List, [], ◌∷◌, ◌++◌, Bool, true, false, cond, Option, Some, None, is_some, refl, ap, sym, ◌∙◌, subst, filter, fold, length, map, nat_lt, slice_get, slice_set, arith, if◌then◌else◌}
use Rattle.ll_verdict.specs.Waiting.{is_ready, ticket_in}
use Rattle.ll_connection.proofs.RoomsLaws.{bytes-keeps, end-keeps, reply-keeps}
use Rattle.ll_connection.specs.Visit.{Luck}
use Rattle.ll_directive.specs.Targets.{WantValue}
use Rattle.ll_script_rooms.specs.declared.owner.Owner.{Owner}
use Rattle.ll_script_rooms.specs.declared.owner.Owner.TheVariants.{Get, Connection}
use Rattle.ll_script_rooms.specs.declared.wait.Wait.{Wait}
use Rattle.ll_settings.specs.Settings.{Configuration}
use Rattle.ll_item.specs.declared.item.Item.{Item}
use Rattle.ll_verdict.specs.Full.{refusal_after}
use Rattle.ll_verdict.specs.declared.fault.ClockFault.{ClockFault}
use Rattle.ll_room.proofs.KeptLemmas.{short-filter}
use Rattle.ll_script.specs.Lines.{acts, starved}
use Rattle.ll_script.specs.declared.act.Act.{Act}
use Rattle.ll_script.specs.declared.act.Act.TheVariants.{Declare, Offer, At, Refuse, Ask, Answer, Close, Clock, RefuseClock, Bytes, Drop}
use Rattle.ll_verdict.specs.Events as event
use Rattle.ll_verdict.specs.Verdict.{reply_of}
use Rattle.ll_verdict.specs.State.{state_of}
use Rattle.ll_verdict.specs.declared.entry.Slot.{Slot}
use Rattle.ll_rendition.specs.declared.fault.PublishFault.{PublishFault}
use Rattle.ll_verdict.specs.declared.reply.Reply.{Reply}
use Rattle.ll_verdict.proofs.ListLemmas.{Each, each-append}
use Rattle.ll_script_rooms.specs.Kept.{is_in, ticket_of, tickets_at}
use Rattle.ll_script_rooms.specs.World as rooms
use Rattle.ll_script_rooms.specs.World.{Channel, World, all_settings, silent, with_event}
use Rattle.ll_script_rooms.specs.declared.answer.ActAnswer as answer
use Rattle.ll_script_rooms.specs.declared.answer.ActAnswer.TheVariants as said
use Rattle.ll_script_rooms.proofs.EventLaws as events
use Rattle.ll_script_rooms.proofs.TieLemmas.{equal, get_other, get_set, none_some, same_test, some_is}
use Rattle.ll_script_rooms.proofs.WaitLemmas.{IsOpen, opens}
use Rattle.ll_replay.specs.Script.{Lot, Marked, Script, act, done, done_as, heard, line, passed_on, passed_to, rest_at, so_many, start, next_reply}
use Rattle.ll_script_laws.proofs.ActLemmas.{AreSound, IsSound, acts-sound, starved-sound}
use Rattle.ll_script_laws.proofs.CalmLemmas.{IsCalm, IsSilent, calm-none, none-calm, silent-calm, told-calm}
use Rattle.ll_script_laws.proofs.DueLemmas as due
use Rattle.ll_script_laws.proofs.ScriptLemmas.{lines-keep}
use Rattle.ll_script_laws.specs.Laws.{NoneLeftLaw}
use Rattle.ll_script_laws.specs.Talks.{acts_in, acts_of, listed}

-- at each place at most `most place` replies are there and not handed out
abbrev AreCalm : (ℕ → ℕ) → List Channel → Type 0
AreCalm most cs = (place : ℕ) (c : Channel) → slice_get cs place ≡ Some c → IsCalm (most place) c

abbrev none_there : ℕ → ℕ
none_there place = 0

abbrev at_most : ℕ → ℕ → ℕ → ℕ
at_most place k j = if j == place then k else 0

-- ---- one event

one-event : (most more : ℕ → ℕ) (cs : List Channel) (i : ℕ) (c : Channel) (e : event.Event) → ((j : ℕ) → (j == i) ≡ false → most j ≡ more j) → IsCalm (more i) (with_event e c)
    → slice_get cs i ≡ Some c → AreCalm most cs → AreCalm more (slice_set cs i (with_event e c))
one-event most more cs i c e same calm at h place d there = by (place == i) refl
  where
    by : (b : Bool) → (place == i) ≡ b → IsCalm (more place) d
    by true f =
        let is : with_event e c ≡ d =
        some_is (with_event e c) d
        (sym (get_set cs i c (with_event e c) at) ∙ ap (slice_get (slice_set cs i (with_event e c))) (sym (equal place i f)) ∙ there) in
        subst (λ j. IsCalm (more j) d) (sym (equal place i f)) (subst (IsCalm (more i)) is calm)
    by false f = subst (λ k. IsCalm k d) (same place f) (h place d (sym (get_other cs i place (with_event e c) f) ∙ there))

module _ (most : ℕ → ℕ) where
  silent-event : (cs : List Channel) (i : ℕ) (c : Channel) (e : event.Event) → IsSilent e → slice_get cs i ≡ Some c → AreCalm most cs
      → AreCalm most (slice_set cs i (with_event e c))
  silent-event cs i c e m at h = one-event most most cs i c e (λ j f. refl) (silent-calm (most i) c e m (h i c at)) at h

  asks : (w : World) (o : Owner) (place : ℕ) (want : WantValue) → AreCalm most w.channels → AreCalm most (silent (rooms.ask o place want (silent w))).channels
  asks w o place want h = events.ask-keeps (AreCalm most) IsSilent silent-event (silent w) o place want tt h

  closes : (w : World) (o : Owner) → AreCalm most w.channels → AreCalm most (rooms.close o w).channels
  closes w o h = events.close-keeps (AreCalm most) IsSilent silent-event w o (λ t. tt) h

  passed : (lucks : List Luck) (w : Script) (o : Owner) (a : Reply) → AreCalm most w.rooms.channels → AreCalm most (passed_to lucks o a w).rooms.channels
  passed lucks w (Get id) a h = h
  passed lucks w (Connection n) a h = reply-keeps (λ v. AreCalm most v.channels) asks closes lucks n a w.connections w.rooms h

-- ---- replies that are due are handed out

swap : (place j k l : ℕ) → (j == place) ≡ false → at_most place k j ≡ at_most place l j
swap place j k l f = ap (λ b. if b then k else 0) f ∙ sym (ap (λ b. if b then l else 0) f)

next_reply-calm : (place k : ℕ) (w : Script) (lucks : List Luck) → due.Holds w → AreCalm (at_most place (k + 1)) w.rooms.channels
    → AreCalm (at_most place k) (next_reply place w lucks).rooms.channels
next_reply-calm place k w lucks met h = by (rooms.next_reply place w.rooms) (due.ticks w.rooms place met.met.rooms)
  where
    at_place : (n : ℕ) → at_most place n place ≡ n
    at_place n = ap (λ b. if b then n else 0) (same_test place)

    by : (v : World) → due.Ticks w.rooms place v → AreCalm (at_most place k) (fold (passed_on lucks) (heard w v) v.answers).rooms.channels
    by v (due.Nothing none e) =
        subst (λ (v : World). AreCalm (at_most place k) (fold (passed_on lucks) (heard w v) v.answers).rooms.channels) (sym e)
        (subst (λ answers. AreCalm (at_most place k) (fold (passed_on lucks) (heard w w.rooms) answers).rooms.channels) (sym met.quiet) (λ j c there. here j c there (j == place) refl))
      where
        here : (j : ℕ) (c : Channel) → slice_get w.rooms.channels j ≡ Some c → (b : Bool) → (j == place) ≡ b → IsCalm (at_most place k j) c
        here j c there true f =
            let calm : IsCalm 0 c = none-calm c (h j c there).low (none c (ap (slice_get w.rooms.channels) (sym (equal j place f)) ∙ there)) in
            record { low = calm.low; few = omega (arith, calm.few) }
        here j c there false f = subst (λ n. IsCalm n c) (swap place j (k + 1) k f) (h j c there)
    by v (due.Tells c r x s at is found told e) =
        let u = due.told_in w.rooms place c r x s in
        let calm : IsCalm (at_most place k place) (with_event (event.Collect r.ticket) c) =
        subst (λ n. IsCalm n (with_event (event.Collect r.ticket) c)) (sym (at_place k)) (told-calm k c r is (subst (λ n. IsCalm n c) (at_place (k + 1)) (h place c at))) in
        subst (λ (v : World). AreCalm (at_most place k) (fold (passed_on lucks) (heard w v) v.answers).rooms.channels) (sym e)
        (subst (λ (answers : List answer.ActAnswer). AreCalm (at_most place k) (fold (passed_on lucks) (heard w u) (answers ++ said.Replied x.owner (reply_of s) ∷ [])).rooms.channels)
        (sym met.quiet)
        (passed (at_most place k) lucks (heard w u) x.owner (reply_of s)
        (one-event (at_most place (k + 1)) (at_most place k) w.rooms.channels place c (event.Collect r.ticket) (λ j f. swap place j (k + 1) k f) calm at h)))

ticks-calm : (place : ℕ) (replies : List (List Luck)) (w : Script) → due.Holds w → AreCalm (at_most place (length replies)) w.rooms.channels
    → AreCalm (at_most place 0) (fold (next_reply place) w replies).rooms.channels
ticks-calm place [] w met h = h
ticks-calm place (lucks ∷ replies) w met h =
    let same : length (lucks ∷ replies) ≡ length replies + 1 = omega arith in
    ticks-calm place replies (next_reply place w lucks) (due.next_reply-holds place w lucks met)
    (next_reply-calm place (length replies) w lucks met (subst (λ m. AreCalm (at_most place m) w.rooms.channels) same h))

so_many-length : (n : ℕ) (replies : List (List Luck)) → length (so_many n replies) ≡ n
so_many-length zero replies = refl
so_many-length (suc n) [] = ap suc (so_many-length n [])
so_many-length (suc n) (lucks ∷ replies) = ap suc (so_many-length n replies)

-- as many replies as requests wait may be due at a place
few-there : (w : World) (place : ℕ) (c : Channel) → IsOpen w → slice_get w.channels place ≡ Some c → length (filter is_ready (state_of c.settings c.events).slots) ≤ length w.waits
few-there w place c tied at =
    let slots = (state_of c.settings c.events).slots in
    let same : length (tickets_at place w.waits) ≡ length (map ticket_in slots) = ap length (tied place) ∙ ap (λ o. length (opens o)) at in
    omega (arith, short-filter is_ready slots, same, long slots, short w.waits)
  where
    long : (ss : List Slot) → length (map ticket_in ss) ≡ length ss
    long [] = refl
    long (s ∷ ss) = ap suc (long ss)

    short : (xs : List Wait) → length (tickets_at place xs) ≤ length xs
    short [] = omega arith
    short (x ∷ xs) = by (is_in place x) (short xs)
      where
        by : (b : Bool) → length (tickets_at place xs) ≤ length xs → length (map ticket_of (cond b (x ∷ filter (is_in place) xs) (filter (is_in place) xs))) ≤ length (x ∷ xs)
        by true ih = omega (arith, ih)
        by false ih = omega (arith, ih)

-- an event may have made replies due at its place
made-due : (w v : World) (place : ℕ) (c : Channel) (e : event.Event) → slice_get w.channels place ≡ Some c → v.channels ≡ slice_set w.channels place (with_event e c) → IsOpen v
    → AreCalm none_there w.channels → AreCalm (at_most place (length v.waits)) v.channels
made-due w v place c e at is tied h =
    let most : at_most place (length v.waits) place ≡ length v.waits = ap (λ b. if b then length v.waits else 0) (same_test place) in
    let there : slice_get v.channels place ≡ Some (with_event e c) = ap (λ cs. slice_get cs place) is ∙ get_set w.channels place c (with_event e c) at in
    let calm : IsCalm (at_most place (length v.waits) place) (with_event e c) =
    record {
      low = (h place c at).low;
      few = subst (λ n. length (filter is_ready (state_of c.settings (c.events ++ e ∷ [])).slots) ≤ n) (sym most) (few-there v place (with_event e c) tied there);
    } in
    subst (AreCalm (at_most place (length v.waits))) (sym is)
    (one-event none_there (at_most place (length v.waits)) w.channels place c e (λ j f. sym (ap (λ b. if b then length v.waits else 0) f)) calm at h)

-- where none happened, none are due
none-made : (cs : List Channel) (place k : ℕ) → AreCalm none_there cs → AreCalm (at_most place k) cs
none-made cs place k h j c there = let calm = h j c there in record { low = calm.low; few = omega (arith, calm.few) }

offer-calm : (w : World) (place : ℕ) (item : Item) → IsOpen (rooms.offer place item w) → AreCalm none_there w.channels
    → AreCalm (at_most place (length (rooms.offer place item w).waits)) (rooms.offer place item w).channels
offer-calm w place item tied h = at (slice_get w.channels place) refl tied
  where
    by : (c : Channel) (f : Option PublishFault) → slice_get w.channels place ≡ Some c → IsOpen (rooms.offered w place c item f)
        → AreCalm (at_most place (length (rooms.offered w place c item f).waits)) (rooms.offered w place c item f).channels
    by c (Some f) e tied = none-made w.channels place (length w.waits) h
    by c None e tied = made-due w (rooms.offered w place c item None) place c (event.Publish item) e refl tied h

    at : (o : Option Channel) → slice_get w.channels place ≡ o → IsOpen (rooms.offer_at w place item o)
        → AreCalm (at_most place (length (rooms.offer_at w place item o).waits)) (rooms.offer_at w place item o).channels
    at None e tied = none-made w.channels place (length w.waits) h
    at (Some c) e tied = by c (refusal_after c.settings c.events item) e tied

clock-calm : (w : World) (place ms : ℕ) → IsOpen (rooms.clock place ms w) → AreCalm none_there w.channels
    → AreCalm (at_most place (length (rooms.clock place ms w).waits)) (rooms.clock place ms w).channels
clock-calm w place ms tied h = at (slice_get w.channels place) refl tied
  where
    by : (c : Channel) (f : Option ClockFault) → slice_get w.channels place ≡ Some c → IsOpen (rooms.clocked w place c ms f)
        → AreCalm (at_most place (length (rooms.clocked w place c ms f).waits)) (rooms.clocked w place c ms f).channels
    by c (Some f) e tied = none-made w.channels place (length w.waits) h
    by c None e tied = made-due w (rooms.clocked w place c ms None) place c (event.Clock ms) e refl tied h

    at : (o : Option Channel) → slice_get w.channels place ≡ o → IsOpen (rooms.clock_at w place ms o)
        → AreCalm (at_most place (length (rooms.clock_at w place ms o).waits)) (rooms.clock_at w place ms o).channels
    at None e tied = none-made w.channels place (length w.waits) h
    at (Some c) e tied = by c (rooms.clock_refusal ms c.events) e tied

declare-calm : (cs : List Channel) (c : Configuration) → 1 ≤ c.target → AreCalm none_there cs → AreCalm none_there (cs ++ (record { settings = c; events = [] }) ∷ [])
declare-calm [] c low h zero d e =
    subst (IsCalm 0) (some_is (record { settings = c; events = [] }) d e) (record { low = low; few = omega arith })
declare-calm [] c low h (suc j) d e = absurd (none_some d e)
declare-calm (x ∷ cs) c low h zero d e = h zero d e
declare-calm (x ∷ cs) c low h (suc j) d e = declare-calm cs c low (λ k d there. h (suc k) d there) j d e

-- ---- acts and lines

all-told : (replies : List (List Luck)) (place : ℕ) (v : Script) → due.Holds v → AreCalm (at_most place (length v.rooms.waits)) v.rooms.channels
    → AreCalm none_there (rest_at replies place v).rooms.channels
all-told replies place v met h j c there =
    let n = length v.rooms.waits in
    subst (λ n. IsCalm n c) (none (j == place))
    (ticks-calm place (so_many n replies) v met (subst (λ m. AreCalm (at_most place m) v.rooms.channels) (sym (so_many-length n replies)) h) j c there)
  where
    none : (b : Bool) → ◌≡◌ {A = ℕ} (if b then 0 else 0) 0
    none true = refl
    none false = refl

as-calm : (lot : Lot) (w : Script) (a : Act) → due.Holds w → IsSound a → AreCalm none_there w.rooms.channels → AreCalm none_there (done_as lot w a).rooms.channels
as-calm lot w (Declare c) met s h = declare-calm w.rooms.channels c s.target_low h
as-calm lot w (Offer place item) met s h =
    let v = act lot.requests w (Offer place item) in
    let m = due.act-holds lot.requests w (Offer place item) met in
    all-told lot.replies place v m (offer-calm w.rooms place item m.met.rooms h)
as-calm lot w (At place rendition) met s h = h
as-calm lot w (Refuse reason) met s h = h
as-calm lot w (Ask id place want) met s h = events.ask-keeps (AreCalm none_there) IsSilent (silent-event none_there) w.rooms (Get id) place want tt h
as-calm lot w (Answer id reason) met s h = h
as-calm lot w (Close id) met s h = closes none_there w.rooms (Get id) h
as-calm lot w (Clock place ms) met s h =
    let v = act lot.requests w (Clock place ms) in
    let m = due.act-holds lot.requests w (Clock place ms) met in
    all-told lot.replies place v m (clock-calm w.rooms place ms m.met.rooms h)
as-calm lot w RefuseClock met s h = h
as-calm lot w (Bytes n piece) met s h =
    bytes-keeps (λ v. AreCalm none_there v.channels) (asks none_there) (closes none_there) lot.requests n piece w.connections w.rooms h
as-calm lot w (Drop n) met s h = end-keeps (λ v. AreCalm none_there v.channels) (asks none_there) (closes none_there) n w.connections w.rooms h

done-calm : (refused : Bool) (lot : Lot) (w : Script) (a : Act) → due.Holds w → IsSound a → AreCalm none_there w.rooms.channels
    → AreCalm none_there (done_as lot w (if refused then starved a else a)).rooms.channels
done-calm true lot w a met s h = as-calm lot w (starved a) met (starved-sound a s) h
done-calm false lot w a met s h = as-calm lot w a met s h

each-parts : {X : Type 0} (P : X → Type 0) (xs : List X) (x : X) → Each P (xs ++ x ∷ []) → Each P xs × P x
each-parts P [] x h = (tt, h.0)
each-parts P (y ∷ xs) x h = let r = each-parts P xs x h.1 in ((h.0, r.0), r.1)

sound_by : (b : Bool) (o : Option (List Act)) → AreSound o → Each IsSound (if b then [] else listed o)
sound_by true o h = tt
sound_by false None h = tt
sound_by false (Some list) h = h

all-sound : (w : Script) (ls : List Marked) → Each IsSound (acts_of w ls)
all-sound w [] = tt
all-sound w (l ∷ ls) =
    each-append IsSound (acts_in w l) (acts_of (line w l) ls)
    (sound_by (is_some w.ending || nat_lt 65536 (length l.text)) (acts (all_settings w.rooms) w.last_id l.text) (acts-sound (all_settings w.rooms) w.last_id l.text)) (all-sound (line w l) ls)

abbrev Calm : List Act → Script → Type 0
Calm list w = due.Holds w × (Each IsSound list → AreCalm none_there w.rooms.channels)

calm-done : (list : List Act) (w : Script) (a : Lot × Act) → Calm list w → Calm (list ++ a.1 ∷ []) (done w a)
calm-done list w a h = (
  due.done-holds w a h.0,
  λ sound. let s = each-parts IsSound list a.1 sound in done-calm a.0.refused a.0 w a.1 h.0 s.1 (h.1 s.0),
)

pub none-left : NoneLeftLaw
none-left ls place c there =
    let h =
    lines-keep Calm calm-done (λ all w lines ending h. (due.same-holds w lines ending h.0, h.1)) [] start ls (due.start-holds, λ sound j c e. absurd (none_some c e)) in
    calm-none c (h.1 (all-sound start ls) place c there)
