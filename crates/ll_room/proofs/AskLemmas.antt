-- One more request of a room: its answer, and what the room stands for then.
use Rattle.std.proofs.Common.{◌≡◌, ℕ, ◌+◌, ◌≤◌, ◌<◌, List, [], ◌∷◌, ◌++◌, Bool, true, false, cond, nat_le, not, Option, option_map, is_some, Some, None, length, refl, ap, ap₂, ◌∙◌, sym, filter, map, append-nil, arith, subst}
use Rattle.std.proofs.lemmas.Bool.Decides.{nat_tests}
use Rattle.ll_settings.specs.Settings.{Configuration}
use Rattle.ll_directive.specs.Targets.{WantValue}
use Rattle.ll_pieces.specs.View.{Paged}
use Rattle.ll_directive.specs.Files.{is_playlist}
use Rattle.ll_window.specs.Segments.{own}
use Rattle.std.proofs.lemmas.List.{map-append}
use Rattle.ll_verdict.specs.Waiting.{AreBelow, ticket_in}
use Rattle.ll_verdict.specs.Events.{Event, Ask, items, time}
use Rattle.ll_verdict.specs.State.{State, state_of, settle, stays, slot_by, answer_of, next, waiting_in}
use Rattle.ll_verdict.specs.Verdict.{is_hinted, is_there, media_of, page_of, piece_of, wanted_of, waiting_limit}
use Rattle.ll_verdict.specs.Verdict as verdict
use Rattle.ll_verdict.specs.declared.entry.Slot.{Slot}
use Rattle.ll_verdict.specs.declared.reply.Reply.{Reply}
use Rattle.ll_verdict.specs.declared.reply.Reply.TheVariants as now
use Rattle.ll_verdict.specs.declared.wanted.Wanted.{Wanted}
use Rattle.ll_item.specs.declared.item.Item.{Item}
use Rattle.ll_presentation.proofs.HereLemmas.{media-is, page-here, piece-here}
use Rattle.ll_presentation.specs.PresentationValue.{Shows}
use Rattle.ll_presentation.specs.Here.{media_here, page_now}
use Rattle.ll_room.specs.Decided.{reply_here}
use Rattle.ll_room.specs.RoomValue.{RoomValue, Stands, less, presentation_in, room_value, tickets}
use Rattle.ll_room.specs.Kept.{with_answer, with_held}
use Rattle.ll_room.proofs.IdleLemmas.{idle, same_slots}
use Rattle.ll_room.proofs.KeptLemmas.{newest}
use Rattle.ll_room.proofs.StandLemmas.{all_stay, stands-by, told}

-- the state that a room stands for
abbrev of : RoomValue → List Event → State
of h es = state_of h.settings es

abbrev with_reply : RoomValue → Option Reply → Option Wanted → RoomValue
with_reply h (Some reply) a = with_answer h
with_reply h None (Some a) = with_held h a
with_reply h None None = with_answer h

-- the open requests of before, which are not due
stay : (c : Configuration) (es : List Event) (w : WantValue) → 1 ≤ c.target
    → map (settle c (items c es) (time es)) (filter (stays (Ask w)) (state_of c es).slots) ≡ (state_of c es).slots
stay c es w low =
    ap (map (settle c (items c es) (time es))) (all_stay (Ask w) (state_of c es).slots (λ s. refl))
    ∙ same_slots c (items c es) (time es) (state_of c es).slots (idle c es low)

asked-next : (channel : ℕ) (c : Configuration) (es : List Event) (w : WantValue) (o : Option Reply) → 1 ≤ c.target → answer_of c (state_of c es) w ≡ o
    → with_reply (room_value channel c (state_of c es)) o (wanted_of c w) ≡ room_value channel c (next c (state_of c es) (Ask w))
asked-next channel c es w o low e =
    by_wanted o (wanted_of c w)
    ∙ ap (λ x. finish (slot_by c x (state_of c es) (wanted_of c w))) (sym e)
    ∙ ap (λ ss. finish_on ss (slot_by c (answer_of c (state_of c es) w) (state_of c es) (wanted_of c w))) (sym (stay c es w low))
  where
    before : List Slot
    before = (state_of c es).slots

    finish_on : List Slot → List Slot → RoomValue
    finish_on old more = record (room_value channel c (state_of c es)) { asks = (state_of c es).asks + 1; slots = old ++ more; events = (state_of c es).events + 1 }

    finish : List Slot → RoomValue
    finish more = finish_on before more

    by_wanted : (o : Option Reply) (a : Option Wanted) → with_reply (room_value channel c (state_of c es)) o a ≡ finish (slot_by c o (state_of c es) a)
    by_wanted (Some reply) a = ap (λ ss. record (with_answer (room_value channel c (state_of c es))) { slots = ss }) (sym (append-nil before))
    by_wanted None (Some a) = refl
    by_wanted None None = ap (λ ss. record (with_answer (room_value channel c (state_of c es))) { slots = ss }) (sym (append-nil before))

pub asked-stands : (h new : RoomValue) (es : List Event) (w : WantValue) (o : Option Reply) → Stands h es → 1 ≤ h.settings.target
    → answer_of h.settings (of h es) w ≡ o → new ≡ with_reply h o (wanted_of h.settings w) → Stands new (es ++ Ask w ∷ [])
asked-stands h new es w o stands low e is =
    let whole : new ≡ room_value h.channel h.settings (next h.settings (of h es) (Ask w)) =
    is ∙ ap (λ x. with_reply x o (wanted_of h.settings w)) stands ∙ asked-next h.channel h.settings es w o low e in
    let settings : new.settings ≡ h.settings = ap (λ (x : RoomValue). x.settings) whole in
    let channel : new.channel ≡ h.channel = ap (λ (x : RoomValue). x.channel) whole in
    stands-by new h.settings es (Ask w) settings (whole ∙ ap (λ n. room_value n h.settings (next h.settings (of h es) (Ask w))) (sym channel))

-- why it is answered so

pub unknown : (c : Configuration) (s : State) (w : WantValue) → wanted_of c w ≡ None → answer_of c s w ≡ Some now.NotFound
unknown c s w e = ap (verdict.reply_by c (waiting_in s.slots) s.items) e

abbrev pub by_cases : Bool → Bool → Bool → Paged → Option Reply
by_cases there far busy page = cond there (Some (now.Text page)) (cond far (Some now.TooFar) (cond busy (Some now.Busy) None))

-- a request for a playlist
pub known : (c : Configuration) (s : State) (w : WantValue) (a : Wanted) (there far busy : Bool) → wanted_of c w ≡ Some a → is_playlist a.what ≡ true
    → is_there c s.items a ≡ there → verdict.far c (own a.rendition s.items) a.awaited ≡ far → nat_le waiting_limit (waiting_in s.slots) ≡ busy
    → answer_of c s w ≡ by_cases there far busy (page_of c s.items a)
known c s w a there far busy e p t f b =
    ap (verdict.reply_by c (waiting_in s.slots) s.items) e
    ∙ ap (λ x. cond x (verdict.playlist_now c (waiting_in s.slots) s.items a) (verdict.media_now c (waiting_in s.slots) s.items a)) p
    ∙ ap (λ x. by_cases x (verdict.far c (own a.rendition s.items) a.awaited) (nat_le waiting_limit (waiting_in s.slots)) (page_of c s.items a)) t ∙ ap₂ (λ x y. by_cases there x y (page_of c s.items a)) f b

pub there : (c : Configuration) (s : State) (w : WantValue) (a : Wanted) → wanted_of c w ≡ Some a → is_playlist a.what ≡ true → is_there c s.items a ≡ true
    → answer_of c s w ≡ Some (now.Text (page_of c s.items a))
there c s w a e p t = known c s w a true (verdict.far c (own a.rendition s.items) a.awaited) (nat_le waiting_limit (waiting_in s.slots)) e p t refl refl

pub too_far : (c : Configuration) (s : State) (w : WantValue) (a : Wanted) → wanted_of c w ≡ Some a → is_playlist a.what ≡ true → is_there c s.items a ≡ false
    → verdict.far c (own a.rendition s.items) a.awaited ≡ true → answer_of c s w ≡ Some now.TooFar
too_far c s w a e p t f = known c s w a false true (nat_le waiting_limit (waiting_in s.slots)) e p t f refl

-- a request for media
abbrev pub without_media : Bool → Bool → Option Reply
without_media hinted busy = cond (not hinted) (Some now.NotFound) (cond busy (Some now.Busy) None)

media_known : (c : Configuration) (s : State) (w : WantValue) (a : Wanted) (o : Option (List ℕ)) (hinted busy : Bool) → wanted_of c w ≡ Some a
    → is_playlist a.what ≡ false → media_of c s.items a ≡ o → is_hinted c (own a.rendition s.items) a.awaited ≡ hinted → nat_le waiting_limit (waiting_in s.slots) ≡ busy
    → answer_of c s w ≡ verdict.media_or (length s.items) a o (without_media hinted busy)
media_known c s w a o hinted busy e p m f b =
    ap (verdict.reply_by c (waiting_in s.slots) s.items) e
    ∙ ap (λ x. cond x (verdict.playlist_now c (waiting_in s.slots) s.items a) (verdict.media_now c (waiting_in s.slots) s.items a)) p
    ∙ ap (λ x. verdict.media_or (length s.items) a x (without_media (is_hinted c (own a.rendition s.items) a.awaited) (nat_le waiting_limit (waiting_in s.slots)))) m
    ∙ ap₂ (λ x y. verdict.media_or (length s.items) a o (without_media x y)) f b

or_there : (n : ℕ) (a : Wanted) (o : Option (List ℕ)) (other : Option Reply) → is_some o ≡ true
    → verdict.media_or n a o other ≡ option_map (λ bytes. now.Media (piece_of n a bytes)) o
or_there n a None other h = cc
or_there n a (Some bytes) other h = refl

or_other : (n : ℕ) (a : Wanted) (o : Option (List ℕ)) (other : Option Reply) → is_some o ≡ false → verdict.media_or n a o other ≡ other
or_other n a None other h = refl
or_other n a (Some bytes) other h = cc

-- the media is that of the state
here-is : (h : RoomValue) (es : List Event) (a : Wanted) → Stands h es → a.rendition < length h.renditions → media_of h.settings (items h.settings es) a ≡ media_here (presentation_in h) a
here-is h es a stands within = sym (media-is (presentation_in h) (items h.settings es) a (ap presentation_in stands) within)

pub media-reply : (h : RoomValue) (es : List Event) (w : WantValue) (a : Wanted) → Stands h es → wanted_of h.settings w ≡ Some a → is_playlist a.what ≡ false
    → a.rendition < length h.renditions → is_some (media_here (presentation_in h) a) ≡ true → answer_of h.settings (of h es) w ≡ reply_here h a
media-reply h es w a stands e p within found =
    let o = media_here (presentation_in h) a in
    media_known h.settings (of h es) w a o _ _ e p (here-is h es a stands within) refl refl
    ∙ or_there (length (of h es).items) a o _ found
    ∙ ap (λ n. option_map (λ bytes. now.Media (piece_of n a bytes)) o) (sym (ap (λ (x : RoomValue). x.count) stands))
    ∙ sym (piece-here (presentation_in h) a p)

pub media-missing : (h : RoomValue) (es : List Event) (w : WantValue) (a : Wanted) (hinted busy : Bool) → Stands h es → wanted_of h.settings w ≡ Some a
    → is_playlist a.what ≡ false → a.rendition < length h.renditions → is_some (media_here (presentation_in h) a) ≡ false
    → is_hinted h.settings (own a.rendition (items h.settings es)) a.awaited ≡ hinted → nat_le waiting_limit (waiting_in (of h es).slots) ≡ busy
    → answer_of h.settings (of h es) w ≡ without_media hinted busy
media-missing h es w a hinted busy stands e p within none f b =
    let o = media_here (presentation_in h) a in
    media_known h.settings (of h es) w a o hinted busy e p (here-is h es a stands within) f b
    ∙ or_other (length (of h es).items) a o (without_media hinted busy) none

-- the page is that of the state
pub page-reply : (h : RoomValue) (es : List Event) (a : Wanted) → Stands h es → is_playlist a.what ≡ true → Some (now.Text (page_of h.settings (items h.settings es) a)) ≡ reply_here h a
page-reply h es a stands p =
    ap (λ x. Some (now.Text (page_now x a))) (sym (ap presentation_in stands)) ∙ sym (page-here (presentation_in h) a p)

-- a presentation says the same of the events as of its items

pub told-there : (h i : RoomValue) (es : List Event) (a : Wanted) (b : Bool) → Stands h es → i ≡ h
    → ((its : List Item) → Shows (presentation_in i) its → b ≡ is_there i.settings its a) → is_there h.settings (items h.settings es) a ≡ b
told-there h i es a b stands e all = sym (told (λ c its. b ≡ is_there c its a) h i es stands e all)

pub told-far : (h i : RoomValue) (es : List Event) (a : Wanted) (b : Bool) → Stands h es → i ≡ h
    → ((its : List Item) → Shows (presentation_in i) its → b ≡ verdict.far i.settings (own a.rendition its) a.awaited)
    → verdict.far h.settings (own a.rendition (items h.settings es)) a.awaited ≡ b
told-far h i es a b stands e all = sym (told (λ c its. b ≡ verdict.far c (own a.rendition its) a.awaited) h i es stands e all)

pub told-hinted : (h i : RoomValue) (es : List Event) (a : Wanted) (b : Bool) → Stands h es → i ≡ h
    → ((its : List Item) → Shows (presentation_in i) its → b ≡ is_hinted i.settings (own a.rendition its) a.awaited)
    → is_hinted h.settings (own a.rendition (items h.settings es)) a.awaited ≡ b
told-hinted h i es a b stands e all = sym (told (λ c its. b ≡ is_hinted c (own a.rendition its) a.awaited) h i es stands e all)

pub media-told : (h i : RoomValue) (a : Wanted) (b found : Bool) → i ≡ h → found ≡ is_some (media_here (presentation_in i) a) → found ≡ b
    → is_some (media_here (presentation_in h) a) ≡ b
media-told h i a b found e is so = ap (λ x. is_some (media_here (presentation_in x) a)) (sym e) ∙ sym is ∙ so

pub low : (h i : RoomValue) → i ≡ h → 1 ≤ i.settings.target → 1 ≤ h.settings.target
low h i e n = subst (λ (x : RoomValue). 1 ≤ x.settings.target) e n

-- no ticket of an open request is the next one
pub newest-held : (h i new : RoomValue) (a : Wanted) → i ≡ h → AreBelow (i.asks + 1) i.slots → new ≡ with_held h a → less (h.asks + 1) (tickets new) ≡ tickets h
newest-held h i new a e below is =
    ap (λ (x : RoomValue). less (h.asks + 1) (tickets x)) is
    ∙ ap (less (h.asks + 1)) (map-append ticket_in h.slots _)
    ∙ newest (h.asks + 1) h.slots (subst (λ (x : RoomValue). AreBelow (x.asks + 1) x.slots) e below)

pub held-stands : (h new : RoomValue) (es : List Event) (w : WantValue) (a : Wanted) → Stands h es → 1 ≤ h.settings.target → wanted_of h.settings w ≡ Some a
    → answer_of h.settings (of h es) w ≡ None → new ≡ with_held h a → Stands new (es ++ Ask w ∷ [])
held-stands h new es w a stands low e none is = asked-stands h new es w None stands low none (is ∙ ap (with_reply h None) (sym e))

pub is-busy : (h i : RoomValue) (es : List Event) (b : Bool) → Stands h es → i ≡ h → b ≡ nat_le waiting_limit (waiting_in i.slots)
    → nat_le waiting_limit (waiting_in (state_of h.settings es).slots) ≡ b
is-busy h i es b stands e is = sym (is ∙ ap (λ (x : RoomValue). nat_le waiting_limit (waiting_in x.slots)) (e ∙ stands))

pub few-now : (h i : RoomValue) (b : Bool) → i ≡ h → b ≡ nat_le waiting_limit (waiting_in i.slots) → b ≡ false → waiting_in h.slots < waiting_limit
few-now h i b e is no_more = grind (arith, nat_tests, ap (λ (x : RoomValue). nat_le waiting_limit (waiting_in x.slots)) e)
