-- A room that takes one more item stands for its events and that one.
use Rattle.std.proofs.Common.{◌≡◌, ℕ, ◌≤◌, List, [], ◌∷◌, ◌++◌, Bool, true, false, cond, nat_lt, Option, None, is_none, refl, ap, ap₂, sym, ◌∙◌, filter, map, length, append-nil}
use Rattle.std.specs.Prelude.{slice_get}
use Rattle.ll_item.specs.Items.{rendition_of}
use Rattle.ll_settings.specs.Settings.{Configuration}
use Rattle.ll_item.specs.declared.item.Item.{Item}
use Rattle.ll_pieces.specs.View.{Paged, renditions}
use Rattle.ll_presentation.proofs.RefusalLemmas.{accepted_in, first_none, kept-there, not_ended, refusal_as}
use Rattle.ll_presentation.specs.Items.{HasTaken}
use Rattle.ll_presentation.specs.PresentationValue.{moment, presentation_of}
use Rattle.ll_window.specs.Compact.{Compact, compact}
use Rattle.ll_window.specs.Segments.{own}
use Rattle.ll_verdict.specs.Accepted.{refusal}
use Rattle.ll_rendition.specs.Refusal.{first_refusal, rendition_refusal}
use Rattle.ll_verdict.specs.Events.{Event, Publish, items, time, taken}
use Rattle.ll_verdict.specs.State.{state_of, settle, stays, next}
use Rattle.ll_verdict.specs.Verdict.{media_of, media_or_none}
use Rattle.ll_verdict.specs.declared.reply.Settled.TheVariants.{Text}
use Rattle.ll_verdict.proofs.ListLemmas.{Each, each-map}
use Rattle.ll_directive.specs.Files.{is_playlist}
use Rattle.ll_verdict.specs.declared.entry.Slot.{Slot}
use Rattle.ll_verdict.specs.declared.wanted.Wanted.{Wanted}
use Rattle.ll_page_cache.specs.Pages.{page_in}
use Rattle.ll_book.specs.Release.{Supply, bytes_for}
use Rattle.ll_book.specs.Releases.{first_release, part_of, second_release}
use Rattle.ll_room.specs.Freed.{freed_slots, item_on, part_at, releases_at, with_item}
use Rattle.ll_verdict.specs.Full.{full_by, is_full, refusal_after}
use Rattle.ll_room.specs.Full.{refusal_by}
use Rattle.ll_room.specs.RoomValue.{RoomValue, Stands, presentation_in, room_value}
use Rattle.ll_room.proofs.FreedLemmas.{Given, each_freed}
use Rattle.ll_room.proofs.HintedLemmas.{Hinted, hinted, media-brought}
use Rattle.ll_room.proofs.IdleLemmas.{idle}
use Rattle.ll_room.proofs.StandLemmas.{all_stay, stands-by}

-- why an item is refused

refusal-of-room : (channel : ℕ) (c : Configuration) (es : List Event) (i : Item) → refusal_by (room_value channel c (state_of c es)) i ≡ refusal_after c es i
refusal-of-room channel c es i =
    ap (λ f. first_refusal f (full_by (is_full (length es)))) (refusal_as c (items c es) i (slice_get (renditions c (items c es)) (rendition_of i)) refl)

pub refusal-told : (h : RoomValue) (es : List Event) (i : Item) → Stands h es → refusal_by h i ≡ refusal_after h.settings es i
refusal-told h es i stands = ap (λ x. refusal_by x i) stands ∙ refusal-of-room h.channel h.settings es i

-- an item that nothing refuses

taken_is : (c : Configuration) (xs : List Item) (i : Item) → refusal c xs i ≡ None → taken c xs (Publish i) ≡ xs ++ i ∷ []
taken_is c xs i e = ap (λ f. cond (is_none f) (xs ++ i ∷ []) xs) e

-- what is kept of its rendition before it
abbrev window_of : Configuration → List Item → Item → Compact
window_of c xs i = compact c (own (rendition_of i) xs)

releases_are : (c : Configuration) (xs : List Item) (i : Item) → nat_lt (rendition_of i) (length c.renditions) ≡ true
    → releases_at (slice_get (renditions c xs) (rendition_of i)) i ≡ (first_release (window_of c xs i) i, second_release (window_of c xs i) i)
releases_are c xs i named = ap (λ o. releases_at o i) (kept-there c xs (rendition_of i) named)

-- the part that it is
part_is : (c : Configuration) (xs : List Item) (i : Item) → nat_lt (rendition_of i) (length c.renditions) ≡ true
    → part_at (slice_get (renditions c xs) (rendition_of i)) i ≡ part_of (window_of c xs i) i
part_is c xs i named = ap (λ o. part_at o i) (kept-there c xs (rendition_of i) named)

-- what the requests that it releases get
abbrev supply_of : Configuration → List Item → Item → Supply
supply_of c xs i = record {
  pages = record { moment = moment (presentation_of c (xs ++ i ∷ [])); rendition = rendition_of i };
  part = part_at (slice_get (renditions c xs) (rendition_of i)) i;
}

gives_by : (b : Bool) (n : ℕ) (w : Wanted) (p q : Paged) (o u : Option (List ℕ)) → p ≡ q → (b ≡ false → o ≡ u)
    → cond b (Text p) (media_or_none n w o) ≡ cond b (Text q) (media_or_none n w u)
gives_by true n w p q o u page bytes = ap (λ x. Text x) page
gives_by false n w p q o u page bytes = ap (media_or_none n w) (bytes refl)

-- what the item makes available is what its supply gives
its_gift : (c : Configuration) (xs : List Item) (i : Item) (s : Slot) → 1 ≤ c.window → nat_lt (rendition_of i) (length c.renditions) ≡ true → Hinted c xs s
    → Given c xs i (supply_of c xs i) s
its_gift c xs i s low named hinted waiting here brought =
    let w = s.entry.wanted in
    gives_by (is_playlist w.what) (length (xs ++ i ∷ [])) w _ _ (media_of c (xs ++ i ∷ []) w) (bytes_for (part_at (slice_get (renditions c xs) (rendition_of i)) i) w.what)
    (ap (λ r. page_in (record { moment = moment (presentation_of c (xs ++ i ∷ [])); rendition = r }) w.form) here)
    (λ media. media-brought c xs i w low here (hinted waiting media) brought ∙ sym (ap (λ p. bytes_for p w.what) (part_is c xs i named)))

each_gift : (c : Configuration) (xs : List Item) (i : Item) (ss : List Slot) → 1 ≤ c.window → nat_lt (rendition_of i) (length c.renditions) ≡ true → Each (Hinted c xs) ss
    → Each (Given c xs i (supply_of c xs i)) ss
each_gift c xs i ss low named h = each-map (Hinted c xs) (Given c xs i (supply_of c xs i)) (λ s. its_gift c xs i s low named) ss h

-- the open requests after it
slots_are : (c : Configuration) (es : List Event) (i : Item) → 1 ≤ c.target → 1 ≤ c.window → refusal c (items c es) i ≡ None
    → freed_slots (supply_of c (items c es) i) (releases_at (slice_get (renditions c (items c es)) (rendition_of i)) i) (state_of c es).slots
    ≡ map (settle c (items c es ++ i ∷ []) (time es)) (filter (stays (Publish i)) (state_of c es).slots) ++ []
slots_are c es i low some none =
    let xs = items c es in
    let r = rendition_of i in
    let in_channel = accepted_in r (length c.renditions) (rendition_refusal c (own r xs) i) (nat_lt r (length c.renditions)) refl none in
    ap (λ both. freed_slots (supply_of c xs i) both (state_of c es).slots) (releases_are c xs i in_channel.0)
    ∙ sym (each_freed c xs (time es) i (supply_of c xs i) (state_of c es).slots (not_ended c (own r xs) i in_channel.1) (each_gift c xs i (state_of c es).slots some in_channel.0 (hinted c es)) (idle c es low))
    ∙ ap (map (settle c (xs ++ i ∷ []) (time es))) (sym (all_stay (Publish i) (state_of c es).slots (λ s. refl)))
    ∙ sym (append-nil (map (settle c (xs ++ i ∷ []) (time es)) (filter (stays (Publish i)) (state_of c es).slots)))

-- the room after it

item-next : (channel : ℕ) (c : Configuration) (es : List Event) (i : Item) → 1 ≤ c.target → 1 ≤ c.window → refusal c (items c es) i ≡ None
    → with_item (room_value channel c (state_of c es)) (presentation_of c (items c es ++ i ∷ [])) i ≡ room_value channel c (next c (state_of c es) (Publish i))
item-next channel c es i low some none =
    let s = state_of c es in
    let h = room_value channel c s in
    ap (λ ss. item_on (presentation_of c (items c es ++ i ∷ [])) ss h) (slots_are c es i low some none)
    ∙ ap (λ ys. item_on (presentation_of c ys) (map (settle c ys (time es)) (filter (stays (Publish i)) s.slots) ++ []) h) (sym (taken_is c (items c es) i none))

pub publish-stands : (h new : RoomValue) (es : List Event) (i : Item) → Stands h es → 1 ≤ h.settings.target → 1 ≤ h.settings.window → refusal_by h i ≡ None
    → HasTaken (presentation_in h) (presentation_in new) i → new ≡ with_item h (presentation_in new) i → Stands new (es ++ Publish i ∷ [])
publish-stands h new es i stands low some free on is =
    let c = h.settings in
    let none : refusal c (items c es) i ≡ None = first_none (refusal c (items c es) i) (full_by (is_full (length es))) (sym (refusal-told h es i stands) ∙ free) in
    let shows : presentation_in new ≡ presentation_of c (items c es ++ i ∷ []) =
    on.shows (items c es) (ap presentation_in stands) ∙ ap (λ c. presentation_of c (items h.settings es ++ i ∷ [])) on.settings in
    let whole : new ≡ room_value h.channel c (next c (state_of c es) (Publish i)) =
    is ∙ ap₂ (λ x p. with_item x p i) stands shows ∙ item-next h.channel c es i low some none in
    stands-by new c es (Publish i) (ap (λ (x : RoomValue). x.settings) whole)
    (whole ∙ ap (λ n. room_value n c (next c (state_of c es) (Publish i))) (sym (ap (λ (x : RoomValue). x.channel) whole)))
