-- A room and the events that it stands for, before and after one more.
use Rattle.std.proofs.Common.{◌≡◌, List, [], ◌∷◌, ◌++◌, Bool, true, cond, refl, ap, ◌∙◌, sym, subst, filter}
use Rattle.ll_settings.specs.Settings.{Configuration}
use Rattle.ll_item.specs.declared.item.Item.{Item}
use Rattle.ll_presentation.specs.PresentationValue.{Shows}
use Rattle.ll_verdict.specs.Events.{Event, items}
use Rattle.ll_verdict.specs.State.{state_of, stays, next}
use Rattle.ll_verdict.specs.declared.entry.Slot.{Slot}
use Rattle.ll_verdict.proofs.StateLemmas.{state-snoc}
use Rattle.ll_room.specs.RoomValue.{RoomValue, Stands, presentation_in, room_value}

pub stands-by : (h : RoomValue) (c : Configuration) (es : List Event) (e : Event)
    → h.settings ≡ c → h ≡ room_value h.channel c (next c (state_of c es) e) → Stands h (es ++ e ∷ [])
stands-by h c es e same h_is =
    h_is ∙ ap (room_value h.channel c) (sym (state-snoc c es e)) ∙ ap (λ c. room_value h.channel c (state_of c (es ++ e ∷ []))) (sym same)

-- what is said of all items that a presentation shows is said of the items of the events that its room stands for
pub told : (P : Configuration → List Item → Type 0) (h i : RoomValue) (es : List Event) → Stands h es → i ≡ h
    → ((its : List Item) → Shows (presentation_in i) its → P i.settings its) → P h.settings (items h.settings es)
told P h i es stands e all =
    subst (λ (x : RoomValue). (its : List Item) → Shows (presentation_in x) its → P x.settings its) e all (items h.settings es) (ap presentation_in stands)

stays_by : (s : Slot) (xs ys : List Slot) (b : Bool) → b ≡ true → xs ≡ ys → cond b (s ∷ xs) xs ≡ s ∷ ys
stays_by s xs ys b h k = rw (h, k) refl

-- an event with which each request stays open
pub all_stay : (e : Event) (ss : List Slot) → ((s : Slot) → stays e s ≡ true) → filter (stays e) ss ≡ ss
all_stay e [] h = refl
all_stay e (s ∷ ss) h = stays_by s (filter (stays e) ss) ss (stays e s) (h s) (all_stay e ss h)
