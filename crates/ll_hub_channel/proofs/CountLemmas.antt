-- What one more event changes of how many items a room has accepted and how many requests it had.
use Rattle.std.proofs.Common.{◌≡◌, ◌+◌, List, [], ◌∷◌, ◌++◌, Option, None, if◌then◌else◌, is_none, ap, ◌∙◌, sym, length, arith}
use Rattle.std.proofs.lemmas.List.{length-append}
use Rattle.ll_directive.specs.Targets.{WantValue}
use Rattle.ll_settings.specs.Settings.{Configuration}
use Rattle.ll_item.specs.declared.item.Item.{Item}
use Rattle.ll_record.specs.Recording.{IsRecorded, Recording, is_record_full, record_refusal}
use Rattle.ll_verdict.specs.Full.{full_by, is_full, refusal_after}
use Rattle.ll_room.specs.RoomValue.{RoomValue, IsSame, Stands}
use Rattle.ll_verdict.specs.Accepted.{refusal}
use Rattle.ll_rendition.specs.Refusal.{first_refusal}
use Rattle.ll_rendition.specs.declared.fault.PublishFault.{PublishFault}
use Rattle.ll_verdict.proofs.StepLemmas.{asks-snoc, items-snoc}
use Rattle.ll_verdict.specs.Events.{Event, Ask, Publish, asks, counted, items, taken}
use Rattle.ll_hub_channel.specs.Section.{HasAsked, HasPublished, IsAsCounted}

pub count-is : (h : RoomValue) (es : List Event) → Stands h es → h.count ≡ length (items h.settings es)
count-is h es st = ap (λ (h : RoomValue). h.count) st

pub asks-is : (h : RoomValue) (es : List Event) → Stands h es → h.asks ≡ asks es
asks-is h es st = ap (λ (h : RoomValue). h.asks) st

items-after : (h h2 : RoomValue) (es : List Event) (e : Event) → Stands h2 (es ++ e ∷ []) → IsSame h h2 → h2.count ≡ length (taken h.settings (items h.settings es) e)
items-after h h2 es e st2 same =
    count-is h2 (es ++ e ∷ []) st2 ∙ ap (λ c. length (items c (es ++ e ∷ []))) same.settings ∙ ap length (items-snoc h.settings es e)

asks-after : (h h2 : RoomValue) (es : List Event) (e : Event) → Stands h es → Stands h2 (es ++ e ∷ []) → h2.asks ≡ counted h.asks e
asks-after h h2 es e st st2 = asks-is h2 (es ++ e ∷ []) st2 ∙ asks-snoc es e ∙ ap (λ n. counted n e) (sym (asks-is h es st))

-- an event that is no item and no request
pub as-counted : (r r2 : Recording) (es : List Event) (e : Event) → Stands r.room es → Stands r2.room (es ++ e ∷ []) → IsSame r.room r2.room
    → taken r.room.settings (items r.room.settings es) e ≡ items r.room.settings es → counted r.room.asks e ≡ r.room.asks → IsAsCounted r r2
as-counted r r2 es e st st2 same no_item no_request = record {
  publishes = items-after r.room r2.room es e st2 same ∙ ap length no_item ∙ sym (count-is r.room es st);
  asks = asks-after r.room r2.room es e st st2 ∙ no_request;
}

-- a request after a reading of the clock
pub has-asked : (r r1 r2 : Recording) (es : List Event) (w : WantValue) → IsAsCounted r r1 → Stands r1.room es → Stands r2.room (es ++ Ask w ∷ []) → IsSame r1.room r2.room
    → HasAsked r r2
has-asked r r1 r2 es w clocked st1 st2 same = record {
  publishes = items-after r1.room r2.room es (Ask w) st2 same ∙ sym (count-is r1.room es st1) ∙ clocked.publishes;
  asks = asks-after r1.room r2.room es (Ask w) st1 st2 ∙ ap (λ n. n + 1) clocked.asks;
}

pub none_before : (a b : Option PublishFault) → first_refusal a b ≡ None → a ≡ None
none_before a b h = grind arith

taken_one : (c : Configuration) (list : List Item) (i : Item) → refusal c list i ≡ None → taken c list (Publish i) ≡ list ++ i ∷ []
taken_one c list i free = ap (λ o. if is_none o then list ++ i ∷ [] else list) free

-- an item that no rule refuses
pub has-published : (r r2 : Recording) (es : List Event) (i : Item) → IsRecorded r es → record_refusal r es i ≡ None → IsRecorded r2 (es ++ Publish i ∷ [])
    → IsSame r.room r2.room → HasPublished r r2
has-published r r2 es i recorded free more same =
    let c = r.room.settings in
    let allowed = none_before (refusal c (items c es) i) (full_by (is_full (length es))) (none_before (refusal_after c es i) (full_by (is_record_full r)) free) in
    record {
      publishes =
          items-after r.room r2.room es (Publish i) more.stands same ∙ ap length (taken_one c (items c es) i allowed) ∙ length-append (items c es) (i ∷ [])
          ∙ ap (λ n. n + 1) (sym (count-is r.room es recorded.stands));
      asks = asks-after r.room r2.room es (Publish i) recorded.stands more.stands;
    }
