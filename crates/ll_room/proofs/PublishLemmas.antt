-- What one more item makes of what is kept of the renditions.
use Rattle.std.proofs.Common.{◌≡◌, ℕ, suc, ◌+◌, ◌≤◌, ◌<◌, ◌==◌, List, [], ◌∷◌, Bool, true, false, ◌&&◌, ◌||◌, cond, Option, None, Some, is_none, refl, ap, ap₂, sym, subst, ◌∙◌, true≢false, filter, map, length, arith}
use Rattle.std.specs.Prelude.{slice_get, slice_index_or}
use Rattle.std.specs.List.{list_any}
use Rattle.ll_item.specs.Items.{rendition_of}
use Rattle.ll_item.specs.declared.item.Item.{Item}
use Rattle.ll_item.specs.declared.item.Item.TheVariants as item
use Rattle.ll_directive.specs.declared.want.Awaited.{Awaited}
use Rattle.ll_directive.specs.declared.want.Awaited.TheVariants.{Nothing, Segment, Part}
use Rattle.ll_page_cache.specs.Pages.{PagesOf}
use Rattle.ll_presentation.proofs.HereLemmas.{got-at}
use Rattle.ll_presentation.proofs.RefusalLemmas.{allowed-there, first_none}
use Rattle.ll_presentation.specs.PresentationValue.{PresentationValue, moment}
use Rattle.ll_settings.specs.Settings.{Configuration}
use Rattle.ll_rendition.specs.declared.rendition.Rendition.{Rendition}
use Rattle.ll_window.specs.Compact.{Compact}
use Rattle.ll_verdict.specs.State.{is_waiting}
use Rattle.ll_verdict.specs.declared.entry.Slot.{Slot}
use Rattle.ll_book.specs.Release.{AreThose, HoldersValue, Supply, given_if, holder, holders_of, part_comes, released, segment_comes, takes}
use Rattle.ll_verdict.specs.Waiting.{AreBelow, ticket_in}
use Rattle.ll_book.specs.declared.release.Release.{Release}
use Rattle.ll_book.specs.declared.release.Release.TheVariants as release
use Rattle.ll_book.proofs.Holding.{release-law}
use Rattle.ll_book.specs.Releases.{HasHolders, HasThose, part_of, released_with, segment_if, takes_any}
use Rattle.ll_book.specs.declared.next_part.NextPart.{NextPart}
use Rattle.ll_room.specs.Freed.{AreApart, freed, freed_slots, item_on, new_supply, part_at, part_in, releases, releases_at, with_item}
use Rattle.ll_verdict.specs.Full.{event_end}
use Rattle.ll_room.specs.Full.{refusal_by}
use Rattle.ll_room.specs.RoomValue.{RoomValue, presentation_in}
use Rattle.ll_room.specs.Kept.{IsKept}

-- the releases take none of these

none_by : (supply : Supply) (which : Release) (s : Slot) (ss : List Slot) (b : Bool) → (b || list_any (takes which) ss) ≡ false
    → (list_any (takes which) ss ≡ false → map (λ s. given_if supply (takes which s) s) ss ≡ ss)
    → given_if supply b s ∷ map (λ s. given_if supply (takes which s) s) ss ≡ s ∷ ss
none_by supply which s ss true h ih = absurd (true≢false h)
none_by supply which s ss false h ih = ap (λ xs. s ∷ xs) (ih h)

none_given : (supply : Supply) (which : Release) (ss : List Slot) → list_any (takes which) ss ≡ false → map (λ s. given_if supply (takes which s) s) ss ≡ ss
none_given supply which [] h = refl
none_given supply which (s ∷ ss) h = none_by supply which s ss (takes which s) h (none_given supply which ss)

map_same : (ss : List Slot) → map (λ s. s) ss ≡ ss
map_same [] = refl
map_same (s ∷ ss) = ap (λ xs. s ∷ xs) (map_same ss)

none_freed : (supply : Supply) (which : Option Release) (ss : List Slot) → takes_any which ss ≡ false → map (freed supply which) ss ≡ ss
none_freed supply None ss h = map_same ss
none_freed supply (Some which) ss h = none_given supply which ss h

pub silent-slots : (supply : Supply) (both : Option Release × Option Release) (ss : List Slot) → takes_any both.0 ss ≡ false → takes_any both.1 ss ≡ false
    → freed_slots supply both ss ≡ ss
silent-slots supply both ss h k = ap (map (freed supply both.1)) (none_freed supply both.0 ss h) ∙ none_freed supply both.1 ss k

-- the releases, with holders that were made for them

-- two releases, in turn

abbrev Apart : Release → Release → Type 0
Apart first second = (s : Slot) → takes first s ≡ true → takes second s ≡ false

apart_by : (a : Awaited) (w e : Bool) (n l : ℕ) → (w && (e && part_comes a n l)) ≡ true → (w && (e && segment_comes a n)) ≡ false
apart_by Nothing true true n l h = refl
apart_by Nothing true false n l h = refl
apart_by Nothing false e n l h = refl
apart_by (Segment m) true true n l h = absurd (true≢false (sym h))
apart_by (Segment m) true false n l h = refl
apart_by (Segment m) false e n l h = refl
apart_by (Part m p) true true n l h = refl
apart_by (Part m p) true false n l h = refl
apart_by (Part m p) false e n l h = refl

its_own : {X : Type 0} (x y : X) → Some x ≡ Some y → x ≡ y
its_own x y e = cc

none_some : {X : Type 0} (x : X) → None ≡ Some x → ⊥
none_some x e = true≢false (ap is_none e)

part_apart : (k : Compact) (r : ℕ) (first second : Release) (s : Slot) → first ≡ release.Part r k.next_number (length k.open_parts)
    → second ≡ release.Segment r k.next_number → takes first s ≡ true → takes second s ≡ false
part_apart k r first second s e f h =
    ap (λ w. takes w s) f
    ∙ apart_by s.entry.wanted.awaited (is_waiting s) (s.entry.wanted.rendition == r) k.next_number (length k.open_parts) (sym (ap (λ w. takes w s) e) ∙ h)

apart_part : (f : Bool) (k : Compact) (r : ℕ) (first second : Release) (s : Slot) → Some (release.Part r k.next_number (length k.open_parts)) ≡ Some first
    → segment_if f r k.next_number ≡ Some second → takes first s ≡ true → takes second s ≡ false
apart_part true k r first second s e f h = part_apart k r first second s (sym (its_own _ _ e)) (sym (its_own _ _ f)) h
apart_part false k r first second s e f h = absurd (none_some second f)

apart_at : (o : Option Rendition) (i : Item) → AreApart (releases_at o i)
apart_at None i first second s e f h = absurd (none_some first e)
apart_at (Some k) (item.Part part) first second s e f h = apart_part part.finish k.window part.rendition first second s e f h
apart_at (Some k) (item.Finish r) first second s e f h = absurd (none_some second f)
apart_at (Some k) (item.Break r time) first second s e f h = absurd (none_some first e)
apart_at (Some k) (item.Init r media) first second s e f h = absurd (none_some first e)
apart_at (Some k) (item.End r) first second s e f h = absurd (none_some second f)
apart_at (Some k) (item.Range r id attributes) first second s e f h = absurd (none_some first e)
apart_at (Some k) (item.Unrange r id) first second s e f h = absurd (none_some first e)

second_kept : (supply : Supply) (first second : Release) (s : Slot) (b : Bool) → Apart first second → takes first s ≡ b
    → takes second (given_if supply b s) ≡ takes second s
second_kept supply first second s true h e = sym (h s e)
second_kept supply first second s false h e = refl

same_holder : (supply : Supply) (b : Bool) (s : Slot) → holder supply (given_if supply b s) ≡ holder supply s
same_holder supply true s = refl
same_holder supply false s = refl

pushed : (supply : Supply) (x y : Slot) (xs ys : List Slot) (b c : Bool) → b ≡ c → holder supply x ≡ holder supply y
    → map (holder supply) xs ≡ map (holder supply) ys → map (holder supply) (cond b (x ∷ xs) xs) ≡ map (holder supply) (cond c (y ∷ ys) ys)
pushed supply x y xs ys b true e h k = ap (λ t. map (holder supply) (cond t (x ∷ xs) xs)) e ∙ ap₂ (λ z zs. z ∷ zs) h k
pushed supply x y xs ys b false e h k = ap (λ t. map (holder supply) (cond t (x ∷ xs) xs)) e ∙ k

same_holders : (supply : Supply) (first second : Release) (ss : List Slot) → Apart first second
    → holders_of supply second (map (λ s. given_if supply (takes first s) s) ss) ≡ holders_of supply second ss
same_holders supply first second [] h = refl
same_holders supply first second (s ∷ ss) h =
    pushed supply (given_if supply (takes first s) s) s (filter (takes second) (map (λ s. given_if supply (takes first s) s) ss)) (filter (takes second) ss)
    (takes second (given_if supply (takes first s) s)) (takes second s) (second_kept supply first second s (takes first s) h refl)
    (same_holder supply (takes first s) s) (same_holders supply first second ss h)

pub has-holders : (supply : Supply) (which : Option Release) (h now : RoomValue) (found : Option HoldersValue) → h ≡ now → HasHolders supply which now.slots found
    → HasHolders supply which h.slots found
has-holders supply which h now found e has = subst (λ (x : RoomValue). HasHolders supply which x.slots found) (sym e) has

pub has-those : (supply : Supply) (which : Option Release) (ss : List Slot) (found : Option HoldersValue) → HasHolders supply which ss found → HasThose which found ss
has-those supply None ss found h = tt
has-those supply (Some which) ss None h = h
has-those supply (Some which) ss (Some held) h = subst (λ hs. AreThose which hs ss) (sym h) (release-law.those supply which ss)

released-is : (supply : Supply) (which : Option Release) (ss : List Slot) (found : Option HoldersValue) → HasHolders supply which ss found
    → released_with which found ss ≡ map (freed supply which) ss
released-is supply None ss found h = sym (map_same ss)
released-is supply (Some which) ss None h = absurd h
released-is supply (Some which) ss (Some held) h = ap (λ hs. released which hs ss) h ∙ release-law.given supply which ss

has_after : (supply : Supply) (first second : Option Release) (ss : List Slot) (found : Option HoldersValue) → AreApart (first, second)
    → HasHolders supply second ss found → HasHolders supply second (map (freed supply first) ss) found
has_after supply None second ss found apart h = subst (λ xs. HasHolders supply second xs found) (sym (map_same ss)) h
has_after supply (Some first) None ss found apart h = h
has_after supply (Some first) (Some second) ss None apart h = h
has_after supply (Some first) (Some second) ss (Some held) apart h = h ∙ sym (same_holders supply first second ss (λ s. apart first second s refl refl))

-- the second release, after the first
pub has-those-after : (supply : Supply) (both : Option Release × Option Release) (ss new : List Slot) (found more : Option HoldersValue) → AreApart both
    → HasHolders supply both.0 ss found → HasHolders supply both.1 ss more → new ≡ released_with both.0 found ss → HasThose both.1 more new
has-those-after supply both ss new found more apart h k e =
    subst (HasThose both.1 more) (sym (e ∙ released-is supply both.0 ss found h))
    (has-those supply both.1 (map (freed supply both.0) ss) more (has_after supply both.0 both.1 ss more apart k))

pub both-released : (supply : Supply) (both : Option Release × Option Release) (ss new : List Slot) (found more : Option HoldersValue) → AreApart both
    → HasHolders supply both.0 ss found → HasHolders supply both.1 ss more → new ≡ released_with both.0 found ss
    → released_with both.1 more new ≡ freed_slots supply both ss
both-released supply both ss new found more apart h k e =
    ap (released_with both.1 more) (e ∙ released-is supply both.0 ss found h)
    ∙ released-is supply both.1 (map (freed supply both.0) ss) more (has_after supply both.0 both.1 ss more apart k)

pub apart : (h : RoomValue) (i : Item) → AreApart (releases h i)
apart h i = apart_at (slice_get h.renditions (rendition_of i)) i

-- the invariant of a room after one more item

given_ticket : (supply : Supply) (b : Bool) (s : Slot) → (given_if supply b s).entry.ticket ≡ s.entry.ticket
given_ticket supply true s = refl
given_ticket supply false s = refl

freed_ticket : (supply : Supply) (which : Option Release) (s : Slot) → (freed supply which s).entry.ticket ≡ s.entry.ticket
freed_ticket supply None s = refl
freed_ticket supply (Some which) s = given_ticket supply (takes which s) s

freed_tickets : (supply : Supply) (which : Option Release) (ss : List Slot) → map ticket_in (map (freed supply which) ss) ≡ map ticket_in ss
freed_tickets supply which [] = refl
freed_tickets supply which (s ∷ ss) = ap₂ (λ t ts. t ∷ ts) (freed_ticket supply which s) (freed_tickets supply which ss)

pub same-tickets : (supply : Supply) (both : Option Release × Option Release) (ss : List Slot) → map ticket_in (freed_slots supply both ss) ≡ map ticket_in ss
same-tickets supply both ss = freed_tickets supply both.1 (map (freed supply both.0) ss) ∙ freed_tickets supply both.0 ss

below_by : (n : ℕ) (xs ys : List Slot) → map ticket_in xs ≡ map ticket_in ys → AreBelow n ys → AreBelow n xs
below_by n [] ys e h = tt
below_by n (x ∷ xs) [] e h = absurd (cc)
below_by n (x ∷ xs) (y ∷ ys) e h =
    let first : x.entry.ticket ≡ y.entry.ticket = cc in
    let rest : map ticket_in xs ≡ map ticket_in ys = cc in
    (subst (λ t. t < n) (sym first) h.0, below_by n xs ys rest h.1)

length_tickets : (ss : List Slot) → length (map ticket_in ss) ≡ length ss
length_tickets [] = refl
length_tickets (s ∷ ss) = ap suc (length_tickets ss)

pub kept-item : (h : RoomValue) (p : PresentationValue) (ss : List Slot) → h.events < event_end → IsKept h → p.settings ≡ h.settings → p.count ≡ h.count + 1
    → map ticket_in ss ≡ map ticket_in h.slots → IsKept (item_on p ss h)
kept-item h p ss few k settings more same =
    let long : length ss ≡ length h.slots = sym (length_tickets ss) ∙ ap length same ∙ length_tickets h.slots in record {
      target = subst (λ (c : Configuration). 1 ≤ c.target) (sym settings) k.target;
      window = subst (λ (c : Configuration). 1 ≤ c.window) (sym settings) k.window;
      accepted = omega (arith, k.accepted, more);
      asked = omega (arith, k.asked);
      early = k.early;
      below = below_by (h.asks + 1) ss h.slots same k.below;
      few = omega (arith, k.few, long);
      counted = omega (arith, few, k.few, k.asked, long);
    }

-- the room after one more item that releases nothing
pub silent-item : (h now : RoomValue) (p : PresentationValue) (i : Item) → h ≡ now → takes_any (releases now i).0 now.slots ≡ false
    → takes_any (releases now i).1 now.slots ≡ false → item_on p h.slots h ≡ with_item now p i
silent-item h now p i e first second =
    ap (λ (x : RoomValue). item_on p x.slots x) e
    ∙ ap (λ ss. item_on p ss now) (sym (silent-slots (new_supply now p i) (releases now i) now.slots first second))

-- the part that it is, by what is kept of its rendition
pub part-got : (h now : RoomValue) (i : Item) (k : Rendition) (o : Option NextPart) → h ≡ now → refusal_by now i ≡ None
    → k ≡ slice_index_or h.renditions (rendition_of i) k → o ≡ part_of k.window i → o ≡ part_in now i
part-got h now i k o e free at is =
    let there = allowed-there now.renditions i (slice_get now.renditions (rendition_of i)) refl (first_none _ _ free) in
    is ∙ sym (ap (λ q. part_at q i) (got-at (presentation_in now) (presentation_in h) (rendition_of i) k (ap presentation_in e) there at))

-- the room after one more item and its releases; `supply` is what was made for them
pub released-item : (h now : RoomValue) (p : PresentationValue) (i : Item) (both : Option Release × Option Release) (supply : Supply) (slots : List Slot) → h ≡ now
    → both ≡ releases now i → moment p ≡ supply.pages.moment → supply.pages.rendition ≡ rendition_of i → supply.part ≡ part_in now i
    → slots ≡ freed_slots supply both h.slots → item_on p slots h ≡ with_item now p i
released-item h now p i both supply slots e its shown place part is =
    let pages_are : supply.pages ≡ record { moment = moment p; rendition = rendition_of i } =
    ap₂ (λ m r. let x : PagesOf = record { moment = m; rendition = r } in x) (sym shown) place in
    let supply_is : supply ≡ new_supply now p i = ap₂ (λ q o. let x : Supply = record { pages = q; part = o } in x) pages_are part in
    ap (λ ss. item_on p ss h) is
    ∙ ap₂ (λ q b. item_on p (freed_slots q b h.slots) h) supply_is its
    ∙ ap (λ (x : RoomValue). item_on p (freed_slots (new_supply now p i) (releases now i) x.slots) x) e

-- the open requests of a room after both releases
pub slots-released : (supply : Supply) (both : Option Release × Option Release) (ss new final : List Slot) (found more : Option HoldersValue) → AreApart both
    → HasHolders supply both.0 ss found → HasHolders supply both.1 ss more → new ≡ released_with both.0 found ss → final ≡ released_with both.1 more new
    → final ≡ freed_slots supply both ss
slots-released supply both ss new final found more apart h k e f = f ∙ both-released supply both ss new found more apart h k e
