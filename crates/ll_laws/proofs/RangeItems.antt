-- The date ranges that are listed were published: the line of each is allowed in a playlist's text, and so is its id once it
-- is removed.
use Rattle.std.proofs.Common.{◌≡◌, ℕ, ◌==◌, ◌&&◌, ◌||◌, Bool, true, false, not, List, [], ◌∷◌, ◌++◌, map, refl, ap, ◌∙◌, bytes_eq, Some, None, if◌then◌else◌}
use Rattle.std.specs.Str.{is_utf8}
use Rattle.ll_attr.specs.Attributes as attribute
use Rattle.ll_item.specs.Items.{rendition_of}
use Rattle.ll_settings.specs.Settings.{Configuration}
use Rattle.ll_item.specs.declared.item.Item.{Item}
use Rattle.ll_item.specs.declared.item.Item.TheVariants as item
use Rattle.ll_item.specs.Told.{end_time, Told, Listed, Removal, other_removals, step, told}
use Rattle.ll_window.specs.Segments.{own}
use Rattle.ll_range.specs.Announced as range
use Rattle.ll_range.specs.Announced.{announced, is_listed, was_removed}
use Rattle.ll_range.specs.Attributes.{is_id, are_allowed}
use Rattle.ll_range.specs.declared.ranges.RangeFault.TheVariants.{IdUnknown}
use Rattle.ll_page.specs.Full.{range_line}
use Rattle.ll_read.specs.Ranges.{has_id}
use Rattle.ll_line.specs.Line.{DateRange}
use Rattle.ll_read.specs.Readable.{Each, are_distinct}
use Rattle.ll_laws.specs.Published.{AreAccepted, AreAnnounced, HasTexts, ArePublished}
use Rattle.ll_laws.proofs.AnnouncedLemmas.{told-own, told-after, added-by}
use Rattle.ll_laws.proofs.ApartLemmas.{has, are_apart, ids, ids-has}
use Rattle.ll_laws.proofs.ChangeLemmas.{each-one}
use Rattle.ll_laws.proofs.EachLemmas.{each-map, each-append, each-filter}
use Rattle.ll_laws.proofs.LineLemmas.{IsSound}
use Rattle.ll_laws.proofs.RangeLines.{sound-range}

pub accepted : (c : Configuration) (before items : List Item) → ArePublished c before items → AreAccepted c before items
accepted c before [] h = tt
accepted c before (i ∷ items) h = (h.0, accepted c (before ++ i ∷ []) items h.3)

pub all-announced : (c : Configuration) (before items : List Item) → ArePublished c before items → AreAnnounced c before items
all-announced c before [] h = tt
all-announced c before (i ∷ items) h = (h.1, all-announced c (before ++ i ∷ []) items h.3)

have_texts : (c : Configuration) (before items : List Item) → ArePublished c before items → Each HasTexts items
have_texts c before [] h = tt
have_texts c before (i ∷ items) h = (h.2, have_texts c (before ++ i ∷ []) items h.3)

-- its line is allowed in a playlist's text
abbrev pub IsListable : Listed → Type 0
IsListable x = IsSound (DateRange (range_line x))

-- an id that is allowed in a playlist's text
abbrev pub IsTellable : List ℕ → Type 0
IsTellable id = (is_id id ≡ true) × (is_utf8 id ≡ true)

pub record AreListable (t : Told) : Type 0 where
  pub each : Each IsListable t.listed
  pub named : Each (λ (x : Listed). is_id x.id ≡ true) t.listed
  pub removed : Each (λ (r : Removal). IsTellable r.id) t.removals

found : (b : Bool) → (if b then None else Some IdUnknown) ≡ None → b ≡ true
found true h = refl
found false h = cc

-- the id of one that is listed
listed_id : (id : List ℕ) (xs : List Listed) → has id xs ≡ true → Each (λ (x : Listed). is_id x.id ≡ true) xs → is_id id ≡ true
listed_id id xs e h =
    each-one (λ id. is_id id ≡ true) id (ids xs)
    (each-map (λ (x : Listed). is_id x.id ≡ true) (λ id. is_id id ≡ true) (λ (x : Listed). x.id) (λ x k. k) xs h) (ids-has id xs ∙ e)

listable_step : (c : Configuration) (before : List Item) (i : Item) → range.refusal c before i ≡ None → HasTexts i → AreListable (told before)
    → AreListable (step (told before) i)
listable_step c before (item.Part p) none texts h = record { each = h.each; named = h.named; removed = h.removed }
listable_step c before (item.Finish r) none texts h = record { each = h.each; named = h.named; removed = h.removed }
listable_step c before (item.Break r time) none texts h = record { each = h.each; named = h.named; removed = h.removed }
listable_step c before (item.Init r media) none texts h = record { each = h.each; named = h.named; removed = h.removed }
listable_step c before (item.End r) none texts h = record { each = h.each; named = h.named; removed = h.removed }
listable_step c before (item.Range r id attributes) none texts h =
    let t = told before in
    let taken = was_removed (end_time before) id (announced c before) in
    let free = added-by (is_listed id (announced c before) || taken) (is_id id) (are_allowed attributes) none in
    let x : Listed = record { id = id; attributes = attribute.spelling attributes; added = end_time before } in
    let good : IsListable x = sound-range id attributes free.1 texts.0 free.2 texts.1.read texts.1.utf8 in
    record {
      each = each-append IsListable t.listed (x ∷ []) h.each (good, tt);
      named = each-append (λ (x : Listed). is_id x.id ≡ true) t.listed (x ∷ []) h.named (free.1, tt);
      removed = h.removed;
    }
listable_step c before (item.Unrange r id) none texts h =
    let t = told before in
    let keep : Listed → Bool = λ x. not (bytes_eq id x.id) in
    let other : Removal → Bool = λ x. not (bytes_eq id x.id) in
    let last : Removal = record { id = id; removed = t.end_time } in
    let is = listed_id id t.listed (found (has id t.listed) none) h.named in
    record {
      each = each-filter IsListable keep t.listed h.each;
      named = each-filter (λ (x : Listed). is_id x.id ≡ true) keep t.listed h.named;
      removed = each-append (λ (r : Removal). IsTellable r.id) (other_removals id t.removals) (last ∷ [])
          (each-filter (λ (r : Removal). IsTellable r.id) other t.removals h.removed) ((is, texts), tt);
    }

-- the date ranges and removals of published items are listable
pub listable : (c : Configuration) (items : List Item) (r : ℕ) → ArePublished c [] items → AreListable (told (own r items))
listable c items r published =
    told-after AreListable HasTexts c (listable_step c) [] (own r items) (told-own c r [] items (all-announced c [] items published))
    (each-filter HasTexts (λ i. rendition_of i == r) items (have_texts c [] items published)) (record { each = tt; named = tt; removed = tt })

-- the lines of date ranges

pub sound-ranges : (xs : List Listed) → Each IsListable xs → Each IsSound (map DateRange (map range_line xs))
sound-ranges [] h = tt
sound-ranges (x ∷ xs) h = (h.0, sound-ranges xs h.1)

has-lines : (id : List ℕ) (xs : List Listed) → has_id id (map range_line xs) ≡ has id xs
has-lines id [] = refl
has-lines id (x ∷ xs) = ap (λ b. bytes_eq id x.id || b) (has-lines id xs)

distinct_by : (xs : List Listed) → are_distinct (map range_line xs) ≡ are_apart xs
distinct_by [] = refl
distinct_by (x ∷ xs) = ap (λ b. not b && are_distinct (map range_line xs)) (has-lines x.id xs) ∙ ap (λ b. not (has x.id xs) && b) (distinct_by xs)

pub distinct-ranges : (xs : List Listed) → are_apart xs ≡ true → are_distinct (map range_line xs) ≡ true
distinct-ranges xs h = distinct_by xs ∙ h
