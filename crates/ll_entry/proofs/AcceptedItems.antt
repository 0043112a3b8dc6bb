-- What it means that no rule refuses an item; and the IDs that are listed are on one line each, because all of them were accepted.
use Rattle.std.proofs.Common.{◌≡◌, ℕ, ◌==◌, ◌||◌, List, [], ◌∷◌, ◌++◌, Bool, true, false, not, Option, Some, None, is_none, fold, refl, ap, ◌∙◌, length, bytes_eq, if◌then◌else◌}
use Rattle.std.proofs.lemmas.Bool.{and_parts}
use Rattle.std.proofs.lemmas.List.Elements.{All-append, All-cons, All-filter, All-head, All-nil, All-tail}
use Rattle.std.proofs.lemmas.Slice.Eq.{bytes_eq-Decides}
use Rattle.std.specs.List.{All, list_all, list_any}
use Rattle.ll_attr.specs.Attributes.{spelling}
use Rattle.ll_attr.specs.declared.attributes.Attribute.{Attribute}
use Rattle.ll_format.proofs.WordLaws.{inside_from}
use Rattle.ll_format.specs.Words.{is_one_line}
use Rattle.ll_item.specs.Items.{rendition_of}
use Rattle.ll_settings.specs.Settings.{Configuration}
use Rattle.ll_item.specs.declared.item.Item.{Item}
use Rattle.ll_item.specs.declared.item.Item.TheVariants as item
use Rattle.ll_range.specs.Announced as range
use Rattle.ll_range.specs.Announced.{Announced, add_refusal, announced, is_listed, remove_refusal, was_removed}
use Rattle.ll_range.specs.Attributes.{are_allowed, is_id, is_id_byte}
use Rattle.ll_range.specs.declared.ranges.RangeFault.TheVariants.{BadAttribute, IdTaken, IdUnknown}
use Rattle.ll_verdict.specs.Full.{full_by, is_full, refusal_after}
use Rattle.ll_verdict.specs.Accepted.{refusal}
use Rattle.ll_verdict.specs.Events.{Event, Ask, Clock, Close, Collect, Publish, items, taken}
use Rattle.ll_rendition.specs.declared.fault.PublishFault.{PublishFault}
use Rattle.ll_verdict.proofs.AcceptedLemmas.{IsTaken, first-none, not-refused}
use Rattle.ll_item.specs.Told.{end_time, Listed, Told, start, step, told}
use Rattle.ll_window.specs.Segments.{own}

-- ---- an item that no rule refuses

pub is-taken : (c : Configuration) (events : List Event) (i : Item) → refusal_after c events i ≡ None → IsTaken c (items c events) i
is-taken c events i h = not-refused c (items c events) i (first-none (refusal c (items c events) i) (full_by (is_full (length events))) h).0

-- ---- date ranges

added_by : (taken id allowed : Bool) → (if taken then Some IdTaken else if id then (if allowed then None else Some BadAttribute) else Some BadAttribute) ≡ None
    → (id ≡ true) × (allowed ≡ true)
added_by true id allowed h = cc
added_by false false allowed h = cc
added_by false true true h = (refl, refl)
added_by false true false h = cc

-- one that was added has an ID and attributes that it may have
pub added : (now : ℕ) (id : List ℕ) (attributes : List Attribute) (a : Announced) → add_refusal now id attributes a ≡ None
    → (is_id id ≡ true) × (are_allowed attributes ≡ true)
added now id attributes a h = added_by (is_listed id a || was_removed now id a) (is_id id) (are_allowed attributes) h

listed_by : (b : Bool) → (if b then None else Some IdUnknown) ≡ None → b ≡ true
listed_by true h = refl
listed_by false h = cc

id_line : (id : List ℕ) → is_id id ≡ true → is_one_line id ≡ true
id_line id h = inside_from is_id_byte id refl refl (and_parts _ (list_all is_id_byte id) h).1

-- ---- the IDs of all items of a channel

abbrev HasLine : Item → Type 0
HasLine (item.Range rendition id attributes) = is_one_line id ≡ true
HasLine (item.Unrange rendition id) = Unit
HasLine (item.Part p) = Unit
HasLine (item.Init rendition media) = Unit
HasLine (item.Finish rendition) = Unit
HasLine (item.Break rendition time) = Unit
HasLine (item.End rendition) = Unit

abbrev IsOnLine : Listed → Type 0
IsOnLine x = is_one_line x.id ≡ true

has_line : (c : Configuration) (before : List Item) (i : Item) → range.refusal c before i ≡ None → HasLine i
has_line c before (item.Range r id attributes) h = id_line id (added (end_time before) id attributes (announced c before) h).0
has_line c before (item.Unrange r id) h = tt
has_line c before (item.Part p) h = tt
has_line c before (item.Init r media) h = tt
has_line c before (item.Finish r) h = tt
has_line c before (item.Break r time) h = tt
has_line c before (item.End r) h = tt

one_taken : (c : Configuration) (before : List Item) (i : Item) (o : Option PublishFault) → refusal c before i ≡ o → All HasLine before
    → All HasLine (if is_none o then before ++ i ∷ [] else before)
one_taken c before i None e h =
    All-append HasLine before (i ∷ []) h (All-cons HasLine i [] (has_line c (own (rendition_of i) before) i (not-refused c before i e).range) (All-nil HasLine))
one_taken c before i (Some fault) e h = h

have_lines : (c : Configuration) (before : List Item) (events : List Event) → All HasLine before → All HasLine (fold (taken c) before events)
have_lines c before [] h = h
have_lines c before (Publish i ∷ es) h = have_lines c (taken c before (Publish i)) es (one_taken c before i (refusal c before i) refl h)
have_lines c before (Ask want ∷ es) h = have_lines c before es h
have_lines c before (Collect ticket ∷ es) h = have_lines c before es h
have_lines c before (Close ticket ∷ es) h = have_lines c before es h
have_lines c before (Clock ms ∷ es) h = have_lines c before es h

step_lines : (t : Told) (i : Item) → HasLine i → All IsOnLine t.listed → All IsOnLine (step t i).listed
step_lines t (item.Range r id attributes) line h =
    let x : Listed = record { id = id; attributes = spelling attributes; added = t.end_time } in
    All-append IsOnLine t.listed (x ∷ []) h (All-cons IsOnLine x [] line (All-nil IsOnLine))
step_lines t (item.Unrange r id) line h = All-filter (λ (x : Listed). not (bytes_eq id x.id)) IsOnLine t.listed h
step_lines t (item.Part p) line h = h
step_lines t (item.Init r media) line h = h
step_lines t (item.Finish r) line h = h
step_lines t (item.Break r time) line h = h
step_lines t (item.End r) line h = h

on_lines : (t : Told) (xs : List Item) → All HasLine xs → All IsOnLine t.listed → All IsOnLine (fold step t xs).listed
on_lines t [] lines h = h
on_lines t (i ∷ xs) lines h = on_lines (step t i) xs (All-tail HasLine i xs lines) (step_lines t i (All-head HasLine i xs lines) h)

same_line : (id : List ℕ) (x : Listed) (xs : List Listed) (b : Bool) → bytes_eq id x.id ≡ b → (b || list_any (λ (x : Listed). bytes_eq id x.id) xs) ≡ true
    → All IsOnLine (x ∷ xs) → (list_any (λ (x : Listed). bytes_eq id x.id) xs ≡ true → is_one_line id ≡ true) → is_one_line id ≡ true
same_line id x xs true e h lines later =
    ap is_one_line ((bytes_eq-Decides id x.id).0 e) ∙ All-head IsOnLine x xs lines
same_line id x xs false e h lines later = later h

among : (id : List ℕ) (xs : List Listed) → list_any (λ (x : Listed). bytes_eq id x.id) xs ≡ true → All IsOnLine xs → is_one_line id ≡ true
among id [] h lines = cc
among id (x ∷ xs) h lines = same_line id x xs (bytes_eq id x.id) refl h lines (λ h. among id xs h (All-tail IsOnLine x xs lines))

-- an ID that may be taken away was listed, so it is on one line
pub removed : (c : Configuration) (events : List Event) (r : ℕ) (id : List ℕ)
    → remove_refusal id (announced c (own r (items c events))) ≡ None → is_one_line id ≡ true
removed c events r id h =
    let xs = own r (items c events) in
    among id (told xs).listed (listed_by (is_listed id (announced c xs)) h)
    (on_lines start xs (All-filter (λ i. rendition_of i == r) HasLine (items c events) (have_lines c [] events (All-nil HasLine))) (All-nil IsOnLine))
