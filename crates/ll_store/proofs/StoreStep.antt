-- What is kept of all items and one more follows from what is kept of the items before it.
use Rattle.std.proofs.Common.{◌≡◌, ℕ, ◌+◌, Bool, true, false, List, [], ◌∷◌, ◌++◌, refl, ap, ap₂, ◌∙◌, length, arith}
use Rattle.std.proofs.lemmas.List.{drop_all}
use Rattle.ll_settings.specs.Settings.{Configuration}
use Rattle.ll_item.specs.Told.{Told, finished_last, step, told}
use Rattle.ll_item.specs.declared.item.Item.{Item}
use Rattle.ll_item.specs.declared.item.Item.TheVariants as item
use Rattle.ll_window.specs.Compact.{compact, map_now}
use Rattle.ll_window.specs.Segments.{closed, ended, split}
use Rattle.ll_window.proofs.SplitLemmas.{split-last}
use Rattle.ll_store.proofs.Parts.{all-grouped, as-many, many-last}
use Rattle.ll_store.proofs.SectionBytes.{section-step}
use Rattle.ll_store.proofs.Steps.{open_of, open_with, part-open, parts_in-closed, told-snoc}
use Rattle.ll_store.proofs.WindowBytes.{bytes-same, window-step}
use Rattle.ll_store.specs.Media.{StoreValue, last_of, store}
use Rattle.ll_store.specs.Parts.{open_bytes, part_bytes, parts_in}
use Rattle.ll_store.specs.declared.segment.Section.{Section}
use Rattle.ll_store.specs.Sections.{kept_sections, sections}
use Rattle.ll_store.specs.Step.{brought_by, grown, left_by, trimmed}

part_left : (f : Bool) (kept : List (List ℕ)) (b : List ℕ) → open_with f kept b ≡ left_by f (kept ++ b ∷ [])
part_left true kept b = refl
part_left false kept b = refl

-- an item that is no part and doesn't end the rendition leaves the open segment as it is
open-same : (items : List Item) (i : Item) → (step (told items) i).parts ≡ (told items).parts → (step (told items) i).ended ≡ (told items).ended
    → part_bytes (items ++ i ∷ []) ≡ part_bytes items → open_bytes (items ++ i ∷ []) ≡ open_bytes items
open-same items i parts_same ended_same bytes_same =
    ap₂ (λ (t : Told) bytes. open_of t.ended (split t.parts) bytes) (told-snoc items i) bytes_same
    ∙ ap₂ (λ e ps. open_of e (split ps) (part_bytes items)) ended_same parts_same

-- after the end no segment is open
pub end-open : (items : List Item) (r : ℕ) → open_bytes (items ++ item.End r ∷ []) ≡ []
end-open items r =
    let t = told items in
    let s = split t.parts in
    let many : parts_in s.finished + length s.unfinished ≡ length (part_bytes items) = all-grouped t.parts ∙ as-many items in
    ap₂ (λ (t : Told) bytes. open_of t.ended (split t.parts) bytes) (told-snoc items (item.End r)) (bytes-same items (item.End r) refl)
    ∙ drop_all (parts_in (s.finished ++ closed s.unfinished)) (part_bytes items) (omega (arith, many, parts_in-closed s.finished s.unfinished))

-- after a finish neither
pub finish-open : (items : List Item) (r : ℕ) → ended items ≡ false → open_bytes (items ++ item.Finish r ∷ []) ≡ []
finish-open items r going =
    let t = told items in
    let s = split t.parts in
    let us = finished_last s.unfinished in
    let many : parts_in s.finished + length s.unfinished ≡ length (part_bytes items) = all-grouped t.parts ∙ as-many items in
    ap₂ (λ (t : Told) bytes. open_of t.ended (split t.parts) bytes) (told-snoc items (item.Finish r)) (bytes-same items (item.Finish r) refl)
    ∙ ap (λ e. open_of e (split (finished_last t.parts)) (part_bytes items)) going
    ∙ ap (λ s. open_of false s (part_bytes items)) (split-last t.parts)
    ∙ drop_all (parts_in (s.finished ++ closed us)) (part_bytes items) (omega (arith, many, parts_in-closed s.finished us, many-last s.unfinished))

open-step : (c : Configuration) (items : List Item) (i : Item) → ended items ≡ false
    → open_bytes (items ++ i ∷ []) ≡ (grown (map_now (compact c items)) (store c items) (brought_by i)).unfinished
open-step c items (item.Part part) going = part-open items part going ∙ part_left part.finish (open_bytes items) part.media
open-step c items (item.Finish r) going = finish-open items r going
open-step c items (item.End r) going = end-open items r
open-step c items (item.Init r media) going = open-same items (item.Init r media) refl refl (bytes-same items (item.Init r media) refl)
open-step c items (item.Break r time) going = open-same items (item.Break r time) refl refl (bytes-same items (item.Break r time) refl)
open-step c items (item.Range r id attributes) going = open-same items (item.Range r id attributes) refl refl (bytes-same items (item.Range r id attributes) refl)
open-step c items (item.Unrange r id) going = open-same items (item.Unrange r id) refl refl (bytes-same items (item.Unrange r id) refl)

abbrev of_three : List (List (List ℕ)) → List (List ℕ) → List Section → StoreValue
of_three window unfinished sections = record { window = window; unfinished = unfinished; sections = sections }

pub store-snoc : (c : Configuration) (items : List Item) (i : Item) → ended items ≡ false
    → store c (items ++ i ∷ []) ≡ trimmed (compact c (items ++ i ∷ [])) (grown (map_now (compact c items)) (store c items) (brought_by i))
store-snoc c items i going =
    let kept = kept_sections (compact c (items ++ i ∷ [])) (sections c (items ++ i ∷ [])) in
    let after = grown (map_now (compact c items)) (store c items) (brought_by i) in
    ap₂ (λ window unfinished. of_three window unfinished kept) (window-step c items i going) (open-step c items i going)
    ∙ ap (of_three (last_of (length (compact c (items ++ i ∷ [])).window) after.window) after.unfinished) (section-step c items i going)
