-- The bytes of the window's segments with one more item.
use Rattle.std.proofs.Common.{◌≡◌, ℕ, suc, ◌+◌, Bool, true, false, List, [], ◌∷◌, ◌++◌, refl, ap, sym, ◌∙◌, length, length-drop, arith}
use Rattle.std.proofs.lemmas.List.{append-nil}
use Rattle.ll_settings.specs.Settings.{Configuration}
use Rattle.ll_item.specs.Told.{told}
use Rattle.ll_item.specs.declared.item.Item.{Item}
use Rattle.ll_item.specs.declared.item.Item.TheVariants as item
use Rattle.ll_item.specs.declared.part.Part.{Part}
use Rattle.ll_window.specs.Compact.{compact, map_now}
use Rattle.ll_window.specs.Segments.{ended, finished_by as finished_segments, open_segment, segments, split, unfinished_by}
use Rattle.ll_store.proofs.Last.{last-grown}
use Rattle.ll_store.proofs.Parts.{all-grouped, as-many, of_part, part_bytes-snoc}
use Rattle.ll_store.proofs.Shown.{finishes, one_from, one_of, shown-few, shown-within}
use Rattle.ll_store.proofs.Steps.{closed_with, end-finished, finish-finished, finished_with, other-finished, part-finished}
use Rattle.ll_store.specs.Media.{last_of, store}
use Rattle.ll_store.specs.Parts.{grouped, open_bytes, part_bytes, parts_in, segment_bytes}
use Rattle.ll_store.specs.Step.{brought_by, closed, finished_by, grown}

pub length-grouped : (gs : List (List Part)) (bytes : List (List ℕ)) → length (grouped gs bytes) ≡ length gs
length-grouped [] bytes = refl
length-grouped (g ∷ gs) bytes = ap suc (length-grouped gs _)

-- a window that has what it shows goes on with what an item finishes
grows : (c : Configuration) (items : List Item) (i : Item) (new : List (List (List ℕ))) → ended items ≡ false → finishes (compact c items) i ≡ length new
    → segment_bytes (items ++ i ∷ []) ≡ segment_bytes items ++ new
    → last_of (length (compact c (items ++ i ∷ [])).window) (segment_bytes (items ++ i ∷ []))
    ≡ last_of (length (compact c (items ++ i ∷ [])).window) ((store c items).window ++ new)
grows c items i new going many is =
    let n = length (compact c items).window in
    let m = length (compact c (items ++ i ∷ [])).window in
    ap (last_of m) is
    ∙ last-grown n m (segment_bytes items) new (omega (arith, shown-within c items, length-grouped (segments items) (part_bytes items)))
    (omega (arith, shown-few c items i going, many))

as-appended : (f : Bool) (segments : List (List (List ℕ))) (kept : List (List ℕ)) (b : List ℕ) → finished_with f segments kept b ≡ segments ++ finished_by f (kept ++ b ∷ [])
as-appended true segments kept b = refl
as-appended false segments kept b = sym (append-nil segments)

one-finished : (f : Bool) (parts : List (List ℕ)) → one_of f ≡ length (finished_by f parts)
one-finished true parts = refl
one-finished false parts = refl

closed-appended : (kept : List (List ℕ)) (segments : List (List (List ℕ))) → closed_with kept segments ≡ segments ++ closed kept
closed-appended [] segments = sym (append-nil segments)
closed-appended (b ∷ bs) segments = refl

one-closed : (ps : List Part) (kept : List (List ℕ)) → length ps ≡ length kept → one_from ps ≡ length (closed kept)
one-closed [] [] h = refl
one-closed [] (b ∷ bs) h = absurd (omega (arith, h))
one-closed (p ∷ ps) [] h = absurd (omega (arith, h))
one-closed (p ∷ ps) (b ∷ bs) h = refl

-- the open segment has bytes for each of its parts
pub open_by : (e : Bool) (items : List Item) → ended items ≡ e → e ≡ false → length (open_segment items) ≡ length (open_bytes items)
open_by true items e g = cc
open_by false items e g =
    let t = told items in
    let many : parts_in (split t.parts).finished + length (split t.parts).unfinished ≡ length (part_bytes items) = all-grouped t.parts ∙ as-many items in
    let open_is : length (open_segment items) ≡ length (split t.parts).unfinished = ap (λ b. length (unfinished_by b (split t.parts))) e in
    let groups : parts_in (segments items) ≡ parts_in (split t.parts).finished = ap (λ b. parts_in (finished_segments b (split t.parts))) e in
    omega (arith, many, open_is, groups, length-drop (parts_in (segments items)) (part_bytes items))

same : (c : Configuration) (items : List Item) (i : Item) → ended items ≡ false → finishes (compact c items) i ≡ 0 → segment_bytes (items ++ i ∷ []) ≡ segment_bytes items
    → last_of (length (compact c (items ++ i ∷ [])).window) (segment_bytes (items ++ i ∷ []))
    ≡ last_of (length (compact c (items ++ i ∷ [])).window) (store c items).window
same c items i going none is =
    grows c items i [] going none (is ∙ sym (append-nil (segment_bytes items)))
    ∙ ap (last_of (length (compact c (items ++ i ∷ [])).window)) (append-nil (store c items).window)

-- no part's bytes come with an item that is none
pub bytes-same : (items : List Item) (i : Item) → of_part i ≡ [] → part_bytes (items ++ i ∷ []) ≡ part_bytes items
bytes-same items i none = part_bytes-snoc items i ∙ ap (λ l. part_bytes items ++ l) none ∙ append-nil (part_bytes items)

pub window-step : (c : Configuration) (items : List Item) (i : Item) → ended items ≡ false
    → last_of (length (compact c (items ++ i ∷ [])).window) (segment_bytes (items ++ i ∷ []))
    ≡ last_of (length (compact c (items ++ i ∷ [])).window) (grown (map_now (compact c items)) (store c items) (brought_by i)).window
window-step c items (item.Part part) going =
    let parts = open_bytes items ++ part.media ∷ [] in
    grows c items (item.Part part) (finished_by part.finish parts) going (one-finished part.finish parts)
    (part-finished items part going ∙ as-appended part.finish (segment_bytes items) (open_bytes items) part.media)
window-step c items (item.Finish r) going =
    grows c items (item.Finish r) (closed (open_bytes items)) going (one-closed (open_segment items) (open_bytes items) (open_by (ended items) items refl going))
    (finish-finished items r going ∙ closed-appended (open_bytes items) (segment_bytes items))
window-step c items (item.End r) going =
    grows c items (item.End r) (closed (open_bytes items)) going (one-closed (open_segment items) (open_bytes items) (open_by (ended items) items refl going))
    (end-finished items r going ∙ closed-appended (open_bytes items) (segment_bytes items))
window-step c items (item.Init r media) going = same c items (item.Init r media) going refl (other-finished items (item.Init r media) refl refl (bytes-same items (item.Init r media) refl))
window-step c items (item.Break r time) going = same c items (item.Break r time) going refl (other-finished items (item.Break r time) refl refl (bytes-same items (item.Break r time) refl))
window-step c items (item.Range r id attributes) going =
    same c items (item.Range r id attributes) going refl (other-finished items (item.Range r id attributes) refl refl (bytes-same items (item.Range r id attributes) refl))
window-step c items (item.Unrange r id) going =
    same c items (item.Unrange r id) going refl (other-finished items (item.Unrange r id) refl refl (bytes-same items (item.Unrange r id) refl))
