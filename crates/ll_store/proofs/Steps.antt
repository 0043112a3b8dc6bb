-- The bytes that are kept after one more part.
use Rattle.std.proofs.Common.{◌≡◌, ℕ, ◌+◌, Bool, true, false, List, [], ◌∷◌, ◌++◌, refl, ap, ap₂, sym, ◌∙◌, length, length-append, length-drop, take, drop, arith}
use Rattle.std.proofs.lemmas.List.{append-nil, drop_all, take_all}
use Rattle.std.proofs.lemmas.List.Sums.{fold-append}
use Rattle.ll_item.specs.Told.{Told, finished_last, kept_part, start, step, told}
use Rattle.ll_item.specs.declared.item.Item.{Item}
use Rattle.ll_item.specs.declared.item.Item.TheVariants as item
use Rattle.ll_item.specs.declared.item.PartItem.{PartItem}
use Rattle.ll_item.specs.declared.part.Part.{Part}
use Rattle.ll_window.proofs.SplitLemmas.{added_by, split-last, split-snoc}
use Rattle.ll_window.specs.Segments.{Split, closed, ended, finished_by, split}
use Rattle.ll_store.proofs.Grouped.{grouped-finished, grouped-more, grouped-snoc, open-grown}
use Rattle.ll_store.proofs.Parts.{all-grouped, as-many, many-last, part_bytes-snoc}
use Rattle.ll_store.specs.Parts.{grouped, open_bytes, part_bytes, parts_in, segment_bytes}

pub told-snoc : (os : List Item) (o : Item) → told (os ++ o ∷ []) ≡ step (told os) o
told-snoc os o = fold-append step start os (o ∷ [])

abbrev groups_of : Bool → Split → List (List ℕ) → List (List (List ℕ))
groups_of e s bytes = grouped (finished_by e s) bytes

abbrev pub open_of : Bool → Split → List (List ℕ) → List (List ℕ)
open_of e s bytes = drop (parts_in (finished_by e s)) bytes

abbrev pub finished_with : Bool → List (List (List ℕ)) → List (List ℕ) → List ℕ → List (List (List ℕ))
finished_with true segments kept bytes = segments ++ (kept ++ bytes ∷ []) ∷ []
finished_with false segments kept bytes = segments

added_groups : (f : Bool) (s : Split) (p : Part) (bytes : List (List ℕ)) (b : List ℕ) → parts_in s.finished + length s.unfinished ≡ length bytes
    → grouped (added_by f s p).finished (bytes ++ b ∷ []) ≡ finished_with f (grouped s.finished bytes) (drop (parts_in s.finished) bytes) b
added_groups true s p bytes b h = grouped-finished s.finished s.unfinished p bytes b h
added_groups false s p bytes b h = grouped-more s.finished bytes (b ∷ []) (omega (arith, h))

pub part-finished : (os : List Item) (part : PartItem) → ended os ≡ false
    → segment_bytes (os ++ item.Part part ∷ []) ≡ finished_with part.finish (segment_bytes os) (open_bytes os) part.media
part-finished os part e =
    let o = item.Part part in
    let f = part.finish in
    let b = part.media in
    let t = told os in
    let p : Part = kept_part t.pending t.restart part in
    let many : parts_in (split t.parts).finished + length (split t.parts).unfinished ≡ length (part_bytes os) = all-grouped t.parts ∙ as-many os in
    ap₂ (λ (t : Told) bytes. groups_of t.ended (split t.parts) bytes) (told-snoc os o) (part_bytes-snoc os o)
    ∙ ap (λ e. groups_of e (split (t.parts ++ p ∷ [])) (part_bytes os ++ b ∷ [])) e
    ∙ ap (λ (s : Split). grouped s.finished (part_bytes os ++ b ∷ [])) (split-snoc t.parts p)
    ∙ added_groups f (split t.parts) p (part_bytes os) b many
    ∙ ap (λ e. finished_with f (groups_of e (split t.parts) (part_bytes os)) (open_of e (split t.parts) (part_bytes os)) b) (sym e)

abbrev pub open_with : Bool → List (List ℕ) → List ℕ → List (List ℕ)
open_with true kept bytes = []
open_with false kept bytes = kept ++ bytes ∷ []

parts_in-snoc : (gs : List (List Part)) (g : List Part) → parts_in (gs ++ g ∷ []) ≡ parts_in gs + length g
parts_in-snoc [] g = omega arith
parts_in-snoc (q ∷ gs) g = omega (arith, parts_in-snoc gs g)

pub parts_in-closed : (gs : List (List Part)) (us : List Part) → parts_in (gs ++ closed us) ≡ parts_in gs + length us
parts_in-closed gs [] = ap parts_in (append-nil gs) ∙ omega arith
parts_in-closed gs (u ∷ us) = parts_in-snoc gs (u ∷ us)

added_open : (f : Bool) (s : Split) (p : Part) (bytes : List (List ℕ)) (b : List ℕ) → parts_in s.finished + length s.unfinished ≡ length bytes
    → drop (parts_in (added_by f s p).finished) (bytes ++ b ∷ []) ≡ open_with f (drop (parts_in s.finished) bytes) b
added_open true s p bytes b h =
    drop_all (parts_in (s.finished ++ (s.unfinished ++ p ∷ []) ∷ [])) (bytes ++ b ∷ [])
    (omega (arith, h, parts_in-snoc s.finished (s.unfinished ++ p ∷ []), length-append s.unfinished (p ∷ []), length-append bytes (b ∷ [])))
added_open false s p bytes b h = open-grown s.finished bytes b (omega (arith, h))

pub part-open : (os : List Item) (part : PartItem) → ended os ≡ false
    → open_bytes (os ++ item.Part part ∷ []) ≡ open_with part.finish (open_bytes os) part.media
part-open os part e =
    let o = item.Part part in
    let f = part.finish in
    let b = part.media in
    let t = told os in
    let p : Part = kept_part t.pending t.restart part in
    let many : parts_in (split t.parts).finished + length (split t.parts).unfinished ≡ length (part_bytes os) = all-grouped t.parts ∙ as-many os in
    ap₂ (λ (t : Told) bytes. open_of t.ended (split t.parts) bytes) (told-snoc os o) (part_bytes-snoc os o)
    ∙ ap (λ e. open_of e (split (t.parts ++ p ∷ [])) (part_bytes os ++ b ∷ [])) e
    ∙ ap (λ (s : Split). drop (parts_in s.finished) (part_bytes os ++ b ∷ [])) (split-snoc t.parts p)
    ∙ added_open f (split t.parts) p (part_bytes os) b many
    ∙ ap (λ e. open_with f (open_of e (split t.parts) (part_bytes os)) b) (sym e)

-- an item that is no part and doesn't end the rendition changes none of the bytes of parts
pub other-finished : (os : List Item) (o : Item) → (step (told os) o).parts ≡ (told os).parts
    → (step (told os) o).ended ≡ (told os).ended → part_bytes (os ++ o ∷ []) ≡ part_bytes os
    → segment_bytes (os ++ o ∷ []) ≡ segment_bytes os
other-finished os o parts_same ended_same bytes_same =
    ap₂ (λ (t : Told) bytes. groups_of t.ended (split t.parts) bytes) (told-snoc os o) bytes_same
    ∙ ap₂ (λ e ps. groups_of e (split ps) (part_bytes os)) ended_same parts_same

-- the end finishes the open segment, if it has a part
abbrev pub closed_with : List (List ℕ) → List (List (List ℕ)) → List (List (List ℕ))
closed_with [] segments = segments
closed_with (bytes ∷ more) segments = segments ++ (bytes ∷ more) ∷ []

closed_some : (n : ℕ) (kept : List (List ℕ)) (segments : List (List (List ℕ))) → length kept ≡ 1 + n → segments ++ kept ∷ [] ≡ closed_with kept segments
closed_some n [] segments h = absurd (omega (arith, h))
closed_some n (bytes ∷ more) segments h = refl

closed_groups : (gs : List (List Part)) (us : List Part) (bytes : List (List ℕ)) → parts_in gs + length us ≡ length bytes
    → grouped (gs ++ closed us) bytes ≡ closed_with (drop (parts_in gs) bytes) (grouped gs bytes)
closed_groups gs [] bytes h =
    ap (λ gs. grouped gs bytes) (append-nil gs) ∙ ap (λ l. closed_with l (grouped gs bytes)) (sym (drop_all (parts_in gs) bytes (omega (arith, h))))
closed_groups gs (u ∷ us) bytes h =
    let kept = drop (parts_in gs) bytes in
    let many : length kept ≡ 1 + length us = omega (arith, h, length-drop (parts_in gs) bytes) in
    grouped-snoc gs (u ∷ us) bytes ∙ ap (λ l. grouped gs bytes ++ l ∷ []) (take_all (length (u ∷ us)) kept (omega (arith, many)))
    ∙ closed_some (length us) kept (grouped gs bytes) many

pub end-finished : (os : List Item) (r : ℕ) → ended os ≡ false
    → segment_bytes (os ++ item.End r ∷ []) ≡ closed_with (open_bytes os) (segment_bytes os)
end-finished os r e =
    let o = item.End r in
    let t = told os in
    let many : parts_in (split t.parts).finished + length (split t.parts).unfinished ≡ length (part_bytes os) = all-grouped t.parts ∙ as-many os in
    ap₂ (λ (t : Told) bytes. groups_of t.ended (split t.parts) bytes) (told-snoc os o) (part_bytes-snoc os o ∙ append-nil (part_bytes os))
    ∙ closed_groups (split t.parts).finished (split t.parts).unfinished (part_bytes os) many
    ∙ ap (λ e. closed_with (open_of e (split t.parts) (part_bytes os)) (groups_of e (split t.parts) (part_bytes os))) (sym e)

-- a finish does so too; the groups don't depend on the parts' flags
grouped-lasts : (gs : List (List Part)) (us : List Part) (bytes : List (List ℕ)) → grouped (gs ++ closed (finished_last us)) bytes ≡ grouped (gs ++ closed us) bytes
grouped-lasts gs [] bytes = refl
grouped-lasts gs (p ∷ []) bytes = grouped-snoc gs (finished_last (p ∷ [])) bytes ∙ sym (grouped-snoc gs (p ∷ []) bytes)
grouped-lasts gs (p ∷ q ∷ us) bytes =
    grouped-snoc gs (finished_last (p ∷ q ∷ us)) bytes
    ∙ ap (λ n. grouped gs bytes ++ take n (drop (parts_in gs) bytes) ∷ []) (many-last (p ∷ q ∷ us))
    ∙ sym (grouped-snoc gs (p ∷ q ∷ us) bytes)

pub finish-finished : (os : List Item) (r : ℕ) → ended os ≡ false
    → segment_bytes (os ++ item.Finish r ∷ []) ≡ closed_with (open_bytes os) (segment_bytes os)
finish-finished os r e =
    let o = item.Finish r in
    let t = told os in
    let many : parts_in (split t.parts).finished + length (split t.parts).unfinished ≡ length (part_bytes os) = all-grouped t.parts ∙ as-many os in
    ap₂ (λ (t : Told) bytes. groups_of t.ended (split t.parts) bytes) (told-snoc os o) (part_bytes-snoc os o ∙ append-nil (part_bytes os))
    ∙ ap (λ e. groups_of e (split (finished_last t.parts)) (part_bytes os)) e
    ∙ ap (λ (s : Split). grouped s.finished (part_bytes os)) (split-last t.parts)
    ∙ grouped-lasts (split t.parts).finished (split t.parts).unfinished (part_bytes os)
    ∙ closed_groups (split t.parts).finished (split t.parts).unfinished (part_bytes os) many
    ∙ ap (λ e. closed_with (open_of e (split t.parts) (part_bytes os)) (groups_of e (split t.parts) (part_bytes os))) (sym e)
