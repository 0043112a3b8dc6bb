-- If items have zeros in place of their bytes, the media that is there has zeros in place of its bytes.
use Rattle.std.proofs.Common.{◌≡◌, ℕ, ◌-◌, ◌==◌, List, [], ◌∷◌, ◌++◌, Bool, true, false, not, cond, Option, Some, None, refl, ap, ap₂, sym, ◌∙◌, length, map, drop, take, find, nat_le, filter, option_and_then, option_map, slice_get}
use Rattle.std.proofs.lemmas.List.{drop-map, length-append, length-map, map-append, replicate-append-replicate, take-map}
use Rattle.std.proofs.lemmas.Option.{slice_get-map}
use Rattle.std.specs.List.{concat}
use Rattle.ll_item.specs.Items.{blank}
use Rattle.ll_item.specs.Media.{zeros}
use Rattle.ll_settings.specs.Settings.{Configuration}
use Rattle.ll_item.specs.declared.item.Item.{Item}
use Rattle.ll_item.specs.declared.item.Item.TheVariants as item
use Rattle.ll_item.specs.declared.part.Part.{Part}
use Rattle.ll_store.specs.Media.{StoreValue, last_of, media, media_in, part_at, place_in, store}
use Rattle.ll_store.specs.Parts.{before_parts, grouped, open_bytes, part_bytes, parts_in, segment_bytes}
use Rattle.ll_store.specs.Sections.{and_section, kept_sections, section_of, sections, sections_from, with_section}
use Rattle.ll_store.specs.declared.segment.Section.{Section}
use Rattle.ll_item.specs.declared.what.What.{What}
use Rattle.ll_item.specs.declared.what.What.TheVariants as what
use Rattle.ll_window.specs.Compact.{Compact, compact, first_map, map_now}
use Rattle.ll_window.specs.Segments.{segments}
use Rattle.ll_entry.proofs.ItemBlanks.{compact-blank, filter-same, finished_of, told-blank}

-- as many zeros as there are bytes
abbrev pub zeros_for : List ℕ → List ℕ
zeros_for bytes = zeros (length bytes)

-- ---- parts

before-blank : (i : Item) (parts : List (List ℕ)) → before_parts (blank i) (map zeros_for parts) ≡ map zeros_for (before_parts i parts)
before-blank (item.Part p) parts = refl
before-blank (item.Init r media) parts = refl
before-blank (item.Finish r) parts = refl
before-blank (item.Break r time) parts = refl
before-blank (item.End r) parts = refl
before-blank (item.Range r id attributes) parts = refl
before-blank (item.Unrange r id) parts = refl

parts-blank : (xs : List Item) → part_bytes (map blank xs) ≡ map zeros_for (part_bytes xs)
parts-blank [] = refl
parts-blank (i ∷ xs) = ap (before_parts (blank i)) (parts-blank xs) ∙ before-blank i (part_bytes xs)

segments-blank : (xs : List Item) → segments (map blank xs) ≡ segments xs
segments-blank xs = ap finished_of (told-blank xs)

grouped-blank : (groups : List (List Part)) (bytes : List (List ℕ)) → grouped groups (map zeros_for bytes) ≡ map (map zeros_for) (grouped groups bytes)
grouped-blank [] bytes = refl
grouped-blank (group ∷ groups) bytes =
    ap₂ (λ first more. first ∷ grouped groups more) (take-map zeros_for (length group) bytes) (drop-map zeros_for (length group) bytes)
    ∙ ap (λ more. map zeros_for (take (length group) bytes) ∷ more) (grouped-blank groups (drop (length group) bytes))

segment-blank : (xs : List Item) → segment_bytes (map blank xs) ≡ map (map zeros_for) (segment_bytes xs)
segment-blank xs = ap₂ grouped (segments-blank xs) (parts-blank xs) ∙ grouped-blank (segments xs) (part_bytes xs)

open-blank : (xs : List Item) → open_bytes (map blank xs) ≡ map zeros_for (open_bytes xs)
open-blank xs =
    ap₂ (λ groups bytes. drop (parts_in groups) bytes) (segments-blank xs) (parts-blank xs) ∙ drop-map zeros_for (parts_in (segments xs)) (part_bytes xs)

-- ---- Media Initialization Sections

abbrev blank_section : Section → Section
blank_section s = record s { bytes = zeros_for s.bytes }

with-blank : (n : ℕ) (bytes : List ℕ) (ss : List Section)
    → with_section n (zeros_for bytes) (map blank_section ss) ≡ map blank_section (with_section n bytes ss)
with-blank n bytes ss =
    let other : Section → Bool = λ s. not (s.number == n) in
    let last : Section = record { number = n; bytes = bytes } in
    ap (λ kept. kept ++ blank_section last ∷ []) (filter-same blank_section other other (λ s. refl) ss)
    ∙ sym (map-append blank_section (filter other ss) (last ∷ []))

and-blank : (k : Compact) (ss : List Section) (i : Item) → and_section k (map blank_section ss) (blank i) ≡ map blank_section (and_section k ss i)
and-blank k ss (item.Part p) = refl
and-blank k ss (item.Init r media) = with-blank (map_now k) media ss
and-blank k ss (item.Finish r) = refl
and-blank k ss (item.Break r time) = refl
and-blank k ss (item.End r) = refl
and-blank k ss (item.Range r id attributes) = refl
and-blank k ss (item.Unrange r id) = refl

from-blank : (c : Configuration) (before : List Item) (ss : List Section) (xs : List Item)
    → sections_from c (map blank before) (map blank_section ss) (map blank xs) ≡ map blank_section (sections_from c before ss xs)
from-blank c before ss [] = refl
from-blank c before ss (i ∷ xs) =
    ap₂ (λ earlier k. sections_from c earlier (and_section k (map blank_section ss) (blank i)) (map blank xs))
    (sym (map-append blank before (i ∷ []))) (compact-blank c before)
    ∙ ap (λ kept. sections_from c (map blank (before ++ i ∷ [])) kept (map blank xs)) (and-blank (compact c before) ss i)
    ∙ from-blank c (before ++ i ∷ []) (and_section (compact c before) ss i) xs

abbrev bytes_in : Section → List ℕ
bytes_in s = s.bytes

found_by : (b : Bool) (s : Section) (o p : Option Section) → option_map bytes_in o ≡ option_map zeros_for (option_map bytes_in p)
    → option_map bytes_in (cond b (Some (blank_section s)) o) ≡ option_map zeros_for (option_map bytes_in (cond b (Some s) p))
found_by true s o p h = refl
found_by false s o p h = h

section-blank : (n : ℕ) (ss : List Section) → section_of n (map blank_section ss) ≡ option_map zeros_for (section_of n ss)
section-blank n [] = refl
section-blank n (s ∷ ss) =
    let same : Section → Bool = λ s. s.number == n in
    found_by (s.number == n) s (find same (map blank_section ss)) (find same ss) (section-blank n ss)

-- ---- stores

abbrev blank_store : StoreValue → StoreValue
blank_store s = record { window = map (map zeros_for) s.window; unfinished = map zeros_for s.unfinished; sections = map blank_section s.sections }

last-map : {X Y : Type 0} (f : X → Y) (n : ℕ) (xs : List X) → last_of n (map f xs) ≡ map f (last_of n xs)
last-map f n xs = ap (λ all. drop (all - n) (map f xs)) (length-map xs f) ∙ drop-map f (length xs - n) xs

window-blank : (c : Configuration) (xs : List Item)
    → last_of (length (compact c (map blank xs)).window) (segment_bytes (map blank xs))
    ≡ map (map zeros_for) (last_of (length (compact c xs).window) (segment_bytes xs))
window-blank c xs =
    ap₂ (λ (k : Compact) all. last_of (length k.window) all) (compact-blank c xs) (segment-blank xs)
    ∙ last-map (map zeros_for) (length (compact c xs).window) (segment_bytes xs)

sections-blank : (c : Configuration) (xs : List Item)
    → kept_sections (compact c (map blank xs)) (sections c (map blank xs)) ≡ map blank_section (kept_sections (compact c xs) (sections c xs))
sections-blank c xs =
    let kept : Section → Bool = λ s. nat_le (first_map (compact c xs)) s.number in
    ap₂ kept_sections (compact-blank c xs) (from-blank c [] [] xs)
    ∙ filter-same blank_section kept kept (λ s. refl) (sections c xs)

store-blank : (c : Configuration) (xs : List Item) → store c (map blank xs) ≡ blank_store (store c xs)
store-blank c xs =
    let kept = kept_sections (compact c (map blank xs)) (sections c (map blank xs)) in
    ap₂ (λ window unfinished. record { window = window; unfinished = unfinished; sections = kept })
    (window-blank c xs) (open-blank xs)
    ∙ ap (λ ss. record { window = map (map zeros_for) (store c xs).window; unfinished = map zeros_for (open_bytes xs); sections = ss }) (sections-blank c xs)

-- ---- media

concat-blank : (parts : List (List ℕ)) → concat (map zeros_for parts) ≡ zeros_for (concat parts)
concat-blank [] = refl
concat-blank (bytes ∷ parts) =
    ap (λ more. zeros_for bytes ++ more) (concat-blank parts)
    ∙ replicate-append-replicate (length bytes) (length (concat parts)) 0
    ∙ ap zeros (sym (length-append bytes (concat parts)))

joined-blank : (o : Option (List (List ℕ))) → option_map concat (option_map (map zeros_for) o) ≡ option_map zeros_for (option_map concat o)
joined-blank None = refl
joined-blank (Some parts) = ap Some (concat-blank parts)

segment_by : (window : List (List (List ℕ))) (place : Option ℕ)
    → option_and_then (λ place. option_map concat (slice_get (map (map zeros_for) window) place)) place
    ≡ option_map zeros_for (option_and_then (λ place. option_map concat (slice_get window place)) place)
segment_by window None = refl
segment_by window (Some place) = ap (option_map concat) (slice_get-map (map zeros_for) window place) ∙ joined-blank (slice_get window place)

part_in : (index : ℕ) (o : Option (List (List ℕ)))
    → option_and_then (λ parts. slice_get parts index) (option_map (map zeros_for) o)
    ≡ option_map zeros_for (option_and_then (λ parts. slice_get parts index) o)
part_in index None = refl
part_in index (Some parts) = slice_get-map zeros_for parts index

part_by : (all : List (List (List ℕ))) (index : ℕ) (place : Option ℕ)
    → option_and_then (λ place. part_at (map (map zeros_for) all) place index) place
    ≡ option_map zeros_for (option_and_then (λ place. part_at all place index) place)
part_by all index None = refl
part_by all index (Some place) =
    ap (option_and_then (λ parts. slice_get parts index)) (slice_get-map (map zeros_for) all place) ∙ part_in index (slice_get all place)

in-blank : (k : Compact) (s : StoreValue) (x : What) → media_in k (blank_store s) x ≡ option_map zeros_for (media_in k s x)
in-blank k s what.Playlist = refl
in-blank k s (what.Segment n) = segment_by s.window (place_in k n)
in-blank k s (what.Part n i) =
    ap (λ all. option_and_then (λ place. part_at all place i) (place_in k n)) (sym (map-append (map zeros_for) s.window (s.unfinished ∷ [])))
    ∙ part_by (s.window ++ s.unfinished ∷ []) i (place_in k n)
in-blank k s (what.Init n) = section-blank n s.sections

pub media-blank : (c : Configuration) (xs : List Item) (x : What) → media c (map blank xs) x ≡ option_map zeros_for (media c xs x)
media-blank c xs x =
    ap₂ (λ k s. media_in k s x) (compact-blank c xs) (store-blank c xs) ∙ in-blank (compact c xs) (store c xs) x
