-- What items say, and what is refused after them, doesn't depend on their bytes.
use Rattle.std.proofs.Common.{◌≡◌, ℕ, ◌+◌, ◌*◌, ◌==◌, List, [], ◌∷◌, Bool, true, false, cond, Option, None, refl, ap, ap₂, ◌∙◌, length, map, filter, fold}
use Rattle.ll_item.specs.Items.{blank, rendition_of}
use Rattle.ll_settings.specs.Settings.{Configuration, skip_limit}
use Rattle.ll_item.specs.Told.{Told, start, step, told}
use Rattle.ll_item.specs.declared.item.Item.{Item}
use Rattle.ll_item.specs.declared.item.Item.TheVariants as item
use Rattle.ll_item.specs.declared.part.Part.{Part}
use Rattle.ll_pieces.specs.View.{renditions_from}
use Rattle.ll_range.specs.Announced as range
use Rattle.ll_rendition.specs.Kept.{kept}
use Rattle.ll_rendition.specs.Refusal.{rendition_refusal}
use Rattle.ll_verdict.specs.Accepted.{refusal}
use Rattle.ll_window.proofs.StepLemmas.{kept_of}
use Rattle.ll_window.specs.Compact.{next_start, compact}
use Rattle.ll_window.specs.Numbers.{last_place, numbered_parts}
use Rattle.ll_window.specs.Refusal as window
use Rattle.ll_window.specs.Rows.{Row, rows}
use Rattle.ll_window.specs.Segments.{duration, finished_by, own, split, unfinished_by}
use Rattle.ll_window.specs.declared.part_position.PartPosition.{PartPosition}

-- ---- one rendition's items

step-blank : (t : Told) (i : Item) → step t (blank i) ≡ step t i
step-blank t (item.Part p) = refl
step-blank t (item.Init r media) = refl
step-blank t (item.Finish r) = refl
step-blank t (item.Break r time) = refl
step-blank t (item.End r) = refl
step-blank t (item.Range r id attributes) = refl
step-blank t (item.Unrange r id) = refl

fold-blank : (t : Told) (xs : List Item) → fold step t (map blank xs) ≡ fold step t xs
fold-blank t [] = refl
fold-blank t (i ∷ xs) = ap (λ u. fold step u (map blank xs)) (step-blank t i) ∙ fold-blank (step t i) xs

pub told-blank : (xs : List Item) → told (map blank xs) ≡ told xs
told-blank xs = fold-blank start xs

pub rendition-blank : (i : Item) → rendition_of (blank i) ≡ rendition_of i
rendition-blank (item.Part p) = refl
rendition-blank (item.Init r media) = refl
rendition-blank (item.Finish r) = refl
rendition-blank (item.Break r time) = refl
rendition-blank (item.End r) = refl
rendition-blank (item.Range r id attributes) = refl
rendition-blank (item.Unrange r id) = refl

kept_by : {X Y : Type 0} (f : X → Y) (b : Bool) (x : X) (xs : List X) → cond b (f x ∷ map f xs) (map f xs) ≡ map f (cond b (x ∷ xs) xs)
kept_by f true x xs = refl
kept_by f false x xs = refl

-- a test of what a function makes takes what the function makes of what the same test takes before
pub filter-same : {X Y : Type 0} (f : X → Y) (p : X → Bool) (q : Y → Bool) → ((x : X) → q (f x) ≡ p x)
    → (xs : List X) → filter q (map f xs) ≡ map f (filter p xs)
filter-same f p q same [] = refl
filter-same f p q same (x ∷ xs) =
    ap (λ b. cond b (f x ∷ filter q (map f xs)) (filter q (map f xs))) (same x)
    ∙ ap (λ ys. cond (p x) (f x ∷ ys) ys) (filter-same f p q same xs)
    ∙ kept_by f (p x) x (filter p xs)

pub own-blank : (r : ℕ) (xs : List Item) → own r (map blank xs) ≡ map blank (own r xs)
own-blank r xs = filter-same blank (λ i. rendition_of i == r) (λ i. rendition_of i == r) (λ i. ap (λ n. n == r) (rendition-blank i)) xs

-- what a window keeps depends on all parts, as segments, and on what else the items say
abbrev pub finished_of : Told → List (List Part)
finished_of t = finished_by t.ended (split t.parts)

abbrev pub open_of : Told → List Part
open_of t = unfinished_by t.ended (split t.parts)

abbrev pub rows_of : Configuration → Told → List Row
rows_of c t = rows c.first 0 (c.start * 1000) (finished_of t)

abbrev pub last_in : Configuration → Told → Option PartPosition
last_in c t = last_place (numbered_parts c.first 0 t.parts)

abbrev announced_of : Configuration → Told → range.Announced
announced_of c t = record { limit = skip_limit c; listed = t.listed; recent = filter (range.is_recent (skip_limit c) t.end_time) t.removals }

pub compact-blank : (c : Configuration) (xs : List Item) → compact c (map blank xs) ≡ compact c xs
compact-blank c xs = ap (kept_of c) (told-blank xs)

announced-blank : (c : Configuration) (xs : List Item) → range.announced c (map blank xs) ≡ range.announced c xs
announced-blank c xs = ap (announced_of c) (told-blank xs)

kept-blank : (c : Configuration) (xs : List Item) → kept c (map blank xs) ≡ kept c xs
kept-blank c xs = ap₂ (λ k a. record { window = k; ranges = a }) (compact-blank c xs) (announced-blank c xs)

pub each-blank : (c : Configuration) (xs : List Item) (r : ℕ) (names : List (List ℕ)) → renditions_from c (map blank xs) r names ≡ renditions_from c xs r names
each-blank c xs r [] = refl
each-blank c xs r (name ∷ names) =
    ap₂ (λ k ks. k ∷ ks) (ap (kept c) (own-blank r xs) ∙ kept-blank c (own r xs)) (each-blank c xs (r + 1) names)

-- ---- what is refused

window-blank : (c : Configuration) (xs : List Item) (i : Item) → window.refusal c (map blank xs) (blank i) ≡ window.refusal c xs i
window-blank c xs (item.Part p) =
    ap (λ (t : Told). window.refusal_by t.ended (window.part_refusal c (c.first + length (finished_of t)) (duration (open_of t)) (next_start (kept_of c t)) p.duration)) (told-blank xs)
window-blank c xs (item.Init r media) = ap (λ (t : Told). window.refusal_by t.ended None) (told-blank xs)
window-blank c xs (item.Finish r) = ap (λ (t : Told). window.refusal_by t.ended (window.finish_refusal (open_of t))) (told-blank xs)
window-blank c xs (item.Break r time) =
    ap (λ (t : Told). window.refusal_by t.ended (window.break_refusal (open_of t) (next_start (kept_of c t)) time)) (told-blank xs)
window-blank c xs (item.End r) = ap (λ (t : Told). window.refusal_by t.ended None) (told-blank xs)
window-blank c xs (item.Range r id attributes) = ap (λ (t : Told). window.refusal_by t.ended None) (told-blank xs)
window-blank c xs (item.Unrange r id) = ap (λ (t : Told). window.refusal_by t.ended None) (told-blank xs)

range-blank : (c : Configuration) (xs : List Item) (i : Item) → range.refusal c (map blank xs) (blank i) ≡ range.refusal c xs i
range-blank c xs (item.Part p) = refl
range-blank c xs (item.Init r media) = refl
range-blank c xs (item.Finish r) = refl
range-blank c xs (item.Break r time) = refl
range-blank c xs (item.End r) = refl
range-blank c xs (item.Range r id attributes) = ap (λ (t : Told). range.add_refusal t.end_time id attributes (announced_of c t)) (told-blank xs)
range-blank c xs (item.Unrange r id) = ap (λ (t : Told). range.remove_refusal id (announced_of c t)) (told-blank xs)

in-rendition : (c : Configuration) (xs : List Item) (i : Item) → rendition_refusal c (map blank xs) (blank i) ≡ rendition_refusal c xs i
unfolding rendition_refusal
in-rendition c xs i = rw (window-blank c xs i, range-blank c xs i) refl

pub refusal-blank : (c : Configuration) (xs : List Item) (i : Item) → refusal c (map blank xs) (blank i) ≡ refusal c xs i
refusal-blank c xs i = rw (rendition-blank i, own-blank (rendition_of i) xs, in-rendition c (own (rendition_of i) xs) i) refl
