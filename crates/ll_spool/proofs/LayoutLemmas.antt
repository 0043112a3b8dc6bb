-- The layouts after one item more, and those of items with other bytes.
use Rattle.std.proofs.Common.{◌≡◌, ◌≢◌, ℕ, ◌+◌, ◌==◌, ◌&&◌, zero, suc, List, [], ◌∷◌, ◌++◌, Bool, true, false, cond, not, Some, Result, Ok, Err, OnOk, refl, ap, ap₂, sym, subst, ◌∙◌, append_assoc, append-nil, arith, filter, if◌then◌else◌, length, map, set, slice_get}
use Rattle.std.proofs.lemmas.Bool.Decides.{nat_tests}
use Rattle.std.proofs.lemmas.List.{length-replicate, map-append}
use Rattle.ll_entry.proofs.ItemBlanks.{compact-blank, filter-same, rendition-blank}
use Rattle.ll_item.specs.Items.{blank, media_of, rendition_of}
use Rattle.ll_item.specs.Media.{zeros}
use Rattle.ll_item.specs.declared.item.Item.{Item}
use Rattle.ll_item.specs.declared.item.Item.TheVariants as item
use Rattle.ll_layout.specs.Held.{LayoutValue, begun, other}
use Rattle.ll_layout.specs.Moves.{added, has_bytes, laid, now_on, room_for, with_item, with_part, with_section, without_gone}
use Rattle.ll_settings.specs.Settings.{Configuration}
use Rattle.ll_spool.specs.Layouts.{IsLaid, Numbered, layout_after, layout_from, layouts_after, layouts_from, numbered_from, numbered_own}
use Rattle.ll_window.specs.Compact.{Compact, compact, map_now}

-- ---- numbers

numbered-more : (n : ℕ) (items : List Item) (i : Item) → numbered_from n (items ++ i ∷ []) ≡ numbered_from n items ++ record { number = n + length items; item = i } ∷ []
numbered-more n [] i = ap (λ m. record { number = m; item = i } ∷ []) (omega arith)
numbered-more n (x ∷ items) i =
    ap (λ xs. record { number = n; item = x } ∷ xs) (numbered-more (n + 1) items i)
    ∙ ap (λ m. record { number = n; item = x } ∷ (numbered_from (n + 1) items ++ record { number = m; item = i } ∷ [])) (omega arith)

kept-by : {A : Type 0} (p : A → Bool) (y : A) (xs : List A) (x : A) (b : Bool) → p y ≡ b → filter p (xs ++ x ∷ []) ≡ filter p xs ++ filter p (x ∷ [])
    → filter p (y ∷ xs ++ x ∷ []) ≡ filter p (y ∷ xs) ++ filter p (x ∷ [])
kept-by p y xs x true e more = rw e (ap (λ ys. y ∷ ys) more)
kept-by p y xs x false e more = rw e more

filter-more : {A : Type 0} (p : A → Bool) (xs : List A) (x : A) → filter p (xs ++ x ∷ []) ≡ filter p xs ++ filter p (x ∷ [])
filter-more p [] x = refl
filter-more p (y ∷ xs) x = kept-by p y xs x (p y) refl (filter-more p xs x)

test-is : (a b : ℕ) → a ≡ b → (a == b) ≡ true
test-is a b e = grind (arith, nat_tests)

test-not : (a b : ℕ) → a ≢ b → (a == b) ≡ false
test-not a b d = grind (arith, nat_tests)

own-more : (rendition : ℕ) (items : List Item) (i : Item) → rendition_of i ≡ rendition
    → numbered_own rendition (items ++ i ∷ []) ≡ numbered_own rendition items ++ record { number = length items + 1; item = i } ∷ []
own-more rendition items i e =
    let p : Numbered → Bool = λ x. rendition_of x.item == rendition in
    let x : Numbered = record { number = length items + 1; item = i } in
    let number : 1 + length items ≡ length items + 1 = omega arith in
    ap (filter p) (numbered-more 1 items i ∙ ap (λ m. numbered_from 1 items ++ record { number = m; item = i } ∷ []) number)
    ∙ filter-more p (numbered_from 1 items) x
    ∙ ap (λ b. filter p (numbered_from 1 items) ++ cond b (x ∷ []) []) (test-is (rendition_of i) rendition e)

own-same : (rendition : ℕ) (items : List Item) (i : Item) → rendition_of i ≢ rendition → numbered_own rendition (items ++ i ∷ []) ≡ numbered_own rendition items
own-same rendition items i d =
    let p : Numbered → Bool = λ x. rendition_of x.item == rendition in
    let x : Numbered = record { number = 1 + length items; item = i } in
    ap (filter p) (numbered-more 1 items i)
    ∙ filter-more p (numbered_from 1 items) x
    ∙ ap (λ b. filter p (numbered_from 1 items) ++ cond b (x ∷ []) []) (test-not (rendition_of i) rendition d)
    ∙ append-nil (filter p (numbered_from 1 items))

-- ---- one rendition

item-window : (n : ℕ) (i : Item) (k : Compact) (l : LayoutValue) → (with_item n i k l).window ≡ l.window
item-window n (item.Part part) k l = refl
item-window n (item.Init rendition media) k l = refl
item-window n (item.Finish rendition) k l = refl
item-window n (item.Break rendition time) k l = refl
item-window n (item.End rendition) k l = refl
item-window n (item.Range rendition id attributes) k l = refl
item-window n (item.Unrange rendition id) k l = refl

laid-window : (n : ℕ) (i : Item) (k : Compact) (l : LayoutValue) → (laid n i k l).window ≡ k
laid-window n i k l = item-window n i (room_for i l).window (record (room_for i l) { window = k })

from-window : (c : Configuration) (before : List Item) (l : LayoutValue) (xs : List Numbered) → l.window ≡ compact c before
    → (layout_from c before l xs).window ≡ compact c (before ++ map (λ (x : Numbered). x.item) xs)
from-window c before l [] e = e ∙ ap (compact c) (sym (append-nil before))
from-window c before l (x ∷ xs) e =
    let next = before ++ x.item ∷ [] in
    from-window c next (laid x.number x.item (compact c next) l) xs (laid-window x.number x.item (compact c next) l)
    ∙ ap (compact c) (append_assoc before (x.item ∷ []) (map (λ (y : Numbered). y.item) xs))

from-more : (c : Configuration) (before : List Item) (l : LayoutValue) (xs : List Numbered) (x : Numbered)
    → layout_from c before l (xs ++ x ∷ [])
    ≡ laid x.number x.item (compact c (before ++ map (λ (y : Numbered). y.item) xs ++ x.item ∷ [])) (layout_from c before l xs)
from-more c before l [] x = ap (λ b. laid x.number x.item (compact c (b ++ x.item ∷ [])) l) (sym (append-nil before))
from-more c before l (y ∷ xs) x =
    let next = before ++ y.item ∷ [] in
    from-more c next (laid y.number y.item (compact c next) l) xs x
    ∙ ap (λ b. laid x.number x.item (compact c (b ++ x.item ∷ [])) (layout_from c before l (y ∷ xs))) (append_assoc before (y.item ∷ []) (map (λ (z : Numbered). z.item) xs))

after-more : (c : Configuration) (rendition : ℕ) (items : List Item) (i : Item) (l m : LayoutValue) (count : ℕ) → rendition_of i ≡ rendition → l ≡ layout_after c rendition items
    → IsLaid count i l m → count ≡ length items + 1 → m ≡ layout_after c rendition (items ++ i ∷ [])
after-more c rendition items i l m count own is laid-to number =
    let xs = numbered_own rendition items in
    let before = map (λ (x : Numbered). x.item) xs in
    let window : l.window ≡ compact c before = ap (λ (k : LayoutValue). k.window) is ∙ from-window c [] (begun c) xs refl in
    let settings : l.window.settings ≡ c = ap (λ (k : Compact). k.settings) window in
    let window_then : m.window ≡ compact c (before ++ i ∷ []) =
    laid-to.window before (window ∙ ap (λ s. compact s before) (sym settings)) ∙ ap (λ s. compact s (before ++ i ∷ [])) settings in
    laid-to.is
    ∙ ap (λ k. laid count i k l) window_then
    ∙ ap (laid count i (compact c (before ++ i ∷ []))) is
    ∙ ap (λ n. laid n i (compact c (before ++ i ∷ [])) (layout_from c [] (begun c) xs)) number
    ∙ sym (from-more c [] (begun c) xs (record { number = length items + 1; item = i }))
    ∙ ap (layout_from c [] (begun c)) (sym (own-more rendition items i own))

after-same : (c : Configuration) (rendition : ℕ) (items : List Item) (i : Item) → rendition_of i ≢ rendition → layout_after c rendition (items ++ i ∷ []) ≡ layout_after c rendition items
after-same c rendition items i d = ap (layout_from c [] (begun c)) (own-same rendition items i d)

-- ---- all renditions

from-same : (c : Configuration) (r : ℕ) (names : List (List ℕ)) (items : List Item) (i : Item) → ((k : ℕ) → rendition_of i ≢ r + k)
    → layouts_from c r names (items ++ i ∷ []) ≡ layouts_from c r names items
from-same c r [] items i d = refl
from-same c r (name ∷ names) items i d =
    ap₂ (λ l ls. l ∷ ls) (after-same c r items i (λ e. d 0 (omega (arith, e)))) (from-same c (r + 1) names items i (λ k e. d (suc k) (omega (arith, e))))

some-same : (k l : LayoutValue) → Some k ≡ Some l → l ≡ k
some-same k l e = cc

from-set : (c : Configuration) (r q : ℕ) (names : List (List ℕ)) (items : List Item) (i : Item) (l m : LayoutValue) (count : ℕ) → rendition_of i ≡ r + q
    → slice_get (layouts_from c r names items) q ≡ Some l → IsLaid count i l m → count ≡ length items + 1
    → set (layouts_from c r names items) q m ≡ layouts_from c r names (items ++ i ∷ [])
from-set c r q [] items i l m count own at laid-to number = absurd (cc)
from-set c r zero (name ∷ names) items i l m count own at laid-to number =
    ap₂ (λ k ks. k ∷ ks) (after-more c r items i l m count (omega (arith, own)) (some-same (layout_after c r items) l at) laid-to number)
    (sym (from-same c (r + 1) names items i (λ k e. absurd (omega (arith, e, own)))))
from-set c r (suc q) (name ∷ names) items i l m count own at laid-to number =
    ap₂ (λ k ks. k ∷ ks) (sym (after-same c r items i (λ e. absurd (omega (arith, e, own)))))
    (from-set c (r + 1) q names items i l m count (omega (arith, own)) at laid-to number)

-- an item is laid to the layout of its rendition
laid_more : (c : Configuration) (items : List Item) (i : Item) (ls : List LayoutValue) (l m : LayoutValue) (count : ℕ) → ls ≡ layouts_after c items
    → slice_get ls (rendition_of i) ≡ Some l → count ≡ length items + 1 → IsLaid count i l m → set ls (rendition_of i) m ≡ layouts_after c (items ++ i ∷ [])
laid_more c items i ls l m count is at number laid-to =
    ap (λ ks. set ks (rendition_of i) m) is
    ∙ from-set c 0 (rendition_of i) c.renditions items i l m count (omega arith) (ap (λ ks. slice_get ks (rendition_of i)) (sym is) ∙ at) laid-to number

pub laid_or_not : {E : Type 0} (c : Configuration) (items : List Item) (i : Item) (ls : List LayoutValue) (l m : LayoutValue) (place count : ℕ) (r : Result (Unit {0}) E)
    → ls ≡ layouts_after c items → place ≡ rendition_of i → slice_get ls place ≡ Some l → count ≡ length items + 1 → OnOk r (IsLaid count i l m)
    → OnOk r (set ls place m ≡ layouts_after c (items ++ i ∷ []))
laid_or_not c items i ls l m place count (Ok done) is own at number one =
    ap (λ n. set ls n m) own ∙ laid_more c items i ls l m count is (ap (slice_get ls) (sym own) ∙ at) number one
laid_or_not c items i ls l m place count (Err fault) is own at number one = tt

-- ---- an item's steps

room-window-by : (b : Bool) (i : Item) (l : LayoutValue) → (if b then now_on (other l.side) l else l).window ≡ l.window
room-window-by true i l = refl
room-window-by false i l = refl

room-window : (i : Item) (l : LayoutValue) → (room_for i l).window ≡ l.window
room-window i l = room-window-by (has_bytes i && (length l.older == 0)) i l

-- first room is made, and then the item is added
pub laid_by : (count : ℕ) (i : Item) (l mid m : LayoutValue) → mid ≡ room_for i l → m ≡ added count i m.window mid
    → ((items : List Item) → mid.window ≡ compact mid.window.settings items → m.window ≡ compact mid.window.settings (items ++ i ∷ [])) → IsLaid count i l m
laid_by count i l mid m room is window =
    let same : mid.window ≡ l.window = ap (λ (k : LayoutValue). k.window) room ∙ room-window i l in
    record {
      is = is ∙ ap (added count i m.window) room;
      window = subst (λ (k : Compact). (items : List Item) → k ≡ compact k.settings items → m.window ≡ compact k.settings (items ++ i ∷ [])) same window;
    }

-- ---- no items

begun-from : (c : Configuration) (r : ℕ) (names : List (List ℕ)) → map (λ (name : List ℕ). begun c) names ≡ layouts_from c r names []
begun-from c r [] = refl
begun-from c r (name ∷ names) = ap (λ ls. begun c ∷ ls) (begun-from c (r + 1) names)

pub begun_all : (c : Configuration) → map (λ (name : List ℕ). begun c) c.renditions ≡ layouts_after c []
begun_all c = begun-from c 0 c.renditions

-- ---- other bytes

blank-long : (i : Item) → length (media_of (blank i)) ≡ length (media_of i)
blank-long (item.Part part) = length-replicate (length part.media) 0
blank-long (item.Init rendition media) = length-replicate (length media) 0
blank-long (item.Finish rendition) = refl
blank-long (item.Break rendition time) = refl
blank-long (item.End rendition) = refl
blank-long (item.Range rendition id attributes) = refl
blank-long (item.Unrange rendition id) = refl

blank-item : (n : ℕ) (i : Item) (k : Compact) (l : LayoutValue) → with_item n (blank i) k l ≡ with_item n i k l
blank-item n (item.Part part) k l = ap (λ size. with_part k.next_number n size l) (length-replicate (length part.media) 0)
blank-item n (item.Init rendition media) k l = ap (λ size. with_section (map_now k) n size l) (length-replicate (length media) 0)
blank-item n (item.Finish rendition) k l = refl
blank-item n (item.Break rendition time) k l = refl
blank-item n (item.End rendition) k l = refl
blank-item n (item.Range rendition id attributes) k l = refl
blank-item n (item.Unrange rendition id) k l = refl

blank-room : (i : Item) (l : LayoutValue) → room_for (blank i) l ≡ room_for i l
blank-room i l = ap (λ size. if not (size == 0) && (length l.older == 0) then now_on (other l.side) l else l) (blank-long i)

blank-laid : (n : ℕ) (i : Item) (k : Compact) (l : LayoutValue) → laid n (blank i) k l ≡ laid n i k l
blank-laid n i k l =
    ap (added n (blank i) k) (blank-room i l) ∙ ap without_gone (blank-item n i (room_for i l).window (record (room_for i l) { window = k }))

abbrev blanked : Numbered → Numbered
blanked x = record { number = x.number; item = blank x.item }

twice : (i : Item) → blank (blank i) ≡ blank i
twice (item.Part part) = ap (λ n. item.Part (record part { media = zeros n })) (length-replicate (length part.media) 0)
twice (item.Init rendition media) = ap (λ n. item.Init rendition (zeros n)) (length-replicate (length media) 0)
twice (item.Finish rendition) = refl
twice (item.Break rendition time) = refl
twice (item.End rendition) = refl
twice (item.Range rendition id attributes) = refl
twice (item.Unrange rendition id) = refl

compact-blanked : (c : Configuration) (before other : List Item) (i : Item) → map blank other ≡ map blank before → compact c (other ++ blank i ∷ []) ≡ compact c (before ++ i ∷ [])
compact-blanked c before other i e =
    sym (compact-blank c (other ++ blank i ∷ [])) ∙ ap (compact c) (map-append blank other (blank i ∷ []) ∙ ap₂ (λ xs x. xs ++ x ∷ []) e (twice i) ∙ sym (map-append blank before (i ∷ [])))
    ∙ compact-blank c (before ++ i ∷ [])

from-blank : (c : Configuration) (before other : List Item) (l : LayoutValue) (xs : List Numbered) → map blank other ≡ map blank before
    → layout_from c other l (map blanked xs) ≡ layout_from c before l xs
from-blank c before other l [] e = refl
from-blank c before other l (x ∷ xs) e =
    let k = compact c (before ++ x.item ∷ []) in
    ap (λ m. layout_from c (other ++ blank x.item ∷ []) m (map blanked xs)) (ap (λ j. laid x.number (blank x.item) j l) (compact-blanked c before other x.item e) ∙ blank-laid x.number x.item k l)
    ∙ from-blank c (before ++ x.item ∷ []) (other ++ blank x.item ∷ []) (laid x.number x.item k l) xs
    (map-append blank other (blank x.item ∷ []) ∙ ap₂ (λ ys y. ys ++ y ∷ []) e (twice x.item) ∙ sym (map-append blank before (x.item ∷ [])))

numbered-blank : (n : ℕ) (items : List Item) → numbered_from n (map blank items) ≡ map blanked (numbered_from n items)
numbered-blank n [] = refl
numbered-blank n (i ∷ items) = ap (λ xs. record { number = n; item = blank i } ∷ xs) (numbered-blank (n + 1) items)

own-blank : (rendition : ℕ) (xs : List Numbered)
    → filter (λ (y : Numbered). rendition_of y.item == rendition) (map blanked xs) ≡ map blanked (filter (λ (y : Numbered). rendition_of y.item == rendition) xs)
own-blank rendition xs =
    let p : Numbered → Bool = λ y. rendition_of y.item == rendition in filter-same blanked p p (λ x. ap (λ r. r == rendition) (rendition-blank x.item)) xs

after-blank : (c : Configuration) (rendition : ℕ) (items : List Item) → layout_after c rendition (map blank items) ≡ layout_after c rendition items
after-blank c rendition items =
    ap (λ xs. layout_from c [] (begun c) (filter (λ (y : Numbered). rendition_of y.item == rendition) xs)) (numbered-blank 1 items)
    ∙ ap (layout_from c [] (begun c)) (own-blank rendition (numbered_from 1 items))
    ∙ from-blank c [] [] (begun c) (numbered_own rendition items) refl

layouts-blank : (c : Configuration) (r : ℕ) (names : List (List ℕ)) (items : List Item) → layouts_from c r names (map blank items) ≡ layouts_from c r names items
layouts-blank c r [] items = refl
layouts-blank c r (name ∷ names) items = ap₂ (λ l ls. l ∷ ls) (after-blank c r items) (layouts-blank c (r + 1) names items)

-- items with other bytes, as many of each, have the same layouts
pub layouts_same : (c : Configuration) (items other : List Item) → map blank other ≡ map blank items → layouts_after c other ≡ layouts_after c items
layouts_same c items other e =
    sym (layouts-blank c 0 c.renditions other) ∙ ap (layouts_after c) e ∙ layouts-blank c 0 c.renditions items
