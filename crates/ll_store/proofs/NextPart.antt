-- The part that comes next: its bytes are there once it has come, and never if the rendition ends before.
use Rattle.std.proofs.Common.{◌≡◌, ℕ, zero, suc, ◌+◌, ◌-◌, ◌*◌, ◌≤◌, ◌<◌, ◌==◌, ◌&&◌, ◌||◌, Bool, true, false, cond, if◌then◌else◌, List, [], ◌∷◌, ◌++◌, Some, None, refl, ap, ap₂, sym, subst, ◌∙◌, append_assoc, length, length-append, length-drop, take, drop, nat_le, nat_lt, arith}
use Rattle.std.specs.Prelude.{slice_get}
use Rattle.std.specs.Option.{option_and_then}
use Rattle.std.proofs.Math.Seq.{drop-append-le, drop-drop}
use Rattle.std.proofs.lemmas.List.Folds.{list_any-append}
use Rattle.std.specs.List.{list_any}
use Rattle.std.proofs.lemmas.Bool.Decides.{nat_tests}
use Rattle.std.proofs.lemmas.Option.{slice_get_past}
use Rattle.ll_settings.specs.Settings.{Configuration}
use Rattle.ll_item.specs.declared.item.Item.{Item}
use Rattle.ll_item.specs.declared.item.Item.TheVariants as item
use Rattle.ll_item.specs.declared.item.PartItem.{PartItem}
use Rattle.ll_item.specs.declared.part.Part.{Part}
use Rattle.ll_window.proofs.WindowLemmas.{length_listed}
use Rattle.ll_window.specs.Compact.{Compact, all_rows, compact}
use Rattle.ll_window.specs.Rows.{Row, lasting}
use Rattle.ll_window.specs.Numbers.{NumberedPart, placed}
use Rattle.ll_window.specs.Segments.{duration, ended, finished_by as finished_segments, open_segment, parts, segments, split, unfinished_by}
use Rattle.ll_window.specs.Wants.{holds_part, place_of, reaches}
use Rattle.ll_window.proofs.NumberLemmas.{by_places, laid}
use Rattle.ll_window.specs.Window.{near_limit, window, window_limit}
use Rattle.ll_store.proofs.Last.{length-last}
use Rattle.ll_store.proofs.Shown.{length-rows, shown-within}
use Rattle.ll_store.proofs.Parts.{all-grouped, as-many}
use Rattle.ll_store.proofs.Steps.{open_with, closed_with, end-finished, finished_with, part-finished, part-open}
use Rattle.ll_store.proofs.StoreStep.{end-open}
use Rattle.ll_store.proofs.WindowBytes.{length-grouped, open_by}
use Rattle.ll_store.specs.Media.{StoreValue, first_shown, last_of, media, media_in, part_at, place_in, store}
use Rattle.ll_store.specs.Parts.{grouped, open_bytes, part_bytes, parts_in, segment_bytes}
use Rattle.ll_item.specs.declared.what.What.{What}
use Rattle.ll_item.specs.declared.what.What.TheVariants as what

-- ---- a window and its store

get-after : {A : Type 0} (xs : List A) (y : A) (ys : List A) → slice_get (xs ++ y ∷ ys) (length xs) ≡ Some y
get-after [] y ys = refl
get-after (x ∷ xs) y ys = get-after xs y ys

found-at : (k : Compact) (s : StoreValue) (place n index : ℕ) (parts : List (List ℕ)) → place_in k n ≡ Some place
    → slice_get (s.window ++ s.unfinished ∷ []) place ≡ Some parts → media_in k s (what.Part n index) ≡ slice_get parts index
found-at k s place n index parts h g =
    ap (λ o. option_and_then (λ place. part_at (s.window ++ s.unfinished ∷ []) place index) o) h
    ∙ ap (λ o. option_and_then (λ (parts : List (List ℕ)). slice_get parts index) o) g

place_by : (b : Bool) (m p : ℕ) → b ≡ true → m ≡ p → cond b (Some m) None ≡ Some p
place_by b m p is same = ap₂ (λ b m. cond b (Some m) None) is same

place-open : (k : Compact) → length k.window ≤ k.next_number → place_in k k.next_number ≡ Some (length k.window)
place-open k h = place_by _ _ (length k.window) (grind (arith, nat_tests)) (omega (arith, h))

place-last : (k : Compact) (n : ℕ) → k.next_number ≡ n + 1 → 1 ≤ length k.window → length k.window ≤ n + 1 → place_in k n ≡ Some (length k.window - 1)
place-last k n e low high = place_by _ _ (length k.window - 1) (grind (arith, nat_tests, e, low, high)) (omega (arith, e, low, high))

-- a part of the open segment
open-found : (k : Compact) (s : StoreValue) (index : ℕ) → length k.window ≤ k.next_number → length s.window ≡ length k.window
    → media_in k s (what.Part k.next_number index) ≡ slice_get s.unfinished index
open-found k s index le same =
    found-at k s (length k.window) k.next_number index s.unfinished (place-open k le)
    (ap (slice_get (s.window ++ s.unfinished ∷ [])) (sym same) ∙ get-after s.window s.unfinished [])

last-snoc : {A : Type 0} (n : ℕ) (zs : List A) (y : A) → 1 ≤ n → n ≤ length zs + 1 → last_of n (zs ++ y ∷ []) ≡ last_of (n - 1) zs ++ y ∷ []
last-snoc n zs y low high =
    ap (λ k. drop (k - n) (zs ++ y ∷ [])) (length-append zs (y ∷ []))
    ∙ ap (λ k. drop k (zs ++ y ∷ [])) (omega (arith, low, high))
    ∙ drop-append-le (length zs - (n - 1)) zs (y ∷ []) (omega arith)

-- a part of the last segment of the window
last-found : (k : Compact) (s : StoreValue) (n index : ℕ) (zs : List (List (List ℕ))) (y : List (List ℕ)) → k.next_number ≡ n + 1 → 1 ≤ length k.window
    → length k.window ≤ n + 1 → length k.window ≤ length zs + 1 → s.window ≡ last_of (length k.window) (zs ++ y ∷ [])
    → media_in k s (what.Part n index) ≡ slice_get y index
last-found k s n index zs y e low high many is =
    let w = length k.window in
    let before = last_of (w - 1) zs in
    let count : length before ≡ w - 1 = length-last (w - 1) zs (omega (arith, many)) in
    found-at k s (w - 1) n index y (place-last k n e low high)
    (ap (λ l. slice_get (l ++ s.unfinished ∷ []) (w - 1)) (is ∙ last-snoc w zs y low many)
    ∙ ap₂ slice_get (append_assoc before (y ∷ []) (s.unfinished ∷ [])) (sym count)
    ∙ get-after before y (s.unfinished ∷ []))

-- ---- the window isn't empty once a segment is finished

some_by : (b : Bool) (xs : List Row) (x : Row) (ys : List Row) → 1 ≤ length xs → 1 ≤ length (cond b xs (x ∷ ys))
some_by true xs x ys h = h
some_by false xs x ys h = omega arith

alone_by : (b : Bool) (r : Row) → b ≡ false → 1 ≤ length (cond b [] (r ∷ []))
alone_by b r none = subst (λ b. 1 ≤ length (cond b [] (r ∷ []))) (sym none) (omega arith)

some-window : (least : ℕ) (rs : List Row) → 1 ≤ least → 1 ≤ length rs → 1 ≤ length (window least rs)
some-window least [] low h = absurd (omega (arith, h))
some-window least (r ∷ []) low h = alone_by (nat_le least (lasting [])) r (grind (arith, nat_tests, low))
some-window least (r ∷ q ∷ rs) low h = some_by (nat_le least (lasting (q ∷ rs))) (window least (q ∷ rs)) r (q ∷ rs) (some-window least (q ∷ rs) low (omega arith))

shown-some : (c : Configuration) (items : List Item) → 1 ≤ c.window → 1 ≤ length (segments items) → 1 ≤ length (compact c items).window
shown-some c items low h =
    let rs = all_rows c items in
    let many = length-rows c.first 0 (c.start * 1000) (segments items) in
    let some = some-window (window_limit c) rs (omega (arith, low)) (omega (arith, h, many)) in
    let same = length_listed (near_limit c) (duration (open_segment items)) (window (window_limit c) rs) in
    omega (arith, some, same)

-- ---- all items of a rendition

segments-many : (items : List Item) → length (segment_bytes items) ≡ length (segments items)
segments-many items = length-grouped (segments items) (part_bytes items)

-- the part that the hint names: the next one
abbrev pub next_part : Configuration → List Item → What
next_part c items = what.Part (c.first + length (segments items)) (length (open_segment items))

-- no segment was finished: it is one of the open segment
in-open : (c : Configuration) (items all : List Item) → segment_bytes all ≡ segment_bytes items
    → media c all (next_part c items) ≡ slice_get (open_bytes all) (length (open_segment items))
in-open c items all is =
    let index = length (open_segment items) in
    let many : length (segments all) ≡ length (segments items) = sym (segments-many all) ∙ ap length is ∙ segments-many items in
    let within = shown-within c all in
    ap (λ n. media c all (what.Part (c.first + n) index)) (sym many)
    ∙ open-found (compact c all) (store c all) index (omega (arith, within))
    (length-last (length (compact c all).window) (segment_bytes all) (omega (arith, within, segments-many all)))

-- one was finished, which has these bytes: it is one of that
in-last : (c : Configuration) (items all : List Item) (parts : List (List ℕ)) → 1 ≤ c.window → segment_bytes all ≡ segment_bytes items ++ parts ∷ []
    → media c all (next_part c items) ≡ slice_get parts (length (open_segment items))
in-last c items all parts low is =
    let more : length (segments all) ≡ length (segments items) + 1 =
    sym (segments-many all) ∙ ap length is ∙ length-append (segment_bytes items) (parts ∷ []) ∙ ap (λ n. n + 1) (segments-many items) in
    let within = shown-within c all in
    let some = shown-some c all low (omega (arith, more)) in
    last-found (compact c all) (store c all) (c.first + length (segments items)) (length (open_segment items)) (segment_bytes items) parts
    (omega (arith, more)) some (omega (arith, within, more)) (omega (arith, within, more, segments-many items)) (ap (last_of (length (compact c all).window)) is)

pub next-came : (c : Configuration) (items : List Item) (part : PartItem) → 1 ≤ c.window → ended items ≡ false
    → media c (items ++ item.Part part ∷ []) (next_part c items) ≡ Some part.media
next-came c items part low going = by part.finish refl
  where
    all : List Item
    all = items ++ item.Part part ∷ []

    by : (f : Bool) → part.finish ≡ f → media c all (next_part c items) ≡ Some part.media
    by true e =
        in-last c items all (open_bytes items ++ part.media ∷ []) low
        (part-finished items part going ∙ ap (λ f. finished_with f (segment_bytes items) (open_bytes items) part.media) e)
        ∙ ap (slice_get (open_bytes items ++ part.media ∷ [])) (open_by (ended items) items refl going) ∙ get-after (open_bytes items) part.media []
    by false e =
        in-open c items all (part-finished items part going ∙ ap (λ f. finished_with f (segment_bytes items) (open_bytes items) part.media) e)
        ∙ ap₂ slice_get (part-open items part going ∙ ap (λ f. open_with f (open_bytes items) part.media) e) (open_by (ended items) items refl going)
        ∙ get-after (open_bytes items) part.media []

-- ---- the bytes of all segments, and what a request that waits gets of them

-- of each part of each segment, the open one last
abbrev pub all_bytes : List Item → List (List (List ℕ))
all_bytes items = segment_bytes items ++ open_bytes items ∷ []

get-drop : {A : Type 0} (k : ℕ) (xs : List A) (j : ℕ) → slice_get (drop k xs) j ≡ slice_get xs (k + j)
get-drop zero xs j = let e : j ≡ 0 + j = omega arith in ap (slice_get xs) e
get-drop (suc k) [] j = refl
get-drop (suc k) (x ∷ xs) j = let e : suc (k + j) ≡ suc k + j = omega arith in get-drop k xs j ∙ ap (slice_get (x ∷ xs)) e

in_window : (c : Configuration) (all : List Item) (m p place : ℕ) → place ≡ m - first_shown (compact c all) → first_shown (compact c all) ≤ m
    → part_at ((store c all).window ++ (store c all).unfinished ∷ []) place p ≡ part_at (all_bytes all) (m - c.first) p
in_window c all m p place e shown =
    let k = compact c all in
    let within = shown-within c all in
    let cut = length (segment_bytes all) - length k.window in
    let few : cut ≤ length (segment_bytes all) = omega arith in
    let at : cut + place ≡ m - c.first = omega (arith, e, shown, within, segments-many all) in
    ap (λ l. part_at l place p) (sym (drop-append-le cut (segment_bytes all) (open_bytes all ∷ []) few))
    ∙ ap (λ o. option_and_then (λ (parts : List (List ℕ)). slice_get parts p) o)
    (get-drop cut (all_bytes all) place ∙ ap (slice_get (all_bytes all)) at)

-- a part that no playlist shows isn't there; any other is one of its segment
media_by : (c : Configuration) (all : List Item) (m p : ℕ) (b : Bool) → nat_le (first_shown (compact c all)) m ≡ b
    → media c all (what.Part m p) ≡ (if b then part_at (all_bytes all) (m - c.first) p else None)
media_by c all m p true e =
    let k = compact c all in
    let s = store c all in
    let shown : first_shown k ≤ m = grind (arith, nat_tests, e) in
    ap (λ b. option_and_then (λ place. part_at (s.window ++ s.unfinished ∷ []) place p) (if b then Some (m - first_shown k) else None)) e
    ∙ in_window c all m p (m - first_shown k) refl shown
media_by c all m p false e =
    let k = compact c all in
    let s = store c all in
    ap (λ b. option_and_then (λ place. part_at (s.window ++ s.unfinished ∷ []) place p) (if b then Some (m - first_shown k) else None)) e

-- if a segment has no such part, there is no media of it
none-there : (c : Configuration) (all : List Item) (m p : ℕ) → (c.first ≤ m → part_at (all_bytes all) (m - c.first) p ≡ None) → media c all (what.Part m p) ≡ None
none-there c all m p h = by (nat_le (first_shown (compact c all)) m) refl
  where
    by : (b : Bool) → nat_le (first_shown (compact c all)) m ≡ b → media c all (what.Part m p) ≡ None
    by false e = media_by c all m p false e
    by true e =
        let within = shown-within c all in
        let shown : first_shown (compact c all) ≤ m = grind (arith, nat_tests, e) in
        media_by c all m p true e ∙ h (omega (arith, within, shown))

abbrev reached : ℕ → ℕ → List NumberedPart → Bool
reached m p xs = list_any (λ x. reaches m p (place_of x)) xs

either : (a b : Bool) → (a || b) ≡ false → (a ≡ false) × (b ≡ false)
either true b h = cc
either false b h = (refl, h)

-- a segment whose parts don't reach an index has no more parts than that
few-placed : (m p i : ℕ) (ps : List Part) → i ≤ p → reached m p (placed m i ps) ≡ false → i + length ps ≤ p
few-placed m p i [] le h = omega (arith, le)
few-placed m p i (x ∷ ps) le h =
    let both = either (nat_lt m m || (m == m && nat_le p i)) (reached m p (placed m (i + 1) ps)) h in
    let before : i < p = (let e = both.0 in grind (arith, nat_tests, e)) in
    let rest = few-placed m p (i + 1) ps (omega (arith, before)) both.1 in
    omega (arith, rest)

few-open : (m p : ℕ) (gs : List (List Part)) (rest : List Part) → reached (m + length gs) p (laid m 0 gs rest) ≡ false → length rest ≤ p
few-open m p [] rest h =
    let same : m + 0 ≡ m = omega arith in
    let k = few-placed m p 0 rest (omega arith) (ap (λ n. reached n p (placed m 0 rest)) (sym same) ∙ h) in omega (arith, k)
few-open m p (g ∷ gs) rest h =
    let n : m + length (g ∷ gs) ≡ m + 1 + length gs = omega arith in
    let both = either (reached (m + length (g ∷ gs)) p (placed m 0 g)) (reached (m + length (g ∷ gs)) p (laid (m + 1) 0 gs rest))
    (sym (list_any-append (λ x. reaches (m + length (g ∷ gs)) p (place_of x)) (placed m 0 g) (laid (m + 1) 0 gs rest)) ∙ h) in
    few-open (m + 1) p gs rest (ap (λ k. reached k p (laid (m + 1) 0 gs rest)) (sym n) ∙ both.1)

few-taken : {A : Type 0} (n : ℕ) (xs : List A) → length (take n xs) ≤ n
few-taken zero xs = omega arith
few-taken (suc n) [] = omega arith
few-taken (suc n) (x ∷ xs) = omega (arith, few-taken n xs)

at_place : (n m p : ℕ) (g : List Part) (bytes : List (List ℕ)) (more : List (List (List ℕ))) (k : ℕ) → k ≡ m - n → n ≤ m
    → reached m p (placed n 0 g) ≡ false → ((j : ℕ) → suc j ≡ m - n → part_at more j p ≡ None) → part_at (take (length g) bytes ∷ more) k p ≡ None
at_place n m p g bytes more zero e le h next =
    let same : n ≡ m = omega (arith, e, le) in
    let few = few-placed m p 0 g (omega arith) (ap (λ x. reached m p (placed x 0 g)) (sym same) ∙ h) in
    slice_get_past (take (length g) bytes) p (omega (arith, few, few-taken (length g) bytes))
at_place n m p g bytes more (suc k) e le h next = next k e

-- no segment has a part that isn't reached
unreached : (n m p : ℕ) (gs : List (List Part)) (rest : List Part) (bytes : List (List ℕ)) → n ≤ m → parts_in gs + length rest ≡ length bytes
    → reached m p (laid n 0 gs rest) ≡ false → part_at (grouped gs bytes ++ drop (parts_in gs) bytes ∷ []) (m - n) p ≡ None
unreached n m p [] rest bytes le many h = open_part (m - n) refl
  where
    open_part : (k : ℕ) → k ≡ m - n → part_at (bytes ∷ []) k p ≡ None
    open_part zero e =
        let same : n ≡ m = omega (arith, e, le) in
        let few = few-placed m p 0 rest (omega arith) (ap (λ x. reached m p (placed x 0 rest)) (sym same) ∙ h) in
        slice_get_past bytes p (omega (arith, few, many))
    open_part (suc k) e = refl
unreached n m p (g ∷ gs) rest bytes le many h =
    let both = either (reached m p (placed n 0 g)) (reached m p (laid (n + 1) 0 gs rest))
    (sym (list_any-append (λ x. reaches m p (place_of x)) (placed n 0 g) (laid (n + 1) 0 gs rest)) ∙ h) in
    let more = drop (length g) bytes in
    ap (λ l. part_at (take (length g) bytes ∷ (grouped gs more ++ l ∷ [])) (m - n) p) (sym (drop-drop (parts_in gs) (length g) bytes))
    ∙ at_place n m p g bytes (grouped gs more ++ drop (parts_in gs) more ∷ []) (m - n) refl le both.0
    (λ k e. (let at : k ≡ m - (n + 1) = omega (arith, e) in ap (λ j. part_at (grouped gs more ++ drop (parts_in gs) more ∷ []) j p) at)
    ∙ unreached (n + 1) m p gs rest more (omega (arith, e)) (omega (arith, many, length-drop (length g) bytes)) both.1)

-- of a rendition that goes on
abbrev open_all : List Item → List (List (List ℕ))
open_all items = let s = split (parts items) in grouped s.finished (part_bytes items) ++ drop (parts_in s.finished) (part_bytes items) ∷ []

all-open : (items : List Item) → ended items ≡ false → all_bytes items ≡ open_all items
all-open items going =
    ap (λ e. grouped (finished_segments e (split (parts items))) (part_bytes items) ++ drop (parts_in (finished_segments e (split (parts items)))) (part_bytes items) ∷ []) going

laid-missing : (c : Configuration) (items : List Item) (m p : ℕ) → holds_part c items m p ≡ false
    → reached m p (laid c.first 0 (split (parts items)).finished (split (parts items)).unfinished) ≡ false
laid-missing c items m p h = sym (ap (reached m p) (by_places c.first 0 (parts items))) ∙ h

-- a part that isn't held, nor a later one, has no bytes
no-bytes : (c : Configuration) (items : List Item) (m p : ℕ) → ended items ≡ false → holds_part c items m p ≡ false → c.first ≤ m
    → part_at (all_bytes items) (m - c.first) p ≡ None
no-bytes c items m p going h le =
    let s = split (parts items) in
    ap (λ l. part_at l (m - c.first) p) (all-open items going)
    ∙ unreached c.first m p s.finished s.unfinished (part_bytes items) le (all-grouped (parts items) ∙ as-many items) (laid-missing c items m p h)

-- an empty segment has no part
empty-last : (xs : List (List (List ℕ))) (k p : ℕ) → part_at (xs ++ [] ∷ []) k p ≡ part_at xs k p
empty-last [] zero p = refl
empty-last [] (suc k) p = refl
empty-last (x ∷ xs) zero p = refl
empty-last (x ∷ xs) (suc k) p = empty-last xs k p

closed-same : (us : List (List ℕ)) (segments : List (List (List ℕ))) (k p : ℕ) → part_at (closed_with us segments ++ [] ∷ []) k p ≡ part_at (segments ++ us ∷ []) k p
closed-same [] segments k p = refl
closed-same (b ∷ bs) segments k p = empty-last (segments ++ (b ∷ bs) ∷ []) k p

-- a part that isn't held, nor a later one, is never there if the rendition ends before it comes
pub never : (c : Configuration) (items : List Item) (r m p : ℕ) → ended items ≡ false → holds_part c items m p ≡ false
    → media c (items ++ item.End r ∷ []) (what.Part m p) ≡ None
never c items r m p going h =
    none-there c (items ++ item.End r ∷ []) m p
    (λ le. ap₂ (λ segments us. part_at (segments ++ us ∷ []) (m - c.first) p) (end-finished items r going) (end-open items r)
    ∙ closed-same (open_bytes items) (segment_bytes items) (m - c.first) p ∙ no-bytes c items m p going h le)

early-append : {A : Type 0} (xs ys zs : List A) (k : ℕ) → k < length xs → slice_get (xs ++ ys) k ≡ slice_get (xs ++ zs) k
early-append [] ys zs k h = absurd (omega (arith, h))
early-append (x ∷ xs) ys zs zero h = refl
early-append (x ∷ xs) ys zs (suc k) h = early-append xs ys zs k (omega (arith, h))

-- a part that comes changes nothing of the segments before its own
earlier : (items : List Item) (part : PartItem) (k p : ℕ) → ended items ≡ false → k < length (segment_bytes items)
    → part_at (all_bytes (items ++ item.Part part ∷ [])) k p ≡ part_at (all_bytes items) k p
earlier items part k p going few =
    let new = open_bytes (items ++ item.Part part ∷ []) in
    ap (λ segments. part_at (segments ++ new ∷ []) k p) (part-finished items part going)
    ∙ by part.finish new
  where
    by : (f : Bool) (new : List (List ℕ)) → part_at (finished_with f (segment_bytes items) (open_bytes items) part.media ++ new ∷ []) k p ≡ part_at (all_bytes items) k p
    by true new =
        ap (λ l. part_at l k p) (append_assoc (segment_bytes items) ((open_bytes items ++ part.media ∷ []) ∷ []) (new ∷ []))
        ∙ ap (λ o. option_and_then (λ (parts : List (List ℕ)). slice_get parts p) o) (early-append (segment_bytes items) _ _ k few)
    by false new = ap (λ o. option_and_then (λ (parts : List (List ℕ)). slice_get parts p) o) (early-append (segment_bytes items) _ _ k few)

-- the part that comes next has these bytes, and a part before it that isn't held has none
came_by : (c : Configuration) (items : List Item) (part : PartItem) (m p : ℕ) (here : Bool) → 1 ≤ c.window → ended items ≡ false
    → holds_part c items m p ≡ false → reaches m p (record { number = c.first + length (segments items); index = length (open_segment items) }) ≡ true
    → (m == c.first + length (segments items)) ≡ here
    → media c (items ++ item.Part part ∷ []) (what.Part m p)
    ≡ (if m == c.first + length (segments items) && p == length (open_segment items) then Some part.media else None)
came_by c items part m p true low going h comes e =
    let s = split (parts items) in
    let n = c.first + length (segments items) in
    let number : m ≡ n = grind (arith, nat_tests, e) in
    let finished : segments items ≡ s.finished = ap (λ b. finished_segments b s) going in
    let unfinished : open_segment items ≡ s.unfinished = ap (λ b. unfinished_by b s) going in
    let few = few-open c.first p s.finished s.unfinished
    (ap (λ k. reached k p (laid c.first 0 s.finished s.unfinished)) (sym (number ∙ ap (λ gs. c.first + length gs) finished)) ∙ laid-missing c items m p h) in
    let least : length (open_segment items) ≤ p = omega (arith, few, ap length unfinished) in
    let most : p ≤ length (open_segment items) = grind (arith, nat_tests, comes, number) in
    let index : p ≡ length (open_segment items) = omega (arith, least, most) in
    let yes : (m == n && p == length (open_segment items)) ≡ true = grind (arith, nat_tests, number, index) in
    ap₂ (λ x y. media c (items ++ item.Part part ∷ []) (what.Part x y)) number index
    ∙ next-came c items part low going ∙ ap (λ t. if t then Some part.media else None) (sym yes)
came_by c items part m p false low going h comes e =
    let n = c.first + length (segments items) in
    let less : m < n = grind (arith, nat_tests, comes, e) in
    let other : (m == n && p == length (open_segment items)) ≡ false = ap (λ t. t && p == length (open_segment items)) e in
    none-there c (items ++ item.Part part ∷ []) m p
    (λ le. earlier items part (m - c.first) p going (omega (arith, le, less, segments-many items)) ∙ no-bytes c items m p going h le)
    ∙ ap (λ t. if t then Some part.media else None) (sym other)

pub came : (c : Configuration) (items : List Item) (part : PartItem) (m p : ℕ) → 1 ≤ c.window → ended items ≡ false
    → holds_part c items m p ≡ false → reaches m p (record { number = c.first + length (segments items); index = length (open_segment items) }) ≡ true
    → media c (items ++ item.Part part ∷ []) (what.Part m p)
    ≡ (if m == c.first + length (segments items) && p == length (open_segment items) then Some part.media else None)
came c items part m p low going h comes = came_by c items part m p (m == c.first + length (segments items)) low going h comes refl
