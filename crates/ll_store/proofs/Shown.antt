-- How many segments the window shows, and which section is in force at the first of them, with one more item.
use Rattle.std.proofs.Common.{◌≡◌, ℕ, suc, ◌+◌, ◌*◌, ◌≤◌, Bool, true, false, List, [], ◌∷◌, ◌++◌, refl, ap, sym, subst, length, length-append, arith}
use Rattle.ll_settings.specs.Settings.{Configuration}
use Rattle.ll_item.specs.declared.item.Item.{Item}
use Rattle.ll_item.specs.declared.item.Item.TheVariants as item
use Rattle.ll_item.specs.Told.{finished_last, kept_part}
use Rattle.ll_item.specs.declared.part.Part.{Part}
use Rattle.ll_window.proofs.StepLemmas.{compact-snoc}
use Rattle.ll_window.proofs.SuffixLemmas.{suffix}
use Rattle.ll_window.proofs.WindowLemmas.{length_listed}
use Rattle.ll_window.specs.Compact.{Compact, all_rows, compact}
use Rattle.ll_window.specs.Rows.{Row, begun, is_broken, one_if, row, rows}
use Rattle.ll_window.specs.Segments.{duration, ended, open_segment, segments}
use Rattle.ll_window.specs.Step.{after_segment, ended_by, finished_by, grown_by, joined, relisted, window_and_open, with_item, with_open, with_part_by}
use Rattle.ll_window.specs.Window.{gone, near_limit, window, window_limit}

-- ---- how many

no_more : (least : ℕ) (rs : List Row) → length (window least rs) ≤ length rs
no_more least rs = let whole = ap length (suffix least rs) in omega (arith, whole, length-append (gone least rs) (window least rs))

-- how many segments an item finishes
abbrev pub one_of : Bool → ℕ
one_of true = 1
one_of false = 0

abbrev pub one_from : List Part → ℕ
one_from [] = 0
one_from (p ∷ ps) = 1

abbrev pub finishes : Compact → Item → ℕ
finishes k (item.Part part) = one_of part.finish
finishes k (item.Finish rendition) = one_from k.open_parts
finishes k (item.End rendition) = one_from k.open_parts
finishes k (item.Init rendition media) = 0
finishes k (item.Break rendition time) = 0
finishes k (item.Range rendition id attributes) = 0
finishes k (item.Unrange rendition id) = 0

relisted-many : (k : Compact) → length (relisted k).window ≡ length k.window
relisted-many k = length_listed (near_limit k.settings) (duration k.open_parts) k.window

after-many : (k : Compact) → length (after_segment k).window ≤ length k.window + 1
after-many k =
    let rs = window_and_open k in
    omega (arith, relisted-many (joined k), no_more (window_limit k.settings) rs, length-append k.window (row k.next_number k.maps k.open_time k.open_parts ∷ []))

by_finish : (f : Bool) (k : Compact) (p : Part) → length (with_part_by f k p).window ≤ length k.window + one_of f
by_finish true k p =
    let open_many = relisted-many (grown_by k p) in
    omega (arith, open_many, after-many (with_open k p))
by_finish false k p = let open_many = relisted-many (grown_by k p) in omega (arith, open_many)

by_end : (ps : List Part) (k : Compact) → length (ended_by ps k).window ≤ length k.window + one_from ps
by_end [] k = omega arith
by_end (p ∷ ps) k = after-many (record k { ended = true })

by_last : (ps : List Part) (k : Compact) → length (finished_by ps k).window ≤ length k.window + one_from ps
by_last [] k = omega arith
by_last (p ∷ ps) k = after-many (record k { open_parts = finished_last (p ∷ ps) })

few-more : (k : Compact) (i : Item) → length (with_item k i).window ≤ length k.window + finishes k i
few-more k (item.Part part) = by_finish part.finish k (kept_part k.pending k.restart part)
few-more k (item.Finish r) = by_last k.open_parts k
few-more k (item.End r) = by_end k.open_parts k
few-more k (item.Init r media) = omega arith
few-more k (item.Break r time) = omega arith
few-more k (item.Range r id attributes) = omega arith
few-more k (item.Unrange r id) = omega arith

-- the window shows at most one more for each segment that an item finishes
pub shown-few : (c : Configuration) (items : List Item) (i : Item) → ended items ≡ false
    → length (compact c (items ++ i ∷ [])).window ≤ length (compact c items).window + finishes (compact c items) i
shown-few c items i going =
    subst (λ (k : Compact). length k.window ≤ length (compact c items).window + finishes (compact c items) i) (sym (compact-snoc c items i going)) (few-more (compact c items) i)

pub length-rows : (n m t : ℕ) (gs : List (List Part)) → length (rows n m t gs) ≡ length gs
length-rows n m t [] = refl
length-rows n m t (g ∷ gs) = ap suc (length-rows (n + 1) (m + one_if (is_broken g)) (begun t g + duration g) gs)

-- it shows no more than there are
pub shown-within : (c : Configuration) (items : List Item) → length (compact c items).window ≤ length (segments items)
shown-within c items =
    let rs = all_rows c items in
    omega (arith, length_listed (near_limit c) (duration (open_segment items)) (window (window_limit c) rs), no_more (window_limit c) rs, length-rows c.first 0 (c.start * 1000) (segments items))
