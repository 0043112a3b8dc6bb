-- The last segment of a window is never skipped: the open parts after it last less than the limit.
use Rattle.std.proofs.Common.{◌≡◌, ℕ, zero, suc, ◌+◌, ◌*◌, ◌/◌, ◌≤◌, ◌<◌, List, [], ◌∷◌, ◌++◌, Bool, true, false, nat_lt, drop, length, append-nil, append_assoc, Option, Some, None, refl, ap, arith}
use Rattle.std.proofs.lemmas.Bool.Decides.{nat_tests}
use Rattle.std.proofs.lemmas.List.{length-drop}
use Rattle.ll_settings.specs.Settings.{Configuration, skip_limit}
use Rattle.ll_item.specs.declared.item.Item.{Item}
use Rattle.ll_item.specs.declared.item.Item.TheVariants as item
use Rattle.ll_item.specs.declared.part.Part.{Part}
use Rattle.ll_window.specs.declared.fault.WindowFault.{WindowFault}
use Rattle.ll_window.specs.Compact.{Compact, next_start, compact, skip_count}
use Rattle.ll_window.specs.Refusal.{part_refusal, refusal, refusal_by, refusal_before_end}
use Rattle.ll_window.specs.Rows.{Row, lasting}
use Rattle.ll_window.specs.Segments.{own, segments, open_segment, duration, ended}
use Rattle.ll_window.specs.Step.{with_part_by, with_item, ended_by, finished_by}
use Rattle.ll_window.specs.Window.{skipped_in}
use Rattle.ll_window.proofs.SkipLemmas.{skipped-none}
use Rattle.ll_window.proofs.StepLemmas.{compact-snoc, duration-snoc}
use Rattle.ll_line.specs.Playlist.{Skip}
use Rattle.ll_page.specs.Delta.{delta_by}
use Rattle.ll_pieces.specs.View.{Seen, seen, asked}
use Rattle.ll_item.specs.declared.skip_kind.SkipKind.{SkipKind}
use Rattle.ll_laws.specs.Laws.{OwnSegmentLaw}
use Rattle.ll_laws.specs.Published.{AreAccepted}
use Rattle.ll_laws.proofs.ItemLemmas.{AreInOrder, in-order}
use Rattle.ll_laws.proofs.PlaylistLemmas.{length-printed, asked-is}
use Rattle.ll_laws.proofs.RowLemmas.{one_at_most}

part_limit : (c : Configuration) (n lasts ends micros : ℕ) → part_refusal c n lasts ends micros ≡ None → (lasts + micros + 500000) / 1000000 ≤ c.target
part_limit c n lasts ends micros e = grind (arith, nat_tests, e)

short : (limit target skip d : ℕ) → 1 ≤ target → 6 * target ≤ skip → limit ≡ skip * 1000000 → (d + 500000) / 1000000 ≤ target → d ≤ limit
short limit target skip d one six e le = omega (arith, e, le)

pub unended : (b : Bool) (o : Option WindowFault) → refusal_by b o ≡ None → (b ≡ false) × (o ≡ None)
unended true o e = absurd (grind (arith, e))
unended false o e = (refl, e)

part_step : (b : Bool) (k : Compact) (p : Part) (limit : ℕ) → duration k.open_parts + p.duration ≤ limit → duration (with_part_by b k p).open_parts ≤ limit
part_step true k p limit le = omega arith
part_step false k p limit le = let e = duration-snoc k.open_parts p in omega (arith, e)

end_step : (ps : List Part) (k : Compact) (limit : ℕ) → duration k.open_parts ≤ limit → duration (ended_by ps k).open_parts ≤ limit
end_step [] k limit le = le
end_step (p ∷ ps) k limit le = omega arith

finish_step : (ps : List Part) (k : Compact) (limit : ℕ) → duration k.open_parts ≤ limit → duration (finished_by ps k).open_parts ≤ limit
finish_step [] k limit le = le
finish_step (p ∷ ps) k limit le = omega arith

item_step : (c : Configuration) (before : List Item) (i : Item) → 1 ≤ c.target → 6 * c.target ≤ c.skip → refusal_before_end c before i ≡ None
    → duration (open_segment before) ≤ skip_limit c → duration (with_item (compact c before) i).open_parts ≤ skip_limit c
item_step c before (item.Part p) one six none le =
    let low = part_limit c (c.first + length (segments before)) (duration (open_segment before)) (next_start (compact c before)) p.duration none in
    part_step p.finish (compact c before) _ (skip_limit c) (short (skip_limit c) c.target c.skip (duration (open_segment before) + p.duration) one six refl low)
item_step c before (item.Finish r) one six none le = finish_step (open_segment before) (compact c before) (skip_limit c) le
item_step c before (item.Break r time) one six none le = le
item_step c before (item.Init r media) one six none le = le
item_step c before (item.End r) one six none le = end_step (open_segment before) (compact c before) (skip_limit c) le
item_step c before (item.Range r id attributes) one six none le = le
item_step c before (item.Unrange r id) one six none le = le

step : (c : Configuration) (before : List Item) (i : Item) → 1 ≤ c.target → 6 * c.target ≤ c.skip → refusal c before i ≡ None
    → duration (open_segment before) ≤ skip_limit c → duration (open_segment (before ++ i ∷ [])) ≤ skip_limit c
step c before i one six none le =
    let u = unended (ended before) (refusal_before_end c before i) none in
    let s = item_step c before i one six u.1 le in
    let e = ap (λ k. duration k.open_parts) (compact-snoc c before i u.0) in
    omega (arith, e, s)

-- parts of an open segment last no longer than the limit
bounded : (c : Configuration) (before items : List Item) → 1 ≤ c.target → 6 * c.target ≤ c.skip → AreInOrder c before items
    → duration (open_segment before) ≤ skip_limit c → duration (open_segment (before ++ items)) ≤ skip_limit c
bounded c before [] one six h le = rw (append-nil before) le
bounded c before (i ∷ items) one six h le =
    rw (append_assoc before (i ∷ []) items) at (bounded c (before ++ i ∷ []) items one six h.1 (step c before i one six h.0 le))

few : (limit tail : ℕ) (r : Row) (rs : List Row) → tail ≤ limit → skipped_in limit tail (r ∷ rs) ≤ length rs
few limit tail r [] le = let a = skipped-none limit tail r [] (omega arith) in omega (arith, a)
few limit tail r (s ∷ rs) le =
    let a = one_at_most (nat_lt limit (lasting (s ∷ rs) + tail)) in let b = few limit tail s rs le in omega (arith, a, b)

fewer : (limit tail : ℕ) (rs : List Row) → tail ≤ limit → 1 ≤ skipped_in limit tail rs → skipped_in limit tail rs < length rs
fewer limit tail [] le some = absurd (omega arith)
fewer limit tail (r ∷ rs) le some = let a = few limit tail r rs le in omega (arith, a)

own_by : (kind : SkipKind) (n : ℕ) (v : Seen) (skip : Skip) → (delta_by kind n v).skipped ≡ Some skip
    → (1 ≤ n → n < length (asked v).window.window) → 1 ≤ length (delta_by kind n v).segments
own_by kind zero v skip e h = absurd (grind (arith, e))
own_by kind (suc n) v skip e h =
    let low = h (omega arith) in
    let a = length-printed false (drop (suc n) (asked v).window.window) in
    let b = length-drop (suc n) (asked v).window.window in
    omega (arith, low, a, b)

-- segments stay in the window that a delta update doesn't skip
pub some-left : (c : Configuration) (items : List Item) (r : ℕ) → 1 ≤ c.target → 6 * c.target ≤ c.skip → AreAccepted c [] items
    → 1 ≤ skip_count (compact c (own r items)) → skip_count (compact c (own r items)) < length (compact c (own r items)).window
some-left c items r one six accepted some =
    let le = bounded c [] (own r items) one six (in-order c r [] items accepted) (omega arith) in
    fewer (skip_limit c) (duration (open_segment (own r items))) (compact c (own r items)).window le some

pub own-segment : OwnSegmentLaw
own-segment c items r kind skip is_one one six accepted e =
    let v = seen c items r in
    let is = asked-is c items r is_one in
    own_by kind (skip_count (asked v).window) v skip e (rw is (some-left c items r one six accepted))
