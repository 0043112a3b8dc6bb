-- A delta update, applied to an earlier full playlist, is the later full playlist.
use Rattle.std.proofs.Common.{◌≡◌, ℕ, zero, suc, ◌+◌, ◌-◌, ◌*◌, ◌≤◌, List, [], ◌++◌, true, false, map, take, drop, length, ◌==◌, None, Ok, refl, ap, sym, ap₂, ◌∙◌, arith}
use Rattle.std.proofs.lemmas.List.Elements.{filter-append}
use Rattle.ll_item.specs.Items.{rendition_of}
use Rattle.ll_settings.specs.Settings.{Configuration, skip_limit}
use Rattle.ll_item.specs.declared.item.Item.{Item}
use Rattle.ll_item.specs.Told.{end_time, told}
use Rattle.ll_window.specs.Compact.{compact, all_rows, skip_count}
use Rattle.ll_window.specs.Rows.{Row, rows}
use Rattle.ll_window.specs.Segments.{own, segments, open_segment, duration}
use Rattle.ll_window.specs.Window.{window_limit, near_limit, window, listed, skipped_in}
use Rattle.ll_line.specs.Playlist.{Playlist}
use Rattle.ll_pieces.specs.Segments.{printed}
use Rattle.ll_page.specs.Full.{full_playlist, range_line, range_lines, sequence_of}
use Rattle.ll_page.specs.Delta.{ids_removed, ranges_left, update_of, delta_by}
use Rattle.ll_pieces.specs.View.{Seen, seen, asked}
use Rattle.ll_item.specs.declared.skip_kind.SkipKind.{SkipKind}
use Rattle.ll_item.specs.declared.skip_kind.SkipKind.TheVariants.{Yes, V2}
use Rattle.ll_rendition.specs.Kept.{kept}
use Rattle.ll_apply.specs.Applied as spec
use Rattle.ll_apply.specs.Applied.{applied, missing, mapped, in_force, without_parts, ranges_by, unless_missing, updated}
use Rattle.ll_laws.specs.Laws.{CompanionLaw}
use Rattle.ll_laws.specs.Published.{AreAccepted, AreAcceptedFor}
use Rattle.ll_laws.proofs.AnnouncedLemmas.{told-own}
use Rattle.ll_laws.proofs.ItemLemmas.{IsLater, in-order, is-later}
use Rattle.ll_laws.proofs.MapLemmas.{AreCounted, counted-rows}
use Rattle.ll_apply.proofs.MissingLemmas.{missing-none}
use Rattle.ll_laws.proofs.PlaylistLemmas.{rows-append, left_of, sequence-is, length-is, asked-is}
use Rattle.ll_window.proofs.SkipLemmas.{skipped-listed}
use Rattle.ll_laws.proofs.RangesProof.{ranges-law}
use Rattle.ll_laws.proofs.RowLemmas.{left, left-append}
use Rattle.ll_laws.proofs.SegmentLemmas.{within, segments-law}

-- the laws on segments, where all of them have a name

segments_at : (near limit least a b maps k : ℕ) (rs ss all : List Row) → all ≡ rs ++ ss → near ≤ limit → AreCounted maps rs → AreCounted maps all
    → skipped_in limit b ss ≡ 0 → skipped_in limit b (window least all) ≡ suc k
    → mapped (in_force None (map without_parts (take (suc k) (drop (left least all - left least rs) (in_force None (printed true (listed near a (window least rs))))))
    ++ printed false (drop (suc k) (listed near b (window least all)))))
    ≡ printed true (listed near b (window least all))
segments_at near limit least a b maps k rs ss all e low before after none some =
    rw e (segments-law near limit least a b maps k rs ss low before (rw e at after) none (rw e at some))

within_at : (limit least b k : ℕ) (rs ss all : List Row) → all ≡ rs ++ ss → skipped_in limit b ss ≡ 0 → skipped_in limit b (window least all) ≡ suc k
    → (left least rs ≤ left least all) × (left least all + suc k ≤ length rs)
within_at limit least b k rs ss all e none some =
    rw e (left-append least rs ss, within limit least b k rs ss none (rw e at some))

-- where no skipped number is missing and the segments and date ranges are right, so is the playlist
update-law : (kind : SkipKind) (v : Seen) (base : Playlist) (n : ℕ) → missing base (full_playlist v).sequence (suc n) ≡ None
    → mapped (in_force None (spec.kept_segments base (full_playlist v).sequence (suc n) ++ printed false (drop (suc n) (asked v).window.window)))
    ≡ (full_playlist v).segments
    → ranges_by (ids_removed kind (asked v)) base.ranges (map range_line (ranges_left kind (asked v))) ≡ (full_playlist v).ranges
    → applied base (update_of kind v (suc n)) ≡ Ok (full_playlist v)
update-law kind v base n none same ranges =
    ap (λ o. unless_missing o (updated base (update_of kind v (suc n)) (record { count = suc n; removed = ids_removed kind (asked v) }))) none
    ∙ ap₂ (λ rs ss. Ok (record (full_playlist v) { ranges = rs; segments = ss })) ranges same

-- the date ranges, for each kind of update
ranges_of_kind : (kind : SkipKind) (c : Configuration) (r : ℕ) (items more : List Item) → AreAcceptedFor kind c (items ++ more)
    → end_time (own r (items ++ more)) ≤ end_time (own r items) + skip_limit c
    → ranges_by (ids_removed kind (kept c (own r (items ++ more)))) (map range_line (told (own r items)).listed)
    (map range_line (ranges_left kind (kept c (own r (items ++ more)))))
    ≡ map range_line (told (own r (items ++ more))).listed
ranges_of_kind Yes c r items more accepted le = refl
ranges_of_kind V2 c r items more accepted le =
    let e = filter-append (λ i. rendition_of i == r) items more in
    rw e (ranges-law c (own r items) (own r more) (rw e at (told-own c r [] (items ++ more) accepted.1)) (rw e at le))

accepted_of : (kind : SkipKind) (c : Configuration) (items : List Item) → AreAcceptedFor kind c items → AreAccepted c [] items
accepted_of Yes c items h = h
accepted_of V2 c items h = h.0

gap : (first v w : ℕ) → first + w - (first + v) ≡ w - v
gap first v w = omega arith

law_by : (kind : SkipKind) (c : Configuration) (xs zs : List Item) (v : Seen) (base : Playlist) (n : ℕ) → near_limit c ≤ skip_limit c
    → IsLater (skip_limit c) xs zs
    → skip_count (compact c zs) ≡ n → base.sequence ≡ c.first + left_of c xs → base.segments ≡ printed true (compact c xs).window → asked v ≡ kept c zs
    → ranges_by (ids_removed kind (asked v)) base.ranges (map range_line (ranges_left kind (asked v))) ≡ (full_playlist v).ranges
    → applied base (delta_by kind n v) ≡ Ok (full_playlist v)
law_by kind c xs zs v base zero low later some begins has is ranges = refl
law_by kind c xs zs v base (suc k) low later some begins has is ranges =
    let a = duration (open_segment xs) in
    let b = duration (open_segment zs) in
    let earlier = all_rows c xs in
    let all = all_rows c zs in
    let more = rows-append c.first 0 (c.start * 1000) (segments xs) later.more in
    let whole = ap (rows c.first 0 (c.start * 1000)) later.longer ∙ more.whole in
    let none = later.none more.number more.maps more.time in
    let some' = sym (skipped-listed (skip_limit c) b (near_limit c) b (window (window_limit c) all)) ∙ some in
    let ss = rows more.number more.maps more.time later.more in
    let i = within_at (skip_limit c) (window_limit c) b k earlier ss all whole none some' in
    let i0 = i.0 in
    let i1 = i.1 in
    let l = ap length has ∙ length-is c xs in
    let goes = ap (λ k. sequence_of k.window k.window.window) is ∙ sequence-is c zs in
    update-law kind v base k
    (missing-none base (full_playlist v).sequence (suc k) (omega (arith, begins, goes, i0)) (omega (arith, l, begins, goes, i0, i1)))
    (ap (λ j. mapped (in_force None (map without_parts (take (suc k) (drop j (in_force None base.segments))) ++ printed false (drop (suc k) (asked v).window.window))))
    (ap (λ m. m - base.sequence) goes ∙ ap (λ m. c.first + left_of c zs - m) begins ∙ gap c.first (left_of c xs) (left_of c zs))
    ∙ ap (λ ts. mapped (in_force None (map without_parts (take (suc k) (drop (left_of c zs - left_of c xs) (in_force None ts))) ++ printed false (drop (suc k) (asked v).window.window)))) has
    ∙ ap (λ k'. mapped (in_force None (map without_parts (take (suc k) (drop (left_of c zs - left_of c xs) (in_force None (printed true (compact c xs).window)))) ++ printed false (drop (suc k) k'.window.window)))) is
    ∙ segments_at (near_limit c) (skip_limit c) (window_limit c) a b 0 k earlier ss all whole low
    (counted-rows c.first 0 (c.start * 1000) (segments xs)) (counted-rows c.first 0 (c.start * 1000) (segments zs)) none some'
    ∙ ap (λ k'. printed true k'.window.window) (sym is))
    ranges

pub companion : CompanionLaw
companion c items more r kind is_one six accepted le =
    let e = filter-append (λ i. rendition_of i == r) items more in
    let xs = own r items in
    let ys = own r more in
    let zs = own r (items ++ more) in
    let u = seen c items r in
    let v = seen c (items ++ more) r in
    let later = is-later c (skip_limit c) xs ys (in-order c r items more (accepted_of kind c (items ++ more) accepted)) (rw e at le) in
    let before = asked-is c items r is_one in
    let after = asked-is c (items ++ more) r is_one in
    law_by kind c xs zs v (full_playlist u) (skip_count (asked v).window) (omega arith) (rw e later)
    (ap (λ k. skip_count k.window) (sym after))
    (ap (λ k. sequence_of k.window k.window.window) before ∙ sequence-is c xs)
    (ap (λ k. printed true k.window.window) before) after
    (ap₂ (λ k j. ranges_by (ids_removed kind k) (range_lines j.ranges) (map range_line (ranges_left kind k))) after before
    ∙ ranges_of_kind kind c r items more accepted le
    ∙ ap (λ k. range_lines k.ranges) (sym after))
