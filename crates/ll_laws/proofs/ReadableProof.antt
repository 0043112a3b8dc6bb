-- Playlists and delta updates of what was published are readable, also a delta update that skips date ranges.
use Rattle.std.proofs.Common.{◌≡◌, ℕ, zero, suc, ◌≤◌, ◌<◌, ◌==◌, List, [], true, false, not, length, drop, filter, refl, ap, sym, subst, ◌∙◌, arith}
use Rattle.std.proofs.lemmas.Bool.Decides.{nat_tests}
use Rattle.std.proofs.lemmas.List.{length-drop}
use Rattle.ll_line.specs.Formats.{largest_number}
use Rattle.ll_line.specs.Line.{Report}
use Rattle.ll_settings.specs.Settings.{Configuration, IsWithin, skip_limit}
use Rattle.ll_item.specs.declared.item.Item.{Item}
use Rattle.ll_window.specs.Compact.{compact, skip_count}
use Rattle.ll_window.specs.Rows.{Row}
use Rattle.ll_item.specs.Told.{end_time, Removal, told}
use Rattle.ll_window.specs.Segments.{own}
use Rattle.ll_range.specs.Announced.{announced, is_recent, skipped_at}
use Rattle.ll_rendition.specs.declared.rendition.Rendition.{Rendition}
use Rattle.ll_page.specs.Delta.{ranges_left, ids_removed, skip_of, delta_by}
use Rattle.ll_pieces.specs.Segments.{printed}
use Rattle.ll_page.specs.Full.{reports_of, playlist_of}
use Rattle.ll_line.specs.Playlist.{Playlist}
use Rattle.ll_line.specs.Spelling.{skip_lines}
use Rattle.ll_pieces.specs.View.{Seen, seen, asked}
use Rattle.ll_item.specs.declared.skip_kind.SkipKind.{SkipKind}
use Rattle.ll_item.specs.declared.skip_kind.SkipKind.TheVariants.{Yes, V2}
use Rattle.ll_rendition.specs.Kept.{kept}
use Rattle.ll_read.specs.Readable.{Each, IsReadable}
use Rattle.ll_read.specs.Reading.{is_empty}
use Rattle.ll_laws.specs.Published.{ArePublished}
use Rattle.ll_laws.specs.Laws.{ReadableLaw}
use Rattle.ll_laws.proofs.ApartLemmas.{are_apart, apart-drop}
use Rattle.ll_laws.proofs.EachLemmas.{each-map, each-drop, each-filter}
use Rattle.ll_laws.proofs.LineLemmas.{IsSound, sound-skip}
use Rattle.ll_laws.proofs.OwnSegmentProof.{some-left}
use Rattle.ll_laws.proofs.PageLemmas.{empty-printed}
use Rattle.ll_laws.proofs.PlaylistLemmas.{asked-is}
use Rattle.ll_laws.proofs.RangeItems.{IsListable, IsTellable, AreListable, accepted, listable}
use Rattle.ll_laws.proofs.SkipLines.{sound-removed}
use Rattle.ll_laws.proofs.ShortLemmas.{few-window}
use Rattle.ll_laws.proofs.ReadablePage.{reports_at, page_at, bounded-own, readable-page, apart-own, readable-full}

some_window : (n m : ℕ) → n < m → (m == 0) ≡ false
some_window n m lt = grind (arith, nat_tests)

some_segment : (n : ℕ) (rs : List Row) → n < length rs → is_empty (printed false (drop n rs)) ≡ false
some_segment n rs lt =
    let e = length-drop n rs in
    empty-printed false (drop n rs) ∙ some_window 0 (length (drop n rs)) (omega (arith, e))

-- the date ranges and the removals that a delta update lists

listable_left : (kind : SkipKind) (c : Configuration) (xs : List Item) → AreListable (told xs) → Each IsListable (ranges_left kind (kept c xs))
listable_left Yes c xs h = h.each
listable_left V2 c xs h = each-drop IsListable (skipped_at (end_time xs) (announced c xs)) (told xs).listed h.each

apart_left : (kind : SkipKind) (c : Configuration) (xs : List Item) → are_apart (told xs).listed ≡ true → are_apart (ranges_left kind (kept c xs)) ≡ true
apart_left Yes c xs h = h
apart_left V2 c xs h = apart-drop (skipped_at (end_time xs) (announced c xs)) (told xs).listed h

skip_sound : (kind : SkipKind) (c : Configuration) (xs : List Item) (n : ℕ) → AreListable (told xs) → suc n ≤ largest_number
    → Each IsSound (skip_lines (skip_of (ids_removed kind (kept c xs)) (suc n)))
skip_sound Yes c xs n h few = (sound-skip (suc n) few, tt)
skip_sound V2 c xs n h few =
    let keep = is_recent (skip_limit c) (end_time xs) in
    let P : Removal → Type 0 = λ r. IsTellable r.id in
    let recent = each-filter P keep (filter keep (told xs).removals) (each-filter P keep (told xs).removals h.removed) in
    (sound-removed (suc n) _ few (each-map P IsTellable (λ (r : Removal). r.id) (λ r k. k) (filter keep (filter keep (told xs).removals)) recent), tt)

-- a rendition's delta update
abbrev delta_at : SkipKind → ℕ → Configuration → List Report → Rendition → Playlist
delta_at kind zero c reports k = playlist_of c reports k
delta_at kind (suc n) c reports k = page_at (ranges_left kind k) (skip_of (ids_removed kind k) (suc n)) (suc n) c reports k

same_delta : (kind : SkipKind) (n : ℕ) (v : Seen) → delta_by kind n v ≡ delta_at kind n v.settings (reports_of v) (asked v)
same_delta kind zero v = refl
same_delta kind (suc n) v = refl

delta_readable : (kind : SkipKind) (c : Configuration) (items : List Item) (r n : ℕ) → IsWithin c → ArePublished c [] items
    → skip_count (compact c (own r items)) ≡ n → IsReadable (delta_at kind n c (reports_at c items r) (kept c (own r items)))
delta_readable kind c items r zero within published skips = readable-full c items r within published
delta_readable kind c items r (suc n) within published skips =
    let xs = own r items in
    let window = (compact c xs).window in
    let left = some-left c items r within.target_low within.skip_low (accepted c [] items published) (omega (arith, skips)) in
    let some : suc n < length window = omega (arith, left, skips) in
    let all = few-window c xs in
    let numbers = (bounded-own c items r within published).numbers in
    let told = listable c items r published in
    readable-page c items r (ranges_left kind (kept c xs)) (skip_of (ids_removed kind (kept c xs)) (suc n)) (suc n) within published
    (listable_left kind c xs told) (apart_left kind c xs (apart-own c items r published))
    (skip_sound kind c xs n told (omega (arith, some, all, numbers))) (omega arith)
    (ap not (some_segment (suc n) window some)) (sym (some_window (suc n) (length window) some))

pub readable : ReadableLaw
readable c items r kind within is_one published =
    let v = seen c items r in
    let is = asked-is c items r is_one in (
      subst (λ k. IsReadable (playlist_of c (reports_at c items r) k)) (sym is) (readable-full c items r within published),
      subst IsReadable (sym (same_delta kind (skip_count (asked v).window) v))
          (subst (λ k. IsReadable (delta_at kind (skip_count k.window) c (reports_at c items r) k)) (sym is)
          (delta_readable kind c items r (skip_count (compact c (own r items))) within published refl)),
    )
