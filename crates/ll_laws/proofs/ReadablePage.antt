-- A playlist with some segments of published items is readable: all lines are sound, and they are where they are allowed.
use Rattle.std.proofs.Common.{◌≡◌, ℕ, ◌*◌, ◌≤◌, ◌<◌, ◌==◌, List, [], ◌∷◌, true, is_none, Option, None, length, drop, map, refl, sym, subst, arith}
use Rattle.std.proofs.lemmas.Str.{is_utf8-from_IsUtf8}
use Rattle.std.specs.Prelude.{flat_map}
use Rattle.ll_format.specs.Format.{Where}
use Rattle.ll_format.specs.Words.{duration_end}
use Rattle.ll_line.specs.Formats.{largest_number, line}
use Rattle.ll_line.specs.Line.{Skip, Report, First, Version, TargetDuration, PartTarget, MediaSequence, DiscontinuitySequence, DateRange, RenditionReport}
use Rattle.ll_settings.specs.Settings.{Configuration, IsWithin, skip_limit}
use Rattle.ll_item.specs.declared.item.Item.{Item}
use Rattle.ll_window.specs.Compact.{compact, unfinished}
use Rattle.ll_item.specs.Told.{end_time, Listed, told}
use Rattle.ll_window.specs.Segments.{own}
use Rattle.ll_rendition.specs.declared.rendition.Rendition.{Rendition}
use Rattle.ll_pieces.specs.Segments.{printed, open_of}
use Rattle.ll_page.specs.Full.{sequence_of, hint_of, range_line, reports_from, playlist_of}
use Rattle.ll_line.specs.Playlist.{Playlist}
use Rattle.ll_line.specs.Spelling.{skip_lines, segment_lines, open_lines, last_line, lines_of, spelling}
use Rattle.ll_pieces.specs.View.{renditions}
use Rattle.ll_rendition.specs.Kept.{kept}
use Rattle.ll_read.specs.Readable.{Each, IsReadable, IsReadableOpen, leads, may_end}
use Rattle.ll_laws.specs.Published.{ArePublished}
use Rattle.ll_laws.proofs.AnnouncedLemmas.{told-own, is-free}
use Rattle.ll_laws.proofs.ApartLemmas.{are_apart}
use Rattle.ll_laws.proofs.BoundLemmas.{IsBounded, bounded}
use Rattle.ll_laws.proofs.EachLemmas.{each-with, each-map, each-append, each-drop}
use Rattle.ll_laws.proofs.ItemLemmas.{in-order}
use Rattle.ll_laws.proofs.LineLemmas.{IsSound, sound, number, lasting, utf8-lines, sound-control}
use Rattle.ll_laws.proofs.PageLemmas.{sound-segments, sound-open, maps-stand, readable-open, empty-printed, sound-reports, sound-last}
use Rattle.ll_laws.proofs.PlaylistLemmas.{sequence-is}
use Rattle.ll_laws.proofs.RangeItems.{IsListable, accepted, all-announced, listable, sound-ranges, distinct-ranges}
use Rattle.ll_laws.proofs.ShortLemmas.{IsShort, short-window, short-open, few-left, few-breaks}

pub bounded-own : (c : Configuration) (items : List Item) (r : ℕ) → IsWithin c → ArePublished c [] items → IsBounded (compact c (own r items))
bounded-own c items r within published = bounded c (own r items) within (in-order c r [] items (accepted c [] items published))

sequence_low : (c : Configuration) (xs : List Item) → IsBounded (compact c xs) → sequence_of (compact c xs) (compact c xs).window ≤ largest_number
sequence_low c xs b = let e = sequence-is c xs in let l = few-left c xs in let n = b.numbers in omega (arith, e, l, n)

breaks_low : (c : Configuration) (xs : List Item) → IsBounded (compact c xs) → (compact c xs).discontinuity ≤ largest_number
breaks_low c xs b = let l = few-breaks c xs in let n = b.numbers in omega (arith, l, n)

times_low : (c : Configuration) (xs : List Item) → IsBounded (compact c xs) → end_time xs < duration_end
times_low c xs b = omega (arith, b.ends, b.forward, b.times)

-- the reports in a rendition's playlist
abbrev pub reports_at : Configuration → List Item → ℕ → List Report
reports_at c items r = reports_from r 0 c.renditions (renditions c items)

-- a rendition's playlist with these date ranges, without the first `n` segments, for which `skipped` stands
abbrev pub page_at : List Listed → Option Skip → ℕ → Configuration → List Report → Rendition → Playlist
page_at ranges skipped n c reports k = record (playlist_of c reports k) {
  ranges = map range_line ranges;
  skipped = skipped;
  segments = printed (is_none skipped) (drop n k.window.window);
}

sound_page : (c : Configuration) (items : List Item) (r : ℕ) (ranges : List Listed) (skipped : Option Skip) (n : ℕ) → IsWithin c → ArePublished c [] items
    → Each IsListable ranges → Each IsSound (skip_lines skipped)
    → Each IsSound (lines_of (page_at ranges skipped n c (reports_at c items r) (kept c (own r items))))
sound_page c items r ranges skipped n within published sound_lines skips =
    let xs = own r items in
    let k = compact c xs in
    let b = bounded-own c items r within published in
    let low = sequence_low c xs b in
    let few = breaks_low c xs b in
    let held : 3 * c.part_target < duration_end = omega (arith, within.target_high, within.part_target_high) in
    let skip : skip_limit c < duration_end = omega (arith, within.window_low, within.window_high) in
    let version = sound (Version 10) (omega arith) (number 10) in
    let part_target = sound (PartTarget c.part_target) (omega (arith, held)) (lasting c.part_target (omega (arith, held))) in
    let target = sound (TargetDuration c.target) (omega (arith, within.target_high)) (number c.target) in
    let leading = is_none skipped in
    let after =
    each-append IsSound (map DateRange (map range_line ranges)) _ (sound-ranges ranges sound_lines)
    (each-append IsSound (skip_lines skipped) _ skips
    (each-append IsSound (flat_map segment_lines (printed leading (drop n k.window))) _
    (sound-segments (end_time xs) leading (drop n k.window) (each-drop (IsShort (end_time xs)) n k.window (short-window c xs)) (times_low c xs b))
    (each-append IsSound (open_lines (open_of (length k.window == 0) (unfinished k))) _
    (sound-open (end_time xs) (length k.window == 0) k.next_number k.maps k.open_time k.open_parts (short-open xs) (times_low c xs b))
    (each-append IsSound (map RenditionReport (reports_at c items r)) (last_line (hint_of k) ∷ [])
    (each-map (λ (r : Report). IsSound (RenditionReport r)) IsSound RenditionReport (λ r h. h) (reports_at c items r)
    (sound-reports c items r 0 c.renditions within.renditions_named (λ q. (bounded-own c items q within published).placed)))
    (sound-last k, tt))))) in
    let first = sound (MediaSequence (sequence_of k k.window)) low (number (sequence_of k k.window)) in
    let breaks = sound (DiscontinuitySequence k.discontinuity) few (number k.discontinuity) in
    (sound First tt refl, (version, (target, (sound-control (3 * c.part_target) (skip_limit c) held skip, (part_target, (first, (breaks, after)))))))

pub readable-page : (c : Configuration) (items : List Item) (r : ℕ) (ranges : List Listed) (skipped : Option Skip) (n : ℕ)
    → IsWithin c → ArePublished c [] items → Each IsListable ranges → are_apart ranges ≡ true
    → Each IsSound (skip_lines skipped) → Where (λ (s : Skip). 1 ≤ s.count) skipped
    → may_end (page_at ranges skipped n c (reports_at c items r) (kept c (own r items))) ≡ true
    → leads (page_at ranges skipped n c (reports_at c items r) (kept c (own r items))) ≡ (length (compact c (own r items)).window == 0)
    → IsReadable (page_at ranges skipped n c (reports_at c items r) (kept c (own r items)))
readable-page c items r ranges skipped n within published sound_lines apart skips some own_segment begins =
    let xs = own r items in
    let k = compact c xs in
    let p = page_at ranges skipped n c (reports_at c items r) (kept c xs) in
    let all = sound_page c items r ranges skipped n within published sound_lines skips in
    record {
      lines = each-with IsSound line.Within (λ l h. h.within) (lines_of p) all;
      version = refl;
      distinct = distinct-ranges ranges apart;
      skipped = some;
      maps = maps-stand (is_none skipped) (drop n k.window);
      open_block = subst (λ b. Where (IsReadableOpen b) (open_of (length k.window == 0) (unfinished k))) (sym begins)
          (readable-open (length k.window == 0) k.next_number k.maps k.open_time k.open_parts);
      own_segment = own_segment;
      utf8 = is_utf8-from_IsUtf8 (spelling p) (utf8-lines (lines_of p) all);
    }

pub apart-own : (c : Configuration) (items : List Item) (r : ℕ) → ArePublished c [] items → are_apart (told (own r items)).listed ≡ true
apart-own c items r published = (is-free c (own r items) (told-own c r [] items (all-announced c [] items published))).apart

pub readable-full : (c : Configuration) (items : List Item) (r : ℕ) → IsWithin c → ArePublished c [] items
    → IsReadable (playlist_of c (reports_at c items r) (kept c (own r items)))
readable-full c items r within published =
    let xs = own r items in
    readable-page c items r (told xs).listed None 0 within published (listable c items r published).each (apart-own c items r published) tt tt refl
    (empty-printed true (compact c xs).window)
