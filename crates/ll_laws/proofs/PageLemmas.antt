-- The lines of segments, of reports and the last one are allowed in a playlist's text, and MAP lines are where they are required.
use Rattle.std.proofs.Common.{◌≡◌, ℕ, suc, ◌+◌, ◌≤◌, ◌<◌, ◌==◌, ◌||◌, ◌&&◌, List, [], ◌∷◌, ◌++◌, map, Bool, true, false, not, Option, Some, None, length, refl, ap, ◌∙◌, arith}
use Rattle.std.proofs.lemmas.Bool.{and_parts}
use Rattle.std.proofs.lemmas.Bool.Decides.{nat_tests}
use Rattle.std.specs.Prelude.{flat_map}
use Rattle.ll_format.specs.Format.{Where}
use Rattle.ll_format.specs.Words.{duration_end}
use Rattle.ll_settings.specs.Names.{is_name, is_among, are_names}
use Rattle.ll_settings.specs.Settings.{Configuration}
use Rattle.ll_item.specs.declared.item.Item.{Item}
use Rattle.ll_item.specs.declared.part.Part.{Part}
use Rattle.ll_window.specs.declared.part_position.PartPosition.{PartPosition}
use Rattle.ll_window.specs.Compact.{Compact, compact, open_row}
use Rattle.ll_window.specs.Rows.{Row, row}
use Rattle.ll_window.specs.Segments.{own, duration}
use Rattle.ll_line.specs.Line as line
use Rattle.ll_line.specs.Line.{Report}
use Rattle.ll_pieces.specs.Segments.{part_lines, map_of, block_of, printed, open_of}
use Rattle.ll_page.specs.Full.{report_by, reports_from, hint_by, hint_of}
use Rattle.ll_line.specs.Spelling.{break_lines, map_lines, block_lines, segment_lines, open_lines, last_line}
use Rattle.ll_line.specs.Uris.{segment_uri, part_uri, map_uri, report_uri}
use Rattle.ll_pieces.specs.View.{renditions_from}
use Rattle.ll_read.specs.Readable.{Each, has_map, have_maps, IsReadableOpen}
use Rattle.ll_read.specs.Reading.{is_empty}
use Rattle.ll_laws.proofs.BoundLemmas.{IsPlaced}
use Rattle.ll_laws.proofs.EachLemmas.{each-append}
use Rattle.ll_laws.proofs.LineLemmas.{IsSound, sound, plain, sound-map, sound-part, sound-duration, sound-report, sound-hint}
use Rattle.ll_laws.proofs.ShortLemmas.{IsShort}
use Rattle.ll_laws.proofs.SplitLemmas.{duration-cons}
use Rattle.ll_laws.proofs.TextLemmas.{plain-segment, plain-part, plain-map, plain-report, plain-time, uri-segment, uri-part, uri-map, uri-report, readable-time}

-- segments

break_sound : (b : Bool) → Each IsSound (break_lines b)
break_sound true = (sound line.Discontinuity tt refl, tt)
break_sound false = tt

map_sound : (b : Bool) (n : ℕ) → Each IsSound (map_lines (map_of b n))
map_sound true n = (sound-map (map_uri n) (uri-map n) (plain-map n), tt)
map_sound false n = tt

parts_sound : (most n i : ℕ) (ps : List Part) → duration ps ≤ most → most < duration_end → Each IsSound (map line.Part (part_lines n i ps))
parts_sound most n i [] le low = tt
parts_sound most n i (p ∷ ps) le low =
    let e = duration-cons p ps in
    (sound-part p.duration (part_uri n i) p.independent (omega (arith, e, le, low)) (uri-part n i) (plain-part n i), parts_sound most n (i + 1) ps (omega (arith, e, le)) low)

block_sound : (most : ℕ) (leads : Bool) (r : Row) → duration r.parts ≤ most → most < duration_end → Each IsSound (block_lines (block_of leads r))
block_sound most leads r le low =
    let b = block_of leads r in
    each-append IsSound (break_lines b.broken) _ (break_sound b.broken)
    (each-append IsSound (map_lines b.map) _ (map_sound (leads || b.broken) r.segment.map_number)
    (sound (line.Time b.time) (readable-time _) (plain b.time (plain-time _)), parts_sound most r.segment.number 0 r.parts le low))

pub sound-segments : (most : ℕ) (leads : Bool) (rs : List Row) → Each (IsShort most) rs → most < duration_end → Each IsSound (flat_map segment_lines (printed leads rs))
sound-segments most leads [] h low = tt
sound-segments most leads (r ∷ rs) h low =
    let h0 = h.0 in
    let n = r.segment.number in
    let uri = sound (line.Uri (segment_uri n)) (uri-segment n) (plain (segment_uri n) (plain-segment n)) in
    each-append IsSound (block_lines (block_of leads r) ++ line.Duration r.segment.duration ∷ line.Uri (segment_uri n) ∷ []) _
    (each-append IsSound (block_lines (block_of leads r)) _ (block_sound most leads r h0.1 low) (sound-duration r.segment.duration (omega (arith, h0.0, low)), (uri, tt)))
    (sound-segments most false rs h.1 low)

pub sound-open : (most : ℕ) (leads : Bool) (number maps time : ℕ) (ps : List Part) → duration ps ≤ most → most < duration_end
    → Each IsSound (open_lines (open_of leads (open_row number maps time ps)))
sound-open most leads number maps time [] le low = tt
sound-open most leads number maps time (p ∷ ps) le low = block_sound most leads (row number maps time (p ∷ ps)) le low

map_stands : (leads broken : Bool) (number : ℕ) → has_map (broken || leads) (map_of (leads || broken) number) ≡ true
map_stands true true number = refl
map_stands true false number = refl
map_stands false true number = refl
map_stands false false number = refl

pub maps-stand : (leads : Bool) (rs : List Row) → have_maps leads (printed leads rs) ≡ true
maps-stand leads [] = refl
maps-stand leads (r ∷ rs) = ap (λ b. b && have_maps false (printed false rs)) (map_stands leads r.segment.broken r.segment.map_number) ∙ maps-stand false rs

pub readable-open : (leads : Bool) (number maps time : ℕ) (ps : List Part) → Where (IsReadableOpen leads) (open_of leads (open_row number maps time ps))
readable-open leads number maps time [] = tt
readable-open leads number maps time (p ∷ ps) = record { map = map_stands leads (row number maps time (p ∷ ps)).segment.broken (row number maps time (p ∷ ps)).segment.map_number; some_part = refl }

pub empty-printed : (leads : Bool) (rs : List Row) → is_empty (printed leads rs) ≡ (length rs == 0)
empty-printed leads [] = refl
empty-printed leads (r ∷ rs) = none_left (length rs)
  where
    none_left : (n : ℕ) → false ≡ (suc n == 0)
    none_left n = grind (arith, nat_tests)

-- reports of other renditions, and the last line

one_report : (own_one : Bool) (name : List ℕ) (last : Option PartPosition) → is_name name ≡ true → Where IsPlaced last
    → Each (λ (r : Report). IsSound (line.RenditionReport r)) (report_by own_one name last)
one_report true name last named placed = tt
one_report false name None named placed = tt
one_report false name (Some place) named placed =
    let few = placed.0 in
    let low = placed.1 in
    (sound-report (report_uri name) place.number place.index (uri-report name named) (omega (arith, few)) (omega (arith, low)) (plain-report name named), tt)

pub sound-reports : (c : Configuration) (items : List Item) (asked r : ℕ) (names : List (List ℕ)) → are_names names ≡ true
    → ((q : ℕ) → Where IsPlaced (compact c (own q items)).last)
    → Each (λ (r : Report). IsSound (line.RenditionReport r)) (reports_from asked r names (renditions_from c items r names))
sound-reports c items asked r [] named placed = tt
sound-reports c items asked r (name ∷ names) named placed =
    let p = and_parts (is_name name && not (is_among names name)) (are_names names) named in
    each-append (λ (r : Report). IsSound (line.RenditionReport r)) _ _
    (one_report (r == asked) name (compact c (own r items)).last (and_parts (is_name name) _ p.0).0 (placed r))
    (sound-reports c items asked (r + 1) names p.1 placed)

last_sound : (ended : Bool) (n i : ℕ) → IsSound (last_line (hint_by ended (part_uri n i)))
last_sound true n i = sound line.EndList tt refl
last_sound false n i = sound-hint (part_uri n i) (uri-part n i) (plain-part n i)

pub sound-last : (k : Compact) → IsSound (last_line (hint_of k))
sound-last k = last_sound k.ended k.next_number (length k.open_parts)
