-- The lines that make up a playlist are its lines and have its outline, and it is readable: line by line, by the stage before each.
use Rattle.std.proofs.Common.{◌≡◌, ℕ, ◌==◌, ◌||◌, ◌&&◌, Bool, true, false, not, List, [], ◌∷◌, ◌++◌, length-append, map, refl, ap, sym, subst, ◌∙◌, append_assoc, Some, None, is_none, nat_le, bytes_eq}
use Rattle.std.proofs.lemmas.Bool.{and_from, and_parts, and_right, leb-true, not-true, not_from_false, or_from, or_parts, or_right}
use Rattle.std.proofs.lemmas.List.Folds.{list_any-append}
use Rattle.std.specs.List.{flat_map}
use Rattle.std.specs.Option.{option_map}
use Rattle.ll_line.specs.Line.{DateRange, DateRangeLine, Discontinuity, DiscontinuitySequence, Duration, EndList, First, Hint, Line, Map, MediaSequence, Part, PartLine, PartTarget, RenditionReport, ServerControl, Skipped, TargetDuration, Time, Uri, Version}
use Rattle.ll_line.specs.Playlist.{Block, Finished, Playlist}
use Rattle.ll_line.specs.Spelling.{block_lines, break_lines, head_lines, lines_of, map_lines, open_lines, segment_lines, skip_lines}
use Rattle.ll_read.specs.Draft.{Draft, plain, put}
use Rattle.ll_read.specs.Outline.{outline_of}
use Rattle.ll_read.specs.Ranges.{has_id}
use Rattle.ll_read.specs.Readable.{are_distinct, has_map, have_maps, may_end}
use Rattle.ll_read.specs.Reading.{at, is_empty, is_new_line, next}
use Rattle.ll_read.specs.Shape.{after_segments}
use Rattle.ll_read.specs.declared.outline.Outline.{Outline}
use Rattle.ll_read.specs.declared.shape.Shape.{Shape}
use Rattle.ll_read.specs.declared.shape.Stage.{Stage}
use Rattle.ll_read.specs.declared.shape.Stage.TheVariants.{AtStart, AfterFirst, AfterVersion, AfterTargetDuration, AfterControl, AfterPartTarget, AfterMediaSequence, InRanges, BetweenSegments, AfterDiscontinuity, AfterMap, InSegment, InParts, AfterDuration, InReports, AtEnd}
use Rattle.ll_read.proofs.Comes.{allowed, come}
use Rattle.ll_read.proofs.Lasts.{flat_map_last, in_three, map_last, some_last}
use Rattle.ll_read.proofs.ComesRanges.{other_way}
use Rattle.ll_read.proofs.Told.{outline_with}
use Rattle.ll_read.proofs.SoFar.{Holds, IsSound, IsWhole, block_of, in_block, known, ranged, reading_at, segmented, so_far, to_reports, to_segments, uri_of}

abbrev Comes : Stage → Draft → List Line → Playlist → Type 0
Comes stage d lines p = (so_far stage d lines ≡ lines_of p) × IsWhole p × (outline_with (outline_of (known stage d).playlist) lines ≡ outline_of p)

-- what the lines below make up
abbrev Rest : List Line → Playlist → Type 0
Rest more p = (stage : Stage) (d : Draft) → Holds stage d → come (Some (reading_at stage d)) more ≡ Some p → Comes stage d more p

-- a line that isn't allowed there
never : {A : Type 0} (p : Playlist) → None ≡ Some p → A
never p h = absurd (cc)

-- lines that are those of a later stage and more
onward : (lines : List Line) (stage : Stage) (d : Draft) (more : List Line) (p : Playlist) → lines ≡ so_far stage d more → Comes stage d more p
    → (lines ≡ lines_of p) × IsWhole p × (outline_with (outline_of (known stage d).playlist) more ≡ outline_of p)
onward lines stage d more p e w = (e ∙ w.0, w.1, w.2)

distinct_last : (rs : List DateRangeLine) (r : DateRangeLine) → are_distinct rs ≡ true → has_id r.id rs ≡ false → are_distinct (rs ++ r ∷ []) ≡ true
distinct_last [] r h new = refl
distinct_last (x ∷ xs) r h new =
    let both = and_parts (not (has_id x.id xs)) (are_distinct xs) h in
    let apart = or_parts (bytes_eq r.id x.id) (has_id r.id xs) new in
    let other = or_from (has_id x.id xs) (has_id x.id (r ∷ [])) (not-true (has_id x.id xs) both.0) (or_from (bytes_eq x.id r.id) false (other_way r.id x.id apart.0) refl) in
    and_from (not (has_id x.id (xs ++ r ∷ []))) (are_distinct (xs ++ r ∷ []))
    (not_from_false (has_id x.id (xs ++ r ∷ [])) (list_any-append (λ (range : DateRangeLine). bytes_eq x.id range.id) xs (r ∷ []) ∙ other))
    (distinct_last xs r both.1 apart.1)

maps_last : (leading : Bool) (ss : List Finished) (s : Finished) → have_maps leading ss ≡ true → has_map (s.block.broken || (leading && is_empty ss)) s.block.map ≡ true
    → have_maps leading (ss ++ s ∷ []) ≡ true
maps_last true [] s h k = and_from _ true k refl
maps_last false [] s h k = and_from _ true k refl
maps_last leading (x ∷ xs) s h k =
    let both = and_parts (has_map (x.block.broken || leading) x.block.map) (have_maps false xs) h in
    and_from (has_map (x.block.broken || leading) x.block.map) _ both.0
    (maps_last false xs s both.1 (ap (λ b. has_map (s.block.broken || b) s.block.map) (sym (and_right leading false refl)) ∙ k))

part_more : (b : Block) (part : PartLine) (more : List Line) → block_lines b ++ (Part part ∷ more) ≡ block_lines (record b { parts = b.parts ++ part ∷ [] }) ++ more
part_more b part more =
    let front = break_lines b.broken in
    let maps = map_lines b.map in
    in_three front maps (Time b.time ∷ map Part b.parts) (Part part ∷ more)
    ∙ ap (λ l. front ++ (maps ++ (Time b.time ∷ l))) (sym (map_last Part b.parts part more))
    ∙ sym (in_three front maps (Time b.time ∷ map Part (b.parts ++ part ∷ [])) more)

-- after all segments, wherever they end
ending : (stage : Stage) (d : Draft) (line : Line) (more : List Line) (p : Playlist) → IsWhole d.playlist → Rest more p
    → come (option_map (λ shape. at shape (put line (plain (to_reports d.playlist)))) (after_segments line (record { stage = stage; may_end = may_end d.playlist }))) more ≡ Some p
    → Comes InReports d (line ∷ more) p
ending stage d (RenditionReport r) more p g rest h =
    let e = put (RenditionReport r) (known InReports d) in
    onward _ InReports e more p
    (ap (λ l. segmented d.playlist (open_lines d.playlist.open_block ++ l)) (sym (map_last RenditionReport d.playlist.reports r more))) (rest InReports e g h)
ending stage d (Hint uri) more p g rest h = rest AtEnd (put (Hint uri) (known InReports d)) g h
ending stage d EndList more p g rest h = rest AtEnd (put EndList (known InReports d)) g h
ending stage d line more p g rest h = never p h

-- a block that stays open
stays_open : (b : Block) (q : Playlist) (line : Line) (s : Shape) (more : List Line)
    → come (option_map (λ shape. at shape (put line (plain (record q { open_block = Some b })))) (after_segments line s)) more
    ≡ come (option_map (λ shape. at shape (put line (in_block b q))) (after_segments line s)) more
stays_open b q (RenditionReport r) s more = refl
stays_open b q (Hint uri) s more = refl
stays_open b q EndList s more = refl
stays_open b q line s more = refl

in_ranges_step : (d : Draft) (line : Line) (more : List Line) (p : Playlist) → Holds InRanges d → Rest more p → come (next (reading_at InRanges d) line) more ≡ Some p
    → Comes InRanges d (line ∷ more) p
in_ranges_step d (DateRange r) more p g rest h =
    let a = allowed (is_new_line (DateRange r) d.playlist) _ _ more p h in
    let e = put (DateRange r) (known InRanges d) in
    onward _ InRanges e more p (ap (λ l. head_lines d.playlist ++ l) (sym (map_last DateRange d.playlist.ranges r more)))
    (rest InRanges e (g.0, distinct_last d.playlist.ranges r g.1 (not-true (has_id r.id d.playlist.ranges) a.0)) a.1)
in_ranges_step d (Skipped skip) more p g rest h =
    let a = allowed (nat_le 1 skip.count) _ _ more p h in
    rest BetweenSegments (put (Skipped skip) (known InRanges d)) ((g.0, g.1, leb-true 1 skip.count a.0, refl), refl) a.1
in_ranges_step d Discontinuity more p g rest h = rest AfterDiscontinuity (put Discontinuity (known InRanges d)) (g.0, g.1, tt, refl) h
in_ranges_step d (Map uri) more p g rest h = rest AfterMap (put (Map uri) (known InRanges d)) ((g.0, g.1, tt, refl), refl) h
in_ranges_step d line more p g rest h = ending InRanges (known InRanges d) line more p ((g.0, g.1, tt, refl), refl, tt) rest h

between_step : (d : Draft) (line : Line) (more : List Line) (p : Playlist) → Holds BetweenSegments d → Rest more p
    → come (next (reading_at BetweenSegments d) line) more ≡ Some p → Comes BetweenSegments d (line ∷ more) p
between_step d Discontinuity more p g rest h = rest AfterDiscontinuity (put Discontinuity (known BetweenSegments d)) g.0 h
between_step d (Time time) more p g rest h = rest InSegment (put (Time time) (known BetweenSegments d)) (g.0, ap (λ x. has_map x None) g.1) h
between_step d line more p g rest h =
    let a = allowed (may_end d.playlist) _ _ more p h in
    ending BetweenSegments (known BetweenSegments d) line more p (g.0, a.0, tt) rest a.1

in_parts_step : (d : Draft) (line : Line) (more : List Line) (p : Playlist) → Holds InParts d → Rest more p
    → come (next (reading_at InParts d) line) more ≡ Some p → Comes InParts d (line ∷ more) p
in_parts_step d (Part part) more p g rest h =
    let b = block_of d.segment in
    let e = put (Part part) (known InParts d) in
    onward _ InParts e more p (ap (segmented d.playlist) (part_more b part more)) (rest InParts e (g.0, g.1, not-true (is_empty (b.parts ++ part ∷ [])) (some_last b.parts part)) h)
in_parts_step d (Duration n) more p g rest h = rest AfterDuration (put (Duration n) (known InParts d)) (g.0, g.1) h
in_parts_step d line more p g rest h =
    let a = allowed (may_end d.playlist) _ _ more p h in
    let b = block_of d.segment in
    let q : Playlist = record (to_segments d.playlist) { open_block = Some b } in
    let s : Shape = record { stage = InParts; may_end = may_end d.playlist } in
    ending InParts (plain q) line more p (g.0, a.0, record { map = g.1; some_part = g.2 }) rest (stays_open b (to_segments d.playlist) line s more ∙ a.1)

-- a URI finishes a segment
finished : (d : Draft) (uri : List ℕ) (more : List Line) (p : Playlist) → Holds AfterDuration d → Rest more p
    → come (next (reading_at AfterDuration d) (Uri uri)) more ≡ Some p → Comes AfterDuration d (Uri uri ∷ more) p
finished d uri more p g rest h =
    let b = block_of d.segment in
    let s : Finished = record { block = b; duration = d.duration; uri = uri } in
    let ss = d.playlist.segments in
    let none = is_none d.playlist.skipped in
    let e = put (Uri uri) (known AfterDuration d) in
    let some = some_last ss s in
    let lines = ap (λ l. ranged d.playlist (skip_lines d.playlist.skipped ++ l))
    (ap (λ l. flat_map segment_lines ss ++ l) (sym (append_assoc (block_lines b) (Duration d.duration ∷ Uri uri ∷ []) more)) ∙ sym (flat_map_last segment_lines ss s more)) in
    let sound : IsSound e.playlist = (g.0.0, g.0.1, g.0.2, maps_last none ss s g.0.3 g.1) in
    let may = or_right none (not (is_empty (ss ++ s ∷ []))) some in
    let w = rest BetweenSegments e (sound, and_right none (is_empty (ss ++ s ∷ [])) (not-true (is_empty (ss ++ s ∷ [])) some))
    (ap (λ b. come (Some (at (record { stage = BetweenSegments; may_end = b }) e)) more) may ∙ h) in
    let one = ap (λ n. let o : Outline = record (outline_of e.playlist) { segments = n } in outline_with o more) (sym (length-append ss (s ∷ []))) in
    (lines ∙ w.0, w.1, one ∙ w.2)

step : (stage : Stage) (d : Draft) (line : Line) (more : List Line) (p : Playlist) → Holds stage d → Rest more p → come (next (reading_at stage d) line) more ≡ Some p
    → Comes stage d (line ∷ more) p
step InRanges d line more p g rest h = in_ranges_step d line more p g rest h
step BetweenSegments d line more p g rest h = between_step d line more p g rest h
step InParts d line more p g rest h = in_parts_step d line more p g rest h
step InReports d line more p g rest h = ending InReports d line more p g rest h
step AtStart d First more p g rest h = rest AfterFirst (put First (known AtStart d)) tt h
step AfterFirst d (Version n) more p g rest h =
    let a = allowed (n == 9 || n == 10) _ _ more p h in
    rest AfterVersion (put (Version n) (known AfterFirst d)) a.0 a.1
step AfterVersion d (TargetDuration n) more p g rest h = rest AfterTargetDuration (put (TargetDuration n) (known AfterVersion d)) g h
step AfterTargetDuration d (ServerControl c) more p g rest h = rest AfterControl (put (ServerControl c) (known AfterTargetDuration d)) g h
step AfterControl d (PartTarget n) more p g rest h = rest AfterPartTarget (put (PartTarget n) (known AfterControl d)) g h
step AfterPartTarget d (MediaSequence n) more p g rest h = rest AfterMediaSequence (put (MediaSequence n) (known AfterPartTarget d)) g h
step AfterMediaSequence d (DiscontinuitySequence n) more p g rest h = rest InRanges (put (DiscontinuitySequence n) (known AfterMediaSequence d)) (g, refl) h
step AfterDiscontinuity d (Map uri) more p g rest h = rest AfterMap (put (Map uri) (known AfterDiscontinuity d)) (g, refl) h
step AfterMap d (Time time) more p g rest h =
    let e = put (Time time) (known AfterMap d) in
    onward _ InSegment e more p (ap (segmented d.playlist) (sym (append_assoc (break_lines d.broken) (Map (uri_of d.map) ∷ Time time ∷ []) more)))
    (rest InSegment e (g.0, ap (λ x. has_map x (Some (uri_of d.map))) g.1) h)
step InSegment d (Part part) more p g rest h =
    let b = block_of d.segment in
    let e = put (Part part) (known InSegment d) in
    onward _ InParts e more p (ap (segmented d.playlist) (part_more b part more)) (rest InParts e (g.0, g.1, not-true (is_empty (b.parts ++ part ∷ [])) (some_last b.parts part)) h)
step InSegment d (Duration n) more p g rest h = rest AfterDuration (put (Duration n) (known InSegment d)) g h
step AfterDuration d (Uri uri) more p g rest h = finished d uri more p g rest h
step stage d line more p g rest h = never p h

pub walk : (stage : Stage) (d : Draft) (lines : List Line) (p : Playlist) → Holds stage d → come (Some (reading_at stage d)) lines ≡ Some p → Comes stage d lines p
walk AtEnd d [] p g h = let e : d.playlist ≡ p = cc in (ap lines_of e, subst IsWhole e g, ap outline_of e)
walk stage d [] p g h = never p h
walk stage d (line ∷ more) p g h = step stage d line more p g (λ t e. walk t e more p) h
