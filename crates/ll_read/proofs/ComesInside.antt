-- The lines of each piece of a playlist are read as that piece, after what comes before it.
use Rattle.std.proofs.Common.{◌≡◌, ℕ, ◌||◌, ◌==◌, ◌&&◌, Bool, true, false, not, List, [], ◌∷◌, ◌++◌, map, refl, ap, sym, ◌∙◌, append_assoc, Option, Some, None}
use Rattle.std.proofs.lemmas.Bool.{and_parts}
use Rattle.std.proofs.lemmas.List.{append-nil}
use Rattle.std.specs.List.{flat_map}
use Rattle.ll_line.specs.Line.{DiscontinuitySequence, Duration, Line, MediaSequence, Part, PartLine, PartTarget, ServerControl, TargetDuration, Time, Uri, Version}
use Rattle.ll_line.specs.Playlist.{Block, Finished, Playlist}
use Rattle.ll_line.specs.Spelling.{block_lines, break_lines, head_lines, map_lines, segment_lines}
use Rattle.ll_read.specs.Draft.{Draft, blank, new_block, plain, put}
use Rattle.ll_read.specs.Readable.{has_map, have_maps}
use Rattle.ll_read.specs.Reading.{Reading, at, is_empty, start}
use Rattle.ll_read.specs.declared.shape.Stage.{Stage}
use Rattle.ll_read.specs.declared.shape.Stage.TheVariants.{AfterVersion, InRanges, BetweenSegments, InSegment, InParts}
use Rattle.ll_read.proofs.Comes.{allows, come}
use Rattle.ll_read.proofs.Lasts.{in_three}
use Rattle.ll_read.proofs.SoFar.{HasVersion, headed, in_block}

abbrev pub from : Stage → Bool → Draft → Option Reading
from stage may_end d = Some (at (record { stage = stage; may_end = may_end }) d)

-- the places where a segment can begin: one that leads after date ranges, another after a skip line or a segment
abbrev pub between : Bool → Stage
between true = InRanges
between false = BetweenSegments

pub header : (p : Playlist) (more : List Line) → HasVersion p
    → come (Some start) (head_lines p ++ more) ≡ come (from InRanges true (plain (record (headed p.header p.sequence) { discontinuity = p.discontinuity }))) more
header p more known =
    let h = p.header in
    let control = ServerControl (record { hold_back = h.hold_back; skip_until = h.skip_until; skips_date_ranges = h.skips_date_ranges }) in
    allows (h.version == 9 || h.version == 10) (Some (record { stage = AfterVersion; may_end = true })) (λ s. at s (put (Version h.version) (plain blank)))
    (TargetDuration h.target ∷ control ∷ PartTarget h.part_target ∷ MediaSequence p.sequence ∷ DiscontinuitySequence p.discontinuity ∷ more) known

-- after a segment's time and any parts
abbrev pub in_segment : Bool → Stage
in_segment true = InSegment
in_segment false = InParts

more_parts : (m : Bool) (b : Block) (ps : List PartLine) (p : Playlist) (more : List Line)
    → come (from InParts m (in_block b p)) (map Part ps ++ more) ≡ come (from InParts m (in_block (record b { parts = b.parts ++ ps }) p)) more
more_parts m b [] p more = ap (λ ps. come (from InParts m (in_block (record b { parts = ps }) p)) more) (sym (append-nil b.parts))
more_parts m b (part ∷ ps) p more =
    more_parts m (record b { parts = b.parts ++ part ∷ [] }) ps p more
    ∙ ap (λ all. come (from InParts m (in_block (record b { parts = all }) p)) more) (append_assoc b.parts (part ∷ []) ps)

parts : (m : Bool) (b : Block) (ps : List PartLine) (p : Playlist) (more : List Line)
    → come (from InSegment m (in_block (record b { parts = [] }) p)) (map Part ps ++ more)
    ≡ come (from (in_segment (is_empty ps)) m (in_block (record b { parts = ps }) p)) more
parts m b [] p more = refl
parts m b (part ∷ ps) p more = more_parts m (record b { parts = part ∷ [] }) ps p more

begun : (leading broken m : Bool) (map : Option (List ℕ)) (time : List ℕ) (p : Playlist) (more : List Line) → has_map (broken || leading) map ≡ true
    → come (from (between leading) m (plain p)) (break_lines broken ++ (map_lines map ++ Time time ∷ more)) ≡ come (from InSegment m (in_block (new_block broken map time) p)) more
begun true true m (Some uri) time p more h = refl
begun true false m (Some uri) time p more h = refl
begun false true m (Some uri) time p more h = refl
begun false false m None time p more h = refl
begun leading broken m map time p more h = cc

pub block : (leading m : Bool) (b : Block) (p : Playlist) (more : List Line) → has_map (b.broken || leading) b.map ≡ true
    → come (from (between leading) m (plain p)) (block_lines b ++ more) ≡ come (from (in_segment (is_empty b.parts)) m (in_block b p)) more
block leading m b p more can =
    ap (come (from (between leading) m (plain p))) (in_three (break_lines b.broken) (map_lines b.map) (Time b.time ∷ map Part b.parts) more)
    ∙ begun leading b.broken m b.map b.time p (map Part b.parts ++ more) can
    ∙ parts m b b.parts p more

lasts : (no_parts m : Bool) (s : Finished) (p : Playlist) (more : List Line)
    → come (from (in_segment no_parts) m (in_block s.block p)) (Duration s.duration ∷ Uri s.uri ∷ more)
    ≡ come (from BetweenSegments true (plain (record p { segments = p.segments ++ s ∷ [] }))) more
lasts true m s p more = refl
lasts false m s p more = refl

unchanged : (leading m : Bool) (p : Playlist) (more : List Line)
    → come (from (between leading) m (plain p)) more ≡ come (from (between (leading && true)) (m || false) (plain (record p { segments = p.segments ++ [] }))) more
unchanged true true p more = ap (λ ss. come (from InRanges true (plain (record p { segments = ss }))) more) (sym (append-nil p.segments))
unchanged true false p more = ap (λ ss. come (from InRanges false (plain (record p { segments = ss }))) more) (sym (append-nil p.segments))
unchanged false true p more = ap (λ ss. come (from BetweenSegments true (plain (record p { segments = ss }))) more) (sym (append-nil p.segments))
unchanged false false p more = ap (λ ss. come (from BetweenSegments false (plain (record p { segments = ss }))) more) (sym (append-nil p.segments))

after_one : (leading m : Bool) (p : Playlist) (more : List Line)
    → come (from BetweenSegments true (plain p)) more ≡ come (from (between (leading && false)) (m || true) (plain p)) more
after_one true true p more = refl
after_one true false p more = refl
after_one false true p more = refl
after_one false false p more = refl

-- after a segment none leads, and the segments can end
pub segments : (leading m : Bool) (ss : List Finished) (p : Playlist) (more : List Line) → have_maps leading ss ≡ true
    → come (from (between leading) m (plain p)) (flat_map segment_lines ss ++ more)
    ≡ come (from (between (leading && is_empty ss)) (m || not (is_empty ss)) (plain (record p { segments = p.segments ++ ss }))) more
segments leading m [] p more can = unchanged leading m p more
segments leading m (s ∷ ss) p more can =
    let begin = come (from (between leading) m (plain p)) in
    let last = Duration s.duration ∷ Uri s.uri ∷ [] in
    let below = flat_map segment_lines ss ++ more in
    let maps = and_parts (has_map (s.block.broken || leading) s.block.map) (have_maps false ss) can in
    ap begin (append_assoc (segment_lines s) (flat_map segment_lines ss) more ∙ append_assoc (block_lines s.block) last below)
    ∙ block leading m s.block p (last ++ below) maps.0
    ∙ lasts (is_empty s.block.parts) m s p below
    ∙ segments false true ss (record p { segments = p.segments ++ s ∷ [] }) more maps.1
    ∙ ap (λ all. come (from BetweenSegments true (plain (record p { segments = all }))) more) (append_assoc p.segments (s ∷ []) ss)
    ∙ after_one leading m (record p { segments = p.segments ++ (s ∷ ss) }) more
