-- What is written is read again: each line of it by itself, and the lines one after another.
use Rattle.std.proofs.Common.{◌≡◌, ℕ, true, List, ◌∷◌, ◌++◌, map, refl, ap, sym, ◌∙◌, Some, is_none, Ok, drop}
use Rattle.std.proofs.lemmas.Str.{IsUtf8-from_is_utf8}
use Rattle.std.specs.List.{flat_map}
use Rattle.std.specs.Str.{is_utf8}
use Rattle.ll_line.specs.Formats.{line}
use Rattle.ll_line.specs.Line.{DateRange, First, Line}
use Rattle.ll_attr.specs.Words.{pieces_at}
use Rattle.ll_line.specs.Text.{text_of}
use Rattle.ll_line.specs.Playlist.{Playlist}
use Rattle.ll_line.specs.Spelling.{lines_of, open_lines, segment_lines, skip_lines, spelling}
use Rattle.ll_read.specs.Draft.{plain}
use Rattle.ll_read.specs.Readable.{Each, IsReadable, ReadsBackLaw, leads}
use Rattle.ll_read.specs.Reading.{playlist_in, start}
use Rattle.ll_line.proofs.LineLaws.{line-laws}
use Rattle.ll_read.proofs.Begins.{begun}
use Rattle.ll_read.proofs.Onward.{first_is}
use Rattle.ll_read.proofs.Comes.{come, read, spelled}
use Rattle.ll_read.proofs.ComesInside.{between, from, header, segments}
use Rattle.ll_read.proofs.ComesRanges.{ranges, skip}
use Rattle.ll_read.proofs.ComesToEnd.{end_lines, to_end}
use Rattle.ll_read.proofs.SoFar.{headed}
use Rattle.ll_read.proofs.WholeLines.{cut, kept, with_end}

-- the lines of a readable playlist make it up
all_come : (p : Playlist) → IsReadable p → come (Some start) (lines_of p) ≡ Some p
all_come p can =
    let begin : Playlist = record (headed p.header p.sequence) { discontinuity = p.discontinuity } in
    let ranged : Playlist = record begin { ranges = p.ranges } in
    let skipping : Playlist = record ranged { skipped = p.skipped } in
    let all : Playlist = record skipping { segments = p.segments } in
    let full = is_none p.skipped in
    let after_segments = open_lines p.open_block ++ end_lines p.reports p.hint in
    let after_skip = flat_map segment_lines p.segments ++ after_segments in
    let after_ranges = skip_lines p.skipped ++ after_skip in
    header p (map DateRange p.ranges ++ after_ranges) can.version
    ∙ ranges p.ranges begin after_ranges can.distinct
    ∙ skip p.skipped ranged after_skip can.skipped
    ∙ segments full full p.segments skipping after_segments can.maps
    ∙ ap (λ m. come (from (between (leads p)) m (plain all)) after_segments) can.own_segment
    ∙ to_end (leads p) p.open_block p.reports p.hint all can.open_block

-- a text of such lines, the first of which is a playlist's, is read as what they make up
by_lines : (text : List ℕ) (more : List Line) (p : Playlist) → text ≡ text_of (First ∷ more) → is_utf8 text ≡ true → Each line.Within (First ∷ more)
    → come (Some start) (First ∷ more) ≡ Some p → playlist_in text ≡ Ok p
by_lines text more p spelt utf8 within comes =
    let whole = text_of (First ∷ more) in
    let first = spelled First in
    let one_line = line-laws.inside First within.0 in
    let shown = kept first one_line ∙ first_is whole first (text_of more) (ap (λ t. pieces_at 10 (t ++ text_of more)) (with_end First) ∙ cut first (text_of more) one_line) in
    sym (begun whole text first (sym spelt) (IsUtf8-from_is_utf8 text utf8) shown refl) ∙ read (First ∷ more) 1 start p within comes

pub reads-back : ReadsBackLaw
reads-back p can = by_lines (spelling p) (drop 1 (lines_of p)) p refl can.utf8 can.lines (all_come p can)
