-- One line after another, and what the lines that are left make up.
use Rattle.std.proofs.Common.{◌≡◌, ℕ, ◌+◌, ◌<◌, ◌==◌, Bool, List, [], ◌∷◌, ◌++◌, length, refl, ap, sym, ◌∙◌, arith, Option, Some, None, Result}
use Rattle.std.proofs.lemmas.List.{append-nil}
use Rattle.std.proofs.lemmas.List.Splits.{length-slice_split}
use Rattle.std.specs.Option.{option_map}
use Rattle.std.specs.Str.Lines.{strip_carriage_return}
use Rattle.ll_attr.specs.Words.{pieces_at}
use Rattle.ll_line.specs.Line.{DateRange, EndList, Hint, Line, RenditionReport, Uri}
use Rattle.ll_line.specs.Formats.{line_in}
use Rattle.ll_line.specs.Playlist.{Block, Playlist}
use Rattle.ll_read.specs.Draft.{Draft, put, with_open, with_segment}
use Rattle.ll_read.specs.Ranges.{range_of, ranges_in}
use Rattle.ll_read.specs.Reading.{Reading, and_then, at, first_line, is_new_line, next_line, read_from}
use Rattle.ll_read.specs.Shape.{shape_next}
use Rattle.ll_read.specs.declared.fault.ReadFault.{ReadFault}
use Rattle.ll_read.specs.declared.shape.Shape.{Shape}

read_more : (n : ℕ) (r : Reading) (line : List ℕ) (ps : List (List ℕ)) → 0 < length ps → read_from n r (line ∷ ps) ≡ and_then n (next_line r (line_in (strip_carriage_return line))) (λ q. read_from (n + 1) q ps)
read_more n r line [] some = absurd (omega arith)
read_more n r line (p ∷ ps) some = refl

pub some_parts : (text : List ℕ) → 0 < length (pieces_at 10 text)
some_parts text = omega (arith, length-slice_split (λ b. b == 10) text)

by_parts : (line : List ℕ) (ps : List (List ℕ)) → 0 < length ps → strip_carriage_return line ≡ first_line (line ∷ ps)
by_parts line [] some = absurd (omega arith)
by_parts line (p ∷ ps) some = refl

pub first_is : (text line below : List ℕ) → pieces_at 10 text ≡ line ∷ pieces_at 10 below → strip_carriage_return line ≡ first_line (pieces_at 10 text)
first_is text line below e = by_parts line (pieces_at 10 below) (some_parts below) ∙ ap first_line (sym e)

-- one more line, and what the lines that are left make up
pub goes_on : (n : ℕ) (r : Reading) (o : Option Reading) (rest line shown below : List ℕ) (whole : Result Playlist ReadFault) → pieces_at 10 rest ≡ line ∷ pieces_at 10 below
    → shown ≡ strip_carriage_return line → next_line r (line_in shown) ≡ o → read_from n r (pieces_at 10 rest) ≡ whole
    → and_then n o (λ q. read_from (n + 1) q (pieces_at 10 below)) ≡ whole
goes_on n r o rest line shown below whole e s h w =
    ap (λ o. and_then n o (λ x. read_from (n + 1) x (pieces_at 10 below))) (sym h ∙ ap (λ l. next_line r (line_in l)) s)
    ∙ sym (read_more n r line (pieces_at 10 below) (some_parts below)) ∙ ap (read_from n r) (sym e) ∙ w

pub line_next : (r : Reading) (o : Option Line) (line : Line) (x : Bool) (s : Option Shape) → Some line ≡ o → x ≡ is_new_line line r.draft.playlist
    → s ≡ shape_next r.shape line x → next_line r o ≡ option_map (λ s. at s (put line r.draft)) s
line_next r o line x s is_line new h =
    ap (next_line r) (sym is_line) ∙ ap (option_map (λ s. at s (put line r.draft))) (ap (shape_next r.shape line) (sym new) ∙ sym h)

open_ranges : (o : Option Block) (p : Playlist) → (with_open o p).ranges ≡ p.ranges ++ []
open_ranges None p = sym (append-nil p.ranges)
open_ranges (Some b) p = sym (append-nil p.ranges)

finished_ranges : (o : Option Block) (n : ℕ) (uri : List ℕ) (p : Playlist) → (with_segment o n uri p).ranges ≡ p.ranges ++ []
finished_ranges None n uri p = sym (append-nil p.ranges)
finished_ranges (Some b) n uri p = sym (append-nil p.ranges)

ranges_by : (line : Line) (d : Draft) → (put line d).playlist.ranges ≡ d.playlist.ranges ++ range_of line
ranges_by (DateRange range) d = refl
ranges_by (Uri uri) d = finished_ranges d.segment d.duration uri d.playlist
ranges_by (RenditionReport r) d = open_ranges d.segment d.playlist
ranges_by (Hint uri) d = open_ranges d.segment d.playlist
ranges_by EndList d = open_ranges d.segment d.playlist
ranges_by line d = sym (append-nil d.playlist.ranges)

-- a line puts its date range after those before it
pub one_range : (o : Option Line) (line : Line) (d : Draft) → Some line ≡ o → (put line d).playlist.ranges ≡ d.playlist.ranges ++ ranges_in o
one_range o line d is = ranges_by line d ∙ ap (λ l. d.playlist.ranges ++ ranges_in l) is
