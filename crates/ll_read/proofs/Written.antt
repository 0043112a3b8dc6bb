-- The text of a playlist is the texts of its kinds of lines, one after another.
use Rattle.std.proofs.Common.{◌≡◌, ℕ, List, [], ◌∷◌, ◌++◌, Some, map, refl, ap, sym, ◌∙◌, codes, decimal, append_assoc}
use Rattle.std.proofs.lemmas.List.{append-nil}
use Rattle.std.specs.List.{flat_map, join_with_byte}
use Rattle.ll_format.specs.Words.{cut_at}
use Rattle.ll_format.proofs.SeparatedLaws.{joined_again}
use Rattle.ll_line.specs.Formats.{name, SkippedTag}
use Rattle.ll_line.specs.Line.{DateRange, Skip, Skipped}
use Rattle.ll_line.specs.Text.{line_text, text_of}
use Rattle.ll_line.specs.Playlist.{Playlist}
use Rattle.ll_line.specs.Spelling.{spelling, head_lines, skip_lines, segment_lines, tail_lines}
use Rattle.ll_line.proofs.Texts.{texts_then}

abbrev pub text_by : Playlist → List ℕ
text_by p =
    text_of (head_lines p) ++ (text_of (map DateRange p.ranges) ++ (text_of (skip_lines p.skipped)
    ++ (text_of (flat_map segment_lines p.segments) ++ text_of (tail_lines p))))

pub written : (p : Playlist) → text_by p ≡ spelling p
written p =
    sym (texts_then (head_lines p) _ _ (texts_then (map DateRange p.ranges) _ _ (texts_then (skip_lines p.skipped) _ _ (texts_then (flat_map segment_lines p.segments) (tail_lines p) _ refl))))
