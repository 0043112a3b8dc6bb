-- The text of a playlist is the texts of its kinds of lines, one after another.
use Rattle.std.proofs.Common.{◌≡◌, ℕ, List, [], ◌∷◌, ◌++◌, map, ap, ◌∙◌}
use Rattle.std.proofs.lemmas.Grind.{flat_map-append}
use Rattle.std.proofs.lemmas.List.{append-nil}
use Rattle.std.specs.Prelude.{flat_map}
use Rattle.ll_line.specs.Line.{Line, DateRange, RenditionReport}
use Rattle.ll_line.specs.Text.{line_text, text_of}
use Rattle.ll_line.specs.Playlist.{Playlist}
use Rattle.ll_line.specs.Spelling.{spelling, head_lines, skip_lines, segment_lines, open_lines, tail_lines, last_line}

-- lines before others
pub texts : (before after : List Line) → text_of (before ++ after) ≡ text_of before ++ text_of after
texts before after = flat_map-append line_text before after

pub texts_then : (before after : List Line) (text : List ℕ) → text_of after ≡ text → text_of (before ++ after) ≡ text_of before ++ text
texts_then before after text h = texts before after ∙ ap (λ t. text_of before ++ t) h

pub tail_texts : (p : Playlist) → text_of (tail_lines p) ≡ text_of (open_lines p.open_block) ++ (text_of (map RenditionReport p.reports) ++ line_text (last_line p.hint))
tail_texts p =
    texts_then (open_lines p.open_block) (map RenditionReport p.reports ++ last_line p.hint ∷ []) _
    (texts_then (map RenditionReport p.reports) (last_line p.hint ∷ []) _ (append-nil (line_text (last_line p.hint))))

pub spelling_texts : (p : Playlist) → spelling p ≡ text_of (head_lines p) ++ (text_of (map DateRange p.ranges) ++ (text_of (skip_lines p.skipped)
    ++ (text_of (flat_map segment_lines p.segments) ++ (text_of (open_lines p.open_block) ++ (text_of (map RenditionReport p.reports) ++ line_text (last_line p.hint))))))
spelling_texts p =
    texts_then (head_lines p) _ _ (texts_then (map DateRange p.ranges) _ _ (texts_then (skip_lines p.skipped) _ _ (texts_then (flat_map segment_lines p.segments) (tail_lines p) _ (tail_texts p))))
