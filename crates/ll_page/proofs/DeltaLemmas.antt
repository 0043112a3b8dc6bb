-- The text of a playlist that skips a number of segments, in its order, by the pieces of its view.
use Rattle.std.proofs.Common.{◌≡◌, ℕ, zero, suc, ◌==◌, List, [], ◌++◌, Bool, false, length, map, refl, ap, sym, ◌∙◌, arith, append_assoc, append-nil}
use Rattle.std.proofs.lemmas.Bool.Decides.{nat_tests}
use Rattle.std.specs.Prelude.{flat_map}
use Rattle.ll_line.specs.Line.{DateRange, Skipped, RenditionReport}
use Rattle.ll_line.specs.Text.{line_text, text_of}
use Rattle.ll_page.specs.Delta.{delta_by, ids_removed, ranges_left}
use Rattle.ll_item.specs.declared.skip_kind.SkipKind.{SkipKind}
use Rattle.ll_page.specs.Full.{full_playlist, range_line, reports_of, hint_of}
use Rattle.ll_pieces.specs.Segments.{printed, open_of}
use Rattle.ll_pieces.specs.Pieces.{PiecesOf, pieces_from}
use Rattle.ll_line.specs.Spelling.{spelling, head_lines, segment_lines, open_lines, last_line}
use Rattle.ll_pieces.specs.View.{Seen, asked}
use Rattle.ll_line.proofs.Texts.{spelling_texts}

after : (n : ℕ) → (suc n == 0) ≡ false
after n = grind (arith, nat_tests)

-- the lines of the date ranges and of what is skipped
abbrev pub skips_by : SkipKind → Seen → ℕ → List ℕ
skips_by kind v zero = text_of (map DateRange (full_playlist v).ranges)
skips_by kind v (suc n) =
    text_of (map DateRange (map range_line (ranges_left kind (asked v)))) ++ line_text (Skipped (record { count = suc n; removed = ids_removed kind (asked v) }))

-- if no segment is skipped, and if some are

pub skips-none : (kind : SkipKind) (v : Seen) (n : ℕ) → n ≡ 0 → text_of (map DateRange (map range_line (asked v).ranges.listed)) ≡ skips_by kind v n
skips-none kind v n e = ap (skips_by kind v) (sym e)

pub skips-some : (kind : SkipKind) (v : Seen) (n : ℕ) → (n ≡ 0 → ⊥)
    → text_of (map DateRange (map range_line (ranges_left kind (asked v)))) ++ line_text (Skipped (record { count = n; removed = ids_removed kind (asked v) })) ≡ skips_by kind v n
skips-some kind v zero some = absurd (some refl)
skips-some kind v (suc n) some = refl

abbrev pub text_by : Bool → PiecesOf → SkipKind → Seen → ℕ → List ℕ
text_by leads pieces kind v n =
    text_of (head_lines (full_playlist v))
    ++ (skips_by kind v n
    ++ (text_of (flat_map segment_lines (printed leads pieces.finished))
    ++ (text_of (open_lines (open_of (length (asked v).window.window == 0) pieces.unfinished))
    ++ (text_of (map RenditionReport (reports_of v))
    ++ line_text (last_line (hint_of (asked v).window))))))

-- lines of date ranges, one line and what comes after it
together : (ranges line more : List ℕ) → (ranges ++ line) ++ more ≡ ranges ++ ((line ++ []) ++ more)
together ranges line more = append_assoc ranges line more ∙ ap (λ t. ranges ++ (t ++ more)) (sym (append-nil line))

pub spelled : (kind : SkipKind) (v : Seen) (n : ℕ) → text_by (n == 0) (pieces_from n v) kind v n ≡ spelling (delta_by kind n v)
spelled kind v zero = sym (spelling_texts (full_playlist v))
spelled kind v (suc n) =
    let head = text_of (head_lines (full_playlist v)) in
    let ranges = text_of (map DateRange (map range_line (ranges_left kind (asked v)))) in
    let line = line_text (Skipped (record { count = suc n; removed = ids_removed kind (asked v) })) in
    ap (λ leads. text_by leads (pieces_from (suc n) v) kind v (suc n)) (after n)
    ∙ ap (λ t. head ++ t) (together ranges line _) ∙ sym (spelling_texts (delta_by kind (suc n) v))
