-- What the lines left of a text add to an outline.
use Rattle.std.proofs.Common.{◌≡◌, ℕ, ◌+◌, ◌≤◌, ◌<◌, List, [], ◌∷◌, length, refl, ap, sym, ◌∙◌, arith, Option, Some, None}
use Rattle.std.specs.Str.Lines.{strip_carriage_return}
use Rattle.ll_attr.specs.Words.{pieces_at}
use Rattle.ll_line.specs.Formats.{line_in}
use Rattle.ll_line.specs.Line.{Line, Uri}
use Rattle.ll_read.specs.Outlined.{outline_from, with_read}
use Rattle.ll_read.specs.declared.outline.Outline.{Outline}
use Rattle.ll_read.proofs.Onward.{some_parts}

pub one_at_most : (o : Option Line) (u : Outline) → (with_read o u).segments ≤ u.segments + 1
one_at_most None u = omega arith
one_at_most (Some (Uri uri)) u = omega arith
one_at_most (Some line) u = omega arith

line_read : (o : Outline) (line : List ℕ) (ps : List (List ℕ)) → 0 < length ps → outline_from o (line ∷ ps) ≡ outline_from (with_read (line_in (strip_carriage_return line)) o) ps
line_read o line [] some = absurd (omega arith)
line_read o line (p ∷ ps) some = refl

-- one line more, and what is left
pub line_more : (o : Outline) (rest line shown below : List ℕ) (found : Option Line) (whole : Outline) → pieces_at 10 rest ≡ line ∷ pieces_at 10 below
    → shown ≡ strip_carriage_return line → found ≡ line_in shown → outline_from o (pieces_at 10 rest) ≡ whole → outline_from (with_read found o) (pieces_at 10 below) ≡ whole
line_more o rest line shown below found whole e s is h =
    ap (λ x. outline_from (with_read x o) (pieces_at 10 below)) (is ∙ ap line_in s) ∙ sym (line_read o line (pieces_at 10 below) (some_parts below))
    ∙ ap (outline_from o) (sym e) ∙ h
