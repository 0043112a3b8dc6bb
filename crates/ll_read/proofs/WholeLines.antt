-- A line's text holds no CR or LF, and is cut off at the LF after it.
use Rattle.std.proofs.Common.{◌≡◌, ◌≢◌, ℕ, ◌==◌, ◌||◌, true, false, List, [], ◌∷◌, ◌++◌, refl, ap, sym, ◌∙◌, append_assoc}
use Rattle.std.proofs.lemmas.Bool.{and_parts, not-true, or_parts}
use Rattle.std.proofs.lemmas.List.Elements.{All-from_recursion}
use Rattle.std.proofs.lemmas.List.Folds.{list_all-append}
use Rattle.std.proofs.lemmas.List.Splits.{slice_split_at}
use Rattle.std.specs.List.{AllByRecursion}
use Rattle.std.specs.Str.Lines.{strip_carriage_return}
use Rattle.ll_attr.specs.Words.{pieces_at}
use Rattle.ll_format.specs.Words.{is_line_byte, is_one_line}
use Rattle.ll_line.specs.Formats.{line}
use Rattle.ll_line.specs.Line.{Line}
use Rattle.ll_line.specs.Text.{line_text}
use Rattle.ll_read.proofs.Ends as ends

no_feed : (text : List ℕ) → is_one_line text ≡ true → AllByRecursion (λ b. (b == 10) ≡ false) text
no_feed [] h = tt
no_feed (b ∷ bs) h =
    let p = and_parts (is_line_byte b) (is_one_line bs) h in
    ((or_parts (b == 13) (b == 10) (not-true (b == 13 || b == 10) p.0)).1, no_feed bs p.1)

no_return : (text before : List ℕ) → is_one_line text ≡ true → text ≢ before ++ (13 ∷ [])
no_return text before h e =
    let last = (and_parts (is_one_line before) (is_one_line (13 ∷ [])) (sym (list_all-append is_line_byte before (13 ∷ [])) ∙ sym (ap is_one_line e) ∙ h)).1 in
    absurd cc

pub kept : (text : List ℕ) → is_one_line text ≡ true → text ≡ strip_carriage_return text
kept text h = ends.kept text (λ before. no_return text before h)

pub cut : (text more : List ℕ) → is_one_line text ≡ true → pieces_at 10 ((text ++ 10 ∷ []) ++ more) ≡ text ∷ pieces_at 10 more
cut text more h =
    ap (pieces_at 10) (append_assoc text (10 ∷ []) more)
    ∙ slice_split_at (λ b. b == 10) text 10 more (All-from_recursion (λ b. (b == 10) ≡ false) text (no_feed text h)) refl

-- a line's text is its spelling and LF
pub with_end : (l : Line) → line_text l ≡ line.print l ++ 10 ∷ []
unfolding line_text
with_end l = refl
