-- The reading after lines, one after another, without their numbers: reading their text gives the same.
use Rattle.std.proofs.Common.{◌≡◌, ℕ, ◌+◌, Bool, true, false, List, [], ◌∷◌, ◌++◌, refl, ap, sym, ◌∙◌, Option, Some, None, Ok}
use Rattle.std.specs.Option.{option_map}
use Rattle.ll_attr.specs.Words.{pieces_at}
use Rattle.ll_line.specs.Formats as format
use Rattle.ll_line.specs.Line.{Line}
use Rattle.ll_line.specs.Text.{text_of}
use Rattle.ll_line.specs.Playlist.{Playlist}
use Rattle.ll_read.specs.Readable.{Each}
use Rattle.ll_read.specs.Reading.{Reading, text_ended, next, next_line, read_from}
use Rattle.ll_read.specs.Shape.{only_if}
use Rattle.ll_read.specs.declared.shape.Shape.{Shape}
use Rattle.ll_read.specs.declared.shape.Stage.{Stage}
use Rattle.ll_read.specs.declared.shape.Stage.TheVariants.{AtEnd}
use Rattle.ll_line.proofs.LineLaws.{line-laws}
use Rattle.ll_read.proofs.Onward.{goes_on}
use Rattle.ll_read.proofs.WholeLines.{cut, kept, with_end}

-- a line without its end
abbrev pub spelled : Line → List ℕ
spelled l = format.line.print l

abbrev pub whole_at : Stage → Playlist → Option Playlist
whole_at AtEnd p = Some p
whole_at stage p = None

abbrev pub come : Option Reading → List Line → Option Playlist
come None lines = None
come (Some r) [] = whole_at r.shape.stage r.draft.playlist
come (Some r) (line ∷ more) = come (next r line) more

-- a line that is allowed only under a condition
pub allowed : (b : Bool) (o : Option Shape) (f : Shape → Reading) (more : List Line) (p : Playlist) → come (option_map f (only_if b o)) more ≡ Some p
    → (b ≡ true) × (come (option_map f o) more ≡ Some p)
allowed true o f more p h = (refl, h)
allowed false o f more p h = absurd (cc)

pub allows : (b : Bool) (o : Option Shape) (f : Shape → Reading) (more : List Line) → b ≡ true → come (option_map f (only_if b o)) more ≡ come (option_map f o) more
allows b o f more h = ap (λ x. come (option_map f (only_if x o)) more) h

ends : (n : ℕ) (stage : Stage) (q p : Playlist) → whole_at stage q ≡ Some p → text_ended n stage q ≡ Ok p
ends n AtEnd q p h = ap Ok (cc)
ends n stage q p h = absurd (cc)

-- reading from a line on, by the reading after that line
from_line : (n : ℕ) (r : Reading) (line : Line) (more : List Line) (o : Option Reading) (p : Playlist) → format.line.Within line → next r line ≡ o
    → come o more ≡ Some p
    → ((q : Reading) → come (Some q) more ≡ Some p → read_from (n + 1) q (pieces_at 10 (text_of more)) ≡ Ok p)
    → read_from n r (pieces_at 10 (text_of (line ∷ more))) ≡ Ok p
from_line n r line more None p within e h rest = absurd (cc)
from_line n r line more (Some q) p within e h rest =
    let text = spelled line in
    let whole = text_of (line ∷ more) in
    let one_line = line-laws.inside line within in
    let below = ap (λ t. pieces_at 10 (t ++ text_of more)) (with_end line) ∙ cut text (text_of more) one_line in
    let comes = ap (next_line r) (line-laws.again line within) ∙ e in
    sym (goes_on n r (Some q) whole text text (text_of more) (read_from n r (pieces_at 10 whole)) below (kept text one_line) comes refl) ∙ rest q h

-- lines that make up a whole playlist are read as it
pub read : (lines : List Line) (n : ℕ) (r : Reading) (p : Playlist) → Each format.line.Within lines → come (Some r) lines ≡ Some p
    → read_from n r (pieces_at 10 (text_of lines)) ≡ Ok p
read [] n r p are h = ends n r.shape.stage r.draft.playlist p h
read (line ∷ more) n r p are h = from_line n r line more (next r line) p are.0 refl h (λ q g. read more (n + 1) q p are.1 g)
