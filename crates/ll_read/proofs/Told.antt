-- The lines of a text that spells a playlist: they make it up, and its texts and outline are theirs.
use Rattle.std.proofs.Common.{◌≡◌, ℕ, ◌+◌, List, [], ◌∷◌, ◌++◌, refl, ap, sym, ◌∙◌, append_assoc, Option, Some, None, Result, Ok, Err, if◌then◌else◌}
use Rattle.std.specs.Str.Lines.{strip_carriage_return}
use Rattle.ll_line.specs.Formats as format
use Rattle.ll_line.specs.Formats.{line_in}
use Rattle.ll_line.specs.Line.{Line}
use Rattle.ll_line.specs.Text.{text_of}
use Rattle.ll_line.specs.Playlist.{Playlist}
use Rattle.ll_read.specs.Outlined.{outline_from, with_line, with_read}
use Rattle.ll_read.specs.Readable.{Each}
use Rattle.ll_read.specs.Reading.{Reading, and_then, text_ended, is_empty, line_feeds_of, next_line, read_from}
use Rattle.ll_read.specs.declared.fault.ReadFault.{ReadFault}
use Rattle.ll_read.specs.declared.fault.ReadFault.TheVariants.{BadLine}
use Rattle.ll_read.specs.declared.outline.Outline.{Outline}
use Rattle.ll_read.specs.declared.shape.Stage.{Stage}
use Rattle.ll_read.specs.declared.shape.Stage.TheVariants.{AtEnd}
use Rattle.ll_line.proofs.LineLaws.{line-laws}
use Rattle.ll_read.proofs.Comes.{come, spelled, whole_at}
use Rattle.ll_read.proofs.WholeLines.{with_end}

abbrev pub outline_with : Outline → List Line → Outline
outline_with o [] = o
outline_with o (line ∷ more) = outline_with (with_line line o) more

abbrev pub IsTold : List (List ℕ) → List Line → Type 0
IsTold parts lines =
    (text_of lines ≡ line_feeds_of parts) × Each format.line.Within lines × ((o : Outline) → outline_from o parts ≡ outline_with o lines)

abbrev Told : Reading → List (List ℕ) → Playlist → Type 0
Told r parts p = (lines : List Line) × (come (Some r) lines ≡ Some p) × IsTold parts lines

whole : (n : ℕ) (stage : Stage) (q p : Playlist) → text_ended n stage q ≡ Ok p → whole_at stage q ≡ Some p
whole n AtEnd q p h = ap Some (cc)
whole n stage q p h = absurd (cc)

last_told : (n : ℕ) (r : Reading) (rest : List ℕ) (p : Playlist) → (if is_empty rest then text_ended n r.shape.stage r.draft.playlist else Err (BadLine n)) ≡ Ok p
    → Told r (rest ∷ []) p
last_told n r [] p h = ([], whole n r.shape.stage r.draft.playlist p h, (refl, tt, λ o. refl))
last_told n r (b ∷ bs) p h = absurd (cc)

line_told : (n : ℕ) (r : Reading) (raw below : List ℕ) (parts : List (List ℕ)) (found : Option Line) (o : Option Reading) (more : Reading → Result Playlist ReadFault)
    (p : Playlist) → line_in (strip_carriage_return raw) ≡ found → next_line r found ≡ o → and_then n o more ≡ Ok p
    → ((q : Reading) → more q ≡ Ok p → Told q (below ∷ parts) p) → Told r (raw ∷ below ∷ parts) p
line_told n r raw below parts found None more p f e h rest = absurd (cc)
line_told n r raw below parts None (Some q) more p f e h rest = absurd (cc)
line_told n r raw below parts (Some line) (Some q) more p f e h rest =
    let t = rest q h in
    let told = t.2 in
    let text = strip_carriage_return raw in
    let is = line-laws.takes text line f in
    let spelt = ap (λ x. x ++ text_of t.0) (with_end line) ∙ append_assoc (spelled line) (10 ∷ []) (text_of t.0)
    ∙ ap (λ x. x ++ (10 ∷ text_of t.0)) (sym is.0) ∙ ap (λ x. text ++ (10 ∷ x)) told.0 in
    let outlined = λ (u : Outline). ap (λ (x : Option Line). outline_from (with_read x u) (below ∷ parts)) f ∙ told.2 (with_line line u) in
    (line ∷ t.0, ap (λ x. come x t.0) e ∙ t.1, (spelt, (is.1, told.1), outlined))

pub told : (n : ℕ) (r : Reading) (parts : List (List ℕ)) (p : Playlist) → read_from n r parts ≡ Ok p → Told r parts p
told n r [] p h = ([], whole n r.shape.stage r.draft.playlist p h, (refl, tt, λ o. refl))
told n r (rest ∷ []) p h = last_told n r rest p h
told n r (raw ∷ below ∷ parts) p h =
    let text = strip_carriage_return raw in
    line_told n r raw below parts (line_in text) (next_line r (line_in text)) (λ q. read_from (n + 1) q (below ∷ parts)) p refl refl h
    (λ q g. told (n + 1) q (below ∷ parts) p g)
