-- The lines after all segments, with those of an open segment before them if there is one, are read up to the playlist's end.
use Rattle.std.proofs.Common.{◌≡◌, ℕ, Bool, true, false, List, [], ◌∷◌, ◌++◌, map, refl, ap, sym, ◌∙◌, append_assoc, Option, Some, None}
use Rattle.std.proofs.lemmas.List.{append-nil}
use Rattle.ll_format.specs.Format.{Where}
use Rattle.ll_line.specs.Line.{Line, RenditionReport, Report}
use Rattle.ll_line.specs.Playlist.{Block, Playlist}
use Rattle.ll_line.specs.Spelling.{last_line, open_lines}
use Rattle.ll_read.specs.Draft.{plain}
use Rattle.ll_read.specs.Readable.{IsReadableOpen}
use Rattle.ll_read.specs.Reading.{Reading}
use Rattle.ll_read.specs.declared.shape.Stage.TheVariants.{InParts, InReports}
use Rattle.ll_read.proofs.Comes.{come}
use Rattle.ll_read.proofs.ComesInside.{between, block, from, in_segment}
use Rattle.ll_read.proofs.SoFar.{in_block}

-- reports of other renditions and the last line
abbrev pub end_lines : List Report → Option (List ℕ) → List Line
end_lines rs hint = map RenditionReport rs ++ last_line hint ∷ []

from_reports : (rs : List Report) (hint : Option (List ℕ)) (p : Playlist)
    → come (from InReports true (plain (record p { hint = None }))) (end_lines rs hint) ≡ Some (record p { reports = p.reports ++ rs; hint = hint })
from_reports [] None p = ap (λ rs. let q : Playlist = record p { reports = rs; hint = None } in Some q) (sym (append-nil p.reports))
from_reports [] (Some uri) p = ap (λ rs. let q : Playlist = record p { reports = rs; hint = Some uri } in Some q) (sym (append-nil p.reports))
from_reports (r ∷ rs) hint p =
    from_reports rs hint (record p { reports = p.reports ++ r ∷ [] })
    ∙ ap (λ all. let q : Playlist = record p { reports = all; hint = hint } in Some q) (append_assoc p.reports (r ∷ []) rs)

-- the places where all segments end: with an open one, or between two
abbrev end_at : Bool → Option Block → Playlist → Option Reading
end_at leading None p = from (between leading) true (plain p)
end_at leading (Some b) p = from InParts true (in_block b p)

from_end : (leading : Bool) (o : Option Block) (rs : List Report) (hint : Option (List ℕ)) (p : Playlist)
    → come (end_at leading o (record p { open_block = None; reports = []; hint = None })) (end_lines rs hint) ≡ Some (record p { open_block = o; reports = rs; hint = hint })
from_end true None [] None p = refl
from_end true None [] (Some uri) p = refl
from_end true None (r ∷ rs) hint p = from_reports rs hint (record p { open_block = None; reports = r ∷ [] })
from_end false None [] None p = refl
from_end false None [] (Some uri) p = refl
from_end false None (r ∷ rs) hint p = from_reports rs hint (record p { open_block = None; reports = r ∷ [] })
from_end leading (Some b) [] None p = refl
from_end leading (Some b) [] (Some uri) p = refl
from_end leading (Some b) (r ∷ rs) hint p = from_reports rs hint (record p { open_block = Some b; reports = r ∷ [] })

pub to_end : (leading : Bool) (o : Option Block) (rs : List Report) (hint : Option (List ℕ)) (p : Playlist) → Where (IsReadableOpen leading) o
    → come (from (between leading) true (plain (record p { open_block = None; reports = []; hint = None }))) (open_lines o ++ end_lines rs hint)
    ≡ Some (record p { open_block = o; reports = rs; hint = hint })
to_end leading None rs hint p can = from_end leading None rs hint p
to_end leading (Some b) rs hint p can =
    let here : Playlist = record p { open_block = None; reports = []; hint = None } in
    block leading true b here (end_lines rs hint) can.map
    ∙ ap (λ x. come (from (in_segment x) true (in_block b here)) (end_lines rs hint)) can.some_part
    ∙ from_end leading (Some b) rs hint p
