-- The lines of date ranges with distinct ids, and a skip line, are read as those date ranges and that skip.
use Rattle.std.proofs.Common.{◌≡◌, ℕ, ◌||◌, ◌≤◌, true, false, not, List, [], ◌∷◌, ◌++◌, map, refl, ap, sym, ◌∙◌, append_assoc, Option, Some, None, is_none, nat_le, bytes_eq}
use Rattle.std.proofs.lemmas.Bool.{and_parts, or_parts, or_from, not-true, not_from_false, both_ways, false_from_ne_true, le-leb}
use Rattle.std.proofs.lemmas.List.{append-nil}
use Rattle.std.proofs.lemmas.List.Folds.{list_any-append}
use Rattle.std.proofs.lemmas.Slice.Eq.{bytes_eq-Decides}
use Rattle.ll_line.specs.Line.{DateRange, DateRangeLine, Line, Skip}
use Rattle.ll_line.specs.Playlist.{Playlist}
use Rattle.ll_line.specs.Spelling.{skip_lines}
use Rattle.ll_read.specs.Ranges.{has_id}
use Rattle.ll_format.specs.Format.{Where}
use Rattle.ll_read.specs.Readable.{are_distinct}
use Rattle.ll_read.specs.Draft.{plain}
use Rattle.ll_read.specs.Reading.{at}
use Rattle.ll_read.specs.Shape.{after_skip}
use Rattle.ll_read.specs.declared.shape.Stage.TheVariants.{InRanges}
use Rattle.ll_read.proofs.Comes.{allows, come}
use Rattle.ll_read.proofs.ComesInside.{between, from}

pub other_way : (a b : List ℕ) → bytes_eq a b ≡ false → bytes_eq b a ≡ false
other_way a b h =
    false_from_ne_true (bytes_eq b a) (λ e. both_ways (bytes_eq a b) h ((bytes_eq-Decides a b).1 (sym ((bytes_eq-Decides b a).0 e))))

-- among distinct date ranges none has an id of those before it
is_other : (before : List DateRangeLine) (r : DateRangeLine) (after : List DateRangeLine) → are_distinct (before ++ r ∷ after) ≡ true
    → has_id r.id before ≡ false
is_other [] r after h = refl
is_other (x ∷ xs) r after h =
    let both = and_parts (not (has_id x.id (xs ++ r ∷ after))) (are_distinct (xs ++ r ∷ after)) h in
    let none : (has_id x.id xs || has_id x.id (r ∷ after)) ≡ false =
    sym (list_any-append (λ (range : DateRangeLine). bytes_eq x.id range.id) xs (r ∷ after)) ∙ not-true (has_id x.id (xs ++ r ∷ after)) both.0 in
    let apart = or_parts (bytes_eq x.id r.id) (has_id x.id after) (or_parts (has_id x.id xs) (has_id x.id (r ∷ after)) none).1 in
    or_from (bytes_eq r.id x.id) (has_id r.id xs) (other_way x.id r.id apart.0) (is_other xs r after both.1)

pub ranges : (rs : List DateRangeLine) (p : Playlist) (more : List Line) → are_distinct (p.ranges ++ rs) ≡ true
    → come (from InRanges true (plain p)) (map DateRange rs ++ more) ≡ come (from InRanges true (plain (record p { ranges = p.ranges ++ rs }))) more
ranges [] p more h = ap (λ rs. come (from InRanges true (plain (record p { ranges = rs }))) more) (sym (append-nil p.ranges))
ranges (r ∷ rs) p more h =
    let after : Playlist = record p { ranges = p.ranges ++ r ∷ [] } in
    let new = not_from_false (has_id r.id p.ranges) (is_other p.ranges r rs h) in
    allows (not (has_id r.id p.ranges)) (Some (record { stage = InRanges; may_end = true })) (λ s. at s (plain after)) (map DateRange rs ++ more) new
    ∙ ranges rs after more (ap are_distinct (append_assoc p.ranges (r ∷ []) rs) ∙ h)
    ∙ ap (λ all. come (from InRanges true (plain (record p { ranges = all }))) more) (append_assoc p.ranges (r ∷ []) rs)

pub skip : (o : Option Skip) (p : Playlist) (more : List Line) → Where (λ (s : Skip). 1 ≤ s.count) o
    → come (from InRanges true (plain (record p { skipped = None }))) (skip_lines o ++ more)
    ≡ come (from (between (is_none o)) (is_none o) (plain (record p { skipped = o }))) more
skip None p more can = refl
skip (Some s) p more can =
    allows (nat_le 1 s.count) (Some after_skip) (λ t. at t (plain (record p { skipped = Some s }))) more (le-leb 1 s.count can)
