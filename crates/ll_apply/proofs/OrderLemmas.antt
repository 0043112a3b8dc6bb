-- Segments written one after another, with the map in force carried along, are those of the definition: with their maps in force
-- and then MAP lines by the rule.
use Rattle.std.proofs.Common.{◌≡◌, ℕ, zero, suc, List, [], ◌∷◌, ◌++◌, Bool, true, false, ◌||◌, map, take, drop, flat_map, Option, Some, None, refl, ap, sym, ◌∙◌, append_assoc}
use Rattle.ll_line.specs.Playlist.{Finished}
use Rattle.ll_line.specs.Spelling.{segment_lines}
use Rattle.ll_apply.specs.Applied.{in_force, mapped, or_else, unless_broken, with_map, without_parts}
use Rattle.ll_apply.specs.Order.{force_after, lines_from, map_if}

unless-map : (b : Bool) (uri : Option (List ℕ)) (s : Finished) → unless_broken b (with_map uri s) ≡ with_map (map_if b uri) s
unless-map true uri s = refl
unless-map false uri s = refl

later : (before : Option (List ℕ)) (ss : List Finished)
    → flat_map segment_lines (map (λ t. unless_broken t.block.broken t) (in_force before ss)) ≡ lines_from false before ss
later before [] = refl
later before (s ∷ more) =
    let uri = or_else s.block.map before in
    ap (λ t. segment_lines t ++ flat_map segment_lines (map (λ t. unless_broken t.block.broken t) (in_force uri more))) (unless-map s.block.broken uri s)
    ∙ ap (λ text. segment_lines (with_map (map_if s.block.broken uri) s) ++ text) (later uri more)

-- the lines of segments that have MAP lines by the rule
pub mapped-lines : (before : Option (List ℕ)) (ss : List Finished) → flat_map segment_lines (mapped (in_force before ss)) ≡ lines_from true before ss
mapped-lines before [] = refl
mapped-lines before (s ∷ more) =
    let uri = or_else s.block.map before in
    ap (λ text. segment_lines (with_map uri s) ++ text) (later uri more)

-- segments and then others
pub lines-more : (leads : Bool) (before : Option (List ℕ)) (s : Finished) (ss rest : List Finished)
    → lines_from leads before ((s ∷ ss) ++ rest) ≡ lines_from leads before (s ∷ ss) ++ lines_from false (force_after before (s ∷ ss)) rest
lines-more leads before s [] rest = sym (append_assoc _ [] (lines_from false (or_else s.block.map before) rest))
lines-more leads before s (t ∷ ss) rest =
    let uri = or_else s.block.map before in
    let line = segment_lines (with_map (map_if (leads || s.block.broken) uri) s) in
    ap (λ text. line ++ text) (lines-more false uri t ss rest) ∙ sym (append_assoc line (lines_from false uri (t ∷ ss)) (lines_from false (force_after uri (t ∷ ss)) rest))

twice : (own before : Option (List ℕ)) → or_else (or_else own before) before ≡ or_else own before
twice None None = refl
twice None (Some uri) = refl
twice (Some uri) before = refl

once : (own before : Option (List ℕ)) → or_else (or_else own before) None ≡ or_else own before
once None None = refl
once None (Some uri) = refl
once (Some uri) before = refl

-- segments that have their maps in force already
in-force-again : (leads : Bool) (before : Option (List ℕ)) (ss rest : List Finished)
    → lines_from leads before (map without_parts (in_force before ss) ++ rest) ≡ lines_from leads before (map without_parts ss ++ rest)
in-force-again leads before [] rest = refl
in-force-again leads before (s ∷ ss) rest =
    let uri = or_else s.block.map before in
    let line = segment_lines (with_map (map_if (leads || s.block.broken) uri) (without_parts s)) in
    ap (λ u. segment_lines (with_map (map_if (leads || s.block.broken) u) (without_parts s)) ++ lines_from false u (map without_parts (in_force uri ss) ++ rest)) (twice s.block.map before)
    ∙ ap (λ text. line ++ text) (in-force-again false uri ss rest)

pub in-force-first : (leads : Bool) (before : Option (List ℕ)) (s : Finished) (ss rest : List Finished)
    → lines_from leads None (map without_parts (in_force before (s ∷ ss)) ++ rest) ≡ lines_from leads before (map without_parts (s ∷ ss) ++ rest)
in-force-first leads before s ss rest =
    let uri = or_else s.block.map before in
    let line = segment_lines (with_map (map_if (leads || s.block.broken) uri) (without_parts s)) in
    ap (λ u. segment_lines (with_map (map_if (leads || s.block.broken) u) (without_parts s)) ++ lines_from false u (map without_parts (in_force uri ss) ++ rest)) (once s.block.map before)
    ∙ ap (λ text. line ++ text) (in-force-again false uri ss rest)

-- the maps in force at some of these segments
pub drop-in-force : (n : ℕ) (before : Option (List ℕ)) (ss : List Finished) → drop n (in_force before ss) ≡ in_force (force_after before (take n ss)) (drop n ss)
drop-in-force zero before ss = refl
drop-in-force (suc n) before [] = refl
drop-in-force (suc n) before (s ∷ ss) = drop-in-force n (or_else s.block.map before) ss

pub take-in-force : (n : ℕ) (before : Option (List ℕ)) (ss : List Finished) → take n (in_force before ss) ≡ in_force before (take n ss)
take-in-force zero before ss = refl
take-in-force (suc n) before [] = refl
take-in-force (suc n) before (s ∷ ss) = ap (λ ts. with_map (or_else s.block.map before) s ∷ ts) (take-in-force n (or_else s.block.map before) ss)

-- a map in force is that of the segments without their parts
pub force-without : (before : Option (List ℕ)) (ss : List Finished) → force_after before (map without_parts ss) ≡ force_after before ss
force-without before [] = refl
force-without before (s ∷ ss) = force-without (or_else s.block.map before) ss
