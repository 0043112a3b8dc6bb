-- The segments of a delta update, applied to an earlier playlist, are those of the later playlist.
use Rattle.std.proofs.Common.{◌≡◌, ℕ, suc, ◌+◌, ◌-◌, ◌≤◌, List, ◌++◌, true, false, map, take, drop, length, None, ap, sym, ◌∙◌, arith}
use Rattle.std.proofs.lemmas.List.{take-map, drop-map}
use Rattle.ll_window.specs.Rows.{Row}
use Rattle.ll_window.specs.Window.{window, listed, skipped_in}
use Rattle.ll_pieces.specs.Segments.{finished_of, printed}
use Rattle.ll_apply.specs.Applied.{in_force, mapped, without_parts}
use Rattle.ll_laws.proofs.MapLemmas.{AreCounted, led, counted-window, counted-listed, in_force-printed, in_force-after, mapped-led, without_parts-led}
use Rattle.ll_laws.proofs.RowLemmas.{left, window-drop, skipped-within, skipped-bare, kept-rows}

-- what is skipped stands in the first segments, where none of the others is
pub within : (limit least b k : ℕ) (rs ss : List Row) → skipped_in limit b ss ≡ 0 → skipped_in limit b (window least (rs ++ ss)) ≡ suc k
    → left least (rs ++ ss) + suc k ≤ length rs
within limit least b k rs ss none some =
    let some' = ap (skipped_in limit b) (sym (window-drop least (rs ++ ss))) ∙ some in
    let i = skipped-within limit b (left least (rs ++ ss)) rs ss none (omega (arith, some')) in
    omega (arith, i, some')

-- the first segments had another time of open parts after them, and now the others stand after them too
pub segments-law : (near limit least a b maps k : ℕ) (rs ss : List Row) → near ≤ limit → AreCounted maps rs → AreCounted maps (rs ++ ss)
    → skipped_in limit b ss ≡ 0 → skipped_in limit b (window least (rs ++ ss)) ≡ suc k
    → mapped (in_force None (map without_parts (take (suc k) (drop (left least (rs ++ ss) - left least rs) (in_force None (printed true (listed near a (window least rs))))))
    ++ printed false (drop (suc k) (listed near b (window least (rs ++ ss))))))
    ≡ printed true (listed near b (window least (rs ++ ss)))
segments-law near limit least a b maps k rs ss low before after none some =
    let i = left least (rs ++ ss) - left least rs in
    let earlier = listed near a (window least rs) in
    let later = listed near b (window least (rs ++ ss)) in
    let m = counted-window least maps rs before in
    let n = counted-window least maps (rs ++ ss) after in
    ap (λ xs. mapped (in_force None (xs ++ printed false (drop (suc k) later))))
    (ap (λ xs. map without_parts (take (suc k) (drop i xs))) (in_force-printed m.0 earlier (counted-listed near a m.0 (window least rs) m.1))
    ∙ ap (λ xs. map without_parts (take (suc k) xs)) (drop-map (finished_of true) i earlier)
    ∙ ap (map without_parts) (take-map (finished_of true) (suc k) (drop i earlier))
    ∙ without_parts-led (take (suc k) (drop i earlier))
    ∙ ap led (kept-rows least near a (suc k) rs ss (within limit least b k rs ss none some)
    ∙ (rw some at (skipped-bare near limit b (window least (rs ++ ss)) low))))
    ∙ ap mapped (in_force-after n.0 k later (counted-listed near b n.0 (window least (rs ++ ss)) n.1))
    ∙ mapped-led later
