-- The text so far and the ids that are left are the whole text.
use Rattle.std.proofs.Common.{◌≡◌, ◌++◌, ◌∷◌, drop, flat_map, string_bytes}
use Rattle.ll_line.proofs.skip.push_after_tabs.Given as goal

abbrev pub invariant-loop-id : goal.invariant-loop-id
invariant-loop-id l =
    string_bytes l.text ++ flat_map (λ id. 9 ∷ id) (drop l.id-index l.ids) ≡ string_bytes l.fn.text ++ flat_map (λ id. 9 ∷ id) l.ids
