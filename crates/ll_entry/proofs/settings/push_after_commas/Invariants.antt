-- The text so far and the names that are left are the whole text.
use Rattle.std.proofs.Common.{◌≡◌, ◌++◌, ◌∷◌, drop, flat_map, string_bytes}
use Rattle.ll_entry.proofs.settings.push_after_commas.Given as goal

abbrev pub invariant-loop-name : goal.invariant-loop-name
invariant-loop-name l =
    string_bytes l.text ++ flat_map (λ name. 44 ∷ name) (drop l.name-index l.names) ≡ string_bytes l.fn.text ++ flat_map (λ name. 44 ∷ name) l.names
