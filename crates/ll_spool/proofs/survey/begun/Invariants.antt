-- Each rendition so far has the layout of no items.
use Rattle.std.proofs.Common.{◌≡◌, ℕ, List, map, take}
use Rattle.ll_layout.specs.Held.{begun}
use Rattle.ll_spool.proofs.survey.begun.Given as goal

abbrev pub invariant-loop-name : goal.invariant-loop-name
invariant-loop-name l = l.layouts.items ≡ map (λ (n : List ℕ). begun l.settings) (take l._name-index l.names)
