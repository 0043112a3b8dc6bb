-- What is kept of each rendition is made in turn.
use Rattle.std.proofs.Common.{◌≡◌, ◌++◌, [], drop}
use Rattle.std.specs.Arc.{arc_value}
use Rattle.ll_pieces.specs.View.{renditions, renditions_from}
use Rattle.ll_presentation.proofs.presentation.no_items.Given as goal

-- those so far and those of the names that are left are all of them
abbrev pub invariant-loop-name : goal.invariant-loop-name
invariant-loop-name l =
    l.renditions.items ++ renditions_from (arc_value l.settings) [] l.name-index (drop l.name-index l.names) ≡ renditions (arc_value l.settings) []
