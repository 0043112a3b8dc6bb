-- The pieces are of the rows of the view.
use Rattle.ll_pieces.proofs.PieceLemmas.{all-finished, one-open, all-pieces}
use Rattle.ll_pieces.proofs.pieces.Pieces.of.Goals as goal

pub invariant_of-result : goal.invariant_of-result
invariant_of-result c = ((all-finished _ _ c.in_ok-finished_of.ensures).1, (one-open _ _ c.in_ok-unfinished_of.ensures).1)

pub returns : goal.returns
returns c = all-pieces _ _ c.args.skipped _ _ c.in_ok-finished_of.ensures c.in_ok-unfinished_of.ensures c.window-window.ensures
