-- The pieces that are left are of the rows that are left.
use Rattle.std.proofs.Common.{arith}
use Rattle.std.specs.Arc.{arc_value}
use Rattle.ll_pieces.proofs.PieceLemmas.{still-finished, last-pieces}
use Rattle.ll_pieces.proofs.pieces.Pieces.keep_last.Goals as goal

pub invariant_of-self : goal.invariant_of-self
invariant_of-self c =
    ((still-finished arc_value c.saturating_sub-gone.result c.self.inside.finished.items _ c.drop_first.ensures c.self.invariant.0).1, c.self.invariant.1)

pub returns : goal.returns
returns c =
    last-pieces arc_value c.saturating_sub-gone.result c.args.count c.self.inside.finished.items _ _ _ c.self.view_is c.self.invariant.0 c.drop_first.ensures (omega arith)
