-- The pieces that are left and the newer ones are finished.
use Rattle.std.specs.Arc.{arc_value}
use Rattle.ll_pieces.proofs.PieceLemmas.{first-finished}
use Rattle.ll_pieces.proofs.pieces.Pieces.renew.Goals as goal

pub invariant_of-self-2 : goal.invariant_of-self-2
invariant_of-self-2 c =
    (c.join.ensures (first-finished arc_value c.in-Some.place c.self.inside.finished.items _ c.truncate.ensures.items c.self.invariant.0) c.newer.invariant.0, c.newer.invariant.1)
