-- A fault at a byte is one of the whole script, of which the rest of the piece comes next.
use Rattle.std.proofs.Common.{◌+◌, ◌++◌, take, drop}
use Rattle.ll_replay.proofs.RunLemmas.{IfErr-handed, IsCutAt-in_piece}
use Rattle.ll_replay.proofs.stream.Stream.feed.Goals as goal

pub returns-in_err-byte-clause-cut : goal.returns-in_err-byte-clause-cut
returns-in_err-byte-clause-cut g c =
    IfErr-handed _ c.from_residual.result c.in_err-byte.field-0.0 c.from_residual.ensures.1 (λ bytes base s more.
    IsCutAt-in_piece c.in_err-byte.field-0.0 base _ bytes c.args.piece.now more c.loop-b.b-index c.loop-b-test.true
    (c.in_err-byte.ensures.cut (bytes ++ take c.loop-b.b-index c.args.piece.now) base (c.loop-b.invariant.stands bytes base s)
    (drop (c.loop-b.b-index + 1) c.args.piece.now ++ more)))
