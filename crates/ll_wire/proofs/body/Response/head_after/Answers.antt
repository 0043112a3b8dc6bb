-- Once the head was passed, what follows lies in the body.
use Rattle.std.proofs.Common.{◌≡◌, ◌+◌, length, arith}
use Rattle.ll_wire.specs.Parts.{shared_bytes}
use Rattle.ll_wire.proofs.BlockLemmas.{past_head}
use Rattle.ll_wire.proofs.body.Response.head_after.Goals as goal

pub returns-in-Some-clause-rest : goal.returns-in-Some-clause-rest
returns-in-Some-clause-rest c =
    let m = c.args.self.now in
    let known = c.in-Some.ensures in
    let over : length m.head.items + c.in-Some.sent ≡ c.args.n = omega (arith, known.0, known.1, c.len.ensures, m.head.ok) in
    past_head m.head.items (shared_bytes m.body) c.args.n c.in-Some.sent over
