-- The entry after those so far is the one that is looked for.
use Rattle.std.proofs.Common.{◌≡◌, ◌+◌, arith}
use Rattle.ll_check.proofs.GoingLemmas.{looked, wrong-at}
use Rattle.ll_check.specs.Found.{so_far}
use Rattle.ll_entry.specs.Chain.{entries}
use Rattle.ll_check.proofs.going.reply_at.Goals as goal

pub returns-clause-right : goal.returns-clause-right
returns-clause-right c p more there =
    let place : entries (so_far p) + 1 ≡ c.args.entry = omega (arith, c.entries.ensures.value p there, c.if-entries-entry.false) in
    looked c.args.checker.now c.reply.new.self p c.args.entry c.args.text.now more c.reply.result place (c.reply.ensures.right p more there)

pub returns-clause-wrong : goal.returns-clause-wrong
returns-clause-wrong c = wrong-at c.args.checker.now c.args.text.now c.reply.result c.reply.ensures.wrong c.reply.ensures.memory
