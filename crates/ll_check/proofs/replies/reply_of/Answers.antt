-- What is said of a line holds of the text that it begins.
use Rattle.std.proofs.Common.{◌≡◌, ◌≢◌, ◌++◌, IfErr, Some, subst, sym}
use Rattle.ll_check.proofs.ReplyLemmas.{reply-in}
use Rattle.ll_entry.specs.Chain.{Inside, checked_from, wrong}
use Rattle.ll_entry.specs.declared.fault.CheckKind.TheVariants.{Memory}
use Rattle.ll_check.proofs.replies.reply_of.Goals as goal

pub returns-clause-right : goal.returns-clause-right
returns-clause-right c ch more of =
    reply-in c.args.chain.now c.reply_in.new.chain ch c.args.text.now more c.in-Some.line.now c.in-Some._rest.now c.reply_in.result (c.in-Some.ensures.parts more)
    (c.reply_in.ensures.right ch (c.in-Some._rest.now ++ more) of)

pub returns-clause-wrong : goal.returns-clause-wrong
returns-clause-wrong c ch more of =
    subst (λ l. IfErr c.reply_in.result (λ k. k ≢ Memory → checked_from (Inside ch) l ≡ wrong (Some ch) k)) (sym (c.in-Some.ensures.parts more))
    (c.reply_in.ensures.wrong ch (c.in-Some._rest.now ++ more) of)
