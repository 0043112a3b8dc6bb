-- An entry comes next only inside of a chunk.
use Rattle.std.proofs.Common.{sym, subst, ◌∙◌}
use Rattle.ll_check.proofs.Places.{inside-only, of-inside}
use Rattle.ll_check.specs.Found.{IsAt}
use Rattle.ll_entry.specs.Chain.{Inside}
use Rattle.ll_check.proofs.replies.next_reply.Goals as goal

pub returns-clause-right : goal.returns-clause-right
returns-clause-right c =
    inside-only _ c.args.chain.now (sym c.is_inside.ensures ∙ c.if-not-is_inside.false)
    (λ ch more here. rw c.in-Some.is (c.reply_of.ensures.right ch more (of-inside c.in-Some.chain ch (subst (λ k. IsAt k (Inside ch)) c.in-Some.is here))))

pub returns-clause-wrong : goal.returns-clause-wrong
returns-clause-wrong c =
    inside-only _ c.args.chain.now (sym c.is_inside.ensures ∙ c.if-not-is_inside.false)
    (λ ch more here. c.reply_of.ensures.wrong ch more (of-inside c.in-Some.chain ch (subst (λ k. IsAt k (Inside ch)) c.in-Some.is here)))
