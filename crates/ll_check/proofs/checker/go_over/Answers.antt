-- Between chunks three lines come next, and inside of one a line.
use Rattle.std.proofs.Common.{rules, sym, subst, ◌∙◌}
use Rattle.ll_check.proofs.Places.{between-only, inside-only}
use Rattle.ll_check.specs.Found.{IsAt}
use Rattle.ll_entry.specs.Chain.{Chain, Inside}
use Rattle.ll_check.proofs.checker.go_over.Goals as goal

pub returns-then-not-is_inside-clause-right : goal.returns-then-not-is_inside-clause-right
returns-then-not-is_inside-clause-right c =
    between-only _ c.args.chain.now (sym c.is_inside.ensures ∙ c.if-not-is_inside.true) c.begin.ensures.right

pub returns-then-not-is_inside-clause-wrong : goal.returns-then-not-is_inside-clause-wrong
returns-then-not-is_inside-clause-wrong c =
    between-only _ c.args.chain.now (sym c.is_inside.ensures ∙ c.if-not-is_inside.true) c.begin.ensures.wrong

pub returns-clause-right : goal.returns-clause-right
returns-clause-right c p more there =
    let fact = λ (ch : Chain). c.go_on.ensures.right ch more in
    search (rules, fact)

pub returns-clause-wrong : goal.returns-clause-wrong
returns-clause-wrong c =
    inside-only _ c.args.chain.now (sym c.is_inside.ensures ∙ c.if-not-is_inside.false)
    (λ ch more here. c.go_on.ensures.wrong ch more (subst (λ k. IsAt k (Inside ch)) c.in-Some.is here))
