-- Three lines, each after the one before.
use Rattle.std.proofs.Common.{arith, ap, length}
use Rattle.ll_check.proofs.LineLemmas.{behind-both, one-more, three-cut}
use Rattle.ll_check.proofs.lines.cut_three.Goals as goal

pub returns-in_err-settings-clause-parts : goal.returns-in_err-settings-clause-parts
returns-in_err-settings-clause-parts c =
    rw (c.from_residual-in_err-settings.ensures) (omega (arith, one-more c.args.bytes.now c.in_ok-first.first.now c.in_ok-first.rest.now 1 c.in_ok-first.ensures.parts (omega (arith, ap (λ ls. length ls) c.in_err-settings.ensures.parts))))

pub returns-in_err-at-clause-parts : goal.returns-in_err-at-clause-parts
returns-in_err-at-clause-parts c =
    rw (c.from_residual-in_err-at.ensures) (one-more c.args.bytes.now c.in_ok-first.first.now c.in_ok-first.rest.now 2 c.in_ok-first.ensures.parts
    (one-more c.in_ok-first.rest.now c.in_ok-settings.settings.now c.in_ok-settings.rest.now 1 c.in_ok-settings.ensures.parts (omega (arith, ap (λ ls. length ls) c.in_err-at.ensures.parts))))

pub returns-clause-parts : goal.returns-clause-parts
returns-clause-parts c =
    three-cut c.args.bytes.now c.in_ok-first.rest.now c.in_ok-settings.rest.now c.in_ok-first.first.now c.in_ok-settings.settings.now c.in_ok-at.at.now c.in_ok-at.rest.now
    c.in_ok-first.ensures.parts c.in_ok-settings.ensures.parts c.in_ok-at.ensures.parts

pub returns-clause-behind : goal.returns-clause-behind
returns-clause-behind c =
    behind-both c.in_ok-at.rest.now c.in_ok-settings.rest.now c.args.bytes.now c.in_ok-at.ensures.behind
    (behind-both c.in_ok-settings.rest.now c.in_ok-first.rest.now c.args.bytes.now c.in_ok-settings.ensures.behind c.in_ok-first.ensures.behind)
