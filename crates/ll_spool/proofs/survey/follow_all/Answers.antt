-- One line's item after another is laid.
use Rattle.std.proofs.Common.{◌+◌, ◌∙◌, ap, sym}
use Rattle.ll_spool.proofs.PlacedLemmas.{surveying_all, surveying_more, surveying_none}
use Rattle.ll_spool.proofs.survey.follow_all.Goals as goal

pub loop-count-init : goal.loop-count-init
loop-count-init c = λ none. surveying_none c.args.settings.now _ _ c.args.layouts.now.items c.args.text.now c.of-lines.ensures none

pub loop-count-preserved : goal.loop-count-preserved
loop-count-preserved c = λ none.
    let s = c.loop-count.invariant none in
    let number = c.in-Some.ensures.number in
    surveying_more c.args.settings.now _ c.loop-count.lines c.next.new.self c.in-Some.line.now c.in-Some.count _ _ s c.in-Some.ensures.line number.1 number.0
    (c.in_ok-follow_line.ensures s.spelled s.laid (number.0 ∙ ap (λ n. n + 1) (sym s.number)))

pub returns : goal.returns
returns c = λ none. surveying_all c.args.settings.now _ c.loop-count.lines _ (c.loop-count.invariant none) c.in_default.ensures.line
