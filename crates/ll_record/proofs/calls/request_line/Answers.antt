-- The request's number is the one after those that were made.
use Rattle.std.proofs.Common.{◌+◌, ap, ◌∙◌, subst}
use Rattle.ll_entry.specs.Lines.{IsSpelled, entry_line}
use Rattle.ll_entry.specs.declared.entry.Recorded.TheVariants as recorded
use Rattle.ll_record.specs.Recording.{of_channel}
use Rattle.ll_record.proofs.calls.request_line.Goals as goal

pub returns-clause-text : goal.returns-clause-text
returns-clause-text c = λ s. c.in_ok-line.ensures.text s ∙ ap (λ n. entry_line s (recorded.Ask (n + 1) c.args.want.now c.args.outcome)) c.asks.ensures.value

pub returns-clause-spelled : goal.returns-clause-spelled
returns-clause-spelled c = λ s.
    subst (λ n. IsSpelled s (recorded.Ask (n + 1) (of_channel s c.args.want.now) c.args.outcome)) c.asks.ensures.value (c.in_ok-line.ensures.spelled s)
