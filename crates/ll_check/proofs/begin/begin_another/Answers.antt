-- Nothing has happened to the channel of another chain.
use Rattle.std.proofs.Common.{◌∙◌, sym}
use Rattle.ll_check.proofs.HeaderLemmas.{another-is}
use Rattle.ll_check.proofs.begin.begin_another.Goals as goal

pub returns-clause-right : goal.returns-clause-right
returns-clause-right c before at =
    another-is before c.args.version c.args.settings c.in_ok-new.field-0 c.entries_of-earlier.result (sym (c.is_channel.ensures before at) ∙ c.if-not-is_channel.false) c.in_ok-new.ensures
    (c.entries_of-earlier.ensures.value before at)
