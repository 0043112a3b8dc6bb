-- The reply that is handed out is what the request has.
use Rattle.std.proofs.Common.{◌∙◌, sym}
use Rattle.ll_entry_check.proofs.FullLemmas.{collected-full}
use Rattle.ll_entry_check.proofs.entry.collect.Goals as goal

pub returns-clause-full : goal.returns-clause-full
returns-clause-full c events stands =
    collected-full c.args.replayer.now events c.args.ask c.collect.result c.in-Some.reply stands c.collect.ensures.answer (sym c.outcome_in-reply.ensures ∙ c.in-Some.is)
