-- With the whole outcome of its reply, an entry is the one of its event.
use Rattle.std.proofs.Common.{ap, option_map, ◌∙◌}
use Rattle.ll_entry_check.proofs.FullLemmas.{full_of}
use Rattle.ll_entry_check.specs.Full.{without_item}
use Rattle.ll_entry.specs.Entered.{event_of}
use Rattle.ll_entry.specs.Told.{entry_after}
use Rattle.ll_entry.specs.declared.entry.Recorded.TheVariants as recorded
use Rattle.ll_entry_check.proofs.entry.enter.Goals as goal

pub returns-in_ok-outcome-in-Ask-clause-full : goal.returns-in_ok-outcome-in-Ask-clause-full
returns-in_ok-outcome-in-Ask-clause-full c events stands =
    ap (λ e. option_map without_item (entry_after c.args.replayer.now.settings events (event_of e))) c.in-Ask.is
    ∙ full_of c.args.replayer.now.settings events (recorded.Ask c.in-Ask.ask c.in-Ask.want c.in_ok-outcome-in-Ask.outcome) (c.in_ok-outcome-in-Ask.ensures.full events stands)

pub returns-in_ok-outcome-in-Collect-clause-full : goal.returns-in_ok-outcome-in-Collect-clause-full
returns-in_ok-outcome-in-Collect-clause-full c events stands =
    ap (λ e. option_map without_item (entry_after c.args.replayer.now.settings events (event_of e))) c.in-Collect.is
    ∙ full_of c.args.replayer.now.settings events (recorded.Collect c.in-Collect.ask c.in_ok-outcome-in-Collect.outcome) (c.in_ok-outcome-in-Collect.ensures.full events stands)
