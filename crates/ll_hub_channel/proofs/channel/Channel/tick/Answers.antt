use Rattle.std.proofs.Common.{subst}
use Rattle.std.specs.Prelude.{IfErr}
use Rattle.ll_hub_channel.specs.Section.{is_filled}
use Rattle.ll_hub_channel.specs.Told.{IsReadingRefused}
use Rattle.ll_hub_channel.proofs.FaultLemmas.{why}
use Rattle.ll_hub_channel.proofs.channel.Channel.tick.Goals as goal

pub returns-clause-refused : goal.returns-clause-refused
returns-clause-refused c = subst (λ r. IfErr c.clock.result (λ f. IsReadingRefused (is_filled r) c.args.ms f)) c.self.view_is (why c.self.inside.recorder c.args.ms c.clock.result c.clock.ensures.range c.clock.ensures.full c.clock.ensures.memory)
