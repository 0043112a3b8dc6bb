use Rattle.ll_hub.proofs.TotalLemmas.{first, second, total-at}
use Rattle.ll_hub.proofs.lock.ChannelLock.finish.Goals as goal

pub returns-clause-total : goal.returns-clause-total
returns-clause-total g c settings home at =
    let both = second _ _ home in
    total-at c.into_inner-channel.result c.args.place settings _ c.finish-counts.result.0 (c.is_at-here.ensures settings (first _ _ both) at)
    (c.finish-counts.ensures.total (second _ _ both))
