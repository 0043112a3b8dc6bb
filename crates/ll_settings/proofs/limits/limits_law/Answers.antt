-- The two directions of the law.
use Rattle.ll_settings.proofs.WithinLimits.{within, none_broken}
use Rattle.ll_settings.proofs.limits.limits_law.Goals as goal

pub returns : goal.returns
returns c d = (within d, none_broken d)
