-- The value of a target, which contracts speak of.
use Rattle.ll_announce.specs.Meaning.{named}
use Rattle.ll_push.specs.Publishing.{TargetValue}
use Rattle.ll_push.specs.declared.target.Target.{Target}

abbrev pub targeted : Target → TargetValue
targeted t = record { names = named t.names; lengths = t.lengths; ends = t.ends }
