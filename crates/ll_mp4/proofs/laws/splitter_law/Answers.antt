-- The laws of splitters.
use Rattle.ll_mp4.proofs.StreamLaws.{few_are_kept, front_is_first, front_stays, nothing_is_lost, whole_streams}
use Rattle.ll_mp4.proofs.laws.splitter_law.Goals as goal

pub returns-clause-streams : goal.returns-clause-streams
returns-clause-streams c = whole_streams

pub returns-clause-first : goal.returns-clause-first
returns-clause-first c = front_is_first

pub returns-clause-stays : goal.returns-clause-stays
returns-clause-stays c = front_stays

pub returns-clause-bytes : goal.returns-clause-bytes
returns-clause-bytes c = nothing_is_lost

pub returns-clause-few_kept : goal.returns-clause-few_kept
returns-clause-few_kept c = few_are_kept
