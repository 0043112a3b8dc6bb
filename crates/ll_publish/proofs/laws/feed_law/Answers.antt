-- The laws of feeds.
use Rattle.ll_publish.proofs.StreamLaws.{few_are_kept, none_is_left, whole_streams}
use Rattle.ll_publish.proofs.laws.feed_law.Goals as goal

pub returns-clause-streams : goal.returns-clause-streams
returns-clause-streams c = whole_streams

pub returns-clause-none_left : goal.returns-clause-none_left
returns-clause-none_left c = none_is_left

pub returns-clause-few_kept : goal.returns-clause-few_kept
returns-clause-few_kept c = few_are_kept
