-- Each fault has a clause of its own; one clause of `read_all` has them all.
use Rattle.std.proofs.lemmas.Result.{IfErr-at_err, IfOk-weaker}
use Rattle.ll_replay.proofs.StreamLemmas.{StopsForMemory-begun}
use Rattle.ll_replay.proofs.stream.run_within.Goals as goal

pub returns-clause-whole : goal.returns-clause-whole
returns-clause-whole g c input i = IfOk-weaker c.read_all-outcome.result _ _ (λ summary h. h input i) c.read_all-outcome.ensures.whole

pub returns-clause-bad_line : goal.returns-clause-bad_line
returns-clause-bad_line g c input n i e = IfErr-at_err _ e c.read_all-outcome.ensures.stopped input i

pub returns-clause-too_long : goal.returns-clause-too_long
returns-clause-too_long g c input n i e = IfErr-at_err _ e c.read_all-outcome.ensures.stopped input i

pub returns-clause-cut_by_write : goal.returns-clause-cut_by_write
returns-clause-cut_by_write g c input i e = IfErr-at_err _ e c.read_all-outcome.ensures.stopped input i

pub returns-clause-cut_by_memory : goal.returns-clause-cut_by_memory
returns-clause-cut_by_memory g c input i e = StopsForMemory-begun _ _ input (IfErr-at_err _ e c.read_all-outcome.ensures.stopped input i)

pub returns-clause-memory_last : goal.returns-clause-memory_last
returns-clause-memory_last g c input i e = IfErr-at_err _ e c.read_all-outcome.ensures.stopped input i

pub returns-clause-stopped_by_read : goal.returns-clause-stopped_by_read
returns-clause-stopped_by_read g c e = IfErr-at_err _ e c.read_all-outcome.ensures.stopped

pub returns-clause-stopped_by_endless : goal.returns-clause-stopped_by_endless
returns-clause-stopped_by_endless g c e = IfErr-at_err _ e c.read_all-outcome.ensures.stopped

pub returns-clause-read_failed : goal.returns-clause-read_failed
returns-clause-read_failed g c e = IfErr-at_err _ e c.read_all-outcome.ensures.failed

pub returns-clause-write_failed : goal.returns-clause-write_failed
returns-clause-write_failed g c e = IfErr-at_err _ e c.read_all-outcome.ensures.failed

pub returns-clause-endless : goal.returns-clause-endless
returns-clause-endless g c e = IfErr-at_err _ e c.read_all-outcome.ensures.failed
