-- The samples that are left have the ticks that are missing, and their fields are there.
use Rattle.std.proofs.Common.{◌≡◌, ◌≤◌, ◌+◌, ◌*◌, ◌-◌, length, min}
use Rattle.ll_mp4.specs.Samples.{durations, tick_limit, width}
use Rattle.ll_mp4.proofs.runs.samples_end.Given as goal

abbrev pub invariant-samples : goal.invariant-samples
invariant-samples l = record {
  same :
      min (l.fn.from + durations (width l.fn.run.flags) l.fn.run.count l.fn.run.table.now) tick_limit
      ≡ min (l.tick + durations (width l.fn.run.flags) (l.fn.run.count - l.counter) l.rest) tick_limit;
  enough : (l.fn.run.count - l.counter) * width l.fn.run.flags ≤ length l.rest;
  few : l.tick ≤ tick_limit;
}
