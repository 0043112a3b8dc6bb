-- The runs that are left have the ticks that are missing.
use Rattle.std.proofs.Common.{◌≡◌, ◌≤◌, None, length}
use Rattle.ll_mp4.specs.Boxes.{contents_in}
use Rattle.ll_mp4.specs.Samples.{runs_of, tick_limit}
use Rattle.ll_mp4.specs.Runs.{after_samples}
use Rattle.ll_mp4.specs.declared.kind.Kind.TheVariants.{Trun}
use Rattle.ll_mp4.proofs.runs.read_runs.Given as goal

abbrev pub invariant-runs : goal.invariant-runs
invariant-runs l = record {
  same :
      after_samples 0 None (runs_of l.fn.track (contents_in Trun l.fn.traf)) ≡ after_samples l.ticks l.first (runs_of l.fn.track (contents_in Trun l.rest));
  few : l.ticks ≤ tick_limit;
}

abbrev pub decreases-runs : goal.decreases-runs
decreases-runs l = length l.rest
