-- For private contracts: the ticks and flags of the runs of a fragment, one after another.
use Rattle.std.specs.Prelude.{ℕ, ◌+◌, ◌==◌, if◌then◌else◌, Option, Some, None, Result, Ok, Err, min}
use Rattle.std.specs.Option.{unwrap_or}
use Rattle.ll_mp4.specs.Samples as spec
use Rattle.ll_mp4.specs.Samples.{tick_limit}
use Rattle.ll_mp4.specs.declared.fault.StreamFault.{StreamFault}
use Rattle.ll_mp4.specs.declared.runs.Run.{Run}
use Rattle.ll_mp4.specs.declared.runs.Samples.{Samples}
use Rattle.ll_mp4.specs.declared.track.Track.{Track}

abbrev pub run_value : Run → spec.Run
run_value run = record { flags = run.flags; count = run.count; first = run.first; table = run.table.now }

-- the flags of the first sample of the runs so far, of which `run` is the last
abbrev pub first_so_far : Option ℕ → Track → spec.Run → Option ℕ
first_so_far (Some first) track run = Some first
first_so_far None track run = if run.count == 0 then None else Some (spec.first_of track run)

-- samples after others, of which `ticks` is the duration and `first` the flags of the first, if there is one
abbrev pub after_samples : ℕ → Option ℕ → Result spec.Samples StreamFault → Result Samples StreamFault
after_samples ticks first (Err fault) = Err fault
after_samples ticks first (Ok later) = Ok (record { ticks = min (ticks + later.ticks) tick_limit; flags = unwrap_or first later.flags })
