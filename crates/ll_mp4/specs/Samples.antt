-- The samples of a track's fragment, the content of a `traf` box (ISO/IEC 14496-12, section 8.8.6).
use Rattle.std.specs.Prelude.{ℕ, zero, suc, ◌+◌, ◌*◌, ◌==◌, not, Bool, List, drop, length, nat_lt, if◌then◌else◌, Result, Ok, Err}
use Rattle.byteorder.specs.Endian.{big_number}
use Rattle.ll_mp4.specs.Boxes.{Contents, Ended, Broken, Content}
use Rattle.ll_mp4.specs.Numbers.{◌>>=◌, has, number_at, number_or, room}
use Rattle.ll_mp4.specs.declared.fault.StreamFault.{StreamFault}
use Rattle.ll_mp4.specs.declared.fault.StreamFault.TheVariants.{BadBox}
use Rattle.ll_mp4.specs.declared.track.Track.{Track}

-- ---- defaults (section 8.8.7)

-- the place of the default duration, which follows the base offset and the index of a description if they are present; then that of the default
-- flags
abbrev pub duration_place : ℕ → ℕ
duration_place flags = 8 + room flags 0x000001 8 + room flags 0x000002 4

abbrev pub flags_place : ℕ → ℕ
flags_place flags = duration_place flags + room flags 0x000008 4 + room flags 0x000010 4

-- `track` with the defaults of a fragment with this header
abbrev pub defaults_of : Track → List ℕ → Result Track StreamFault
defaults_of track tfhd = do
  flags ← number_at 0 tfhd
  duration ← number_or (has flags 0x000008) (duration_place flags) tfhd track.duration
  sample_flags ← number_or (has flags 0x000020) (flags_place flags) tfhd track.flags
  Ok (record { id = track.id; scale = track.scale; duration = duration; flags = sample_flags })

-- ---- a run of samples (section 8.8.8)

-- the flags that say which fields are present, the number of samples, the flags of the first sample alone, and the fields of the samples
pub record Run : Type 0 where
  pub flags : ℕ
  pub count : ℕ
  pub first : ℕ
  pub table : List ℕ

-- the length in bytes of a sample's fields: its duration, its size, its flags and its composition offset, those that are present
abbrev pub width : ℕ → ℕ
width flags = room flags 0x000100 4 + room flags 0x000200 4 + room flags 0x000400 4 + room flags 0x000800 4

-- the place of the first sample's flags, which follow the data offset if it is present; then that of the samples' fields
abbrev pub first_place : ℕ → ℕ
first_place flags = 8 + room flags 0x000001 4

abbrev pub table_place : ℕ → ℕ
table_place flags = first_place flags + room flags 0x000004 4

abbrev pub table_of : ℕ → ℕ → List ℕ → Result (List ℕ) StreamFault
table_of flags count trun = if nat_lt (length trun) (table_place flags + count * width flags) then Err BadBox else Ok (drop (table_place flags) trun)

abbrev pub run_of : List ℕ → Result Run StreamFault
run_of trun = do
  flags ← number_at 0 trun
  count ← number_at 4 trun
  first ← number_or (has flags 0x000004) (first_place flags) trun 0
  table ← table_of flags count trun
  Ok (record { flags = flags; count = count; first = first; table = table })

-- the sum of the durations of n samples, whose fields have `bytes` bytes each and begin with the duration
abbrev pub durations : ℕ → ℕ → List ℕ → ℕ
durations bytes zero table = 0
durations bytes (suc n) table = big_number 4 table + durations bytes n (drop bytes table)

-- the duration of a run, in ticks
abbrev pub run_ticks : Track → Run → ℕ
run_ticks track run =
    if has run.flags 0x000100 then durations (width run.flags) run.count run.table else run.count * track.duration

-- the place of a sample's flags among its fields
abbrev pub sample_place : ℕ → ℕ
sample_place flags = room flags 0x000100 4 + room flags 0x000200 4

-- the flags of the first sample of a run that has one
abbrev pub first_of : Track → Run → ℕ
first_of track run =
    if has run.flags 0x000004 then run.first
    else if has run.flags 0x000400 then big_number 4 (drop (sample_place run.flags) run.table)
    else track.flags

-- ---- all runs of a track's fragment

-- the duration of the samples, in ticks, and the flags of the first of them
pub record Samples : Type 0 where
  pub ticks : ℕ
  pub flags : ℕ

-- a run before the others
abbrev pub and_run : Track → Run → Samples → Samples
and_run track run later = record {
  ticks = run_ticks track run + later.ticks;
  flags = if run.count == 0 then later.flags else first_of track run;
}

-- the runs with these contents; without samples there are no ticks, and the flags are the defaults
abbrev pub runs_of : Track → Contents → Result Samples StreamFault
runs_of track Ended = Ok (record { ticks = 0; flags = track.flags })
runs_of track Broken = Err BadBox
runs_of track (Content trun later) = do
  run ← run_of trun
  rest ← runs_of track later
  Ok (and_run track run rest)

-- whether a sample with these flags is a sync sample (section 8.8.3.1)
abbrev pub is_sync : ℕ → Bool
is_sync flags = not (has flags 0x00010000)

-- the most ticks that are counted
abbrev pub tick_limit : ℕ
tick_limit = 18446744073709551615
