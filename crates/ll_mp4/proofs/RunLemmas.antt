-- The ticks of runs, one sample and one run after another.
use Rattle.std.proofs.Common.{◌≡◌, ℕ, suc, ◌+◌, ◌-◌, ◌*◌, ◌≤◌, ◌<◌, ◌==◌, List, Bool, true, false, Option, Some, None, Result, Ok, Err, refl, ap, ap₂, subst, ◌∙◌, drop, min, if◌then◌else◌, arith}
use Rattle.std.specs.Option.{unwrap_or}
use Rattle.byteorder.specs.Endian.{big_number}
use Rattle.ll_mp4.specs.Boxes.{Contents, Ended, Content, contents_in}
use Rattle.ll_mp4.specs.Samples as spec
use Rattle.ll_mp4.specs.Samples.{Run, and_run, durations, run_of, run_ticks, runs_of, tick_limit}
use Rattle.ll_mp4.specs.Numbers.{◌>>=◌}
use Rattle.ll_mp4.specs.Runs.{after_samples, first_so_far}
use Rattle.ll_mp4.specs.declared.fault.StreamFault.{StreamFault}
use Rattle.ll_mp4.specs.declared.kind.Kind.TheVariants.{Trun}
use Rattle.ll_mp4.specs.declared.track.Track.{Track}

-- ---- samples

one-less : (n w len : ℕ) → (n + 1) * w ≤ len → (w ≤ len) × (n * w ≤ len - w)
one-less n w len h = let d : (n + 1) * w ≡ n * w + w = omega arith in (omega (arith, d, h), omega (arith, d, h))

-- the fields of one sample are there, and those of the others after them
pub enough_left : (count i w len : ℕ) → i < count → (count - i) * w ≤ len → (w ≤ len) × ((count - (i + 1)) * w ≤ len - w)
enough_left count i w len l h =
    let e : count - i ≡ count - (i + 1) + 1 = omega (arith, l) in
    one-less (count - (i + 1)) w len (subst (λ n. n * w ≤ len) e h)

-- sums that stop at a limit
stopped : (a b c m : ℕ) → min (a + (b + c)) m ≡ min (min (a + b) m + c) m
stopped a b c m = omega arith

-- one sample more
pub sample_more : (w count i tick : ℕ) (rest : List ℕ) → i < count
    → min (tick + durations w (count - i) rest) tick_limit
    ≡ min (min (tick + big_number 4 rest) tick_limit + durations w (count - (i + 1)) (drop w rest)) tick_limit
sample_more w count i tick rest l =
    let e : count - i ≡ suc (count - (i + 1)) = omega (arith, l) in
    ap (λ n. min (tick + durations w n rest) tick_limit) e
    ∙ stopped tick (big_number 4 rest) (durations w (count - (i + 1)) (drop w rest)) tick_limit

-- no sample more
pub samples_done : (w n tick : ℕ) (rest : List ℕ) → n ≡ 0 → tick ≤ tick_limit → min (tick + durations w n rest) tick_limit ≡ tick
samples_done w n tick rest e l = ap (λ k. min (tick + durations w k rest) tick_limit) e ∙ omega (arith, l)

-- ---- runs

-- no run more
pub runs_done : (track : Track) (end : ℕ) (first : Option ℕ) (rest : List ℕ) → contents_in Trun rest ≡ Ended → end ≤ tick_limit
    → after_samples end first (runs_of track (contents_in Trun rest)) ≡ Ok (record { ticks = end; flags = unwrap_or first track.flags })
runs_done track end first rest e l =
    ap (λ contents. after_samples end first (runs_of track contents)) e ∙ ap (λ n. Ok (record { ticks = n; flags = unwrap_or first track.flags })) (omega (arith, l))

pub runs_ended : (track : Track) (tick : ℕ) (first : Option ℕ) → after_samples tick first (runs_of track Ended) ≡ Ok (record { ticks = min (tick + 0) tick_limit; flags = unwrap_or first track.flags })
runs_ended track tick first = refl

pub runs_bad : (track : Track) (tick : ℕ) (first : Option ℕ) (trun : List ℕ) (later : Contents) (fault : StreamFault) → run_of trun ≡ Err fault
    → after_samples tick first (runs_of track (Content trun later)) ≡ Err fault
runs_bad track tick first trun later fault e = rw e refl

flags-more : (first : Option ℕ) (track : Track) (run : Run) (flags : ℕ)
    → unwrap_or first (if run.count == 0 then flags else spec.first_of track run) ≡ unwrap_or (first_so_far first track run) flags
flags-more (Some first) track run flags = refl
flags-more None track run flags = by_count (run.count == 0)
  where
    by_count : (b : Bool) → (if b then flags else spec.first_of track run) ≡ unwrap_or (if b then None else Some (spec.first_of track run)) flags
    by_count true = refl
    by_count false = refl

samples-more : (track : Track) (tick : ℕ) (first : Option ℕ) (run : Run) (later : Result spec.Samples StreamFault)
    → after_samples tick first (later >>= (λ rest. Ok (and_run track run rest)))
    ≡ after_samples (min (tick + run_ticks track run) tick_limit) (first_so_far first track run) later
samples-more track tick first run (Err fault) = refl
samples-more track tick first run (Ok rest) =
    ap₂ (λ e f. Ok (record { ticks = e; flags = f })) (stopped tick (run_ticks track run) rest.ticks tick_limit) (flags-more first track run rest.flags)

-- one run more
pub runs_more : (track : Track) (tick : ℕ) (first : Option ℕ) (trun : List ℕ) (later : Contents) (run : Run) → run_of trun ≡ Ok run
    → after_samples tick first (runs_of track (Content trun later))
    ≡ after_samples (min (tick + run_ticks track run) tick_limit) (first_so_far first track run) (runs_of track later)
runs_more track tick first trun later run e = rw e (samples-more track tick first run (runs_of track later))
