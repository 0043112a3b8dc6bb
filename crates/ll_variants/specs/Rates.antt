-- How fast a rendition is, in bits a second (section 4.4.6.2).
use Rattle.std.specs.Prelude.{ℕ, ◌+◌, ◌-◌, ◌*◌, ◌/◌, ◌^◌, ◌≤◌, ◌==◌, ◌&&◌, ◌⊎◌, Bool, List, [], ◌∷◌, ◌++◌, filter, map, max, nat_le, if◌then◌else◌}
use Rattle.ll_variants.specs.Segments.{no_size, plus, sum_of}
use Rattle.ll_variants.specs.declared.rates.Rates.{Rates}
use Rattle.ll_variants.specs.declared.segments.Size.{Size}

-- bits a second, rounded up
abbrev pub rate : Size → ℕ
rate s = if s.duration == 0 then 0 else (s.bytes * 8000000 + (s.duration - 1)) / s.duration

-- the sums of the first of these segments, of the first two, and so on, each after what comes before
abbrev pub sums_from : Size → List Size → List Size
sums_from before [] = []
sums_from before (s ∷ more) = plus before s ∷ sums_from (plus before s) more

-- the sums of all contiguous sets of segments
abbrev pub sets : List Size → List Size
sets [] = []
sets (s ∷ more) = sums_from no_size (s ∷ more) ++ sets more

-- whether a set lasts between 0.5 and 1.5 target durations, which is in seconds
abbrev pub is_counted : ℕ → Size → Bool
is_counted target s = nat_le (target * 500000) s.duration && nat_le s.duration (target * 1500000)

abbrev pub largest : List ℕ → ℕ
largest [] = 0
largest (n ∷ more) = max n (largest more)

-- the largest rate of those sums that last so
abbrev pub fastest : ℕ → List Size → ℕ
fastest target sums = largest (map rate (filter (is_counted target) sums))

-- The peak segment bit rate: the largest of any contiguous set of segments that lasts between 0.5 and 1.5 target durations.
abbrev pub peak : ℕ → List Size → ℕ
peak target segments = fastest target (sets segments)

-- the rate of all segments together
abbrev pub average : List Size → ℕ
average segments = rate (sum_of segments)

-- The bandwidth is the peak, and no less than the average: segments that last less than half a target duration have no peak.
abbrev pub rates : ℕ → List Size → Rates
rates target segments = record { bandwidth = max (peak target segments) (average segments); average = average segments }

-- one of the rates is too large for 64 bits
abbrev pub AreLarge : Rates → Type 0
AreLarge r = (2 ^ 64 ≤ r.bandwidth) ⊎ (2 ^ 64 ≤ r.average)
