-- The finished segments of a rendition, as the sums of what its items add.
use Rattle.std.specs.Prelude.{ℕ, ◌+◌, ◌^◌, ◌≤◌, ◌==◌, ◌&&◌, ◌⊎◌, Bool, List, [], ◌∷◌, filter, fold, map, nat_lt, if◌then◌else◌}
use Rattle.ll_variants.specs.declared.segments.Addition.{Addition}
use Rattle.ll_variants.specs.declared.segments.Size.{Size}

abbrev pub no_size : Size
no_size = record { bytes = 0; duration = 0 }

abbrev pub plus : Size → Size → Size
plus a b = record { bytes = a.bytes + b.bytes; duration = a.duration + b.duration }

-- the number of bytes or the duration is too large for 64 bits
abbrev pub IsLarge : Size → Type 0
IsLarge s = (2 ^ 64 ≤ s.bytes) ⊎ (2 ^ 64 ≤ s.duration)

-- the sum of all of these
abbrev pub sum_of : List Size → Size
sum_of sizes = fold plus no_size sizes

abbrev pub is_of : ℕ → Addition → Bool
is_of rendition addition = addition.rendition == rendition

-- what these additions add to a rendition, whether it ends segments or not
abbrev pub sizes_of : ℕ → List Addition → List Size
sizes_of rendition additions = map (λ (addition : Addition). addition.size) (filter (is_of rendition) additions)

abbrev pub total : ℕ → List Addition → Size
total rendition additions = sum_of (sizes_of rendition additions)

-- whether an addition ends the open segment, which has this size with it: there is none without a part
abbrev pub is_end : Addition → Size → Bool
is_end addition sum = addition.ends && nat_lt 0 sum.duration

-- the segments of a rendition that end with these additions, if the open segment has this size before them
abbrev pub segments_from : ℕ → Size → List Addition → List Size
segments_from rendition sum [] = []
segments_from rendition sum (addition ∷ more) =
    if addition.rendition == rendition then
    (if is_end addition (plus sum addition.size) then plus sum addition.size ∷ segments_from rendition no_size more
    else segments_from rendition (plus sum addition.size) more)
    else segments_from rendition sum more

-- the finished segments of a rendition
abbrev pub segments_of : ℕ → List Addition → List Size
segments_of rendition additions = segments_from rendition no_size additions
