-- The names of a rendition's files, as its playlists name them.
use Rattle.std.specs.Prelude.{ℕ, List, [], ◌∷◌, Bool, true, false, Option, Some, None, if◌then◌else◌, option_and_then, option_map, bytes_eq, codes}
use Rattle.ll_attr.specs.Words.{after, pieces_at}
use Rattle.ll_format.specs.Words.{number}
use Rattle.ll_line.specs.Uris.{map_uri, part_uri, segment_uri}
use Rattle.ll_item.specs.declared.what.What.{What}
use Rattle.ll_item.specs.declared.what.What.TheVariants as what

-- the name of a file
abbrev pub file_name : What → List ℕ
file_name what.Playlist = codes "live.m3u8"
file_name (what.Segment number) = segment_uri number
file_name (what.Part number index) = part_uri number index
file_name (what.Init number) = map_uri number

-- a number below 2^64 without leading zeros
abbrev pub number_in : List ℕ → Option ℕ
number_in text = (number 18446744073709551615).read text

-- the number after a key
abbrev pub number_after : List ℕ → List ℕ → Option ℕ
number_after key text = option_and_then number_in (after key text)

abbrev pub one_number : List ℕ → List ℕ → Option What
one_number name ending =
    if bytes_eq ending (codes "m4s") then option_map (λ n. what.Segment n) (number_after (codes "s") name)
    else if bytes_eq ending (codes "mp4") then option_map (λ n. what.Init n) (number_after (codes "init") name)
    else None

abbrev pub two_numbers : List ℕ → List ℕ → List ℕ → Option What
two_numbers name index ending =
    if bytes_eq ending (codes "m4s") then option_and_then (λ n. option_map (λ i. what.Part n i) (number_in index)) (number_after (codes "s") name)
    else None

abbrev pub media_by : List (List ℕ) → Option What
media_by (name ∷ ending ∷ []) = one_number name ending
media_by (name ∷ index ∷ ending ∷ []) = two_numbers name index ending
media_by other = None

-- the media that a file is: `s<n>.m4s`, `s<n>.<index>.m4s` or `init<n>.mp4`
abbrev pub media_file : List ℕ → Option What
media_file file = media_by (pieces_at 46 file)

-- what a file is: a playlist, `live.m3u8`, or media
abbrev pub file_in : List ℕ → Option What
file_in file = if bytes_eq file (codes "live.m3u8") then Some what.Playlist else media_file file

-- whether a file is the playlist
abbrev pub is_playlist : What → Bool
is_playlist what.Playlist = true
is_playlist (what.Segment number) = false
is_playlist (what.Part number index) = false
is_playlist (what.Init number) = false
