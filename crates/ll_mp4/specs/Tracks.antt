-- For private contracts: the tracks of a movie, read one after another.
use Rattle.std.specs.Prelude.{List, ℕ, ◌++◌, map, find, not, ◌||◌, if◌then◌else◌, Option, Some, None, unwrap_or, Result, Ok, Err}
use Rattle.ll_mp4.specs.Boxes.{contents_in}
use Rattle.ll_mp4.specs.Movies.{chosen_of, defaults_in, is_video, listed_in}
use Rattle.ll_mp4.specs.Numbers.{◌>>=◌}
use Rattle.ll_mp4.specs.declared.fault.StreamFault.{StreamFault}
use Rattle.ll_mp4.specs.declared.track.Listed.{Listed}
use Rattle.ll_mp4.specs.declared.track.TimeScale.{TimeScale}
use Rattle.ll_mp4.specs.declared.kind.Kind.TheVariants.{Trak}
use Rattle.ll_mp4.specs.declared.track.Track.{Track}

-- which of two tracks governs; the first was chosen among those before
abbrev pub better : Option Listed → Listed → Listed
better None track = track
better (Some before) track = if before.is_video || not track.is_video then before else track

-- the governing track, if `before` was chosen among the tracks before
abbrev pub chosen_after : Option Listed → Result (List Listed) StreamFault → Result Listed StreamFault
chosen_after before (Err fault) = Err fault
chosen_after None (Ok tracks) = chosen_of tracks
chosen_after (Some before) (Ok tracks) = Ok (if before.is_video then before else unwrap_or (find is_video tracks) before)

-- the time scales of the tracks, after those before
abbrev pub scales_after : List TimeScale → Result (List Listed) StreamFault → Result (List TimeScale) StreamFault
scales_after before (Err fault) = Err fault
scales_after before (Ok tracks) = Ok (before ++ map (λ (t : Listed). t.scale) tracks)

-- the governing track of a movie, with its defaults
abbrev pub governing_in : List ℕ → Result Track StreamFault
governing_in moov = do
  chosen ← chosen_after None (listed_in (contents_in Trak moov))
  defaults_in moov chosen.scale
