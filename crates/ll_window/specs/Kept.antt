-- For private contracts: the invariant of a window, and the steps of its progress.
use Rattle.std.specs.Prelude.{None, ◌≡◌, ℕ, ◌+◌, ◌*◌, ◌<◌, ◌≤◌, List, [], ◌∷◌, false, Some}
use Rattle.ll_attr.specs.YearEnd.{last_micro}
use Rattle.ll_settings.specs.Settings.{Configuration, number_end}
use Rattle.ll_item.specs.declared.part.Part.{Part}
use Rattle.ll_window.specs.declared.progress.Progress.{Progress}
use Rattle.ll_window.specs.declared.finished.Finished.{Finished}
use Rattle.ll_window.specs.declared.part_position.PartPosition.{PartPosition}
use Rattle.ll_window.specs.declared.segment.Segment.{Segment}
use Rattle.ll_window.specs.Hidden.{AreHidden}
use Rattle.ll_window.specs.Rows.{Row, restarted, lasting, broken_in}
use Rattle.ll_window.specs.Segments.{duration}
use Rattle.ll_window.specs.Window.{near_limit}

-- each of these segments ends before `time` by at least the duration of those after it
abbrev pub AreTimed : List Row → ℕ → Type 0
AreTimed [] time = Unit
AreTimed (r ∷ rs) time = (r.segment.time + r.segment.duration + lasting rs ≤ time) × AreTimed rs time

-- `p` with one more part, of `micros` microseconds at `place`, of an open segment that begins at `time`
abbrev pub grown : Progress → ℕ → ℕ → PartPosition → Progress
grown p time micros place = record p {
  open_time = time;
  open_duration = p.open_duration + micros;
  end_time = p.end_time + micros;
  pending = false;
  restart = None;
  last = Some place;
}

-- `p` after the open segment was finished as `s`
abbrev pub after : Progress → Segment → Progress
after p s = record p {
  next_number = p.next_number + 1;
  maps = s.map_number;
  open_time = p.open_time + s.duration;
  open_duration = 0;
}

-- the next number may be one above the largest if no segment is open
abbrev pub spare : List Part → ℕ
spare [] = 1
spare (p ∷ ps) = 0

-- The sums are those of the segments and parts, no number or time is past its limit, and after the segments without parts at least three target
-- durations follow.
pub record IsKept (c : Configuration) (f : Finished) (open_parts : List Part) (p : Progress) : Type 0 where
  pub sum : f.lasting ≡ lasting f.rows.items
  pub lasts : p.open_duration ≡ duration open_parts
  pub ends : c.start * 1000 + p.end_time ≤ p.open_time + p.open_duration
  pub timed : AreTimed f.rows.items p.open_time
  pub within : lasting f.rows.items ≤ p.open_time
  pub breaks : f.discontinuity + broken_in f.rows.items ≡ p.maps
  pub few_maps : p.maps ≤ p.next_number
  pub numbers : p.next_number ≤ number_end + spare open_parts
  pub times : restarted p.restart (p.open_time + p.open_duration) ≤ last_micro
  -- a break sets no time before the end of the last part
  pub forward : p.open_time + p.open_duration ≤ restarted p.restart (p.open_time + p.open_duration)
  pub hidden : AreHidden f
  pub far : 0 < f.far → near_limit c ≤ f.near_lasting + p.open_duration
