-- The law of a question where a rendition stands: its answer is right, and it changes nothing else.
use Rattle.std.specs.Prelude.{◌≡◌, ◌<◌, ℕ, ◌+◌, List, [], ◌∷◌, ◌++◌, Some, length, option_map, slice_get}
use Rattle.ll_publish.specs.Refusals.{at_line}
use Rattle.ll_replay.specs.Script.{Ending, BadLine, LineTooLong, Marked, Script}
use Rattle.ll_replay.specs.Stream.{come_to}
use Rattle.ll_script_rooms.specs.World.{Channel}
use Rattle.ll_script.specs.declared.act.Act.TheVariants.{At}
use Rattle.ll_script_laws.specs.Talks.{acts_in}
use Rattle.ll_verdict.specs.Events.{items}
use Rattle.ll_verdict.specs.Standing.{standing}

-- the answer says where a rendition of the channel at `place` stands, after all items that the channel has accepted
pub record IsTold (w : Script) (place rendition : ℕ) (answer : List ℕ) : Type 0 where
  pub channel : Channel
  pub there : slice_get w.rooms.channels place ≡ Some channel
  pub has : rendition < length channel.settings.renditions
  pub is : answer ≡ at_line (standing channel.settings (items channel.settings channel.events) rendition)

abbrev pub one_later : Ending → Ending
one_later (BadLine n) = BadLine (n + 1)
one_later (LineTooLong n) = LineTooLong (n + 1)

-- script `w` with one line more, and with this text
abbrev pub with_line : Script → List ℕ → Script
with_line w text = record w { lines = w.lines + 1; text = text; ending = option_map one_later w.ending }

-- If a line asks where a rendition stands, a script with it is as the script without it: with the same channels and all their events, the
-- same waiting requests, connections and replies. Only the count of its lines is one more, and its text has the answer.
abbrev pub StandingLaw : Type 0
StandingLaw = (before later : List Marked) (l : Marked) (place rendition : ℕ) → acts_in (come_to before) l ≡ At place rendition ∷ []
    → (answer : List ℕ) × (rest : List ℕ) × IsTold (come_to before) place rendition answer
    × ((come_to (before ++ later)).text ≡ (come_to before).text ++ rest)
    × (come_to (before ++ l ∷ later) ≡ with_line (come_to (before ++ later)) ((come_to before).text ++ (answer ++ rest)))
