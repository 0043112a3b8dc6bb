-- The messages that announce an encoder's pieces, by where the rendition stands and by the readings of a clock.
use Rattle.std.specs.Prelude.{ℕ, ◌+◌, ◌*◌, ◌/◌, ◌==◌, ◌&&◌, Bool, true, false, List, [], ◌∷◌, ◌++◌, Option, Some, None, fold, max, nat_lt, not, if◌then◌else◌}
use Rattle.ll_mp4.specs.declared.fault.StreamFault.{StreamFault}
use Rattle.ll_parts.specs.Stream.{Outcome}
use Rattle.ll_parts.specs.declared.pieces.Piece.{Piece}
use Rattle.ll_parts.specs.declared.pieces.Piece.TheVariants.{Begin, Init, Media, Finish, Break}
use Rattle.ll_announce.specs.Messages.{MessageValue, Names, break_message, end_message, finish_message, init_message, part_message}
use Rattle.ll_announce.specs.Places.{led, up}
use Rattle.ll_announce.specs.declared.course.Course.{Course}
use Rattle.ll_announce.specs.declared.said.Said.{Said}
use Rattle.ll_announce.specs.declared.said.Said.TheVariants as said
use Rattle.ll_announce.specs.declared.standing.Standing.{Standing}

-- milliseconds as microseconds, at most 2^64 - 1
abbrev pub from_millis : ℕ → ℕ
from_millis ms = up (ms * 1000) 0

-- microseconds as milliseconds, rounded up
abbrev pub millis_up : ℕ → ℕ
millis_up micros = (micros + 999) / 1000

-- the course of a rendition that stands at `s`: the encoder's times are counted from where its next part begins
abbrev pub course_of : Standing → Course
course_of s = record { place = s.place; next_start = from_millis s.time; origin = from_millis s.time }

-- when the next part begins after an item is announced
abbrev pub next_start_after : ℕ → Said → ℕ
next_start_after next_start said.Init = next_start
next_start_after next_start (said.Part duration finishes) = up next_start duration
next_start_after next_start said.Finish = next_start
next_start_after next_start (said.Break None) = next_start
next_start_after next_start (said.Break (Some ms)) = from_millis ms
next_start_after next_start said.End = next_start

abbrev pub course_after : Course → Said → Course
course_after c said = record c { place = led c.place said; next_start = next_start_after c.next_start said }

-- the course after a message
abbrev pub course_by : Course → MessageValue → Course
course_by c message = course_after c message.said

-- ---- a movie begins

-- the time that a break before it sets: that of the clock, or none if the rendition's time is past it
abbrev pub opening_time : Course → ℕ → Option ℕ
opening_time c now = if nat_lt (from_millis now) c.next_start then None else Some now

-- The break before it, and the time that this sets, by the time of the clock in milliseconds. If no part came before, no break is needed
-- unless the rendition's time is more than a part behind the clock.
abbrev pub opening : ℕ → Course → ℕ → Option (Option ℕ)
opening part c now =
    if not (c.place.end == 0) then Some (opening_time c now)
    else if nat_lt (up c.next_start part) (from_millis now) then Some (Some now)
    else None

abbrev pub opening_messages : Names → Option (Option ℕ) → List MessageValue
opening_messages names (Some time) = break_message names time ∷ []
opening_messages names None = []

-- an open segment is finished first
abbrev pub closing_messages : Names → ℕ → List MessageValue
closing_messages names index = if not (index == 0) then finish_message names ∷ [] else []

abbrev pub begun : Names → ℕ → Course → ℕ → List MessageValue
begun names part c now = closing_messages names c.place.index ++ opening_messages names (opening part c now)

-- ---- one piece

-- the time in milliseconds after a gap: that of the encoder, and no earlier than the next part would begin without it
abbrev pub gap_time : Course → ℕ → ℕ
gap_time c since = max (millis_up (up c.origin since)) (millis_up c.next_start)

-- the messages of a piece; `now` is used only if a movie begins
abbrev pub spoken : Names → ℕ → Course → ℕ → Piece → List MessageValue
spoken names part c now (Begin section) = begun names part c now ++ init_message names section ∷ []
spoken names part c now (Init section) = init_message names section ∷ []
spoken names part c now (Media media) = part_message names media ∷ []
spoken names part c now Finish = finish_message names ∷ []
spoken names part c now (Break None) = break_message names None ∷ []
spoken names part c now (Break (Some since)) = break_message names (Some (gap_time c since)) ∷ []

-- whether the encoder's times are counted anew from the end of the piece
abbrev pub counts_anew : Piece → Bool
counts_anew (Begin section) = true
counts_anew (Init section) = false
counts_anew (Media media) = false
counts_anew Finish = false
counts_anew (Break None) = true
counts_anew (Break (Some since)) = false

abbrev pub rebased : Bool → Course → Course
rebased false c = c
rebased true c = record c { origin = c.next_start }

abbrev pub course_then : Course → List MessageValue → Piece → Course
course_then c messages piece = rebased (counts_anew piece) (fold course_by c messages)

-- ---- all pieces

abbrev pub first_of : List ℕ → ℕ
first_of [] = 0
first_of (now ∷ later) = now

abbrev pub rest_of : List ℕ → List ℕ
rest_of [] = []
rest_of (now ∷ later) = later

-- the clock is read once for each movie
abbrev pub later_readings : Piece → List ℕ → List ℕ
later_readings (Begin section) readings = rest_of readings
later_readings (Init section) readings = readings
later_readings (Media media) readings = readings
later_readings Finish readings = readings
later_readings (Break time) readings = readings

abbrev pub texts : Names → ℕ → Course → List ℕ → List Piece → List MessageValue
texts names part c readings [] = []
texts names part c readings (piece ∷ pieces) =
    spoken names part c (first_of readings) piece
    ++ texts names part (course_then c (spoken names part c (first_of readings) piece) piece) (later_readings piece readings) pieces

-- the message of the end, if the rendition is to be ended and no fault ended the stream
abbrev pub last_texts : Names → Option StreamFault → Bool → List MessageValue
last_texts names (Some fault) ends = []
last_texts names None false = []
last_texts names None true = end_message names ∷ []

-- all messages of the pieces that are still to come
abbrev pub messages : Names → ℕ → Bool → Course → List ℕ → Outcome → List MessageValue
messages names part ends c readings outcome = texts names part c readings outcome.pieces ++ last_texts names outcome.fault ends
