-- The laws of publications and of answers.
use Rattle.std.specs.Prelude.{◌≡◌, ℕ, ◌==◌, Bool, true, false, List, not}
use Rattle.std.specs.List.{list_all}
use Rattle.ll_announce.specs.Courses.{course_of, messages}
use Rattle.ll_announce.specs.declared.standing.Standing.{Standing}
use Rattle.ll_parts.specs.Stream.{published}
use Rattle.ll_push.specs.Answers.{accepts, refuses}
use Rattle.ll_push.specs.Publishing.{Ahead, TargetValue, at_start, fault_to_come, messages_to_come}

-- At the start, in a rendition that stands at `s`, the messages to be sent are those of the pieces of all the encoder's bytes, and the fault
-- that ends them is that of these bytes.
abbrev pub FromTheStart : Type 0
FromTheStart = (t : TargetValue) (s : Standing) (ahead : Ahead)
    → (messages_to_come t (at_start t s) ahead ≡ messages t.names t.lengths.part t.ends (course_of s) ahead.readings (published t.lengths s.place.end ahead.input))
    × (fault_to_come (at_start t s) ahead ≡ (published t.lengths s.place.end ahead.input).fault)

-- no LF
abbrev pub is_inside : ℕ → Bool
is_inside b = not (b == 10)

abbrev pub has_no_end : List ℕ → Bool
has_no_end line = list_all is_inside line

-- no line both accepts and refuses
abbrev pub AreApart : Type 0
AreApart = (line : List ℕ) → accepts line ≡ true → refuses line ≡ false

-- an answer is one line: it has its only LF at its end
abbrev pub AreLines : Type 0
AreLines = (line : List ℕ) → (accepts line ≡ true → has_no_end line ≡ true) × (refuses line ≡ true → has_no_end line ≡ true)
