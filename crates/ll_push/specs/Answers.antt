-- The answers of an origin: what a line, without its end, says.
use Rattle.std.specs.Prelude.{◌≡◌, ◌⊎◌, ⊤, ℕ, ◌&&◌, ◌||◌, ◌==◌, Bool, true, false, not, List, [], ◌∷◌, ◌++◌, IsUtf8, Option, Some, None, bytes_eq, codes, flat_map, is_some, length, nat_le, if◌then◌else◌}
use Rattle.std.specs.List.{list_all, list_any, before_first, after_first}
use Rattle.std.specs.Char.{is_ascii_alphabetic}
use Rattle.ll_announce.specs.Standings.{standing}
use Rattle.ll_attr.specs.Numbers.{number_in}
use Rattle.ll_attr.specs.Words.{after}
use Rattle.ll_push.specs.declared.answer.Answer.{Answer}
use Rattle.ll_push.specs.declared.answer.Answer.TheVariants.{Accepted, Standing, Refused}
use Rattle.ll_push.specs.declared.answer.NoAnswer.{NoAnswer}
use Rattle.ll_push.specs.declared.answer.NoAnswer.TheVariants as no
use Rattle.ll_push.specs.declared.connections.Ending.{Ending}
use Rattle.ll_push.specs.declared.connections.Ending.TheVariants as ending
use Rattle.ll_push.specs.declared.publication.Step.{Step}
use Rattle.ll_push.specs.declared.publication.Step.TheVariants as step

abbrev pub counts : Option (List ℕ) → Bool
counts (Some count) = is_some (number_in 20 count)
counts None = false

-- the line is `ok` and a number: how many items the channel has with the message that it accepts
abbrev pub is_ok : List ℕ → Bool
is_ok line = counts (after (codes "ok ") line)

-- the line says that a message is accepted, though it couldn't be kept on disk
abbrev pub is_not_kept : List ℕ → Bool
is_not_kept line = bytes_eq line (codes "no 20 NotKept")

-- the line accepts a message
abbrev pub accepts : List ℕ → Bool
accepts line = is_ok line || is_not_kept line

-- one or more letters
abbrev pub is_word : List ℕ → Bool
is_word text = nat_le 1 (length text) && list_all is_ascii_alphabetic text

abbrev pub is_space : ℕ → Bool
is_space b = b == 32

-- what stands before the first space, and what stands after it, if there is one
abbrev pub halves : List ℕ → Option (List ℕ × List ℕ)
halves text = if list_any is_space text then Some (before_first is_space text, after_first is_space text) else None

abbrev pub is_code_and_name : Option (List ℕ × List ℕ) → Bool
is_code_and_name (Some halves) = is_some (number_in 20 halves.0) && is_word halves.1
is_code_and_name None = false

-- a number and a name
abbrev pub is_reason : List ℕ → Bool
is_reason text = is_code_and_name (halves text)

abbrev pub gives : Option (List ℕ) → Bool
gives (Some reason) = is_reason reason
gives None = false

abbrev pub gives_reason : List ℕ → Bool
gives_reason line = gives (after (codes "no ") line)

-- the line refuses a message: it gives a reason, and not that of a message which is accepted, though not kept
abbrev pub refuses : List ℕ → Bool
refuses line = gives_reason line && not (is_not_kept line)

-- the line isn't an answer, or isn't UTF-8
abbrev pub IsNone : List ℕ → Type 0
IsNone line = ¬ (IsUtf8 line) ⊎ ((accepts line ≡ false) × (refuses line ≡ false) × (standing.read line ≡ None))

-- the answer is what the line says; one that refuses is the line itself
abbrev pub IsSaid : List ℕ → Answer → Type 0
IsSaid line (Accepted unkept) = (accepts line ≡ true) × (unkept ≡ is_not_kept line)
IsSaid line (Standing s) = standing.read line ≡ Some s
IsSaid line (Refused text) = (text ≡ line) × (refuses line ≡ true)

-- why a line gives no answer: it isn't one; or out of memory for one that refuses
abbrev pub IsUnsaid : List ℕ → NoAnswer → Type 0
IsUnsaid line no.Bad = IsNone line
IsUnsaid line no.Memory = refuses line ≡ true
IsUnsaid line no.Lost = ⊥

-- a line with LF
abbrev pub ended : List ℕ → List ℕ
ended line = line ++ 10 ∷ []

-- lines one after another, each with LF
abbrev pub lines_text : List (List ℕ) → List ℕ
lines_text lines = flat_map ended lines

abbrev pub EndsByAnswer : Ending → Type 0
EndsByAnswer ending.Whole = ⊤
EndsByAnswer (ending.Refused line) = refuses line ≡ true

abbrev pub StepsByAnswer : Step → Type 0
StepsByAnswer step.Whole = ⊤
StepsByAnswer (step.Refused line) = refuses line ≡ true
StepsByAnswer (step.Gone accepted) = ⊤
