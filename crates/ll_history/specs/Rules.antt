-- For private contracts: the rule of a history, and what its steps tell.
use Rattle.std.specs.Prelude.{◌≡◌, ◌<◌, ◌==◌, ℕ, ⊤, true, List, [], ◌∷◌, ◌++◌, length, MatchBool}
use mathlib.Core.List.{IsPrefix}
use Rattle.logbook.specs.Pages.{Book, Cell, Named, View, cell}
use Rattle.logbook.specs.Pages as pages
use Rattle.ll_history.specs.History.{deeds_at, done_at}
use Rattle.ll_history.specs.declared.deed.Deed.{Deed}
use Rattle.ll_history.specs.declared.deed.Logged.{Logged}

-- the number of a history's words: one for each place that a channel may have
abbrev pub all_places : ℕ
all_places = 1024

-- each of `count` words is the number of deeds of the channel at its place
pub record IsKeptIn (count : ℕ) (cells : List Cell) (history : List Logged) : Type 0 where
  pub many : length cells ≡ count
  pub each : (place : ℕ) → place < count → cell cells place ≡ (length (deeds_at place history), true)

abbrev pub IsKept : List Cell → List Logged → Type 0
IsKept cells history = IsKeptIn all_places cells history

-- the word of the channel at `place`
abbrev pub word_of : Book → ℕ → Named
word_of book place = record { tracked = true; key = place; book = book }

-- A deed was added at the end of the history, which the caller has then seen. `count` deeds were done to its channel before.
pub record IsAdded (before after : List Logged) (place count : ℕ) (deed : Deed) : Type 0 where
  pub past : List Logged
  pub grows : IsPrefix before past
  pub counted : length (deeds_at place past) ≡ count
  pub added : after ≡ past ++ done_at place deed ∷ []

-- the word was the number of deeds that was expected, and the deed was added; or it was another number
abbrev pub Adds : pages.Step Logged → View Logged ℕ → ℕ → View Logged ℕ → Type 0
Adds step before found after = MatchBool (found == step.old) (IsAdded before.0 after.0 step.key step.old step.ask.deed) ⊤

-- the history so far was seen, and the number of deeds of the channel found
abbrev pub Looks : pages.Step Logged → View Logged ℕ → ℕ → View Logged ℕ → Type 0
Looks step before found after = length (deeds_at step.key after.0) ≡ found
