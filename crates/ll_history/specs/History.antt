-- The history of a hub: what was done to its channels, in one order that all threads share. Nothing leaves it, and it grows at its end alone.
use Rattle.std.specs.Prelude.{◌≡◌, ◌≤◌, ◌==◌, ℕ, List, [], ◌∷◌, ◌++◌, Some, filter, length, map, slice_get, take}
use mathlib.Core.List.{IsPrefix}
use Rattle.ll_history.specs.declared.deed.Deed.{Deed}
use Rattle.ll_history.specs.declared.deed.Logged.{Logged}

-- the deed `deed`, done to the channel at `place`
abbrev pub done_at : ℕ → Deed → Logged
done_at place deed = record { place = place; deed = deed }

-- what was done to the channel at `place`, in order
abbrev pub deeds_at : ℕ → List Logged → List Deed
deeds_at place history = map (λ l. l.deed) (filter (λ l. l.place == place) history)

-- what is known of one channel under its lock: all that was done to it
pub record ChannelDeeds : Type 0 where
  pub place : ℕ
  pub deeds : List Deed

-- `deed` was added to the history, which the caller has then seen: after all that the caller had seen, and after all that is known of its channel
pub record IsAddedTo (channel : ChannelDeeds) (deed : Deed) (before after : List Logged) : Type 0 where
  pub past : List Logged
  pub grows : IsPrefix before past
  pub all : deeds_at channel.place past ≡ channel.deeds
  pub added : after ≡ past ++ done_at channel.place deed ∷ []

-- A call has done `deed` to the channel at `place`. The deed stands in the history as entry `number`, after all that the caller had seen, and
-- `IsRight` holds of what was done to that channel before it.
pub record IsDone (before after : List Logged) (place : ℕ) (deed : Deed) (IsRight : List Deed → Type 0) : Type 0 where
  pub number : ℕ
  pub stands : slice_get after number ≡ Some (done_at place deed)
  pub right : IsRight (deeds_at place (take number after))
  pub later : length before ≤ number
  pub grows : IsPrefix before after

-- A call has done nothing. The caller has now seen all that was done to the channel at `place`, of which `IsRight` holds.
pub record IsShown (before after : List Logged) (place : ℕ) (IsRight : List Deed → Type 0) : Type 0 where
  pub right : IsRight (deeds_at place after)
  pub grows : IsPrefix before after
