-- How the messages that come for an origin are brought to it, connection by connection.
use Rattle.std.specs.Prelude.{◌≡◌, ◌⊎◌, ◌≤◌, ◌+◌, ⊤, ℕ, Bool, true, false, List, [], ◌++◌, Option, Some, None, fold}
use Rattle.ll_announce.specs.Messages.{MessageValue, Names}
use Rattle.ll_announce.specs.declared.place.Place.{Place}
use Rattle.ll_push.specs.Answers.{refuses}
use Rattle.ll_push.specs.Exchanges.{LinkValue}
use Rattle.ll_push.specs.Faults.{most}
use Rattle.ll_push.specs.History.{idle_after}
use Rattle.ll_push.specs.Publishing.{led_by}
use Rattle.ll_push.specs.declared.fault.PushFault.{PushFault}
use Rattle.ll_pair.specs.Carrying.{IsBroken, IsConnection, IsEndless, accepted_on}
use Rattle.ll_pair.specs.declared.carrying.Carried.{Carried}
use Rattle.ll_pair.specs.declared.carrying.Carried.TheVariants as ending
use Rattle.ll_pair.specs.declared.progress.Progress.{Progress}
use Rattle.ll_pair.specs.declared.progress.Step.{Step}
use Rattle.ll_pair.specs.declared.progress.Step.TheVariants as step

-- how far the last connection went, by how the origin's messages ended
abbrev pub step_of : Carried → Step
step_of ending.Whole = step.Whole
step_of (ending.Refused line) = step.Refused line
step_of ending.Left = step.Left

-- Which messages come for the origin, whose rendition's next part stands at `place` first, and on which connections: `gives` says which
-- connection the source can give next, `value` what is known of a connection, and `tries` how many in a row are allowed to have nothing
-- accepted.
pub record Task (S P : Type 0) : Type 1 where
  pub gives : S → Option P → S → Type 0
  pub value : P → LinkValue
  pub tries : ℕ
  pub names : Names
  pub place : Place
  pub messages : List MessageValue
  pub origin : S

-- What the origin has accepted after some connections that were lost: the first of the messages that come, none left out and none twice.
-- Then, how far it is known to be, the messages after those, and how many of the last connections in a row had nothing accepted.
pub data HasGoneOn {S P : Type 0} (t : Task S P) : List MessageValue → Progress → List MessageValue → S → ℕ → Type 0 where
  -- before the first connection
  AtStart : HasGoneOn t [] (record { place = t.place; tried = false }) t.messages t.origin 0
  -- one more connection, which was lost
  Another : (accepted : List MessageValue) (p q : Progress) (left rest : List MessageValue) (before after : S) (link link_then : P) (idle : ℕ) (some : Bool)
      → HasGoneOn t accepted p left before idle → idle ≤ t.tries → t.gives before (Some link) after
      → (went : IsConnection t.names p left (t.value link) q (Some rest) (t.value link_then) (step.Gone some))
      → HasGoneOn t (accepted ++ accepted_on went) q rest after (idle_after some idle)

-- the number of connections
abbrev pub connections : {S P : Type 0} {t : Task S P} {accepted : List MessageValue} {p : Progress} {left : List MessageValue} {o : S} {idle : ℕ} → HasGoneOn t accepted p left o idle → ℕ
connections AtStart = 0
connections (Another accepted p q left rest before after link link_then idle some earlier few given went) = connections earlier + 1

-- What was accepted is a prefix of the messages that come, `left` is what comes after it, and the place is the one to which it leads.
pub record IsPrefix (place : Place) (messages accepted : List MessageValue) (then : Place) (left : List MessageValue) : Type 0 where
  pub all : messages ≡ accepted ++ left
  pub place_then : then ≡ fold led_by place accepted

-- After connections that were lost the source gave one more.
pub record HasLast {S P : Type 0} (t : Task S P) (after : S) : Type 0 where
  pub accepted : List MessageValue
  pub progress : Progress
  pub left : List MessageValue
  pub before : S
  pub idle : ℕ
  pub went : HasGoneOn t accepted progress left before idle
  pub prefix : IsPrefix t.place t.messages accepted progress.place left
  pub few : idle ≤ t.tries
  pub link : P
  pub given : t.gives before (Some link) after

-- The last connection went as far as `last` says. What the origin has accepted in the end is a prefix of the messages that come.
pub record HasEnded {S P : Type 0} (t : Task S P) (left : Option (List MessageValue)) (after : S) (last : Step) : Type 0 where
  pub at : HasLast t after
  pub then : Progress
  pub rest : List MessageValue
  pub is_left : left ≡ Some rest
  pub link_then : P
  pub went : IsConnection t.names at.progress at.left (t.value at.link) then (Some rest) (t.value link_then) last
  pub prefix : IsPrefix t.place t.messages (at.accepted ++ accepted_on went) then.place rest

-- On the last connection it ended with `fault`.
pub record HasBroken {S P : Type 0} (t : Task S P) (after : S) (fault : PushFault) : Type 0 where
  pub at : HasLast t after
  pub link_then : P
  pub broken : IsBroken t.names at.progress at.left (t.value at.link) (t.value link_then) fault

-- After connections that were lost the source gave no more, or too many in a row had nothing accepted.
pub record HasGivenUp {S P : Type 0} (t : Task S P) (left : Option (List MessageValue)) (after : S) : Type 0 where
  pub accepted : List MessageValue
  pub progress : Progress
  pub rest : List MessageValue
  pub is_left : left ≡ Some rest
  pub before : S
  pub idle : ℕ
  pub went : HasGoneOn t accepted progress rest before idle
  pub prefix : IsPrefix t.place t.messages accepted progress.place rest
  pub why : ((idle ≤ t.tries) × t.gives before None after) ⊎ ((idle ≡ t.tries + 1) × (after ≡ before))

-- 2^64 - 1 messages were accepted on one more connection, or 2^64 - 1 connections were lost.
pub data HasLasted {S P : Type 0} (t : Task S P) (after : S) : Type 0 where
  OnOne : (at : HasLast t after) (link_then : P) → IsEndless t.names at.progress at.left (t.value at.link) (t.value link_then) → HasLasted t after
  OnAll : (accepted : List MessageValue) (p : Progress) (left : List MessageValue) (idle : ℕ) (went : HasGoneOn t accepted p left after idle) → connections went ≡ most → HasLasted t after

abbrev pub task : {S P : Type 0} → (S → Option P → S → Type 0) → (P → LinkValue) → ℕ → Names → Place → List MessageValue → S → Task S P
task gives value tries names place messages origin =
    record { gives = gives; value = value; tries = tries; names = names; place = place; messages = messages; origin = origin }

-- a line that is told as a refusal is one
abbrev pub EndsByAnswer : Carried → Type 0
EndsByAnswer ending.Whole = ⊤
EndsByAnswer (ending.Refused line) = refuses line ≡ true
EndsByAnswer ending.Left = ⊤
