-- How publishing goes, connection by connection.
use Rattle.std.specs.Prelude.{◌≡◌, ◌⊎◌, ◌≤◌, ◌+◌, ℕ, Bool, true, false, Option, Some, None}
use Rattle.ll_push.specs.Connecting.{IsBroken, IsConnection, IsEndless}
use Rattle.ll_push.specs.Exchanges.{LinkValue}
use Rattle.ll_push.specs.Faults.{most}
use Rattle.ll_push.specs.Publishing.{Ahead, TargetValue}
use Rattle.ll_push.specs.declared.connections.Ending.{Ending}
use Rattle.ll_push.specs.declared.connections.Ending.TheVariants as ending
use Rattle.ll_push.specs.declared.fault.PushFault.{PushFault}
use Rattle.ll_push.specs.declared.publication.Publication.{Publication}
use Rattle.ll_push.specs.declared.publication.Step.{Step}
use Rattle.ll_push.specs.declared.publication.Step.TheVariants as step

-- how many connections in a row had nothing accepted, after one more
abbrev pub idle_after : Bool → ℕ → ℕ
idle_after true idle = 0
idle_after false idle = idle + 1

-- how far the last connection went, by how publishing ended
abbrev pub step_of : Ending → Step
step_of ending.Whole = step.Whole
step_of (ending.Refused line) = step.Refused line

-- What is to be published, of which input, and on which connections: `gives` says which connection the source can give next, `value` what is
-- known of a connection, and `tries` how many in a row are allowed to have nothing accepted.
pub record Task (S P : Type 0) : Type 1 where
  pub gives : S → Option P → S → Type 0
  pub value : P → LinkValue
  pub tries : ℕ
  pub target : TargetValue
  pub ahead : Ahead
  pub origin : S

-- The publication after some connections that were lost, what is still to come, and how many of the last ones in a row had nothing accepted.
-- There is no publication before the origin has answered where the rendition stands.
pub data HasGoneOn {S P : Type 0} (t : Task S P) : Option Publication → Ahead → S → ℕ → Type 0 where
  -- before the first connection
  AtStart : HasGoneOn t None t.ahead t.origin 0
  -- one more connection, which was lost
  Another : (p q : Option Publication) (rest later : Ahead) (before after : S) (link link_then : P) (idle : ℕ) (accepted : Bool)
      → HasGoneOn t p rest before idle → idle ≤ t.tries → t.gives before (Some link) after
      → IsConnection t.target p rest (t.value link) q (Some later) (t.value link_then) (step.Gone accepted)
      → HasGoneOn t q later after (idle_after accepted idle)

-- the number of connections
abbrev pub connections : {S P : Type 0} {t : Task S P} {p : Option Publication} {rest : Ahead} {o : S} {idle : ℕ} → HasGoneOn t p rest o idle → ℕ
connections AtStart = 0
connections (Another p q rest later before after link link_then idle accepted earlier few given gone) = connections earlier + 1

-- After connections that were lost the source gave one more.
pub record HasLast {S P : Type 0} (t : Task S P) (after : S) : Type 0 where
  pub publication : Option Publication
  pub rest : Ahead
  pub before : S
  pub idle : ℕ
  pub went : HasGoneOn t publication rest before idle
  pub few : idle ≤ t.tries
  pub link : P
  pub given : t.gives before (Some link) after

-- The last connection went as far as `last` says.
pub record HasEnded {S P : Type 0} (t : Task S P) (left : Option Ahead) (after : S) (last : Step) : Type 0 where
  pub at : HasLast t after
  pub then : Option Publication
  pub link_then : P
  pub is_step : IsConnection t.target at.publication at.rest (t.value at.link) then left (t.value link_then) last

-- On the last connection publishing failed with `fault`.
pub record HasBroken {S P : Type 0} (t : Task S P) (after : S) (fault : PushFault) : Type 0 where
  pub at : HasLast t after
  pub link_then : P
  pub broken : IsBroken t.target at.publication at.rest (t.value at.link) (t.value link_then) fault

-- After connections that were lost the source gave no more, or too many in a row had nothing accepted.
pub record HasGivenUp {S P : Type 0} (t : Task S P) (left : Option Ahead) (after : S) : Type 0 where
  pub publication : Option Publication
  pub rest : Ahead
  pub is_left : left ≡ Some rest
  pub before : S
  pub idle : ℕ
  pub went : HasGoneOn t publication rest before idle
  pub why : ((idle ≤ t.tries) × t.gives before None after) ⊎ ((idle ≡ t.tries + 1) × (after ≡ before))

-- 2^64 - 1 messages were accepted on one more connection, or 2^64 - 1 connections were lost.
pub data HasLasted {S P : Type 0} (t : Task S P) (after : S) : Type 0 where
  OnOne : (at : HasLast t after) (link_then : P) → IsEndless t.target at.publication at.rest (t.value at.link) (t.value link_then) → HasLasted t after
  OnAll : (p : Option Publication) (rest : Ahead) (idle : ℕ) (went : HasGoneOn t p rest after idle) → connections went ≡ most → HasLasted t after

abbrev pub task : {S P : Type 0} → (S → Option P → S → Type 0) → (P → LinkValue) → ℕ → TargetValue → Ahead → S → Task S P
task gives value tries target ahead origin = record { gives = gives; value = value; tries = tries; target = target; ahead = ahead; origin = origin }
