-- A player's connection between its steps.
use Rattle.std.specs.Prelude.{◌≡◌, ◌≢◌, ◌⊎◌, ℕ, Bool, true, false, List, [], Option, IfSome, IsSome, Some, None, option_map}
use mathlib.Core.List.{IsPrefix}
use Rattle.ll_device.specs.Inward.{Inward}
use Rattle.ll_hub.specs.Claim.{ClaimValue}
use Rattle.ll_hub.specs.Passes.{PassValue}
use Rattle.ll_player.specs.Asking.{IsReplyTo}
use Rattle.ll_player.specs.Playing.{Moment, moment}
use Rattle.ll_player.specs.Steps.{BreaksOff, PlaysOn}
use Rattle.ll_player.specs.declared.connection.Step.{Step}
use Rattle.ll_player.specs.declared.connection.Step.TheVariants as step
use Rattle.ll_session.specs.Requests.{requests}
use Rattle.ll_session.specs.Talk.{SessionValue, replied}
use Rattle.ll_settings.specs.Settings.{Configuration}
use Rattle.ll_wire.specs.declared.answer.Answer.{Answer}

pub record ConnectionValue : Type 0 where
  -- how its link was read, what was written to it, and how often it has failed
  pub inward : Inward
  pub written : Option (List ℕ)
  pub failures : ℕ
  pub session : SessionValue
  -- the claim to the reply of its request that is held, and the channels of the hub that holds it
  pub claim : Option (ClaimValue × List Configuration)

-- the reply to its request that was held is put out, as the answer to the want that is out
pub record HasCollected (seen now : PassValue) (old new : ConnectionValue) : Type 0 where
  pub claim : ClaimValue
  pub hub : List Configuration
  pub held : old.claim ≡ Some (claim, hub)
  pub told : Answer
  pub right : IsReplyTo hub claim seen now told
  pub after : new ≡ record old { session = replied old.session told; claim = None }

-- its request was held, and the hub doesn't hold it, or there was no memory for its answer: the pass has only seen more, or has the reply
pub record HasLost (seen now : PassValue) (old new : ConnectionValue) : Type 0 where
  pub grows : IsPrefix seen.history now.history
  pub after : new ≡ record old { claim = None }

-- its request that is held, if one is, is held by this hub
abbrev pub IsOn : List Configuration → ConnectionValue → Type 0
IsOn hub c = IfSome c.claim (λ held. held.1 ≡ hub)

abbrev pub moment_of : ConnectionValue → PassValue → Moment
moment_of c pass = moment c.inward c.written c.session (option_map (λ (held : ClaimValue × List Configuration). held.0) c.claim) pass

-- a step after which it plays, if it did before
pub record Steps (shows : ℕ → Type 0) (hub : List Configuration) (seen now : PassValue) (old new : ConnectionValue) : Type 0 where
  pub plays : PlaysOn shows hub (moment_of old seen) (moment_of new now)
  pub on : IsOn hub new

-- a step that cuts it short
abbrev pub Fails : (ℕ → Type 0) → List Configuration → (seen now : PassValue) → (old new : ConnectionValue) → Type 0
Fails shows hub seen now old new = BreaksOff shows hub (moment_of old seen) new.inward new.written now

-- what a connection waits for: the reply to its request that is held; else its link, if answers are left; else it is over, if its session has shut; else
-- more bytes
pub data WaitsFor (c : ConnectionValue) (s : Step) : Type 0 where
  Reply : IsSome c.claim → s ≡ step.Held → WaitsFor c s
  Link : c.claim ≡ None → c.session.answers ≢ [] → s ≡ step.Unsent → WaitsFor c s
  Nothing : c.claim ≡ None → c.session.answers ≡ [] → c.session.shut ≡ true → s ≡ step.Over → WaitsFor c s
  Bytes : c.claim ≡ None → c.session.answers ≡ [] → c.session.shut ≡ false → (s ≡ step.Idle) ⊎ (s ≡ step.More) → WaitsFor c s

-- one that waits for bytes has no whole request left
abbrev pub IsCaughtUp : ConnectionValue → Type 0
IsCaughtUp c = c.claim ≡ None → c.session.answers ≡ [] → c.session.shut ≡ false → c.session.out ≡ None → requests c.session.unread ≡ []
