-- What one step of a connection leads to. The last two are for private contracts: what a turn does to its session and its pass.
use Rattle.std.specs.Prelude.{◌≡◌, ℕ, Bool, true, false, List, [], Option, Some, None}
use mathlib.Core.List.{IsPrefix}
use Rattle.ll_device.specs.Inward.{Inward}
use Rattle.ll_directive.specs.Targets.{WantValue}
use Rattle.ll_hub.specs.Claim.{ClaimValue}
use Rattle.ll_hub.specs.Passes.{PassValue}
use Rattle.ll_player.specs.Asking.{IsHeldNow, IsToldNow}
use Rattle.ll_player.specs.Playing.{IsCutShort, IsPlaying, Moment, Opening}
use Rattle.ll_session.specs.Talk.{SessionValue, fed, next_want, pulled, replied}
use Rattle.ll_settings.specs.Settings.{Configuration}
use Rattle.ll_wire.specs.declared.answer.Answer.{Answer}

-- a connection that plays before the step plays after it, whatever it was at first
abbrev pub PlaysOn : (ℕ → Type 0) → List Configuration → (old new : Moment) → Type 0
PlaysOn shows hub old new = (alone : Bool) (o : Opening) → IsPlaying shows hub alone o old → IsPlaying shows hub alone o new

-- a connection that plays before the step is cut short by it
abbrev pub BreaksOff : (ℕ → Type 0) → List Configuration → (old : Moment) → (inward : Inward) → (written : Option (List ℕ)) → (pass : PassValue) → Type 0
BreaksOff shows hub old inward written pass = (alone : Bool) (o : Opening) → IsPlaying shows hub alone o old → IsCutShort shows hub alone o inward written pass

-- The next request was taken, if there is one, and its answer was put out; or it is held; or it was, until it showed that too many bytes have come
-- after it.
pub data IsTurn (shows : ℕ → Type 0) (hub : List Configuration) (before after : PassValue) (old new : SessionValue) (claim : Option ClaimValue) : Type 0 where
  Nothing : claim ≡ None → next_want old ≡ None → new ≡ pulled old → after ≡ before → IsTurn shows hub before after old new claim
  Told : (want : WantValue) (told : Answer) → claim ≡ None → next_want old ≡ Some want → IsToldNow shows hub want before after told
      → new ≡ replied (pulled old) told → IsTurn shows hub before after old new claim
  Waits : (want : WantValue) (c : ClaimValue) → claim ≡ Some c → next_want old ≡ Some want → IsHeldNow shows hub want before after c
      → new ≡ fed (pulled old) [] → new.shut ≡ false → IsTurn shows hub before after old new claim
  Overflows : (want : WantValue) (c : ClaimValue) → claim ≡ None → next_want old ≡ Some want → IsHeldNow shows hub want before after c
      → new ≡ fed (pulled old) [] → new.shut ≡ true → IsTurn shows hub before after old new claim

-- nothing was taken, or a request, whose answer was not put out
pub data IsHalfTurn (before after : PassValue) (old new : SessionValue) : Type 0 where
  Untaken : new ≡ old → after ≡ before → IsHalfTurn before after old new
  Untold : (want : WantValue) → next_want old ≡ Some want → new ≡ pulled old → IsPrefix before.history after.history → IsHalfTurn before after old new
