-- A turn of a connection, from the results of its calls.
use Rattle.std.proofs.Common.{◌≡◌, ◌∙◌, ℕ, List, [], true, false, Option, Some, None, Result, Ok, Err, MatchResult, OnErr, refl, sym, subst, ap}
use mathlib.Core.List.{IsPrefix}
use Rattle.ll_directive.specs.Targets.{WantValue}
use Rattle.ll_hub.specs.Claim.{ClaimValue}
use Rattle.ll_hub.specs.Passes.{PassValue}
use Rattle.ll_player.specs.Asking.{IsHeldNow, IsToldNow}
use Rattle.ll_player.specs.Steps.{IsHalfTurn, IsTurn, Overflows, Told, Untold, Waits}
use Rattle.ll_player.proofs.LeftLemmas.{held-grows, told-grows}
use Rattle.ll_session.specs.Talk.{SessionValue, fed, next_want, pulled, replied}
use Rattle.ll_settings.specs.Settings.{Configuration}
use Rattle.ll_wire.specs.declared.answer.Answer.{Answer}

pub on-err : {A E : Type 0} {P : Type 0} (r : Result A E) → P → OnErr r P
on-err (Ok x) p = tt
on-err (Err e) p = p

-- the next want of `old` was taken, which is `want`, and the session is `now` then
pub record Took (old now : SessionValue) (want : WantValue) : Type 0 where
  pub some : next_want old ≡ Some want
  pub is : now ≡ pulled old

pub took : (old now : SessionValue) (read : Option WantValue) (want : WantValue) → read ≡ next_want old → read ≡ Some want → now ≡ pulled old → Took old now want
took old now read want from some is = record { some = sym from ∙ some; is = is }

module _ (shows : ℕ → Type 0) (hub : List Configuration) (before after : PassValue) (old now : SessionValue) (want : WantValue) where
  pub half-turn : (new : SessionValue) → Took old now want → new ≡ now → IsPrefix before.history after.history → IsHalfTurn before after old new
  half-turn new t same grows = Untold want t.some (same ∙ t.is) grows

  module _ {H : Type 0} (claim : H → ClaimValue) (read : Result Answer H) where
    abbrev pub IsAsked : Type 0
    IsAsked = MatchResult read (IsToldNow shows hub want before after) (λ held. IsHeldNow shows hub want before after (claim held))

    told : (told : Answer) → IsAsked → read ≡ Ok told → IsToldNow shows hub want before after told
    told answer asked is = subst (λ r. MatchResult r (IsToldNow shows hub want before after) (λ held. IsHeldNow shows hub want before after (claim held))) is asked

    waits : (held : H) → IsAsked → read ≡ Err held → IsHeldNow shows hub want before after (claim held)
    waits held asked is = subst (λ r. MatchResult r (IsToldNow shows hub want before after) (λ held. IsHeldNow shows hub want before after (claim held))) is asked

    pub told-half : (answer : Answer) (new : SessionValue) → Took old now want → IsAsked → read ≡ Ok answer → new ≡ now → IsHalfTurn before after old new
    told-half answer new t asked is same = half-turn new t same (told-grows shows hub want before after answer (told answer asked is))

    pub held-half : (held : H) (new : SessionValue) → Took old now want → IsAsked → read ≡ Err held → new ≡ now → IsHalfTurn before after old new
    held-half held new t asked is same = half-turn new t same (held-grows shows hub want before after (claim held) (waits held asked is))

    pub told-turn : (answer : Answer) (new : SessionValue) → Took old now want → IsAsked → read ≡ Ok answer → new ≡ replied now answer → IsTurn shows hub before after old new None
    told-turn answer new t asked is put = Told want answer refl t.some (told answer asked is) (put ∙ ap (λ (s : SessionValue). replied s answer) t.is)

    pub shut-turn : (held : H) (new : SessionValue) → Took old now want → IsAsked → read ≡ Err held → new ≡ fed now [] → new.shut ≡ true → IsTurn shows hub before after old new None
    shut-turn held new t asked is put shut = Overflows want (claim held) refl t.some (waits held asked is) (put ∙ ap (λ (s : SessionValue). fed s []) t.is) shut

    pub held-turn : (held : H) (new : SessionValue) → Took old now want → IsAsked → read ≡ Err held → new ≡ fed now [] → new.shut ≡ false
        → IsTurn shows hub before after old new (Some (claim held))
    held-turn held new t asked is put unshut = Waits want (claim held) refl t.some (waits held asked is) (put ∙ ap (λ (s : SessionValue). fed s []) t.is) unshut
