-- A connection that goes on by turns, and sends.
use Rattle.std.proofs.Common.{◌≡◌, ◌∙◌, ℕ, List, [], ◌∷◌, ◌++◌, Bool, true, false, Option, Some, None, IfSome, is_some, option_map, refl, ap, sym, subst}
use Rattle.std.proofs.lemmas.Option.{none-some}
use Rattle.std.specs.Prelude.{IsSome}
use mathlib.Core.List.{IsPrefix}
use Rattle.ll_device.specs.Inward.{Inward, looked_at}
use Rattle.ll_history.proofs.PrefixLemmas.{prefix-self}
use Rattle.ll_hub.specs.Claim.{ClaimValue}
use Rattle.ll_hub.specs.Passes.{PassValue}
use Rattle.ll_player.specs.Asking.{IsReplyTo}
use Rattle.ll_player.specs.Playing.{IsCutShort, IsPlaying, Moment, moment}
use Rattle.ll_player.specs.Reading.{HasCome, stays_or_ends}
use Rattle.ll_player.specs.Sending.{HasSent, More, Unsent}
use Rattle.ll_player.specs.Steps.{BreaksOff, PlaysOn, IsHalfTurn, IsTurn, Nothing, Overflows, Told, Waits}
use Rattle.ll_player.proofs.CutLemmas.{cut-half, cut-now, cut-reading, cut-same}
use Rattle.ll_player.proofs.PlayLemmas.{playing-collected, playing-gone, playing-sent, playing-turn}
use Rattle.ll_player.proofs.SessionLemmas.{fed-waits, taken}
use Rattle.ll_player.proofs.StepLemmas.{playing-came}
use Rattle.ll_session.proofs.SplitLemmas.{none_is_left}
use Rattle.ll_session.specs.Requests.{requests}
use Rattle.ll_session.specs.Talk.{SessionValue, pulled, pulled_by, replied, replied_by}
use Rattle.ll_settings.specs.Settings.{Configuration}
use Rattle.ll_wire.specs.declared.answer.Answer.{Answer}

module _ (shows : ℕ → Type 0) (hub : List Configuration) (start : Moment) where
  pub goes-sent : (inward after : Inward) (base : Option (List ℕ)) (old : SessionValue) (claim : Option ClaimValue) (pass : PassValue) (written : Option (List ℕ)) (new : SessionValue)
      → PlaysOn shows hub start (moment inward base old claim pass) → after ≡ inward → HasSent base old written new → PlaysOn shows hub start (moment after written new claim pass)
  goes-sent inward after base old claim pass written new goes same s =
      λ alone o p.
      subst (λ (i : Inward). IsPlaying shows hub alone o (moment i written new claim pass)) (sym same)
      (playing-sent shows hub alone o inward base old claim pass written new (goes alone o p) s)

  pub goes-turn : (inward : Inward) (written : Option (List ℕ)) (old new : SessionValue) (claim : Option ClaimValue) (pass now : PassValue)
      → PlaysOn shows hub start (moment inward written old None pass) → IsTurn shows hub pass now old new claim → PlaysOn shows hub start (moment inward written new claim now)
  goes-turn inward written old new claim pass now goes turn = λ alone o p. playing-turn shows hub alone o inward written old new claim pass now (goes alone o p) turn

  pub goes-as : (inward : Inward) (written : Option (List ℕ)) (session : SessionValue) (claim other : Option ClaimValue) (pass : PassValue)
      → PlaysOn shows hub start (moment inward written session claim pass) → claim ≡ other → PlaysOn shows hub start (moment inward written session other pass)
  goes-as inward written session claim other pass goes same = subst (λ c. PlaysOn shows hub start (moment inward written session c pass)) same goes

  pub breaks-now : (inward : Inward) (written : Option (List ℕ)) (session : SessionValue) (claim : Option ClaimValue) (pass : PassValue)
      → PlaysOn shows hub start (moment inward written session claim pass) → BreaksOff shows hub start inward written pass
  breaks-now inward written session claim pass goes = λ alone o p. cut-same shows hub alone o inward written session claim pass (goes alone o p)

  pub breaks-half : (inward : Inward) (written : Option (List ℕ)) (old new : SessionValue) (pass now : PassValue)
      → PlaysOn shows hub start (moment inward written old None pass) → IsHalfTurn pass now old new → BreaksOff shows hub start inward written now
  breaks-half inward written old new pass now goes half = λ alone o p. cut-half shows hub alone o inward written old new pass now (goes alone o p) half

  pub breaks-later : (inward after : Inward) (base written : Option (List ℕ)) (session : SessionValue) (claim : Option ClaimValue) (pass now : PassValue)
      → PlaysOn shows hub start (moment inward base session claim pass) → after ≡ inward → written ≡ base → IsPrefix pass.history now.history → BreaksOff shows hub start after written now
  breaks-later inward after base written session claim pass now goes same kept grows =
      λ alone o p.
      subst (λ (w : Option (List ℕ)). IsCutShort shows hub alone o after w now) (sym kept)
      (subst (λ (i : Inward). IsCutShort shows hub alone o i base now) (sym same) (cut-now shows hub alone o inward base session claim pass now (goes alone o p) grows))

  pub breaks-reading : (inward after : Inward) (base written : Option (List ℕ)) (session : SessionValue) (claim : Option ClaimValue) (pass : PassValue) (more found : ℕ)
      (came : List ℕ) → PlaysOn shows hub start (moment inward base session claim pass) → after ≡ looked_at more found came inward → written ≡ base
      → BreaksOff shows hub start after written pass
  breaks-reading inward after base written session claim pass more found came goes read kept =
      λ alone o p.
      subst (λ (w : Option (List ℕ)). IsCutShort shows hub alone o after w pass) (sym kept)
      (cut-reading shows hub alone o inward after base session claim pass pass more found came (goes alone o p) read (prefix-self pass.history))

  pub breaks-then : (mid : Moment) (inward : Inward) (written : Option (List ℕ)) (pass : PassValue) → PlaysOn shows hub start mid → BreaksOff shows hub mid inward written pass
      → BreaksOff shows hub start inward written pass
  breaks-then mid inward written pass goes breaks = λ alone o p. breaks alone o (goes alone o p)

  -- a request is held
  pub goes-held : {T : Type 0} (claim : T → ClaimValue) (read : Option T) (held : T) (first inward : Inward) (base written : Option (List ℕ)) (old session : SessionValue)
      (before pass : PassValue) → PlaysOn shows hub start (moment first base old None before)
      → PlaysOn shows hub (moment first base old None before) (moment inward written session (option_map claim read) pass) → read ≡ Some held
      → PlaysOn shows hub start (moment inward written session (Some (claim held)) pass)
  goes-held claim read held first inward base written old session before pass goes then is =
      λ alone o p.
      subst (λ r. IsPlaying shows hub alone o (moment inward written session (option_map claim r) pass)) is (then alone o (goes alone o p))

  pub goes-gone : (inward after : Inward) (base written : Option (List ℕ)) (session : SessionValue) (claim : ClaimValue) (pass now : PassValue)
      → PlaysOn shows hub start (moment inward base session (Some claim) pass) → after ≡ looked_at 0 1 [] inward → written ≡ base → now ≡ pass
      → PlaysOn shows hub start (moment after written session None now)
  goes-gone inward after base written session claim pass now goes read kept same =
      λ alone o p.
      subst (λ (x : PassValue). IsPlaying shows hub alone o (moment after written session None x)) (sym same)
      (subst (λ (w : Option (List ℕ)). IsPlaying shows hub alone o (moment after w session None pass)) (sym kept)
      (playing-gone shows hub alone o inward after base session claim pass (goes alone o p) read))

  pub goes-collected : (inward after : Inward) (base written : Option (List ℕ)) (old new : SessionValue) (channels : List Configuration) (claim : ClaimValue) (told : Answer)
      (pass now : PassValue) → PlaysOn shows hub start (moment inward base old (Some claim) pass) → after ≡ inward → written ≡ base → channels ≡ hub
      → IsReplyTo channels claim pass now told → new ≡ replied old told → PlaysOn shows hub start (moment after written new None now)
  goes-collected inward after base written old new channels claim told pass now goes same kept on reply put =
      λ alone o p.
      subst (λ (i : Inward). IsPlaying shows hub alone o (moment i written new None now)) (sym same)
      (subst (λ (w : Option (List ℕ)). IsPlaying shows hub alone o (moment inward w new None now)) (sym kept)
      (playing-collected shows hub alone o inward base old new claim told pass now (goes alone o p)
      (subst (λ x. IsReplyTo x claim pass now told) on reply) put))

  pub goes-came : (inward after : Inward) (base written : Option (List ℕ)) (old new : SessionValue) (pass : PassValue) (came : Bool)
      → PlaysOn shows hub start (moment inward base old None pass) → old.shut ≡ false → HasCome came inward after old new → written ≡ base
      → PlaysOn shows hub start (moment after written new None pass)
  goes-came inward after base written old new pass came goes unshut read kept =
      λ alone o p.
      subst (λ (w : Option (List ℕ)). IsPlaying shows hub alone o (moment after w new None pass)) (sym kept)
      (playing-came shows hub alone o inward after base old new pass came unshut read (goes alone o p))

-- ---- results that are known

pub looked-same : (read : Option Answer) (told : Answer) (before after : Inward) → read ≡ Some told → after ≡ stays_or_ends (is_some read) before → after ≡ before
looked-same read told before after is looked = looked ∙ ap (λ (r : Option Answer). stays_or_ends (is_some r) before) is

pub looked-gone : (read : Option Answer) (before after : Inward) → read ≡ None → after ≡ stays_or_ends (is_some read) before → after ≡ looked_at 0 1 [] before
looked-gone read before after is looked = looked ∙ ap (λ (r : Option Answer). stays_or_ends (is_some r) before) is

pub reply-of : (channels : List Configuration) (claim : ClaimValue) (pass now : PassValue) (read : Option Answer) (told : Answer) → read ≡ Some told
    → IfSome read (IsReplyTo channels claim pass now) → IsReplyTo channels claim pass now told
reply-of channels claim pass now read told is reply = subst (λ r. IfSome r (IsReplyTo channels claim pass now)) is reply

pub hub-of : {T : Type 0} (channels : T → List Configuration) (hub : List Configuration) (read : Option T) (held : T) → read ≡ Some held → IfSome read (λ h. channels h ≡ hub)
    → channels held ≡ hub
hub-of channels hub read held is on = subst (λ r. IfSome r (λ h. channels h ≡ hub)) is on

-- ---- the request that is held

pub none-claim : {T : Type 0} (claim : T → ClaimValue) (held : Option T) → is_some held ≡ false → option_map claim held ≡ None
none-claim claim None e = refl
none-claim claim (Some h) e = absurd (cc (e))

some-claim : {T : Type 0} (claim : T → ClaimValue) (held : Option T) → is_some held ≡ true → option_map claim held ≡ None → ⊥
some-claim claim None e none = absurd (cc (e))
some-claim claim (Some h) e none = none-some (claim h) (sym none)

is-some : (out : Option Bool) (keep : Bool) → out ≡ Some keep → IsSome out
is-some out keep e = subst IsSome (sym e) refl

out-turn : (shows : ℕ → Type 0) (hub : List Configuration) (before after : PassValue) (old new : SessionValue) (claim : Option ClaimValue)
    → IsTurn shows hub before after old new claim → (claim ≡ None → ⊥) → IsSome new.out
out-turn shows hub before after old new claim (Nothing c none is same) some = absurd (some c)
out-turn shows hub before after old new claim (Told want told c one right is) some = absurd (some c)
out-turn shows hub before after old new claim (Overflows want held c one right is shut) some = absurd (some c)
out-turn shows hub before after old new claim (Waits want held c one right is unshut) some =
    let t = taken old want one in
    is-some new.out t.keep
    (ap (λ (v : SessionValue). v.out) is ∙ fed-waits (pulled old) t.keep [] t.stays t.out (sym (ap (λ (v : SessionValue). v.shut) is) ∙ unshut))

out-sent : (base : Option (List ℕ)) (old : SessionValue) (written : Option (List ℕ)) (new : SessionValue) → HasSent base old written new → new.out ≡ old.out
out-sent base old written new (Unsent after last none same) = ap (λ (v : SessionValue). v.out) same
out-sent base old written new (More mid after now last count s wrote lost) = ap (λ (v : SessionValue). v.out) lost ∙ out-sent base old mid now s

-- it is out, before and after something is sent
pub held-out : {T : Type 0} (shows : ℕ → Type 0) (hub : List Configuration) (before after : PassValue) (old new last : SessionValue) (base written : Option (List ℕ))
    (claim : T → ClaimValue) (held : Option T)
    → IsTurn shows hub before after old new (option_map claim held) → HasSent base new written last → is_some held ≡ true → IsSome last.out
held-out shows hub before after old new last base written claim held turn s some =
    subst IsSome (sym (out-sent base new written last s)) (out-turn shows hub before after old new (option_map claim held) turn (some-claim claim held some))

-- ---- nothing is left

not-empty : (xs : List (List ℕ)) (x : List ℕ) → xs ++ x ∷ [] ≡ [] → ⊥
not-empty [] x e = absurd (cc (e))
not-empty (y ∷ xs) x e = absurd (cc (e))

replied-some-by : (keep : Bool) (s : SessionValue) (a : Answer) → (replied_by (Some keep) s a).answers ≡ [] → ⊥
replied-some-by true s a e = not-empty s.answers _ e
replied-some-by false s a e = not-empty s.answers _ e

replied-some : (s : SessionValue) (keep : Bool) (a : Answer) → s.out ≡ Some keep → (replied s a).answers ≡ [] → ⊥
replied-some s keep a out e = replied-some-by keep s a (sym (ap (λ (o : Option Bool). (replied_by o s a).answers) out) ∙ e)

was-free-by : (shut : Bool) (out : Option Bool) (s : SessionValue) → s.shut ≡ shut → s.out ≡ out → (pulled_by shut out s).shut ≡ false → (pulled_by shut out s).out ≡ None
    → (shut ≡ false) × (out ≡ None)
was-free-by true out s a b unshut free = absurd (cc (sym a ∙ unshut))
was-free-by false (Some keep) s a b unshut free = absurd (none-some keep (sym free ∙ b))
was-free-by false None s a b unshut free = (refl, refl)

-- a turn that puts out nothing leaves no request
pub drained-turn : (shows : ℕ → Type 0) (hub : List Configuration) (before after : PassValue) (old new : SessionValue) (claim : Option ClaimValue)
    → IsTurn shows hub before after old new claim → claim ≡ None → new.answers ≡ [] → new.shut ≡ false → new.out ≡ None → requests new.unread ≡ []
drained-turn shows hub before after old new claim (Nothing c none is same) unclaimed empty unshut free =
    let was = was-free-by old.shut old.out old refl refl (sym (ap (λ (v : SessionValue). v.shut) is) ∙ unshut) (sym (ap (λ (v : SessionValue). v.out) is) ∙ free) in
    ap (λ (v : SessionValue). requests v.unread) is ∙ none_is_left old was.0 was.1 none (sym (ap (λ (v : SessionValue). v.shut) is) ∙ unshut)
drained-turn shows hub before after old new claim (Told want told c one right is) unclaimed empty unshut free =
    let t = taken old want one in
    absurd (replied-some (pulled old) t.keep told t.out (sym (ap (λ (v : SessionValue). v.answers) is) ∙ empty))
drained-turn shows hub before after old new claim (Waits want held c one right is stays) unclaimed empty unshut free = absurd (none-some held (sym unclaimed ∙ c))
drained-turn shows hub before after old new claim (Overflows want held c one right is shut) unclaimed empty unshut free = absurd (cc (sym shut ∙ unshut))
