-- A player's connection over one step: what each call that it makes leads to.
use Rattle.std.proofs.Common.{◌≡◌, ◌⊎◌, ℕ, zero, suc, List, [], ◌∷◌, Bool, true, false, Option, Some, None, IfSome, length, refl, ap, sym, subst, ◌∙◌, arith, inl, inr, is_some, option_map, Result, Ok, Err, OnOk, OnErr}
use Rattle.ll_device.specs.Inward.{Inward, looked_at}
use Rattle.ll_hub.specs.Claim.{ClaimValue}
use Rattle.ll_hub.specs.Passes.{PassValue}
use Rattle.ll_player.specs.Asking.{IsReplyTo}
use Rattle.ll_player.specs.Connections.{ConnectionValue, Fails, HasCollected, HasLost, IsOn, Steps, moment_of}
use Rattle.ll_player.specs.Playing.{IsCutShort, IsPlayed, IsPlaying, Moment, Opening, moment}
use Rattle.ll_player.specs.Reading.{Came, Ended, HasCome, IsDrained, IsFed}
use Rattle.ll_player.specs.Steps.{BreaksOff, PlaysOn}
use Rattle.ll_service.specs.Reads.{HasEnded}
use Rattle.ll_player.proofs.CutLemmas.{cut-now}
use Rattle.ll_player.proofs.PlayLemmas.{playing-collected, playing-fed, playing-first, playing-looked}
use Rattle.ll_session.proofs.ShutLemmas.{has_shut}
use Rattle.ll_session.specs.Past.{HasShut, past}
use Rattle.ll_session.specs.Requests.{requests}
use Rattle.ll_session.specs.Talk.{SessionValue, fresh}
use Rattle.ll_settings.specs.Settings.{Configuration}

no-bytes : (xs : List ℕ) → length xs ≡ 0 → xs ≡ []
no-bytes [] e = refl
no-bytes (x ∷ xs) e = absurd (omega arith)

module _ (shows : ℕ → Type 0) (hub : List Configuration) (alone : Bool) (o : Opening) where
  fed-by : (before after : Inward) (written : Option (List ℕ)) (old new : SessionValue) (pass : PassValue) (n : ℕ) → old.shut ≡ false
      → IsFed n before after old new → (n ≡ 0 → after ≡ looked_at 1 1 [] before) → IsPlaying shows hub alone o (moment before written old None pass)
      → IsPlaying shows hub alone o (moment after written new None pass)
  fed-by before after written old new pass zero unshut f end p =
      let none : f.came ≡ [] = no-bytes f.came f.many in
      playing-fed shows hub alone o before after written old new pass 1 1 f.came p unshut f.taken (end refl ∙ ap (λ bytes. looked_at 1 1 bytes before) (sym none))
  fed-by before after written old new pass (suc n) unshut f end p =
      playing-fed shows hub alone o before after written old new pass 1 0 f.came p unshut f.taken (f.read (omega arith))

  -- a read that doesn't wait
  pub playing-read : (before after : Inward) (written : Option (List ℕ)) (old new : SessionValue) (pass : PassValue) (came : Option ℕ) → old.shut ≡ false
      → IfSome came (λ n. IsFed n before after old new) → (came ≡ None → (after ≡ before) × (new ≡ old)) → (came ≡ Some 0 → after ≡ looked_at 1 1 [] before)
      → IsPlaying shows hub alone o (moment before written old None pass) → IsPlaying shows hub alone o (moment after written new None pass)
  playing-read before after written old new pass None unshut f nothing end p =
      let same = nothing refl in
      subst (λ (v : SessionValue). IsPlaying shows hub alone o (moment after written v None pass)) (sym same.1)
      (subst (λ (i : Inward). IsPlaying shows hub alone o (moment i written old None pass)) (sym same.0) p)
  playing-read before after written old new pass (Some n) unshut f nothing end p =
      fed-by before after written old new pass n unshut f (λ e. end (ap (λ k. Some k) e)) p

  -- a read that waits
  pub playing-came : (before after : Inward) (written : Option (List ℕ)) (old new : SessionValue) (pass : PassValue) (came : Bool) → old.shut ≡ false
      → HasCome came before after old new
      → IsPlaying shows hub alone o (moment before written old None pass) → IsPlaying shows hub alone o (moment after written new None pass)
  playing-came before after written old new pass came unshut (Came bytes a read is) p = playing-fed shows hub alone o before after written old new pass 1 0 bytes p unshut is read
  playing-came before after written old new pass came unshut (Ended a read is) p =
      subst (λ (v : SessionValue). IsPlaying shows hub alone o (moment after written v None pass)) (sym is)
      (playing-looked shows hub alone o before after written old None pass 1 1 p read)

-- ---- a connection as a value

module _ (shows : ℕ → Type 0) (hub : List Configuration) where
  pub steps-then : (old mid new : ConnectionValue) (before seen after : PassValue) → PlaysOn shows hub (moment_of old before) (moment_of mid seen)
      → Steps shows hub seen after mid new → Steps shows hub before after old new
  steps-then old mid new before seen after first s = record { plays = λ alone o p. s.plays alone o (first alone o p); on = s.on }

  pub fails-then : (old mid new : ConnectionValue) (before seen after : PassValue) → PlaysOn shows hub (moment_of old before) (moment_of mid seen)
      → Fails shows hub seen after mid new → Fails shows hub before after old new
  fails-then old mid new before seen after first f = λ alone o p. f alone o (first alone o p)

  -- the claim of a connection
  claimed : (old : ConnectionValue) (claim : ClaimValue) (channels : List Configuration) → old.claim ≡ Some (claim, channels)
      → option_map (λ (held : ClaimValue × List Configuration). held.0) old.claim ≡ Some claim
  claimed old claim channels is = ap (option_map (λ (held : ClaimValue × List Configuration). held.0)) is

  -- the reply that was held is collected
  pub collects : (old new : ConnectionValue) (before after : PassValue) → IsOn hub old → HasCollected before after old new → PlaysOn shows hub (moment_of old before) (moment_of new after)
  collects old new before after on h =
      λ alone o p.
      let same : h.hub ≡ hub = subst (λ c. IfSome c (λ (held : ClaimValue × List Configuration). held.1 ≡ hub)) h.held on in
      subst (λ (c : ConnectionValue). IsPlaying shows hub alone o (moment_of c after)) (sym h.after)
      (playing-collected shows hub alone o old.inward old.written old.session _ h.claim h.told before after
      (subst (λ c. IsPlaying shows hub alone o (moment old.inward old.written old.session c before)) (claimed old h.claim h.hub h.held) p)
      (subst (λ channels. IsReplyTo channels h.claim before after h.told) same h.right) refl)

  -- it is lost
  pub loses : (old new : ConnectionValue) (before after : PassValue) → HasLost before after old new → Fails shows hub before after old new
  loses old new before after h =
      λ alone o p.
      subst (λ (c : ConnectionValue). IsCutShort shows hub alone o c.inward c.written after) (sym h.after)
      (cut-now shows hub alone o old.inward old.written old.session _ before after p h.grows)

-- ---- the request that is held, as a connection has it

-- a new session has put out nothing
pub drained-fresh : IsDrained fresh
unfolding requests
drained-fresh = record { sent = λ e. refl; none = λ s e. refl }

-- a connection that has read
pub goes-read : (shows : ℕ → Type 0) (hub : List Configuration) (inward after : Inward) (base written : Option (List ℕ)) (old new : SessionValue)
    (claim other : Option ClaimValue) (pass : PassValue) (came : Option ℕ) → claim ≡ None → other ≡ None → old.shut ≡ false
    → IfSome came (λ n. IsFed n inward after old new) → (came ≡ None → (after ≡ inward) × (new ≡ old)) → (came ≡ Some 0 → after ≡ looked_at 1 1 [] inward) → written ≡ base
    → PlaysOn shows hub (moment inward base old claim pass) (moment after written new other pass)
goes-read shows hub inward after base written old new claim other pass came none none' unshut f nothing end kept =
    λ alone o p.
    subst (λ c. IsPlaying shows hub alone o (moment after written new c pass)) (sym none')
    (subst (λ (w : Option (List ℕ)). IsPlaying shows hub alone o (moment after w new None pass)) (sym kept)
    (playing-read shows hub alone o inward after base old new pass came unshut f nothing end
    (subst (λ c. IsPlaying shows hub alone o (moment inward base old c pass)) none p)))

-- ---- a connection as its fields have it

pub steps-viewed : (shows : ℕ → Type 0) (hub : List Configuration) (view now new : ConnectionValue) (before after : PassValue) → view ≡ now
    → Steps shows hub before after view new → Steps shows hub before after now new
steps-viewed shows hub view now new before after is s = subst (λ (v : ConnectionValue). Steps shows hub before after v new) is s

pub fails-viewed : (shows : ℕ → Type 0) (hub : List Configuration) (view now : ConnectionValue) (inward : Inward) (written : Option (List ℕ)) (before after : PassValue)
    → view ≡ now → BreaksOff shows hub (moment_of view before) inward written after → BreaksOff shows hub (moment_of now before) inward written after
fails-viewed shows hub view now inward written before after is f = subst (λ (v : ConnectionValue). BreaksOff shows hub (moment_of v before) inward written after) is f

pub on-viewed : (hub : List Configuration) (view now : ConnectionValue) → view ≡ now → IsOn hub now → IsOn hub view
on-viewed hub view now is on = subst (λ (v : ConnectionValue). IsOn hub v) (sym is) on

pub none-twice : {T U V : Type 0} (f : T → U) (g : U → V) (held : Option T) → is_some held ≡ false → option_map g (option_map f held) ≡ None
none-twice f g None e = refl
none-twice f g (Some h) e = absurd (cc (e))

pub none-map : {T U : Type 0} (f : T → U) (held : Option T) → is_some held ≡ false → option_map f held ≡ None
none-map f None e = refl
none-map f (Some h) e = absurd (cc (e))

-- ---- a connection to its end

-- why its session has shut
pub why-shut : (shows : ℕ → Type 0) (hub : List Configuration) (alone : Bool) (o : Opening) (m : Moment) (p : IsPlaying shows hub alone o m) → m.session.shut ≡ true
    → HasShut (past p.calls)
why-shut shows hub alone o m p shut = has_shut p.calls p.unmuted (ap (λ (v : SessionValue). v.shut) p.session ∙ shut)

shut-or-ended : {Why : Type 0} (shut : Bool) (before after : Inward) {s : Bool} → s ≡ shut → (s ≡ true → Why) → (s ≡ false → HasEnded before after)
    → ((s ≡ true) × Why) ⊎ HasEnded before after
shut-or-ended true before after is why ended = inl (is, why is)
shut-or-ended false before after is why ended = inr (ended is)

pub played : {A E : Type 0} (r : Result A E) (shows : ℕ → Type 0) (hub : List Configuration) (start pass : PassValue) (before after : Inward) (base written : Option (List ℕ))
    (first last : SessionValue) → first ≡ fresh
    → (first.shut ≡ false → OnOk r (PlaysOn shows hub (moment before base first None start) (moment after written last None pass)))
    → (IsDrained first → OnOk r (IsDrained last)) → OnOk r (last.shut ≡ false → HasEnded before after)
    → OnOk r (IsPlayed shows hub start pass before after base written)
played (Err e) shows hub start pass before after base written first last new goes drained ended = tt
played (Ok x) shows hub start pass before after base written first last new goes drained ended =
    let o : Opening = record { pass = start; inward = before; written = base } in
    let playing : IsPlaying shows hub true o (moment after written last None pass) =
    goes (ap (λ (s : SessionValue). s.shut) new) true o
    (subst (λ (s : SessionValue). IsPlaying shows hub true o (moment before base s None start)) (sym new) (playing-first shows hub true o)) in
    record {
      session = last;
      playing = playing;
      over = shut-or-ended last.shut before after refl (why-shut shows hub true o (moment after written last None pass) playing) ended;
      drained = drained (subst IsDrained (sym new) drained-fresh);
    }

pub stopped : {A E : Type 0} (r : Result A E) (shows : ℕ → Type 0) (hub : List Configuration) (start pass : PassValue) (before after : Inward) (base written : Option (List ℕ))
    (first : SessionValue) → first ≡ fresh
    → (first.shut ≡ false → OnErr r (BreaksOff shows hub (moment before base first None start) after written pass))
    → OnErr r (IsCutShort shows hub true (record { pass = start; inward = before; written = base }) after written pass)
stopped (Ok x) shows hub start pass before after base written first new breaks = tt
stopped (Err e) shows hub start pass before after base written first new breaks =
    breaks (ap (λ (s : SessionValue). s.shut) new) true (record { pass = start; inward = before; written = base })
    (subst (λ (s : SessionValue). IsPlaying shows hub true (record { pass = start; inward = before; written = base }) (moment before base s None start)) (sym new)
    (playing-first shows hub true (record { pass = start; inward = before; written = base })))
