-- A player's connection that is cut short by a step.
use Rattle.std.proofs.Common.{◌≡◌, ℕ, ◌+◌, List, [], ◌∷◌, ◌++◌, Bool, Option, Some, None, ap, sym, subst, ◌∙◌, append-nil, arith}
use mathlib.Core.List.{IsPrefix}
use Rattle.ll_device.proofs.InwardLemmas.{looked_at-on}
use Rattle.ll_device.specs.Inward.{Inward, looked_at}
use Rattle.ll_directive.specs.Targets.{WantValue}
use Rattle.ll_history.proofs.PrefixLemmas.{prefix-self, prefix-trans}
use Rattle.ll_hub.specs.Claim.{ClaimValue}
use Rattle.ll_hub.specs.Passes.{PassValue}
use Rattle.ll_player.specs.Playing.{IsCutShort, IsPlaying, Opening, last_pass, moment, wants_in, wants_of}
use Rattle.ll_player.specs.Steps.{IsHalfTurn, Untaken, Untold}
use Rattle.ll_player.proofs.LeftLemmas.{left-all, left-few}
use Rattle.ll_player.proofs.LeftLemmas.{follows-grows}
use Rattle.ll_player.proofs.SessionLemmas.{past-one, taken, unmuted-one, wants-append}
use Rattle.ll_session.specs.Past.{Next, Past, next_entries, past}
use Rattle.ll_session.specs.Talk.{SessionValue, next_want}
use Rattle.ll_settings.specs.Settings.{Configuration}
use Rattle.std.specs.Io.KnownBytes.{Appends}

module _ (shows : ℕ → Type 0) (hub : List Configuration) (alone : Bool) (o : Opening) where
  -- it was read, and what came was not fed; and its pass has seen more
  pub cut-reading : (mid inward : Inward) (written : Option (List ℕ)) (session : SessionValue) (claim : Option ClaimValue) (pass now : PassValue) (more found : ℕ) (came : List ℕ)
      → IsPlaying shows hub alone o (moment mid written session claim pass) → inward ≡ looked_at more found came mid → IsPrefix pass.history now.history
      → IsCutShort shows hub alone o inward written now
  cut-reading mid inward written session claim pass now more found came p read grows =
      let q = past p.calls in
      let few = left-few shows hub alone (last_pass o.pass p.plays) pass p.ends session.out session.shut q.overflowed claim (wants_of q.entries) (wants_in p.plays) p.left in
      record {
        calls = p.calls;
        unmuted = p.unmuted;
        reads = p.reads + more;
        ends = p.ends + found;
        untaken = came;
        read = looked_at-on o.inward mid inward p.reads p.ends more found q.fed came p.read read;
        plays = p.plays;
        told = p.told;
        right = p.right;
        unanswered = few.0;
        asked = few.1;
        few = few.2;
        passed = prefix-trans (last_pass o.pass p.plays).history pass.history now.history few.3 grows;
        sent = p.sent;
      }

  -- nothing was read
  pub cut-now : (inward : Inward) (written : Option (List ℕ)) (session : SessionValue) (claim : Option ClaimValue) (pass now : PassValue)
      → IsPlaying shows hub alone o (moment inward written session claim pass) → IsPrefix pass.history now.history → IsCutShort shows hub alone o inward written now
  cut-now inward written session claim pass now p grows =
      let q = past p.calls in
      let few = left-few shows hub alone (last_pass o.pass p.plays) pass p.ends session.out session.shut q.overflowed claim (wants_of q.entries) (wants_in p.plays) p.left in
      record {
        calls = p.calls;
        unmuted = p.unmuted;
        reads = p.reads;
        ends = p.ends;
        untaken = [];
        read = p.read ∙ ap (λ bytes. looked_at p.reads p.ends bytes o.inward) (sym (append-nil q.fed));
        plays = p.plays;
        told = p.told;
        right = p.right;
        unanswered = few.0;
        asked = few.1;
        few = few.2;
        passed = prefix-trans (last_pass o.pass p.plays).history pass.history now.history few.3 grows;
        sent = p.sent;
      }

  pub cut-same : (inward : Inward) (written : Option (List ℕ)) (session : SessionValue) (claim : Option ClaimValue) (pass : PassValue)
      → IsPlaying shows hub alone o (moment inward written session claim pass) → IsCutShort shows hub alone o inward written pass
  cut-same inward written session claim pass p = cut-now inward written session claim pass pass p (prefix-self pass.history)

  -- a request was taken, and its answer isn't put out
  cut-untold : (inward : Inward) (written : Option (List ℕ)) (old : SessionValue) (pass now : PassValue) (want : WantValue)
      → IsPlaying shows hub alone o (moment inward written old None pass) → next_want old ≡ Some want → IsPrefix pass.history now.history
      → IsCutShort shows hub alone o inward written now
  cut-untold inward written old pass now want p some grows =
      let q = past p.calls in
      let t = taken old want some in
      let more = past-one p.calls Next in
      let all = left-all shows hub alone (last_pass o.pass p.plays) pass p.ends old.out old.shut q.overflowed (wants_of q.entries) (wants_in p.plays) p.left t.free t.unshut in
      record {
        calls = p.calls ++ Next ∷ [];
        unmuted = unmuted-one p.calls Next p.unmuted (λ e. cc);
        reads = p.reads;
        ends = p.ends;
        untaken = [];
        read = p.read ∙ ap (λ bytes. looked_at p.reads p.ends bytes o.inward) (sym (append-nil q.fed))
            ∙ ap (λ (x : Past). looked_at p.reads p.ends (x.fed ++ []) o.inward) (sym more);
        plays = p.plays;
        told = ap (λ (x : Past). x.replies) more ∙ p.told;
        right = p.right;
        unanswered = want ∷ [];
        asked =
            ap (λ (x : Past). wants_of x.entries) more ∙ wants-append q.entries (next_entries q.session)
            ∙ ap (λ ws. wants_of q.entries ++ ws) (ap (λ (v : SessionValue). wants_of (next_entries v)) p.session ∙ t.one) ∙ ap (λ ws. ws ++ want ∷ []) all.0;
        few = omega arith;
        passed = prefix-trans (last_pass o.pass p.plays).history pass.history now.history (follows-grows alone (last_pass o.pass p.plays) pass all.1) grows;
        sent = subst (λ (x : Past). Appends o.written written x.gone) (sym more) p.sent;
      }

  pub cut-half : (inward : Inward) (written : Option (List ℕ)) (old new : SessionValue) (pass now : PassValue)
      → IsPlaying shows hub alone o (moment inward written old None pass) → IsHalfTurn pass now old new → IsCutShort shows hub alone o inward written now
  cut-half inward written old new pass now p (Untaken is same) =
      subst (λ (x : PassValue). IsCutShort shows hub alone o inward written x) (sym same) (cut-same inward written old None pass p)
  cut-half inward written old new pass now p (Untold want some is grows) = cut-untold inward written old pass now want p some grows
