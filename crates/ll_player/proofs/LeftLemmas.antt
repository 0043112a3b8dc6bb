-- Which of a connection's requests is left without an answer, step by step; and what its pass has seen.
use Rattle.std.proofs.Common.{◌≡◌, ◌≤◌, ℕ, ◌+◌, List, [], ◌∷◌, ◌++◌, Bool, true, false, Option, Some, None, length, refl, ap, sym, subst, ◌∙◌, append-nil, arith}
use Rattle.std.proofs.lemmas.Option.{none-some}
use mathlib.Core.List.{IsPrefix}
use Rattle.ll_directive.specs.Targets.{WantValue}
use Rattle.ll_history.proofs.PrefixLemmas.{prefix-self, prefix-trans}
use Rattle.ll_hub.specs.Claim.{ClaimValue}
use Rattle.ll_hub.specs.Passes.{PassValue}
use Rattle.ll_player.specs.Asking.{IsHeldIn, IsHeldNow, IsReplyTo, IsToldAt, IsToldIn, IsToldNow}
use Rattle.ll_player.specs.Playing.{All, Follows, Gone, Held, IsLeft, Shut}
use Rattle.ll_player.proofs.SessionLemmas.{pulled-out, pulled-shut, stays-free}
use Rattle.ll_service.proofs.SeenLemmas.{seen-nothing, seen-then}
use Rattle.ll_session.specs.Talk.{SessionValue, next_want, pulled}
use Rattle.ll_settings.specs.Channels.{channel_of_name}
use Rattle.ll_settings.specs.Settings.{Configuration}
use Rattle.ll_verdict.specs.declared.fault.AskFault.TheVariants.{RecordFull, Memory}
use Rattle.ll_wire.specs.declared.answer.Answer.{Answer}
use Rattle.ll_wire.specs.declared.answer.Answer.TheVariants as answer

-- ---- passes

pub follows-same : (alone : Bool) (pass : PassValue) → Follows alone pass pass
follows-same true pass = seen-nothing pass
follows-same false pass = prefix-self pass.history

pub follows-grows : (alone : Bool) (before after : PassValue) → Follows alone before after → IsPrefix before.history after.history
follows-grows true before after seen = seen.grows
follows-grows false before after grows = grows

pub follows-then : (alone : Bool) (before mid after : PassValue) → Follows alone before mid → Follows alone mid after → Follows alone before after
follows-then true before mid after p q = seen-then before mid after p q
follows-then false before mid after p q = prefix-trans before.history mid.history after.history p q

-- ---- answers

module _ (shows : ℕ → Type 0) (hub : List Configuration) where
  told-at-grows : (place : ℕ) (want : WantValue) (before after : PassValue) (told : Answer) → IsToldAt shows hub place want before after told
      → IsPrefix before.history after.history
  told-at-grows place want before after (answer.Reply reply) t = t.2.answered.answered.grows
  told-at-grows place want before after (answer.Unavailable Memory) t = t.grows
  told-at-grows place want before after (answer.Unavailable RecordFull) t = t.0.grows
  told-at-grows place want before after (answer.Target fault) t = absurd t
  told-at-grows place want before after (answer.Head fault) t = absurd t

  told-in-grows : (found : Option (ℕ × Configuration)) (want : WantValue) (before after : PassValue) (told : Answer) → IsToldIn shows hub found want before after told
      → IsPrefix before.history after.history
  told-in-grows None want before after told t = subst (λ (p : PassValue). IsPrefix before.history p.history) (sym t.1) (prefix-self before.history)
  told-in-grows (Some found) want before after told t = told-at-grows found.0 want before after told t

  pub told-grows : (want : WantValue) (before after : PassValue) (told : Answer) → IsToldNow shows hub want before after told → IsPrefix before.history after.history
  told-grows want before after told t = told-in-grows (channel_of_name hub 0 want.channel) want before after told t

  held-in-grows : (found : Option (ℕ × Configuration)) (want : WantValue) (before after : PassValue) (claim : ClaimValue) → IsHeldIn shows hub found want before after claim
      → IsPrefix before.history after.history
  held-in-grows None want before after claim h = absurd h
  held-in-grows (Some found) want before after claim h = h.held.grows

  pub held-grows : (want : WantValue) (before after : PassValue) (claim : ClaimValue) → IsHeldNow shows hub want before after claim → IsPrefix before.history after.history
  held-grows want before after claim h = held-in-grows (channel_of_name hub 0 want.channel) want before after claim h

pub reply-grows : (hub : List Configuration) (claim : ClaimValue) (before after : PassValue) (told : Answer) → IsReplyTo hub claim before after told
    → IsPrefix before.history after.history
reply-grows hub claim before after told r = r.replied.decided.grows

-- ---- what is left

module _ (shows : ℕ → Type 0) (hub : List Configuration) (alone : Bool) (last pass : PassValue) where
  -- the same by other names
  pub left-as : (ends : ℕ) (out out' : Option Bool) (shut shut' over : Bool) (claim : Option ClaimValue) (asked asked' answered answered' : List WantValue)
      → out ≡ out' → shut ≡ shut' → asked ≡ asked' → answered ≡ answered' → IsLeft shows hub alone last pass ends out shut over claim asked answered
      → IsLeft shows hub alone last pass ends out' shut' over claim asked' answered'
  left-as ends out out' shut shut' over claim asked asked' answered answered' o s a w l =
      subst (λ x. IsLeft shows hub alone last pass ends out' shut' over claim asked' x) w
      (subst (λ x. IsLeft shows hub alone last pass ends out' shut' over claim x answered) a
      (subst (λ x. IsLeft shows hub alone last pass ends out' x over claim asked answered) s
      (subst (λ x. IsLeft shows hub alone last pass ends x shut over claim asked answered) o l)))

  -- its other end was looked at once more
  pub left-ends : (ends more : ℕ) (out : Option Bool) (shut over : Bool) (claim : Option ClaimValue) (asked answered : List WantValue)
      → IsLeft shows hub alone last pass ends out shut over claim asked answered → IsLeft shows hub alone last pass (ends + more) out shut over claim asked answered
  left-ends ends more out shut over claim asked answered (All a b c d) = All a b c d
  left-ends ends more out shut over claim asked answered (Held want keep c before after a b d e f g) = Held want keep c before after a b d e f g
  left-ends ends more out shut over claim asked answered (Gone want keep a b n c d) = Gone want keep a b (omega (arith, n)) c d
  left-ends ends more out shut over claim asked answered (Shut want a b f c d) = Shut want a b f c d

  -- none is held, and none is left, if another can be taken
  pub left-all : (ends : ℕ) (out : Option Bool) (shut over : Bool) (asked answered : List WantValue) → IsLeft shows hub alone last pass ends out shut over None asked answered
      → out ≡ None → shut ≡ false → (asked ≡ answered) × Follows alone last pass
  left-all ends out shut over asked answered (All a b c d) free unshut = (c, d)
  left-all ends out shut over asked answered (Held want keep c before after a b d e f g) free unshut = absurd (none-some c a)
  left-all ends out shut over asked answered (Gone want keep a b n c d) free unshut = absurd (none-some keep (sym free ∙ b))
  left-all ends out shut over asked answered (Shut want a b f c d) free unshut = absurd (cc (sym b ∙ unshut))

  -- nothing is taken
  pub left-nothing : (ends : ℕ) (s : SessionValue) (over : Bool) (asked answered : List WantValue) → next_want s ≡ None
      → IsLeft shows hub alone last pass ends s.out s.shut over None asked answered → IsLeft shows hub alone last pass ends (pulled s).out (pulled s).shut over None asked answered
  left-nothing ends s over asked answered none (All a b c d) = All a (stays-free s b none) c d
  left-nothing ends s over asked answered none (Held want keep c before after a b d e f g) = absurd (none-some c a)
  left-nothing ends s over asked answered none (Gone want keep a b n c d) = Gone want keep a (ap (λ (v : SessionValue). v.out) (pulled-out s keep b) ∙ b) n c d
  left-nothing ends s over asked answered none (Shut want a b f c d) = Shut want a (ap (λ (v : SessionValue). v.shut) (pulled-shut s b) ∙ b) f c d

  -- the player has hung up
  pub left-gone : (ends more : ℕ) (out : Option Bool) (shut over : Bool) (c : ClaimValue) (asked answered : List WantValue) → 1 ≤ more
      → IsLeft shows hub alone last pass ends out shut over (Some c) asked answered → IsLeft shows hub alone last pass (ends + more) out shut over None asked answered
  left-gone ends more out shut over c asked answered n (All a b d e) = absurd (none-some c (sym a))
  left-gone ends more out shut over c asked answered n (Held want keep claim before after a b d e f g) =
      Gone want keep refl b (omega (arith, n)) d
      (prefix-trans last.history before.history pass.history (follows-grows alone last before e)
      (prefix-trans before.history after.history pass.history (held-grows shows hub want before after claim f) (follows-grows alone after pass g)))
  left-gone ends more out shut over c asked answered n (Gone want keep a b k d e) = absurd (none-some c (sym a))
  left-gone ends more out shut over c asked answered n (Shut want a b f d e) = absurd (none-some c (sym a))

  -- at most one is left; none, if none is held or has lost its player, and not too many bytes came
  pub left-few : (ends : ℕ) (out : Option Bool) (shut over : Bool) (claim : Option ClaimValue) (asked answered : List WantValue)
      → IsLeft shows hub alone last pass ends out shut over claim asked answered
      → (unanswered : List WantValue) × (asked ≡ answered ++ unanswered) × (length unanswered ≤ 1) × IsPrefix last.history pass.history
      × (claim ≡ None → out ≡ None → over ≡ false → unanswered ≡ [])
  left-few ends out shut over claim asked answered (All a b c d) = ([], c ∙ sym (append-nil answered), omega arith, follows-grows alone last pass d, λ none free few. refl)
  left-few ends out shut over claim asked answered (Held want keep c before after a b d e f g) = (
    want ∷ [],
    d,
    omega arith,
    prefix-trans last.history before.history pass.history (follows-grows alone last before e)
        (prefix-trans before.history after.history pass.history (held-grows shows hub want before after c f) (follows-grows alone after pass g)),
    λ none free few. absurd (none-some c (sym none ∙ a)),
  )
  left-few ends out shut over claim asked answered (Gone want keep a b n c d) = (want ∷ [], c, omega arith, d, λ none free few. absurd (none-some keep (sym free ∙ b)))
  left-few ends out shut over claim asked answered (Shut want a b f c d) = (want ∷ [], c, omega arith, d, λ none free few. absurd (cc (sym f ∙ few)))

-- others have used the pass
pub left-later : (shows : ℕ → Type 0) (hub : List Configuration) (alone : Bool) (last pass later : PassValue) (ends : ℕ) (out : Option Bool) (shut over : Bool)
    (claim : Option ClaimValue) (asked answered : List WantValue) → Follows alone pass later
    → IsLeft shows hub alone last pass ends out shut over claim asked answered → IsLeft shows hub alone last later ends out shut over claim asked answered
left-later shows hub alone last pass later ends out shut over claim asked answered f (All a b c d) = All a b c (follows-then alone last pass later d f)
left-later shows hub alone last pass later ends out shut over claim asked answered f (Held want keep c before after a b d e g h) =
    Held want keep c before after a b d e g (follows-then alone after pass later h f)
left-later shows hub alone last pass later ends out shut over claim asked answered f (Gone want keep a b n c d) =
    Gone want keep a b n c (prefix-trans last.history pass.history later.history d (follows-grows alone pass later f))
left-later shows hub alone last pass later ends out shut over claim asked answered f (Shut want a b g c d) =
    Shut want a b g c (prefix-trans last.history pass.history later.history d (follows-grows alone pass later f))
