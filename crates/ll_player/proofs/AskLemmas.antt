-- A request that is made once more, for a pass that has only seen more since the first time; and the channel of its name.
use Rattle.std.proofs.Common.{◌≡◌, ◌⊎◌, ◌+◌, ◌∙◌, ℕ, List, None, Some, Result, Ok, Err, ap, inl, inr, refl, slice_get, subst, sym}
use Rattle.std.specs.Prelude.{IfErr, IfOk}
use Rattle.ll_directive.specs.Targets.{WantValue}
use Rattle.ll_directive.specs.declared.fault.TargetFault.TheVariants.{NotFound}
use Rattle.ll_history.proofs.HistoryLemmas.{done-earlier}
use Rattle.ll_history.proofs.PrefixLemmas.{prefix-trans}
use Rattle.ll_history.specs.declared.deed.Deed.TheVariants as deed
use Rattle.ll_hub.specs.Calls.{HasSeen, IsAskedInVain, IsAskedOf, IsClaimed, IsKnown, IsReadInVain}
use Rattle.ll_hub.specs.Claim.{ClaimValue}
use Rattle.ll_hub.specs.Passes.{PassValue, noted_reply}
use Rattle.ll_hub.specs.declared.hub.HubAsked.{HubAsked}
use Rattle.ll_hub.specs.declared.hub.HubAsked.TheVariants.{Now, Held}
use Rattle.ll_player.specs.Asking.{IsHeldIn, IsHeldNow, IsToldAt, IsToldIn, IsToldNow, IsUnmade}
use Rattle.ll_service.proofs.SeenLemmas.{seen-then}
use Rattle.ll_settings.specs.Channels.{channel_of_name}
use Rattle.ll_settings.specs.Settings.{Configuration}
use Rattle.ll_verdict.specs.declared.fault.AskFault.{AskFault}
use Rattle.ll_verdict.specs.declared.fault.AskFault.TheVariants.{RecordFull, Memory}
use Rattle.ll_verdict.specs.declared.fault.ClockFault.TheVariants as reading
use Rattle.ll_wire.specs.declared.answer.Answer.{Answer}
use Rattle.ll_wire.specs.declared.answer.Answer.TheVariants as answer

known-earlier : (hub : List Configuration) (early before : PassValue) (place : ℕ) (c : Configuration) (seen : ℕ) → HasSeen early before → IsKnown hub before.seen place c seen
    → IsKnown hub early.seen place c seen
known-earlier hub early before place c seen p k =
    record { channel = k.channel; pass = ap (λ list. slice_get list place) (sym (ap (λ (v : PassValue). v.seen) p.same)) ∙ k.pass }

earlier : (shows : ℕ → Type 0) (hub : List Configuration) (place : ℕ) (want : WantValue) (early before after : PassValue) (asked : HubAsked) → HasSeen early before
    → IsAskedOf shows hub place want before after asked → IsAskedOf shows hub place want early after asked
earlier shows hub place want early before after (Now mark) p a = record {
  settings = a.settings;
  seen = a.seen;
  known = known-earlier hub early before place a.settings a.seen p a.known;
  answered = record {
    number = a.answered.number;
    room = a.answered.room;
    stamp = a.answered.stamp;
    answered = done-earlier early.history before.history after.history place (deed.Ask want) _ p.grows a.answered.answered;
  };
  passed = a.passed
      ∙ ap (λ (v : PassValue). record v { seen = noted_reply v.seen place mark.value; asks = v.asks + 1; history = after.history }) p.same;
}
earlier shows hub place want early before after (Held claim) p a = record {
  settings = a.settings;
  seen = a.seen;
  known = known-earlier hub early before place a.settings a.seen p a.known;
  channel = a.channel;
  held = done-earlier early.history before.history after.history place (deed.Ask want) _ p.grows a.held;
  passed = a.passed ∙ ap (λ (v : PassValue). record v { asks = v.asks + 1; history = after.history }) p.same;
}

pub asked-again : (shows : ℕ → Type 0) (hub : List Configuration) (place : ℕ) (want again : WantValue) (early before after : PassValue) (told : Result HubAsked AskFault)
    → want ≡ again → HasSeen early before → IfOk told (IsAskedOf shows hub place again before after) → IfOk told (IsAskedOf shows hub place want early after)
asked-again shows hub place want again early before after (Ok asked) same p a =
    earlier shows hub place want early before after asked p (subst (λ w. IsAskedOf shows hub place w before after asked) (sym same) a)
asked-again shows hub place want again early before after (Err fault) same p a = tt

full-earlier : (shows : ℕ → Type 0) (hub : List Configuration) (place : ℕ) (early before after : PassValue) → HasSeen early before
    → IsAskedInVain shows hub place before after RecordFull ⊎ IsReadInVain shows hub place before after reading.RecordFull
    → IsAskedInVain shows hub place early after RecordFull ⊎ IsReadInVain shows hub place early after reading.RecordFull
full-earlier shows hub place early before after p (inl asked) =
    inl (record {
      settings = asked.settings;
      channel = asked.channel;
      refused = record {
        ms = asked.refused.ms;
        shown = asked.refused.shown;
        read = done-earlier early.history before.history after.history place (deed.Clock asked.refused.ms) _ p.grows asked.refused.read;
      };
    })
full-earlier shows hub place early before after p (inr read) =
    inr (record {
      settings = read.settings;
      channel = read.channel;
      refused = record {
        ms = read.refused.ms;
        shown = read.refused.shown;
        refused = record {
          right = read.refused.refused.right;
          grows = prefix-trans early.history before.history after.history p.grows read.refused.refused.grows;
        };
      };
    })

unmade-earlier : (shows : ℕ → Type 0) (hub : List Configuration) (place : ℕ) (early before after : PassValue) (reason : AskFault) → HasSeen early before
    → IsUnmade shows hub place before after reason → IsUnmade shows hub place early after reason
unmade-earlier shows hub place early before after Memory p u = seen-then early before after p u
unmade-earlier shows hub place early before after RecordFull p u = (seen-then early before after p u.0, full-earlier shows hub place early before after p u.1)

pub unmade-again : (shows : ℕ → Type 0) (hub : List Configuration) (place : ℕ) (early before after : PassValue) (told : Result HubAsked AskFault) → HasSeen early before
    → IfErr told (IsUnmade shows hub place before after) → IfErr told (IsUnmade shows hub place early after)
unmade-again shows hub place early before after (Ok asked) p u = tt
unmade-again shows hub place early before after (Err reason) p u = unmade-earlier shows hub place early before after reason p u

-- whose caller has seen more
pub unmade-seen : (shows : ℕ → Type 0) (hub : List Configuration) (place : ℕ) (before after : PassValue) (reason : AskFault) → IsUnmade shows hub place before after reason
    → HasSeen before after
unmade-seen shows hub place before after Memory u = u
unmade-seen shows hub place before after RecordFull u = u.0

-- ---- the channel of a request's name

pub told_unknown : (shows : ℕ → Type 0) (hub : List Configuration) (want : WantValue) (pass : PassValue) → channel_of_name hub 0 want.channel ≡ None
    → IsToldNow shows hub want pass pass (answer.Target NotFound)
told_unknown shows hub want pass e = subst (λ found. IsToldIn shows hub found want pass pass (answer.Target NotFound)) (sym e) (refl, refl)

pub told_found : (shows : ℕ → Type 0) (hub : List Configuration) (want : WantValue) (before after : PassValue) (told : Answer) (place : ℕ) (c : Configuration)
    → channel_of_name hub 0 want.channel ≡ Some (place, c) → IsToldAt shows hub place want before after told → IsToldNow shows hub want before after told
told_found shows hub want before after told place c e t = subst (λ found. IsToldIn shows hub found want before after told) (sym e) t

pub held_found : (shows : ℕ → Type 0) (hub : List Configuration) (want : WantValue) (before after : PassValue) (claim : ClaimValue) (place : ℕ) (c : Configuration)
    → channel_of_name hub 0 want.channel ≡ Some (place, c) → IsClaimed shows hub place want before after claim → IsHeldNow shows hub want before after claim
held_found shows hub want before after claim place c e h = subst (λ found. IsHeldIn shows hub found want before after claim) (sym e) h
