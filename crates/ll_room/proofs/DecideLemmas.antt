-- A request is decided, and then made.
use Rattle.std.proofs.Common.{◌≡◌, ◌≤◌, List, [], ◌∷◌, ◌++◌, Option, None, Some, is_some, true, refl, ◌∙◌, sym}
use Rattle.ll_directive.specs.Targets.{WantValue}
use Rattle.ll_verdict.proofs.StateLemmas.{at_once-is}
use Rattle.ll_verdict.specs.Events.{Event, Ask}
use Rattle.ll_verdict.specs.State.{answer_of, state_of}
use Rattle.ll_verdict.specs.declared.reply.Reply.{Reply}
use Rattle.ll_verdict.specs.declared.reply.Reply.TheVariants as now
use Rattle.ll_verdict.specs.declared.wanted.Wanted.{Wanted}
use Rattle.ll_room.specs.Decided.{IsDecided, reply_here, reply_in}
use Rattle.ll_room.specs.RoomValue.{RoomValue, Stands}
use Rattle.ll_room.specs.Kept.{with_answer, with_held}
use Rattle.ll_room.specs.declared.decision.Decision.{Decision}
use Rattle.ll_room.specs.declared.decision.Decision.TheVariants.{NotFound, There, TooFar, Busy, Waits}
use Rattle.ll_room.proofs.AskLemmas.{asked-stands, held-stands}

answer-is : (h : RoomValue) (w : WantValue) (d : Decision) (es : List Event) → IsDecided h w d → Stands h es → answer_of h.settings (state_of h.settings es) w ≡ reply_in h d
answer-is h w d es k stands = sym (at_once-is h.settings es w) ∙ k.reply es stands

-- it is answered at once
pub decided-stands : (h new : RoomValue) (w : WantValue) (d : Decision) (reply : Reply) → IsDecided h w d → reply_in h d ≡ Some reply → 1 ≤ h.settings.target → new ≡ with_answer h
    → (es : List Event) → Stands h es → Stands new (es ++ Ask w ∷ [])
decided-stands h new w d reply k e low is es stands = asked-stands h new es w (Some reply) stands low (answer-is h w d es k stands ∙ e) is

-- it is held
pub decided-holds : (h new : RoomValue) (w : WantValue) (a : Wanted) → IsDecided h w (Waits a) → 1 ≤ h.settings.target → new ≡ with_held h a
    → (es : List Event) → Stands h es → Stands new (es ++ Ask w ∷ [])
decided-holds h new w a k low is es stands = held-stands h new es w a stands low k.asks.0 (answer-is h w (Waits a) es k stands) is

some_is : {A : Type 0} (o : Option A) → is_some o ≡ true → (x : A) × (o ≡ Some x)
some_is None h = cc
some_is (Some x) h = (x, refl)

-- a request that isn't held has a reply at once
replied : (h : RoomValue) (w : WantValue) (d : Decision) → IsDecided h w d → ((a : Wanted) → d ≡ Waits a → ⊥) → (reply : Reply) × (reply_in h d ≡ Some reply)
replied h w NotFound k ends = (now.NotFound, refl)
replied h w (There a) k ends = some_is (reply_here h a) k.asks.2
replied h w TooFar k ends = (now.TooFar, refl)
replied h w Busy k ends = (now.Busy, refl)
replied h w (Waits a) k ends = absurd (ends a refl)

pub decided-counts : (h new : RoomValue) (w : WantValue) (d : Decision) → ((a : Wanted) → d ≡ Waits a → ⊥) → IsDecided h w d → 1 ≤ h.settings.target → new ≡ with_answer h
    → (es : List Event) → Stands h es → Stands new (es ++ Ask w ∷ [])
decided-counts h new w d ends k low is = let r = replied h w d k ends in decided-stands h new w d r.0 k r.1 low is
