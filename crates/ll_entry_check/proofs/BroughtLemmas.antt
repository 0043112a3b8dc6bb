-- The replies of entries.
use Rattle.std.proofs.Common.{◌≡◌, ℕ, Option, Some, None, refl, option_map}
use Rattle.ll_directive.specs.Targets.{WantValue}
use Rattle.ll_room.specs.Answers.{asked, collected_at, now_in}
use Rattle.ll_room.specs.RoomValue.{RoomValue}
use Rattle.ll_room.specs.StampedValue.{StampedValue}
use Rattle.ll_verdict.specs.Verdict.{reply_of}
use Rattle.ll_verdict.specs.declared.reply.Reply.{Reply}
use Rattle.ll_verdict.specs.declared.reply.Settled.{Settled}

-- the answer to a request is its reply at once
pub asked_is : (h : RoomValue) (want : WantValue) (o : Option Reply) → option_map (λ (m : StampedValue Reply). m.value) (now_in (asked h want o)) ≡ o
asked_is h want None = refl
asked_is h want (Some reply) = refl

-- what is handed out is the reply that waits
pub collected_is : (h : RoomValue) (ask : ℕ) (o : Option Settled) → option_map (λ (m : StampedValue Reply). m.value) (option_map (collected_at h ask) o) ≡ option_map reply_of o
collected_is h ask None = refl
collected_is h ask (Some settled) = refl
