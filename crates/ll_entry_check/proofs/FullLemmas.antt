-- Entries in full.
use Rattle.std.proofs.Common.{◌≡◌, ℕ, List, Option, Some, None, refl, ap, sym, ◌∙◌, option_map}
use Rattle.ll_entry_check.specs.Full.{without_item}
use Rattle.ll_entry.proofs.ToldLemmas.{answered, right, right-whole, same-answer, whole-outcome}
use Rattle.ll_entry.specs.Entered.{event_of, fault_in, is_open_after, same_answer, settled_after}
use Rattle.ll_entry.specs.Replies.{told_in}
use Rattle.ll_entry.specs.Told.{entry_after}
use Rattle.ll_entry.specs.declared.entry.Recorded.{Recorded}
use Rattle.ll_entry.specs.declared.entry.Recorded.TheVariants as recorded
use Rattle.ll_entry.specs.declared.version.Version.TheVariants.{Two}
use Rattle.ll_settings.specs.Settings.{Configuration}
use Rattle.ll_room.specs.Answers.{collected_at}
use Rattle.ll_room.specs.RoomValue.{RoomValue, Stands}
use Rattle.ll_room.specs.StampedValue.{StampedValue}
use Rattle.ll_verdict.proofs.WaitingLemmas.{open-ready}
use Rattle.ll_verdict.specs.Events.{Event}
use Rattle.ll_verdict.specs.Outcome.{outcome_of}
use Rattle.ll_verdict.specs.State.{state_of}
use Rattle.ll_verdict.specs.Verdict.{reply_of}
use Rattle.ll_verdict.specs.Waiting.{reply_at}
use Rattle.ll_verdict.specs.declared.reply.Outcome.{Outcome}
use Rattle.ll_verdict.specs.declared.reply.Reply.{Reply}

-- an entry in which nothing is wrong in format 2 is in full as its line has it
pub full_of : (c : Configuration) (events : List Event) (entry : Recorded) → fault_in Two c events entry ≡ None
    → option_map without_item (entry_after c events (event_of entry)) ≡ Some (without_item entry)
full_of c events entry h = ap (option_map without_item) (right-whole c events entry h)

map_map : {X Y Z : Type 0} (f : X → Y) (g : Y → Z) (o : Option X) → option_map g (option_map f o) ≡ option_map (λ x. g (f x)) o
map_map f g None = refl
map_map f g (Some x) = refl

-- a reply that is handed out is the one that the request has after the events so far
pub collected-full : (h : RoomValue) (events : List Event) (ask : ℕ) (o : Option (StampedValue Reply)) (reply : Outcome) → Stands h events
    → o ≡ option_map (collected_at h ask) (reply_at ask h.slots) → option_map (λ (m : StampedValue Reply). outcome_of m.value) o ≡ Some reply
    → fault_in Two h.settings events (recorded.Collect ask reply) ≡ None
collected-full h events ask o reply stands answer is =
    let settled : settled_after h.settings events ask ≡ Some reply =
    ap (λ (x : RoomValue). option_map (λ s. outcome_of (reply_of s)) (reply_at ask x.slots)) (sym stands)
    ∙ sym (map_map (collected_at h ask) (λ (m : StampedValue Reply). outcome_of m.value) (reply_at ask h.slots))
    ∙ ap (option_map (λ (m : StampedValue Reply). outcome_of m.value)) (sym answer) ∙ is in
    let slots = (state_of h.settings events).slots in
    right (is_open_after h.settings events ask) (same_answer (Some reply) (option_map (told_in Two) (settled_after h.settings events ask)))
    (open-ready ask slots (answered (reply_at ask slots) reply settled))
    (ap (λ o. same_answer (Some reply) (option_map (told_in Two) o)) settled ∙ ap (λ o. same_answer (Some reply) (Some o)) (whole-outcome reply) ∙ same-answer (Some reply))
