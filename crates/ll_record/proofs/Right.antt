-- What a room does is right as an entry after the events before it.
use Rattle.std.proofs.Common.{◌≡◌, ℕ, ◌+◌, ◌≤◌, ◌^◌, ◌==◌, ◌&&◌, List, Bool, true, false, not, cond, Option, Some, None, is_some, option_map, refl, ap, ap₂, ◌∙◌, sym, true≢false, length, nat_le, arith}
use Rattle.std.proofs.lemmas.Bool.Decides.{nat_tests}
use Rattle.std.specs.List.{list_any}
use Rattle.ll_verdict.specs.Waiting.{has_ticket, reply_at}
use Rattle.ll_entry.specs.Entered.{fault_in, is_open_after, same_answer, settled_after, unless_refused}
use Rattle.ll_entry.specs.Replies.{told_in}
use Rattle.ll_directive.specs.Targets.{WantValue}
use Rattle.ll_entry.specs.declared.entry.Recorded.TheVariants as recorded
use Rattle.ll_entry.specs.declared.version.Version.TheVariants.{Two}
use Rattle.ll_settings.specs.Settings.{Configuration}
use Rattle.ll_item.specs.declared.item.Item.{Item}
use Rattle.ll_verdict.proofs.WaitingLemmas.{open-ready}
use Rattle.ll_room.specs.Answers as room
use Rattle.ll_verdict.specs.Full.{is_full, refusal_after}
use Rattle.ll_room.specs.RoomValue.{RoomValue, Stands}
use Rattle.ll_room.specs.StampedValue.{StampedValue}
use Rattle.ll_room.specs.Ticket.{Ticket}
use Rattle.ll_room.specs.declared.asked.Closed.TheVariants as given_up
use Rattle.ll_room.specs.declared.asked.Collected.{Collected}
use Rattle.ll_room.specs.declared.asked.Collected.TheVariants.{Got, Still, Stranger}
use Rattle.ll_verdict.specs.Events.{Event, asks}
use Rattle.ll_verdict.specs.Outcome.{outcome_of}
use Rattle.ll_verdict.specs.State.{state_of}
use Rattle.ll_verdict.specs.Verdict.{at_once, held, reply_of}
use Rattle.ll_verdict.specs.declared.reply.Outcome.{Outcome}
use Rattle.ll_verdict.specs.declared.reply.Reply.{Reply}
use Rattle.ll_verdict.specs.declared.reply.Settled.{Settled}
use Rattle.ll_entry.proofs.ToldLemmas.{own, right, same-answer, whole-answer, whole-outcome}
use Rattle.ll_record.specs.Recording.{of_channel}

its_asks : (h : RoomValue) (events : List Event) → Stands h events → h.asks ≡ asks events
its_asks h events st = ap (λ (x : RoomValue). x.asks) st

not_full : (h : RoomValue) (events : List Event) → Stands h events → is_full h.events ≡ false → is_full (length events) ≡ false
not_full h events st f = ap (λ n. is_full n) (sym (ap (λ (x : RoomValue). x.events) st)) ∙ f

-- ---- items, requests and readings

pub publish-right : (c : Configuration) (events : List Event) (item : Item) → refusal_after c events item ≡ None → fault_in Two c events (recorded.Publish item) ≡ None
publish-right c events item h = ap unless_refused h

-- the format that is written has the whole result of a reply at once
whole : (o : Option Reply) → option_map outcome_of o ≡ option_map (λ r. told_in Two (outcome_of r)) o
whole None = refl
whole (Some r) = ap Some (sym (whole-outcome (outcome_of r)))

pub ask-right : (h : RoomValue) (events : List Event) (want : WantValue) (reply : Option Outcome) → Stands h events → is_full h.events ≡ false
    → reply ≡ option_map outcome_of (at_once h.settings (held h.settings events) events want)
    → fault_in Two h.settings events (recorded.Ask (h.asks + 1) (of_channel h.settings want) reply) ≡ None
ask-right h events want reply st f e =
    let now = at_once h.settings (held h.settings events) events want in
    let answer = option_map (λ r. told_in Two (outcome_of r)) now in
    right (h.asks + 1 == asks events + 1 && not (is_full (length events))) (same_answer reply answer)
    (ap₂ (λ n b. n + 1 == asks events + 1 && not b) (its_asks h events st) (not_full h events st f) ∙ ap (λ b. b && true) (own (asks events + 1)))
    (ap (λ r. same_answer r answer) (e ∙ whole now) ∙ same-answer answer)

at_most : (a b : ℕ) → a ≤ b → nat_le a b ≡ true
at_most a b h = grind (arith, nat_tests, h)

pub clock-right : (h : RoomValue) (events : List Event) (ms : ℕ) → Stands h events → is_full h.events ≡ false → ms ≤ 2 ^ 60
    → fault_in Two h.settings events (recorded.Clock ms) ≡ None
clock-right h events ms st f e =
    right (nat_le ms (2 ^ 60) && not (is_full (length events))) true (ap₂ (λ a b. a && not b) (at_most ms (2 ^ 60) e) (not_full h events st f)) refl

-- ---- how held requests end

abbrev value_in : Collected → Option Reply
value_in (Got m) = Some m.value
value_in (Still p) = None
value_in (Stranger p) = None

none_some : (r : Reply) → None ≡ Some r → ⊥
none_some r h = true≢false (sym (ap is_some h))

value_by : (p : Ticket) (o : Option Settled) (b : Bool) → value_in (room.collected_by p o b) ≡ option_map reply_of o
value_by p None true = refl
value_by p None false = refl
value_by p (Some s) b = refl

handed_by : (p : Ticket) (o : Option Settled) (a b : Bool) (m : StampedValue Reply) → Got m ≡ cond a (room.collected_by p o b) (Stranger p) → option_map reply_of o ≡ Some m.value
handed_by p o true b m e = sym (ap value_in e ∙ value_by p o b)
handed_by p o false b m e = absurd (none_some m.value (sym (ap value_in e)))

handed : (h : RoomValue) (p : Ticket) (m : StampedValue Reply) → Got m ≡ room.collected h p → option_map reply_of (reply_at p.ticket h.slots) ≡ Some m.value
handed h p m e = handed_by p (reply_at p.ticket h.slots) (p.channel == h.channel) (room.is_open h p.ticket) m e

comes_to : (o : Option Settled) (r : Reply) → option_map reply_of o ≡ Some r → option_map (λ (s : Settled). outcome_of (reply_of s)) o ≡ Some (outcome_of r)
comes_to None r h = absurd (none_some r h)
comes_to (Some s) r h = ap (option_map outcome_of) h

is_there : (o : Option Settled) (r : Reply) → option_map reply_of o ≡ Some r → is_some o ≡ true
is_there None r h = absurd (none_some r h)
is_there (Some s) r h = refl

open_of : (h : RoomValue) (events : List Event) (t : ℕ) → Stands h events → list_any (has_ticket t) h.slots ≡ true → is_open_after h.settings events t ≡ true
open_of h events t st e = ap (λ slots. list_any (has_ticket t) slots) (sym (ap (λ (x : RoomValue). x.slots) st)) ∙ e

pub collect-right : (h : RoomValue) (events : List Event) (p : Ticket) (m : StampedValue Reply) → Stands h events → Got m ≡ room.collected h p
    → fault_in Two h.settings events (recorded.Collect p.ticket (outcome_of m.value)) ≡ None
collect-right h events p m st e =
    let told = handed h p m e in
    let slots : h.slots ≡ (state_of h.settings events).slots = ap (λ (x : RoomValue). x.slots) st in
    let settled : option_map (told_in Two) (settled_after h.settings events p.ticket) ≡ Some (outcome_of m.value) =
    whole-answer (settled_after h.settings events p.ticket)
    ∙ ap (λ slots. option_map (λ (s : Settled). outcome_of (reply_of s)) (reply_at p.ticket slots)) (sym slots)
    ∙ comes_to (reply_at p.ticket h.slots) m.value told in
    right (is_open_after h.settings events p.ticket) (same_answer (Some (outcome_of m.value)) (option_map (told_in Two) (settled_after h.settings events p.ticket)))
    (open_of h events p.ticket st (open-ready p.ticket h.slots (is_there (reply_at p.ticket h.slots) m.value told)))
    (ap (same_answer (Some (outcome_of m.value))) settled ∙ same-answer (Some (outcome_of m.value)))

closed_by : (p : Ticket) (a b : Bool) → given_up.Done ≡ cond (a && b) given_up.Done (given_up.Stranger p) → b ≡ true
closed_by p true true e = refl
closed_by p true false e = absurd (true≢false (ap room.is_done e))
closed_by p false b e = absurd (true≢false (ap room.is_done e))

pub closed-open : (h : RoomValue) (p : Ticket) → given_up.Done ≡ room.closed h p → room.is_open h p.ticket ≡ true
closed-open h p e = closed_by p (p.channel == h.channel) (room.is_open h p.ticket) e

pub close-right : (h : RoomValue) (events : List Event) (p : Ticket) → Stands h events → given_up.Done ≡ room.closed h p
    → fault_in Two h.settings events (recorded.Close p.ticket) ≡ None
close-right h events p st e = right (is_open_after h.settings events p.ticket) true (open_of h events p.ticket st (closed-open h p e)) refl

pub collected-open : (h : RoomValue) (p : Ticket) (m : StampedValue Reply) → Got m ≡ room.collected h p → room.is_open h p.ticket ≡ true
collected-open h p m e = open-ready p.ticket h.slots (is_there (reply_at p.ticket h.slots) m.value (handed h p m e))
