-- What one more event in a channel keeps of the channels is kept by every act but a declaration.
use Rattle.std.proofs.Common.{◌≡◌, ℕ, List, Bool, true, false, Option, Some, None, length, refl, slice_get, slice_set}
use Rattle.ll_directive.specs.Targets.{WantValue}
use Rattle.ll_script_rooms.specs.Waits.{under, wait_of}
use Rattle.ll_script_rooms.specs.declared.owner.Owner.{Owner}
use Rattle.ll_script_rooms.specs.declared.wait.Wait.{Wait}
use Rattle.ll_item.specs.declared.item.Item.{Item}
use Rattle.ll_verdict.specs.Full.{is_full, refusal_after}
use Rattle.ll_verdict.specs.declared.fault.ClockFault.{ClockFault}
use Rattle.ll_verdict.specs.Events.{Event, Publish, Ask, Collect, Close, Clock}
use Rattle.ll_verdict.specs.Verdict.{Pending, at_once, held, reply}
use Rattle.ll_rendition.specs.declared.fault.PublishFault.{PublishFault}
use Rattle.ll_verdict.specs.declared.reply.Reply.{Reply}
use Rattle.ll_verdict.specs.declared.reply.Settled.{Settled}
use Rattle.ll_script_rooms.specs.World.{Channel, World, ask, ask_at, asked, asked_if, clock, clock_at, clock_refusal, clocked, close, close_at, close_of, first_due, happens, offer, offer_at, offered, next_reply, next_reply_at, next_reply_of, told, told_to, with_event}

-- where the event may happen
module _ (Q : List Channel → Type 0) (May : Event → Type 0)
    (keeps : (cs : List Channel) (i : ℕ) (c : Channel) (e : Event) → May e → slice_get cs i ≡ Some c → Q cs → Q (slice_set cs i (with_event e c))) where
  pub offer-keeps : (w : World) (i : ℕ) (item : Item) → May (Publish item) → Q w.channels → Q (offer i item w).channels
  offer-keeps w i item m q = at (slice_get w.channels i) refl
    where
      by : (c : Channel) (f : Option PublishFault) → slice_get w.channels i ≡ Some c → Q (offered w i c item f).channels
      by c (Some f) h = q
      by c None h = keeps w.channels i c (Publish item) m h q

      at : (o : Option Channel) → slice_get w.channels i ≡ o → Q (offer_at w i item o).channels
      at None h = q
      at (Some c) h = by c (refusal_after c.settings c.events item) h

  pub ask-keeps : (w : World) (owner : Owner) (i : ℕ) (want : WantValue) → May (Ask want) → Q w.channels → Q (ask owner i want w).channels
  ask-keeps w owner i want m q = at (slice_get w.channels i) refl
    where
      by : (c : Channel) (r : Option Reply) → slice_get w.channels i ≡ Some c → Q (asked w owner i c want r).channels
      by c (Some r) h = keeps w.channels i c (Ask want) m h q
      by c None h = keeps w.channels i c (Ask want) m h q

      if-full : (full : Bool) (c : Channel) → slice_get w.channels i ≡ Some c → Q (asked_if full w owner i c want).channels
      if-full true c h = q
      if-full false c h = by c (at_once c.settings (held c.settings c.events) c.events want) h

      at : (o : Option Channel) → slice_get w.channels i ≡ o → Q (ask_at w owner i want o).channels
      at None h = q
      at (Some c) h = if-full (is_full (length c.events)) c h

  pub close-keeps : (w : World) (owner : Owner) → ((t : ℕ) → May (Close t)) → Q w.channels → Q (close owner w).channels
  close-keeps w owner m q = by (wait_of owner w.waits)
    where
      at : (x : Wait) (o : Option Channel) → slice_get w.channels x.place ≡ o → Q (close_at w x o).channels
      at x None h = q
      at x (Some c) h = keeps w.channels x.place c (Close x.ticket) (m x.ticket) h q

      by : (o : Option Wait) → Q (close_of w o).channels
      by None = q
      by (Some x) = at x (slice_get w.channels x.place) refl

  pub clock-keeps : (w : World) (i ms : ℕ) → May (Clock ms) → Q w.channels → Q (clock i ms w).channels
  clock-keeps w i ms m q = at (slice_get w.channels i) refl
    where
      by : (c : Channel) (f : Option ClockFault) → slice_get w.channels i ≡ Some c → Q (clocked w i c ms f).channels
      by c (Some f) h = q
      by c None h = keeps w.channels i c (Clock ms) m h q

      at : (o : Option Channel) → slice_get w.channels i ≡ o → Q (clock_at w i ms o).channels
      at None h = q
      at (Some c) h = by c (clock_refusal ms c.events) h

  told-keeps : (w : World) (owner : Owner) (s : Option Settled) → Q w.channels → Q (told w owner s).channels
  told-keeps w owner None q = q
  told-keeps w owner (Some s) q = q

  pub next_reply-keeps : (w : World) (i : ℕ) → ((t : ℕ) → May (Collect t)) → Q w.channels → Q (next_reply i w).channels
  next_reply-keeps w i m q = at (slice_get w.channels i) refl
    where
      by : (c : Channel) (r : Pending) (o : Option Wait) → slice_get w.channels i ≡ Some c → Q (told_to w i c r o).channels
      by c r None h = q
      by c r (Some x) h = told-keeps (happens w i c (Collect r.ticket)) x.owner (reply c.settings c.events r) (keeps w.channels i c (Collect r.ticket) (m r.ticket) h q)

      due : (c : Channel) (o : Option Pending) → slice_get w.channels i ≡ Some c → Q (next_reply_of w i c o).channels
      due c None h = q
      due c (Some r) h = by c r (under i r.ticket w.waits) h

      at : (o : Option Channel) → slice_get w.channels i ≡ o → Q (next_reply_at w i o).channels
      at None h = q
      at (Some c) h = due c (first_due c.settings c.events) h
