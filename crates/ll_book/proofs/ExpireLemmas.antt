-- One request after another times out.
use Rattle.std.proofs.Common.{◌≡◌, ℕ, ◌≤◌, ◌+◌, List, [], Bool, true, false, Option, Some, None, filter, find, length, map, nat_le, option_map, refl, ap, sym, ◌∙◌, arith}
use Rattle.std.proofs.lemmas.Bool.Decides.{nat_tests}
use Rattle.ll_book.specs.Numbers.{AreRising, changed}
use Rattle.ll_book.proofs.Finds.{find_map, rising_map, same_rising}
use Rattle.ll_verdict.specs.Waiting.{has_ticket, ticket_in}
use Rattle.ll_verdict.specs.declared.entry.Entry.{Entry}
use Rattle.ll_verdict.specs.declared.entry.Slot.{Slot}
use Rattle.ll_verdict.specs.declared.reply.Settled.TheVariants.{Timeout}
use Rattle.ll_book.specs.Orders.{IsWaiting, settle_with}
use Rattle.ll_book.specs.Release.{expired, is_over, over_if}
use Rattle.ll_book.proofs.TakeLemmas.{one_fewer, passes_not, step}

come : (now d : ℕ) → d ≤ now → nat_le d now ≡ true
come now d h = grind (arith, nat_tests, h)

stays : (now : ℕ) (s : Slot) → (expired now s).entry.ticket ≡ s.entry.ticket
stays now s = by_time (is_over now s)
  where
    by_time : (b : Bool) → (over_if b s).entry.ticket ≡ s.entry.ticket
    by_time true = refl
    by_time false = refl

pub expired_step : (now : ℕ) (e : Entry) (ss : List Slot) → IsWaiting e ss → e.deadline ≤ now
    → (t : ℕ) → option_map (expired now) (find (has_ticket t) (changed ticket_in e.ticket (settle_with Timeout) ss)) ≡ option_map (expired now) (find (has_ticket t) ss)
expired_step now e ss w h =
    step (expired now) (expired now) e Timeout ss w (sym (ap (λ b. over_if b (record { entry = e; settled = None })) (come now e.deadline h))) (λ s k. refl)

pub over_fewer : (now : ℕ) (e : Entry) (ss : List Slot) → AreRising ticket_in 0 ss → IsWaiting e ss → e.deadline ≤ now
    → length (filter (is_over now) (changed ticket_in e.ticket (settle_with Timeout) ss)) + 1 ≡ length (filter (is_over now) ss)
over_fewer now e ss r w h = one_fewer (is_over now) e Timeout ss r w (come now e.deadline h) refl

-- once nobody's time is over, `ss` is what `old` becomes when its requests time out
pub all_expired : (now : ℕ) (ss old : List Slot) → AreRising ticket_in 0 ss → AreRising ticket_in 0 old → filter (is_over now) ss ≡ []
    → ((t : ℕ) → option_map (expired now) (find (has_ticket t) ss) ≡ option_map (expired now) (find (has_ticket t) old)) → ss ≡ map (expired now) old
all_expired now ss old r s none rest =
    same_rising ticket_in 0 0 ss (map (expired now) old) r (rising_map ticket_in (expired now) (stays now) 0 old s)
    (λ t. still t (find (has_ticket t) ss) refl ∙ rest t ∙ sym (find_map ticket_in (expired now) (stays now) t old))
  where
    still : (t : ℕ) (o : Option Slot) → o ≡ find (has_ticket t) ss → o ≡ option_map (expired now) o
    still t None f = refl
    still t (Some s) f = sym (ap (λ b. Some (over_if b s)) (passes_not (is_over now) (has_ticket t) s ss none (sym f)))
