-- Which requests are open, and which of them have their reply.
use Rattle.std.proofs.Common.{◌≡◌, ℕ, ◌==◌, List, [], ◌∷◌, Bool, true, false, not, ◌&&◌, ◌||◌, cond, Option, Some, None, is_some, refl, ap, ◌∙◌, sym, true≢false, find, option_and_then, option_map}
use Rattle.std.specs.List.{list_any}
use Rattle.ll_verdict.specs.Waiting.{entry_in, found, has_ticket, is_ready_at, reply_at, settled_in, without_ready}
use Rattle.ll_verdict.specs.declared.entry.Slot.{Slot}
use Rattle.ll_verdict.specs.declared.reply.Settled.{Settled}

open_by : (s : Slot) (o : Option Slot) (a b : Bool) → is_some (option_map entry_in o) ≡ b → is_some (option_map entry_in (cond a (Some s) o)) ≡ (a || b)
open_by s o true b h = refl
open_by s o false b h = h

pub open-found : (t : ℕ) (ss : List Slot) → is_some (found t ss) ≡ list_any (has_ticket t) ss
open-found t [] = refl
open-found t (s ∷ ss) = open_by s (find (has_ticket t) ss) (s.entry.ticket == t) (list_any (has_ticket t) ss) (open-found t ss)

ready_by : (s : Slot) (o : Option Slot) (a b any : Bool) → (is_some (option_and_then settled_in o) ≡ true → any ≡ true)
    → is_some (option_and_then settled_in (cond (a && b) (Some s) o)) ≡ true → (a || any) ≡ true
ready_by s o true b any f h = refl
ready_by s o false b any f h = f h

pub open-ready : (t : ℕ) (ss : List Slot) → is_some (reply_at t ss) ≡ true → list_any (has_ticket t) ss ≡ true
open-ready t [] h = h
open-ready t (s ∷ ss) h = ready_by s (find (is_ready_at t) ss) (s.entry.ticket == t) (is_some s.settled) (list_any (has_ticket t) ss) (open-ready t ss) h

unready_by : (s : Slot) (xs ys : List Slot) (o : Option Slot) (a : Bool) (r : Option Settled) → s.settled ≡ r
    → (option_and_then settled_in o ≡ None → xs ≡ ys)
    → option_and_then settled_in (cond (a && is_some r) (Some s) o) ≡ None → cond (not (a && is_some r)) (s ∷ xs) xs ≡ s ∷ ys
unready_by s xs ys o false r e f h = ap (λ zs. s ∷ zs) (f h)
unready_by s xs ys o true None e f h = ap (λ zs. s ∷ zs) (f h)
unready_by s xs ys o true (Some reply) e f h = absurd (true≢false (ap is_some (sym e ∙ h)))

-- no reply is there
pub unready : (t : ℕ) (ss : List Slot) → reply_at t ss ≡ None → without_ready t ss ≡ ss
unready t [] h = refl
unready t (s ∷ ss) h = unready_by s (without_ready t ss) ss (find (is_ready_at t) ss) (s.entry.ticket == t) s.settled refl (unready t ss) h
