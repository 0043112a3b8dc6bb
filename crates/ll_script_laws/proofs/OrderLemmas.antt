-- The open requests of a channel stand in the order of their numbers.
use Rattle.std.proofs.Common.{◌≡◌, ℕ, zero, suc, ◌<◌, ◌≤◌, List, [], ◌∷◌, Bool, true, false, cond, Some, ap, sym, ◌∙◌, refl, subst, true≢false, find, option_map, slice_get, arith}
use Rattle.ll_verdict.specs.Waiting.{IsRising, is_ready, ticket_in}
use Rattle.ll_verdict.specs.State.{state_of}
use Rattle.ll_verdict.specs.declared.entry.Slot.{Slot}
use Rattle.ll_script_rooms.proofs.TieLemmas.{none_some, some_is}
use Rattle.ll_script_rooms.proofs.WaitLemmas.{ordered}
use Rattle.ll_script_laws.specs.Laws.{LeastReadyLaw, OpenOrderLaw}

above : (low : ℕ) (ss : List Slot) (i : ℕ) (s : Slot) → IsRising low ss → slice_get ss i ≡ Some s → low < s.entry.ticket
above low [] i s r e = absurd (none_some s e)
above low (x ∷ ss) zero s r e = subst (λ (s : Slot). low < s.entry.ticket) (some_is x s e) r.0
above low (x ∷ ss) (suc i) s r e = omega (arith, r.0, above x.entry.ticket ss i s r.1 e)

least_by : (t : ℕ) (x : Slot) (ss : List Slot) (i : ℕ) (s : Slot) (b : Bool) → is_ready x ≡ b → IsRising x.entry.ticket ss
    → option_map ticket_in (cond b (Some x) (find is_ready ss)) ≡ Some t → slice_get (x ∷ ss) i ≡ Some s → is_ready s ≡ true
    → ((j : ℕ) → option_map ticket_in (find is_ready ss) ≡ Some t → slice_get ss j ≡ Some s → t ≤ s.entry.ticket) → t ≤ s.entry.ticket
least_by t x ss zero s true f r h e ready ih = omega (arith, some_is x.entry.ticket t h, ap (λ (s : Slot). s.entry.ticket) (some_is x s e))
least_by t x ss (suc i) s true f r h e ready ih = omega (arith, some_is x.entry.ticket t h, above x.entry.ticket ss i s r e)
least_by t x ss zero s false f r h e ready ih = absurd (true≢false (sym ready ∙ sym (ap is_ready (some_is x s e)) ∙ f))
least_by t x ss (suc i) s false f r h e ready ih = ih i h e

least_in : (low t : ℕ) (ss : List Slot) (i : ℕ) (s : Slot) → IsRising low ss → option_map ticket_in (find is_ready ss) ≡ Some t → slice_get ss i ≡ Some s
    → is_ready s ≡ true → t ≤ s.entry.ticket
least_in low t [] i s r h e ready = absurd (none_some s e)
least_in low t (x ∷ ss) i s r h e ready = least_by t x ss i s (is_ready x) refl r.1 h e ready (λ j k l. least_in x.entry.ticket t ss j s r.1 k l ready)

pub order : OpenOrderLaw
order c events = (ordered c events).rising

pub least : LeastReadyLaw
least c events t i s h e ready = least_in 0 t (state_of c events).slots i s (ordered c events).rising h e ready
