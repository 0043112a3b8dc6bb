-- Tickets rise, whatever requests leave; and a request whose reply is there is the only one with its ticket.
use Rattle.std.proofs.Common.{◌≡◌, ℕ, ◌<◌, ◌==◌, ◌&&◌, List, [], ◌∷◌, ◌++◌, Bool, true, false, not, cond, None, Some, filter, find, is_some, option_and_then, refl, ap, sym, subst, ◌∙◌, true≢false, arith}
use Rattle.std.proofs.lemmas.Bool.Decides.{nat_tests}
use Rattle.ll_verdict.specs.declared.entry.Entry.{Entry}
use Rattle.ll_verdict.specs.declared.entry.Slot.{Slot}
use Rattle.ll_verdict.specs.Waiting.{AreBelow, IsRising, is_ready_at, reply_at, settled_in, without, without_ready}

lower : (low high : ℕ) (ss : List Slot) → low < high → IsRising high ss → IsRising low ss
lower low high [] h r = tt
lower low high (s ∷ ss) h r = (omega (arith, h, r.0), r.1)

pub rising-park : (low : ℕ) (ss : List Slot) (e : Entry) → low < e.ticket → IsRising low ss → AreBelow e.ticket ss
    → IsRising low (ss ++ record { entry = e; settled = None } ∷ [])
rising-park low [] e h r b = (h, tt)
rising-park low (s ∷ ss) e h r b = (r.0, rising-park s.entry.ticket ss e b.0 r.1 b.1)

kept_by : (low : ℕ) (s : Slot) (ss : List Slot) (b : Bool) → low < s.entry.ticket → IsRising s.entry.ticket ss → IsRising low (cond b (s ∷ ss) ss)
kept_by low s ss true h r = (h, r)
kept_by low s ss false h r = lower low s.entry.ticket ss h r

pub rising-filter : (p : Slot → Bool) (low : ℕ) (ss : List Slot) → IsRising low ss → IsRising low (filter p ss)
rising-filter p low [] r = tt
rising-filter p low (s ∷ ss) r = kept_by low s (filter p ss) (p s) r.0 (rising-filter p s.entry.ticket ss r.1)

other : (t : ℕ) (s : Slot) → t < s.entry.ticket → is_ready_at t s ≡ false
other t s h =
    let differs : (s.entry.ticket == t) ≡ false = grind (arith, nat_tests) in
    ap (λ b. b && is_some s.settled) differs

pushed : (s : Slot) (b : Bool) (xs ys : List Slot) → b ≡ false → xs ≡ ys → cond (not b) (s ∷ xs) xs ≡ s ∷ ys
pushed s true xs ys h k = absurd (true≢false h)
pushed s false xs ys h k = ap (λ zs. s ∷ zs) k

-- no request after it has its ticket
others : (t : ℕ) (ss : List Slot) → IsRising t ss → without_ready t ss ≡ ss
others t [] r = refl
others t (s ∷ ss) r = pushed s (is_ready_at t s) (without_ready t ss) ss (other t s r.0) (others t ss (lower t s.entry.ticket ss r.0 r.1))

-- no request above a ticket has it
unlike : (t : ℕ) (s : Slot) → t < s.entry.ticket → (s.entry.ticket == t) ≡ false
unlike t s h = grind (arith, nat_tests)

all_above : (t : ℕ) (ss : List Slot) → IsRising t ss → without t ss ≡ ss
all_above t [] r = refl
all_above t (s ∷ ss) r = pushed s (s.entry.ticket == t) (without t ss) ss (unlike t s r.0) (all_above t ss (lower t s.entry.ticket ss r.0 r.1))

passed_by : (t : ℕ) (s : Slot) (ss : List Slot) (b : Bool) → b ≡ false → reply_at t ss ≡ None
    → option_and_then settled_in (cond b (Some s) (find (is_ready_at t) ss)) ≡ None
passed_by t s ss true h k = absurd (true≢false h)
passed_by t s ss false h k = k

none_above : (t : ℕ) (ss : List Slot) → IsRising t ss → reply_at t ss ≡ None
none_above t [] r = refl
none_above t (s ∷ ss) r = passed_by t s ss (is_ready_at t s) (other t s r.0) (none_above t ss (lower t s.entry.ticket ss r.0 r.1))

alone_by : (t : ℕ) (s : Slot) (ss : List Slot) (a b : Bool) → (s.entry.ticket == t) ≡ a → IsRising s.entry.ticket ss
    → (is_some (reply_at t ss) ≡ true → without_ready t ss ≡ without t ss)
    → is_some (option_and_then settled_in (cond (a && b) (Some s) (find (is_ready_at t) ss))) ≡ true
    → cond (not (a && b)) (s ∷ without_ready t ss) (without_ready t ss) ≡ cond (not a) (s ∷ without t ss) (without t ss)
alone_by t s ss true true e r ih h =
    let above : IsRising t ss = subst (λ n. IsRising n ss) (grind (arith, nat_tests, e)) r in
    others t ss above ∙ sym (all_above t ss above)
alone_by t s ss true false e r ih h =
    let above : IsRising t ss = subst (λ n. IsRising n ss) (grind (arith, nat_tests, e)) r in
    absurd (true≢false (sym h ∙ ap is_some (none_above t ss above)))
alone_by t s ss false b e r ih h = ap (λ zs. s ∷ zs) (ih h)

-- the request whose reply is there is the only one with its ticket
pub alone : (t low : ℕ) (ss : List Slot) → IsRising low ss → is_some (reply_at t ss) ≡ true → without_ready t ss ≡ without t ss
alone t low [] r h = refl
alone t low (s ∷ ss) r h = alone_by t s ss (s.entry.ticket == t) (is_some s.settled) refl r.1 (alone t s.entry.ticket ss r.1) h
