-- Microseconds and ticks.
use Rattle.std.proofs.Common.{◌≡◌, ℕ, zero, suc, ◌+◌, ◌-◌, ◌*◌, ◌/◌, ◌^◌, ◌<◌, ◌≤◌, ◌&&◌, Bool, true, false, nat_lt, nat_le, refl, ap, ◌∙◌, arith}
use borrow.Author.Tests.{leb-true, ltb-true, lt-ltb, le-leb}
use native.Mathlib.Nat.{div-mul-le_self, div-zero}
use Rattle.std.proofs.lemmas.Nat.{le-div}
use Rattle.ll_runs.specs.Times.{at_tick, is_counted, last_micro, micros}
use Rattle.ll_runs.specs.declared.times.Times.{Times}

pub none_pass : (scale ticks : ℕ) → scale ≡ 0 → micros scale ticks ≡ 0
none_pass scale ticks e = ap (λ s. ticks * 1000000 / s) e ∙ div-zero (ticks * 1000000)

div-more : (n m k : ℕ) → n ≤ m → n / k ≤ m / k
div-more n m zero l = let e = div-zero n in omega (arith, e)
div-more n m (suc k) l = let e = div-mul-le_self n (suc k) in le-div (n / suc k) m (suc k) (omega arith) (omega (arith, e, l))

-- more ticks, no fewer microseconds
pub micros_grow : (scale a b : ℕ) → a ≤ b → micros scale a ≤ micros scale b
micros_grow scale a b l = div-more (a * 1000000) (b * 1000000) scale (omega (arith, l))

-- both
of_both : (a b : Bool) → (a && b) ≡ true → (a ≡ true) × (b ≡ true)
of_both true b e = (refl, e)
of_both false b e = absurd (cc)

-- a fragment whose end is counted begins at a counted microsecond
pub begins_early : (scale : ℕ) (t : Times) (ticks : ℕ) → is_counted scale (t.position + ticks) ≡ true → at_tick scale t t.position < 18446744073709551616
begins_early scale t ticks counted =
    let both = of_both (nat_lt (t.position + ticks) (2 ^ 64)) (nat_le (micros scale (t.position + ticks)) last_micro) counted in
    let early = leb-true (micros scale (t.position + ticks)) last_micro both.1 in
    let less = micros_grow scale (t.position - t.base) (t.position + ticks) (omega arith) in omega (arith, early, less)

-- a counted tick has 64 bits
pub counted_few : (scale tick : ℕ) → is_counted scale tick ≡ true → tick < 18446744073709551616
counted_few scale tick counted =
    let both = of_both (nat_lt tick (2 ^ 64)) (nat_le (micros scale tick) last_micro) counted in
    let few = ltb-true tick (2 ^ 64) both.0 in omega (arith, few)

-- a counted tick is few microseconds after any origin
pub since_small : (scale tick origin : ℕ) → is_counted scale tick ≡ true → micros scale (tick - origin) < 18446744073709551615
since_small scale tick origin counted =
    let both = of_both (nat_lt tick (2 ^ 64)) (nat_le (micros scale tick) last_micro) counted in
    let early = leb-true (micros scale tick) last_micro both.1 in
    let less = micros_grow scale (tick - origin) tick (omega arith) in omega (arith, early, less)

-- a counted tick is at a counted microsecond of any run
pub ends_early : (scale : ℕ) (t : Times) (tick : ℕ) → is_counted scale tick ≡ true → at_tick scale t tick < 18446744073709551616
ends_early scale t tick counted = let small = since_small scale tick t.base counted in omega (arith, small)

-- what is before a counted tick is counted
counted_before : (scale tick later : ℕ) → tick ≤ later → is_counted scale later ≡ true → is_counted scale tick ≡ true
counted_before scale tick later before counted =
    let both = of_both (nat_lt later (2 ^ 64)) (nat_le (micros scale later) last_micro) counted in
    let few = ltb-true later (2 ^ 64) both.0 in
    let early = leb-true (micros scale later) last_micro both.1 in
    let less = micros_grow scale tick later before in
    and_true (nat_lt tick (2 ^ 64)) (nat_le (micros scale tick) last_micro) (lt-ltb tick (2 ^ 64) (omega (arith, few, before))) (le-leb (micros scale tick) last_micro (omega (arith, early, less)))
  where
    and_true : (b c : Bool) → b ≡ true → c ≡ true → (b && c) ≡ true
    and_true true true e f = refl
    and_true true false e f = f
    and_true false c e f = e

pub counted_less : (scale tick more : ℕ) → is_counted scale (tick + more) ≡ true → is_counted scale tick ≡ true
counted_less scale tick more counted = counted_before scale tick (tick + more) (omega arith) counted

-- a place before one from which `ticks` end at a counted tick
pub counted_place : (scale place position ticks : ℕ) → place ≤ position → is_counted scale (position + ticks) ≡ true → is_counted scale place ≡ true
counted_place scale place position ticks before counted = counted_before scale place (position + ticks) (omega (arith, before)) counted
