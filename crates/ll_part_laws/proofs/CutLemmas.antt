-- Consequences of what ends before a fragment.
use Rattle.std.proofs.Common.{◌≡◌, ℕ, ◌+◌, ◌-◌, ◌<◌, ◌≤◌, ◌^◌, ◌&&◌, ◌||◌, Bool, true, false, nat_lt, nat_le, if◌then◌else◌, refl, min, max, ap, sym, subst, arith}
use Rattle.std.specs.Prelude.{⊤}
use Rattle.std.proofs.lemmas.Bool.{le-ltb, leb-false, lt-leb}
use borrow.Author.Tests.{leb-true, ltb-true, ltb-false, lt-ltb}
use Rattle.ll_runs.proofs.TimeLemmas.{counted_less, micros_grow}
use Rattle.ll_runs.specs.Times.{at_tick, by_samples, cut_before, cut_by, ends_segment, is_counted, last_micro, lasts, may_end, micros, or_part, said_to, size_limit}
use Rattle.ll_runs.specs.declared.lengths.Lengths.{Lengths}
use Rattle.ll_runs.specs.declared.times.Cut.TheVariants as cut
use Rattle.ll_runs.specs.declared.times.Next.{Next}
use Rattle.ll_runs.specs.declared.times.Next.TheVariants.{Over, Back, At}
use Rattle.ll_runs.specs.declared.times.Times.{Times}

-- ---- tests

or-right : (a b : Bool) → (a || b) ≡ false → b ≡ false
or-right false b e = e
or-right true b e = absurd (cc)

or-first : (a b : Bool) → (a || b) ≡ true → b ≡ false → a ≡ true
or-first true b e f = refl
or-first false b e f = absurd (cc)

forced : (a sync c : Bool) → (a && sync || c) ≡ true → sync ≡ false → c ≡ true
forced false sync c e f = e
forced true false c e f = e
forced true true c e f = absurd (cc)

early : (a sync c : Bool) → (a && sync || c) ≡ true → a ≡ false → c ≡ true
early false sync c e f = e
early true sync c e f = absurd (cc)

not-yet : (a sync c : Bool) → (a && sync || c) ≡ false → sync ≡ true → a ≡ false
not-yet false sync c e f = refl
not-yet true true c e f = absurd (cc)
not-yet true false c e f = absurd (cc)

both : (a b c : Bool) → a ≡ true → b ≡ true → (a && (b || c)) ≡ true
both true true c e f = refl
both true false c e f = absurd (cc)
both false b c e f = absurd (cc)

of-both : (a b : Bool) → (a && b) ≡ true → b ≡ true
of-both true b e = e
of-both false b e = absurd (cc)

-- ---- what ends

joins-none : (may segment part : Bool) → cut_by may segment part ≡ cut.Joins → may ≡ true → segment ≡ false
joins-none false segment part e f = absurd (cc)
joins-none true true part e f = absurd (cc)
joins-none true false true e f = absurd (cc)
joins-none true false false e f = refl

part-none : (may segment part : Bool) → cut_by may segment part ≡ cut.Part → (segment ≡ false) × (part ≡ true)
part-none false segment part e = absurd (cc)
part-none true true part e = absurd (cc)
part-none true false true e = (refl, refl)
part-none true false false e = absurd (cc)

segment-ends : (may segment part : Bool) → cut_by may segment part ≡ cut.Segment → segment ≡ true
segment-ends false segment part e = absurd (cc)
segment-ends true true part e = refl
segment-ends true false true e = absurd (cc)
segment-ends true false false e = absurd (cc)

joins-few : (some later large segment long : Bool) → cut_by (some && (later || large)) segment (long || large) ≡ cut.Joins → some ≡ true → large ≡ false
joins-few true later false segment long e f = refl
joins-few true true true true long e f = absurd (cc)
joins-few true true true false true e f = absurd (cc)
joins-few true true true false false e f = absurd (cc)
joins-few true false true true long e f = absurd (cc)
joins-few true false true false true e f = absurd (cc)
joins-few true false true false false e f = absurd (cc)
joins-few false later large segment long e f = absurd (cc)

module _ (l : Lengths) (t : Times) (size begin lasts : ℕ) (sync : Bool) (more : ℕ) where
  abbrev may : Bool
  may = may_end t size begin more

  abbrev segment : Bool
  segment = ends_segment l (begin - t.segment) lasts sync

  abbrev part : Bool
  part = nat_lt l.part (begin + lasts - t.start) || nat_lt size_limit (size + more)

  within : segment ≡ false → begin - t.segment + lasts ≤ l.most
  within e = ltb-false l.most (begin - t.segment + lasts) (or-right (nat_le l.segment (begin - t.segment) && sync) (nat_lt l.most (begin - t.segment + lasts)) e)

  -- a segment that goes on with the fragment that joins is no longer than allowed, unless the part under way lasts no
  -- microsecond
  pub joins-within : cut_before l t size begin lasts sync more ≡ cut.Joins → 0 < size → t.start < begin → begin - t.segment + lasts ≤ l.most
  joins-within e some later =
      within (joins-none may segment part e (both (nat_lt 0 size) (nat_lt t.start begin) (nat_lt size_limit (size + more)) (lt-ltb 0 size some) (lt-ltb t.start begin later)))

  yet : segment ≡ false → sync ≡ true → begin - t.segment < l.segment
  yet e f = leb-false l.segment (begin - t.segment) (not-yet (nat_le l.segment (begin - t.segment)) sync (nat_lt l.most (begin - t.segment + lasts)) e f)

  pub joins-early : cut_before l t size begin lasts sync more ≡ cut.Joins → 0 < size → t.start < begin → sync ≡ true → begin - t.segment < l.segment
  joins-early e some later =
      yet (joins-none may segment part e (both (nat_lt 0 size) (nat_lt t.start begin) (nat_lt size_limit (size + more)) (lt-ltb 0 size some) (lt-ltb t.start begin later)))

  pub joins-small : cut_before l t size begin lasts sync more ≡ cut.Joins → 0 < size → size + more ≤ size_limit
  joins-small e some =
      ltb-false size_limit (size + more)
      (joins-few (nat_lt 0 size) (nat_lt t.start begin) (nat_lt size_limit (size + more)) segment (nat_lt l.part (begin + lasts - t.start)) e (lt-ltb 0 size some))

  pub part-early : cut_before l t size begin lasts sync more ≡ cut.Part → sync ≡ true → begin - t.segment < l.segment
  part-early e = yet (part-none may segment part e).0

  pub part-within : cut_before l t size begin lasts sync more ≡ cut.Part → begin - t.segment + lasts ≤ l.most
  part-within e = within (part-none may segment part e).0

  pub part-full : cut_before l t size begin lasts sync more ≡ cut.Part → size + more ≤ size_limit → l.part < begin + lasts - t.start
  part-full e few =
      ltb-true l.part (begin + lasts - t.start) (or-first (nat_lt l.part (begin + lasts - t.start)) (nat_lt size_limit (size + more))
      (part-none may segment part e).1 (le-ltb size_limit (size + more) few))

  pub segment-forced : cut_before l t size begin lasts sync more ≡ cut.Segment → sync ≡ false → l.most < begin - t.segment + lasts
  segment-forced e none =
      ltb-true l.most (begin - t.segment + lasts) (forced (nat_le l.segment (begin - t.segment)) sync (nat_lt l.most (begin - t.segment + lasts)) (segment-ends may segment part e) none)

  pub segment-long : cut_before l t size begin lasts sync more ≡ cut.Segment → begin - t.segment < l.segment → l.most < begin - t.segment + lasts
  segment-long e short =
      ltb-true l.most (begin - t.segment + lasts) (early (nat_le l.segment (begin - t.segment)) sync (nat_lt l.most (begin - t.segment + lasts)) (segment-ends may segment part e)
      (lt-leb l.segment (begin - t.segment) short))

-- ---- fragments end at counted microseconds

-- the next one begins at a tick that can be counted
abbrev pub IsPlaced : ℕ → Next → Type 0
IsPlaced scale Over = ⊤
IsPlaced scale (Back tick) = ⊤
IsPlaced scale (At tick) = is_counted scale tick ≡ true

tick-early : (scale : ℕ) (t : Times) (tick : ℕ) → is_counted scale tick ≡ true → at_tick scale t tick ≤ last_micro
tick-early scale t tick counted =
    let few = leb-true (micros scale tick) last_micro (of-both (nat_lt tick (2 ^ 64)) (nat_le (micros scale tick) last_micro) counted) in
    let less = micros_grow scale (tick - t.base) tick (omega arith) in omega (arith, few, less)

lasts-among : (l : Lengths) (scale : ℕ) (t : Times) (ticks said : ℕ) → lasts l scale t ticks said ≤ max said (by_samples scale t ticks)
lasts-among l scale t ticks said = by_said (nat_le said l.part)
  where
    first : (a b : ℕ) → a ≤ max a b
    first a b = omega arith

    second : (a b c : ℕ) → min a c ≤ max b c
    second a b c = omega arith

    by_said : (b : Bool) → (if◌then◌else◌ {A = ℕ} b said (min (or_part l t.before) (by_samples scale t ticks))) ≤ max said (by_samples scale t ticks)
    by_said true = first said (by_samples scale t ticks)
    by_said false = second (or_part l t.before) said (by_samples scale t ticks)

-- a fragment that ends a run is no longer than its samples
pub lasts-samples : (l : Lengths) (scale : ℕ) (t : Times) (ticks : ℕ) → lasts l scale t ticks (by_samples scale t ticks) ≤ by_samples scale t ticks
lasts-samples l scale t ticks =
    same (lasts l scale t ticks (by_samples scale t ticks)) (by_samples scale t ticks) (lasts-among l scale t ticks (by_samples scale t ticks))
  where
    same : (a b : ℕ) → a ≤ max b b → a ≤ b
    same a b e = omega (arith, e)

pub lasts-cut : (l : Lengths) (scale : ℕ) (t : Times) (ticks said : ℕ) → l.part < said → lasts l scale t ticks said ≤ by_samples scale t ticks
lasts-cut l scale t ticks said more =
    subst (λ n. n ≤ by_samples scale t ticks)
    (sym (ap (λ b. if◌then◌else◌ {A = ℕ} b said (min (or_part l t.before) (by_samples scale t ticks))) (lt-leb said l.part more)))
    (second (or_part l t.before) (by_samples scale t ticks))
  where
    second : (a b : ℕ) → min a b ≤ b
    second a b = omega arith

sum-early : (cap begin end place lasts : ℕ) → begin ≤ cap → end ≤ cap → place ≤ cap → lasts ≤ max (place - begin) (end - begin) → begin + lasts ≤ cap
sum-early cap begin end place lasts a b c d = omega (arith, a, b, c, d)

pub ends-counted : (l : Lengths) (scale : ℕ) (t : Times) (ticks : ℕ) (next : Next) → is_counted scale (t.position + ticks) ≡ true → IsPlaced scale next
    → at_tick scale t t.position + lasts l scale t ticks (said_to scale t ticks next) ≤ last_micro
ends-counted l scale t ticks next counted placed = by_next next placed
  where
    begins : at_tick scale t t.position ≤ last_micro
    begins = tick-early scale t t.position (counted_less scale t.position ticks counted)

    ends : at_tick scale t (t.position + ticks) ≤ last_micro
    ends = tick-early scale t (t.position + ticks) counted

    by_next : (next : Next) → IsPlaced scale next → at_tick scale t t.position + lasts l scale t ticks (said_to scale t ticks next) ≤ last_micro
    by_next Over placed =
        sum-early last_micro (at_tick scale t t.position) (at_tick scale t (t.position + ticks)) (at_tick scale t (t.position + ticks)) (lasts l scale t ticks (by_samples scale t ticks)) begins ends ends
        (lasts-among l scale t ticks (by_samples scale t ticks))
    by_next (Back tick) placed =
        sum-early last_micro (at_tick scale t t.position) (at_tick scale t (t.position + ticks)) (at_tick scale t (t.position + ticks)) (lasts l scale t ticks (by_samples scale t ticks)) begins ends ends
        (lasts-among l scale t ticks (by_samples scale t ticks))
    by_next (At tick) placed =
        sum-early last_micro (at_tick scale t t.position) (at_tick scale t (t.position + ticks)) (at_tick scale t tick) (lasts l scale t ticks (said_to scale t ticks (At tick))) begins ends
        (tick-early scale t tick placed) (lasts-among l scale t ticks (said_to scale t ticks (At tick)))
