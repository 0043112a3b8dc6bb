-- Numbers and times of what is kept stay within their bounds, item by item: a part that would pass them is refused.
use Rattle.std.proofs.Common.{◌≡◌, ℕ, ◌+◌, ◌*◌, ◌≤◌, List, [], ◌∷◌, ◌++◌, Bool, true, false, length, append-nil, append_assoc, Option, None, Some, refl, ap, ◌∙◌, sym, subst, arith}
use Rattle.std.proofs.lemmas.Bool.Decides.{nat_tests}
use Rattle.std.proofs.lemmas.List.{length-append}
use Rattle.ll_attr.specs.YearEnd.{last_micro}
use Rattle.ll_settings.specs.Settings.{Configuration, IsWithin, number_end}
use Rattle.ll_item.specs.declared.item.Item.{Item}
use Rattle.ll_item.specs.declared.item.Item.TheVariants as item
use Rattle.ll_item.specs.declared.part.Part.{Part}
use Rattle.ll_window.specs.declared.part_position.PartPosition.{PartPosition}
use Rattle.ll_window.specs.Compact.{Compact, next_start, next_start_by, compact, opens_by}
use Rattle.ll_window.specs.Refusal.{break_refusal, part_refusal, refusal_before_end}
use Rattle.ll_window.specs.Rows.{restarted}
use Rattle.ll_window.specs.Segments.{duration, ended}
use Rattle.ll_window.specs.Step.{after_segment, with_part_by, with_break, with_item, ended_by, finished_by}
use Rattle.ll_window.proofs.KeptLemmas.{limits, opens-next-start}
use Rattle.ll_window.proofs.SplitLemmas.{duration-last}
use Rattle.ll_window.proofs.StepLemmas.{compact-snoc, duration-snoc}
use Rattle.ll_item.specs.Told.{finished_last}
use Rattle.ll_format.specs.Format.{Where}
use Rattle.ll_laws.proofs.ItemLemmas.{AreInOrder}
use Rattle.ll_laws.proofs.OwnSegmentProof.{unended}

-- the place of a part is within bounds
abbrev pub IsPlaced : PartPosition → Type 0
IsPlaced place = (place.number ≤ number_end) × (place.index ≤ last_micro)

-- an open segment has a number, and no more parts than microseconds have passed
pub record IsBounded (k : Compact) : Type 0 where
  pub numbers : k.next_number ≤ number_end + 1
  pub opens : 1 ≤ length k.open_parts → k.next_number ≤ number_end
  -- the parts end no sooner than where they would by their durations alone, no later than the next one begins, and before the year 10000
  pub ends : k.settings.start * 1000 + k.end_time ≤ k.open_time + duration k.open_parts
  pub forward : k.open_time + duration k.open_parts ≤ restarted k.restart (k.open_time + duration k.open_parts)
  pub times : restarted k.restart (k.open_time + duration k.open_parts) ≤ last_micro
  pub few : length k.open_parts ≤ k.end_time
  pub placed : Where IsPlaced k.last

some_micro : (c : Configuration) (n lasts ends micros : ℕ) → part_refusal c n lasts ends micros ≡ None → 1 ≤ micros
some_micro c n lasts ends micros e = grind (arith, nat_tests, e)

-- the next part begins no sooner than the last one ends
begins : (ps : List Part) (o : Option ℕ) (time : ℕ) → time + duration ps ≤ restarted o (time + duration ps) → time + duration ps ≤ next_start_by ps o time
begins [] o time le =
    let same : time + 0 ≡ time = omega arith in
    let h = subst (λ t. t ≤ restarted o t) same le in
    omega (arith, h)
begins (p ∷ ps) o time le = omega arith

-- with one more part they end where that one does
ends-on : (k : Compact) (p : Part) → opens_by k.open_parts k.restart k.open_time + duration (k.open_parts ++ p ∷ []) ≡ next_start k + p.duration
ends-on k p =
    let d = duration-snoc k.open_parts p in
    let o = opens-next-start k.open_parts k.restart k.open_time in
    omega (arith, d, o)

part_step : (b : Bool) (k : Compact) (p : Part) → IsBounded k → part_refusal k.settings k.next_number (duration k.open_parts) (next_start k) p.duration ≡ None
    → IsBounded (with_part_by b k p)
part_step true k p h none =
    let l = limits k.settings k.next_number (duration k.open_parts) (next_start k) p.duration none in
    let l0 = l.0 in
    let l1 = l.1 in
    let later = begins k.open_parts k.restart k.open_time h.forward in
    let e = ends-on k p in
    record {
      numbers = omega (arith, l0);
      opens = λ some. absurd (omega arith);
      ends = omega (arith, e, later, h.ends);
      forward = omega arith;
      times = omega (arith, l1, e);
      few = omega arith;
      placed = (l0, omega (arith, h.few, h.ends, h.forward, h.times));
    }
part_step false k p h none =
    let l = limits k.settings k.next_number (duration k.open_parts) (next_start k) p.duration none in
    let l0 = l.0 in
    let l1 = l.1 in
    let later = begins k.open_parts k.restart k.open_time h.forward in
    let e = ends-on k p in
    let some = some_micro k.settings k.next_number (duration k.open_parts) (next_start k) p.duration none in
    let more = length-append k.open_parts (p ∷ []) in
    record {
      numbers = h.numbers;
      opens = λ one. l0;
      ends = omega (arith, e, later, h.ends);
      forward = omega arith;
      times = omega (arith, l1, e);
      few = omega (arith, h.few, some, more);
      placed = (l0, omega (arith, h.few, h.ends, h.forward, h.times));
    }

-- the open segment is finished, of which these are the parts
closed_step : (k : Compact) (e : Bool) (ps : List Part) → IsBounded k → k.next_number ≤ number_end → duration ps ≡ duration k.open_parts
    → IsBounded (after_segment (record k { open_parts = ps; ended = e }))
closed_step k e ps h low same =
    let ends : k.open_time + duration ps + 0 ≡ k.open_time + duration k.open_parts = omega (arith, same) in
    record {
      numbers = omega (arith, low);
      opens = λ some. absurd (omega arith);
      ends = omega (arith, ends, h.ends);
      forward = subst (λ t. t ≤ restarted k.restart t) (sym ends) h.forward;
      times = subst (λ t. restarted k.restart t ≤ last_micro) (sym ends) h.times;
      few = omega arith;
      placed = h.placed;
    }

end_step : (ps : List Part) (k : Compact) → k.open_parts ≡ ps → IsBounded k → IsBounded (ended_by ps k)
end_step [] k is h = record { numbers = h.numbers; opens = h.opens; ends = h.ends; forward = h.forward; times = h.times; few = h.few; placed = h.placed }
end_step (p ∷ ps) k is h = closed_step k true k.open_parts h (h.opens (let some = ap length is in omega (arith, some))) refl

finish_step : (ps : List Part) (k : Compact) → k.open_parts ≡ ps → IsBounded k → IsBounded (finished_by ps k)
finish_step [] k is h = h
finish_step (p ∷ ps) k is h =
    closed_step k k.ended (finished_last (p ∷ ps)) h (h.opens (let some = ap length is in omega (arith, some))) (duration-last (p ∷ ps) ∙ ap duration (sym is))

-- a time that may be set is no sooner than the last part's end, and before the year 10000
break_set : (ps : List Part) (o : Option ℕ) (time ms : ℕ) → time + duration ps ≤ restarted o (time + duration ps)
    → break_refusal ps (next_start_by ps o time) (Some ms) ≡ None → (time + duration ps ≤ ms * 1000) × (ms * 1000 ≤ last_micro)
break_set (p ∷ ps) o time ms le none = cc
break_set [] o time ms le none =
    let later = begins [] o time le in
    let set : (restarted o time ≤ ms * 1000) × (ms * 1000 ≤ last_micro) = grind (arith, nat_tests, none) in
    (omega (arith, later, set.0), set.1)

break_step : (k : Compact) (time : Option ℕ) → IsBounded k → break_refusal k.open_parts (next_start k) time ≡ None → IsBounded (with_break k time)
break_step k None h none = record { numbers = h.numbers; opens = h.opens; ends = h.ends; forward = h.forward; times = h.times; few = h.few; placed = h.placed }
break_step k (Some ms) h none =
    let set = break_set k.open_parts k.restart k.open_time ms h.forward none in
    record { numbers = h.numbers; opens = h.opens; ends = h.ends; forward = set.0; times = set.1; few = h.few; placed = h.placed }

item_step : (c : Configuration) (before : List Item) (i : Item) → IsBounded (compact c before) → refusal_before_end c before i ≡ None
    → IsBounded (with_item (compact c before) i)
item_step c before (item.Part p) h none = part_step p.finish (compact c before) _ h none
item_step c before (item.Finish r) h none = finish_step (compact c before).open_parts (compact c before) refl h
item_step c before (item.Break r time) h none = break_step (compact c before) time h none
item_step c before (item.Init r media) h none = h
item_step c before (item.End r) h none = end_step (compact c before).open_parts (compact c before) refl h
item_step c before (item.Range r id attributes) h none = h
item_step c before (item.Unrange r id) h none = h

bounded_after : (c : Configuration) (before items : List Item) → AreInOrder c before items → IsBounded (compact c before) → IsBounded (compact c (before ++ items))
bounded_after c before [] accepted h = rw (append-nil before) h
bounded_after c before (i ∷ items) accepted h =
    let u = unended (ended before) (refusal_before_end c before i) accepted.0 in
    rw (append_assoc before (i ∷ []) items) at
    (bounded_after c (before ++ i ∷ []) items accepted.1 (subst IsBounded (sym (compact-snoc c before i u.0)) (item_step c before i h u.1)))

-- what is kept of accepted items of one rendition is within bounds
pub bounded : (c : Configuration) (items : List Item) → IsWithin c → AreInOrder c [] items → IsBounded (compact c items)
bounded c items within accepted = bounded_after c [] items accepted (record {
  numbers = omega (arith, within.first_high);
  opens = λ some. absurd (omega arith);
  ends = omega arith;
  forward = omega arith;
  times = omega (arith, within.start_high);
  few = omega arith;
  placed = tt;
})
