-- Kind by kind: what the rules demand of an accepted item is what its line needs.
use Rattle.std.proofs.Common.{◌≡◌, ℕ, ◌<◌, ◌≤◌, ◌^◌, List, [], ◌∷◌, Bool, true, false, Option, None, Some, arith}
use Rattle.std.proofs.lemmas.Bool.Decides.{nat_tests}
use Rattle.ll_settings.proofs.WithinLimits.{within}
use Rattle.ll_settings.specs.Settings.{Configuration, IsWithin}
use Rattle.ll_item.specs.declared.item.Item.{Item}
use Rattle.ll_item.specs.declared.item.Item.TheVariants as item
use Rattle.ll_range.specs.Announced.{announced}
use Rattle.ll_item.specs.ItemLines.{IsTyped}
use Rattle.ll_entry.specs.ItemLaws.{IsBreakTime, IsWritable}
use Rattle.ll_verdict.specs.Events.{Event, items}
use Rattle.ll_item.specs.declared.part.Part.{Part}
use Rattle.ll_window.specs.Compact.{next_start, compact}
use Rattle.ll_window.specs.Refusal.{break_refusal, part_refusal, refusal_before_end, refusal_by}
use Rattle.ll_item.specs.Told.{end_time}
use Rattle.ll_window.specs.Segments.{ended, open_segment, own}
use Rattle.ll_window.specs.declared.fault.WindowFault.{WindowFault}
use Rattle.ll_entry.specs.Writable.{ItemWritableLaw}
use Rattle.ll_verdict.proofs.AcceptedLemmas.{IsTaken}
use Rattle.ll_entry.proofs.AcceptedItems.{added, is-taken, removed}
use Rattle.ll_entry.proofs.RangeTexts.{with-id-read}

before_end : (b : Bool) (o : Option WindowFault) → refusal_by b o ≡ None → o ≡ None
before_end true o h = cc
before_end false o h = h

short_part : (c : Configuration) (number lasts ends micros : ℕ) → part_refusal c number lasts ends micros ≡ None → micros ≤ c.part_target
short_part c number lasts ends micros h = grind (arith, nat_tests)

small : (c : Configuration) (micros : ℕ) → IsWithin c → micros ≤ c.part_target → micros < 2 ^ 64
small c micros w h = omega (arith, w.part_target_high, w.target_high)

-- a break that isn't refused sets no time past the year 9999
break_time : (ps : List Part) (begins : ℕ) (time : Option ℕ) → break_refusal ps begins time ≡ None → IsBreakTime time
break_time ps begins None h = tt
break_time (p ∷ ps) begins (Some ms) h = cc
break_time [] begins (Some ms) h = grind (arith, nat_tests)

by_kind : (c : Configuration) (events : List Event) (i : Item) → IsWithin c → IsTaken c (items c events) i → IsTyped i → IsWritable c i
by_kind c events (item.Part p) w t h =
    let before = own p.rendition (items c events) in
    let not_long = before_end (ended before) (refusal_before_end c before (item.Part p)) t.window in
    (t.named, small c p.duration w (short_part c _ _ _ p.duration not_long), h.1)
by_kind c events (item.Init r media) w t h = (t.named, h.1)
by_kind c events (item.Finish r) w t h = t.named
by_kind c events (item.Break r time) w t h =
    let before = own r (items c events) in
    let not_late = before_end (ended before) (refusal_before_end c before (item.Break r time)) t.window in
    (t.named, break_time (open_segment before) (next_start (compact c before)) time not_late)
by_kind c events (item.End r) w t h = t.named
by_kind c events (item.Range r id attributes) w t h =
    let before = own r (items c events) in
    let a = added (end_time before) id attributes (announced c before) t.range in
    (t.named, with-id-read id attributes a.0 a.1 h.0)
by_kind c events (item.Unrange r id) w t h = (t.named, removed c events r id t.range)

pub item-writable : ItemWritableLaw
item-writable c events i limits h kept = by_kind c events i (within c limits) (is-taken c events i h) kept
