-- The date ranges that are listed of accepted items: no two have one id, and none has that of a recent removal.
use Rattle.std.proofs.Common.{◌≡◌, ℕ, ◌+◌, ◌==◌, ◌||◌, Bool, true, false, not, cond, List, [], ◌∷◌, ◌++◌, append-nil, append_assoc, refl, sym, subst, ◌∙◌, arith, bytes_eq, Some, None, if◌then◌else◌}
use Rattle.std.proofs.lemmas.Bool.{true≢false, or_parts}
use Rattle.std.proofs.lemmas.List.Sums.{fold-append}
use Rattle.ll_attr.specs.Attributes.{spelling}
use Rattle.ll_item.specs.Items.{rendition_of}
use Rattle.ll_settings.specs.Settings.{Configuration, skip_limit}
use Rattle.ll_item.specs.declared.item.Item.{Item}
use Rattle.ll_item.specs.declared.item.Item.TheVariants as item
use Rattle.ll_item.specs.Told.{end_time, Listed, Told, start, step, told}
use Rattle.ll_window.specs.Segments.{own}
use Rattle.ll_range.specs.Announced.{announced, refusal, is_listed, was_removed}
use Rattle.ll_range.specs.Attributes.{is_id, are_allowed}
use Rattle.ll_range.specs.declared.ranges.RangeFault.TheVariants.{IdTaken, BadAttribute}
use Rattle.ll_read.specs.Readable.{Each}
use Rattle.ll_laws.specs.Published.{AreAnnounced}
use Rattle.ll_laws.proofs.ApartLemmas.{are_apart, apart-after, apart-fewer}
use Rattle.ll_laws.proofs.EachLemmas.{each-any, each-with, each-append}
use Rattle.ll_laws.proofs.FilterLemmas.{each-passes}
use Rattle.ll_laws.proofs.ItemLemmas.{own_one, same}
use Rattle.ll_laws.proofs.RemovalLemmas.{was_lately, not-lately, lately-other, lately-free}

-- each of these items of one rendition may follow those before it where it is about date ranges
abbrev pub AreTold : Configuration → List Item → List Item → Type 0
AreTold c before [] = Unit
AreTold c before (i ∷ items) = (refusal c before i ≡ None) × AreTold c (before ++ i ∷ []) items

told_by : (c : Configuration) (r : ℕ) (before items : List Item) (i : Item) (b : Bool) → (rendition_of i == r) ≡ b
    → refusal c (own (rendition_of i) before) i ≡ None
    → AreTold c (own r (before ++ i ∷ [])) (own r items) → AreTold c (own r before) (cond b (i ∷ own r items) (own r items))
told_by c r before items i true e h more = (rw (same (rendition_of i) r e) at h, rw (own_one r before i true e) at more)
told_by c r before items i false e h more = rw (own_one r before i false e ∙ append-nil (own r before)) at more

pub told-own : (c : Configuration) (r : ℕ) (before items : List Item) → AreAnnounced c before items → AreTold c (own r before) (own r items)
told-own c r before [] h = tt
told-own c r before (i ∷ items) h =
    told_by c r before items i (rendition_of i == r) refl h.0 (told-own c r (before ++ i ∷ []) items h.1)

-- what holds before items of such texts holds after them, where each of them keeps it
pub told-after : (P : Told → Type 0) (T : Item → Type 0) (c : Configuration)
    → ((before : List Item) (i : Item) → refusal c before i ≡ None → T i → P (told before) → P (step (told before) i))
    → (before items : List Item) → AreTold c before items → Each T items → P (told before) → P (told (before ++ items))
told-after P T c keeps before [] all texts h = rw (append-nil before) h
told-after P T c keeps before (i ∷ items) all texts h =
    rw (append_assoc before (i ∷ []) items) at (told-after P T c keeps (before ++ i ∷ []) items all.1 texts.1
    (subst P (sym (fold-append step start before (i ∷ []))) (keeps before i all.0 texts.0 h)))

-- what it means that a date range is not refused
pub added-by : (taken id allowed : Bool)
    → (if taken then Some IdTaken else if id then (if allowed then None else Some BadAttribute) else Some BadAttribute) ≡ None
    → (taken ≡ false) × (id ≡ true) × (allowed ≡ true)
added-by true id allowed h = cc
added-by false false allowed h = cc
added-by false true true h = (refl, refl, refl)
added-by false true false h = cc

pub record IsFree (limit : ℕ) (t : Told) : Type 0 where
  pub apart : are_apart t.listed ≡ true
  pub free : Each (λ (x : Listed). was_lately limit t.end_time x.id t.removals ≡ false) t.listed

not_true : (b : Bool) → not b ≡ true → b ≡ false
not_true true e = absurd (true≢false (sym e))
not_true false e = refl

free_step : (c : Configuration) (before : List Item) (i : Item) → refusal c before i ≡ None → IsFree (skip_limit c) (told before)
    → IsFree (skip_limit c) (step (told before) i)
free_step c before (item.Part p) none h =
    let t = told before in
    record {
      apart = h.apart;
      free = each-with (λ (x : Listed). was_lately (skip_limit c) t.end_time x.id t.removals ≡ false)
          (λ (x : Listed). was_lately (skip_limit c) (t.end_time + p.duration) x.id t.removals ≡ false)
          (λ x e. not-lately (skip_limit c) t.end_time (t.end_time + p.duration) x.id t.removals (omega arith) e) t.listed h.free;
    }
free_step c before (item.Finish r) none h = record { apart = h.apart; free = h.free }
free_step c before (item.Break r time) none h = record { apart = h.apart; free = h.free }
free_step c before (item.Init r media) none h = record { apart = h.apart; free = h.free }
free_step c before (item.End r) none h = record { apart = h.apart; free = h.free }
free_step c before (item.Range r id attributes) none h =
    let t = told before in
    let taken = was_removed (end_time before) id (announced c before) in
    let free = added-by (is_listed id (announced c before) || taken) (is_id id) (are_allowed attributes) none in
    let fresh = or_parts (is_listed id (announced c before)) taken free.0 in
    let x : Listed = record { id = id; attributes = spelling attributes; added = t.end_time } in
    record {
      apart = apart-after t.listed x h.apart fresh.0;
      free = each-append (λ (x : Listed). was_lately (skip_limit c) t.end_time x.id t.removals ≡ false) t.listed (x ∷ []) h.free
          (lately-free (skip_limit c) t.end_time id t.removals fresh.1, tt);
    }
free_step c before (item.Unrange r id) none h =
    let t = told before in
    let keep : Listed → Bool = λ x. not (bytes_eq id x.id) in
    let P : Listed → Type 0 = λ x. was_lately (skip_limit c) t.end_time x.id t.removals ≡ false in
    record {
      apart = apart-fewer keep t.listed h.apart;
      free = each-with (λ x. P x × (keep x ≡ true)) (λ (x : Listed). was_lately (skip_limit c) t.end_time x.id (step t (item.Unrange r id)).removals ≡ false)
          (λ x k. lately-other (skip_limit c) t.end_time x.id id t.end_time t.removals (not_true (bytes_eq id x.id) k.1) k.0)
          (step t (item.Unrange r id)).listed (each-passes P keep t.listed h.free);
    }

pub is-free : (c : Configuration) (items : List Item) → AreTold c [] items → IsFree (skip_limit c) (told items)
is-free c items all =
    told-after (IsFree (skip_limit c)) (λ i. Unit {0}) c (λ before i none text h. free_step c before i none h) [] items all
    (each-any (λ i. Unit {0}) (λ i. tt) items) (record { apart = refl; free = tt })
