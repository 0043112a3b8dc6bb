-- What it means that no rule refuses an item: its rendition is one of the channel's, and neither its window nor its date ranges refuse it.
use Rattle.std.proofs.Common.{◌≡◌, ℕ, ◌<◌, List, Bool, true, false, Option, Some, None, refl, length, nat_lt, arith, if◌then◌else◌}
use Rattle.std.specs.Prelude.{option_map}
use Rattle.std.proofs.lemmas.Bool.Decides.{nat_tests}
use Rattle.ll_item.specs.Items.{rendition_of}
use Rattle.ll_settings.specs.Settings.{Configuration}
use Rattle.ll_item.specs.declared.item.Item.{Item}
use Rattle.ll_range.specs.Announced as range
use Rattle.ll_rendition.specs.Refusal.{first_refusal, of_push, of_range, rendition_refusal}
use Rattle.ll_rendition.specs.declared.fault.PublishFault.{PublishFault}
use Rattle.ll_rendition.specs.declared.fault.PublishFault.TheVariants.{NoRendition}
use Rattle.ll_verdict.specs.Accepted.{refusal}
use Rattle.ll_window.specs.Refusal as window
use Rattle.ll_window.specs.Segments.{own}

none_of : {X Y : Type 0} (f : X → Y) (o : Option X) → option_map f o ≡ None → o ≡ None
none_of f None h = refl
none_of f (Some x) h = cc

pub first-none : (a b : Option PublishFault) → first_refusal a b ≡ None → (a ≡ None) × (b ≡ None)
first-none None b h = (refl, h)
first-none (Some reason) b h = cc

both_none : (c : Configuration) (before : List Item) (i : Item) → rendition_refusal c before i ≡ None → (window.refusal c before i ≡ None) × (range.refusal c before i ≡ None)
unfolding rendition_refusal
both_none c before i h =
    let p = first-none (option_map of_push (window.refusal c before i)) (option_map of_range (range.refusal c before i)) h in
    (none_of of_push (window.refusal c before i) p.0, none_of of_range (range.refusal c before i) p.1)

of_rendition : (b : Bool) (o : Option PublishFault) → (if b then o else Some NoRendition) ≡ None → (b ≡ true) × (o ≡ None)
of_rendition true o h = (refl, h)
of_rendition false o h = cc

-- what each item of a channel may follow
pub record IsTaken (c : Configuration) (before : List Item) (i : Item) : Type 0 where
  pub named : rendition_of i < length c.renditions
  pub window : window.refusal c (own (rendition_of i) before) i ≡ None
  pub range : range.refusal c (own (rendition_of i) before) i ≡ None

pub not-refused : (c : Configuration) (before : List Item) (i : Item) → refusal c before i ≡ None → IsTaken c before i
not-refused c before i h =
    let p = of_rendition (nat_lt (rendition_of i) (length c.renditions)) (rendition_refusal c (own (rendition_of i) before) i) h in
    let q = both_none c (own (rendition_of i) before) i p.1 in
    record { named = below (rendition_of i) (length c.renditions) p.0; window = q.0; range = q.1 }
  where
    below : (m n : ℕ) → nat_lt m n ≡ true → m < n
    below m n h = grind (arith, nat_tests)
