-- What is kept of an item's rendition determines why the item is refused.
use Rattle.std.proofs.Common.{◌≡◌, ℕ, zero, suc, ◌<◌, List, [], ◌∷◌, Bool, true, false, cond, nat_lt, Option, Some, None, is_none, refl, ap, sym, ◌∙◌, true≢false, length, arith}
use Rattle.std.specs.Prelude.{slice_get, option_map}
use Rattle.std.proofs.lemmas.Bool.Decides.{nat_tests}
use Rattle.ll_item.specs.Items.{rendition_of}
use Rattle.ll_settings.specs.Settings.{Configuration}
use Rattle.ll_item.specs.declared.item.Item.{Item}
use Rattle.ll_pieces.specs.View.{renditions}
use Rattle.ll_page.proofs.RenditionLemmas.{length-renditions, rendition-got}
use Rattle.ll_rendition.proofs.ItemLemmas.{its_refusal}
use Rattle.ll_rendition.specs.Kept.{kept}
use Rattle.ll_rendition.specs.Refusal.{first_refusal, of_push, refusal_at, refusal_of, rendition_refusal}
use Rattle.ll_rendition.specs.declared.fault.PublishFault.{PublishFault}
use Rattle.ll_rendition.specs.declared.fault.PublishFault.TheVariants.{NoRendition}
use Rattle.ll_rendition.specs.declared.rendition.Rendition.{Rendition}
use Rattle.ll_verdict.specs.Accepted.{refusal}
use Rattle.ll_window.specs.Refusal as window
use Rattle.ll_window.specs.Segments.{ended, own}
use Rattle.ll_window.specs.declared.fault.WindowFault.{WindowFault}

-- why an item is refused, by what is kept

past-got : (rs : List Rendition) (r : ℕ) → slice_get rs r ≡ None → nat_lt r (length rs) ≡ false
past-got [] r e = grind (arith, nat_tests)
past-got (x ∷ rs) zero e = absurd (true≢false (sym (ap is_none e)))
past-got (x ∷ rs) (suc r) e = let h = past-got rs r e in grind (arith, nat_tests, h)

pub refusal_as : (c : Configuration) (xs : List Item) (i : Item) (o : Option Rendition) → slice_get (renditions c xs) (rendition_of i) ≡ o
    → refusal_at o i ≡ refusal c xs i
refusal_as c xs i None e =
    let past : nat_lt (rendition_of i) (length c.renditions) ≡ false = ap (nat_lt (rendition_of i)) (sym (length-renditions c xs)) ∙ past-got (renditions c xs) (rendition_of i) e in
    sym (ap (λ b. cond b (rendition_refusal c (own (rendition_of i) xs) i) (Some NoRendition)) past)
refusal_as c xs i (Some k) e =
    let got = rendition-got c xs (rendition_of i) k e in
    ap (λ q. refusal_of q i) got.1 ∙ its_refusal c (own (rendition_of i) xs) i
    ∙ sym (ap (λ b. cond b (rendition_refusal c (own (rendition_of i) xs) i) (Some NoRendition)) got.0)

-- an item that nothing refuses

pub first_none : (f g : Option PublishFault) → first_refusal f g ≡ None → f ≡ None
first_none None g e = refl
first_none (Some f) g e = e

none_mapped : (f : Option WindowFault) → option_map of_push f ≡ None → f ≡ None
none_mapped None e = refl
none_mapped (Some f) e = absurd (true≢false (sym (ap is_none e)))

goes_on : (b : Bool) (f : Option WindowFault) → window.refusal_by b f ≡ None → b ≡ false
goes_on true f e = absurd (true≢false (sym (ap is_none e)))
goes_on false f e = refl

pub not_ended : (c : Configuration) (own_items : List Item) (i : Item) → rendition_refusal c own_items i ≡ None → ended own_items ≡ false
unfolding rendition_refusal
not_ended c own_items i e = goes_on (ended own_items) (window.refusal_before_end c own_items i) (none_mapped (window.refusal c own_items i) (first_none _ _ e))

pub accepted_in : (r : ℕ) (n : ℕ) (f : Option PublishFault) (b : Bool) → nat_lt r n ≡ b → cond b f (Some NoRendition) ≡ None → (nat_lt r n ≡ true) × (f ≡ None)
accepted_in r n f true e h = (e, h)
accepted_in r n f false e h = absurd (true≢false (sym (ap is_none h)))

-- its rendition

some_kept : (rs : List Rendition) (r : ℕ) (o : Option Rendition) → slice_get rs r ≡ o → nat_lt r (length rs) ≡ true → (k : Rendition) × (slice_get rs r ≡ Some k)
some_kept rs r None e h = absurd (true≢false (sym h ∙ past-got rs r e))
some_kept rs r (Some k) e h = (k, e)

got-within : (rs : List Rendition) (r : ℕ) (k : Rendition) → slice_get rs r ≡ Some k → r < length rs
got-within [] r k e = absurd (cc)
got-within (x ∷ rs) zero k e = omega arith
got-within (x ∷ rs) (suc r) k e = let h = got-within rs r k e in omega (arith, h)

-- an item that nothing refuses has a rendition
pub allowed-there : (rs : List Rendition) (i : Item) (o : Option Rendition) → slice_get rs (rendition_of i) ≡ o → refusal_at o i ≡ None → rendition_of i < length rs
allowed-there rs i None e h = absurd (true≢false (sym (ap is_none h)))
allowed-there rs i (Some k) e h = got-within rs (rendition_of i) k e

-- what is kept of a rendition that the channel has
pub kept-there : (c : Configuration) (items : List Item) (r : ℕ) → nat_lt r (length c.renditions) ≡ true → slice_get (renditions c items) r ≡ Some (kept c (own r items))
kept-there c items r within =
    let got = some_kept (renditions c items) r (slice_get (renditions c items) r) refl (ap (nat_lt r) (length-renditions c items) ∙ within) in
    got.1 ∙ ap Some (rendition-got c items r got.0 got.1).1
