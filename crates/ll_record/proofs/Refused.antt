-- The first rule that refuses an item, as a recorder returns it.
use Rattle.std.proofs.Common.{◌≡◌, ℕ, ◌<◌, ◌≤◌, List, true, false, Some, None, ap, ap₂, ◌∙◌, sym, subst, nat_le, arith}
use Rattle.std.proofs.lemmas.Bool.Decides.{nat_tests}
use Rattle.ll_item.specs.declared.item.Item.{Item}
use Rattle.ll_room.proofs.AcceptLemmas.{refusal-told}
use Rattle.ll_verdict.specs.Full.{full_by, refusal_after}
use Rattle.ll_room.specs.Full.{refusal_by}
use Rattle.ll_rendition.specs.Refusal.{first_refusal}
use Rattle.ll_verdict.specs.Events.{Event}
use Rattle.ll_rendition.specs.declared.fault.PublishFault.{PublishFault}
use Rattle.ll_rendition.specs.declared.fault.PublishFault.TheVariants.{RecordFull}
use Rattle.ll_record.specs.Recording.{IsRecorded, Recording, record_end, record_refusal}

told : (r : Recording) (events : List Event) (item : Item) → IsRecorded r events → refusal_after r.room.settings events item ≡ refusal_by r.room item
told r events item s = sym (refusal-told r.room events item s.stands)

roomy : (n : ℕ) → n < record_end → nat_le record_end n ≡ false
roomy n h = grind (arith, nat_tests, h)

full : (n : ℕ) → record_end ≤ n → nat_le record_end n ≡ true
full n h = grind (arith, nat_tests, h)

-- no rule refuses it
pub unrefused : (r now : Recording) (item : Item) → r ≡ now → refusal_by r.room item ≡ None → r.calls < record_end
    → (events : List Event) → IsRecorded now events → record_refusal now events item ≡ None
unrefused r now item is none few =
    subst (λ (x : Recording). (events : List Event) → IsRecorded x events → record_refusal x events item ≡ None) is
    (λ events s. ap₂ (λ o b. first_refusal o (full_by b)) (told r events item s ∙ none) (roomy r.calls few))

-- a rule refuses it
pub refused : (r now : Recording) (item : Item) (f : PublishFault) → r ≡ now → refusal_by r.room item ≡ Some f
    → (events : List Event) → IsRecorded now events → record_refusal now events item ≡ Some f
refused r now item f is some =
    subst (λ (x : Recording). (events : List Event) → IsRecorded x events → record_refusal x events item ≡ Some f) is
    (λ events s. ap (λ o. first_refusal o (full_by (nat_le record_end r.calls))) (told r events item s ∙ some))

-- the record is full
pub refused-full : (r now : Recording) (item : Item) → r ≡ now → refusal_by r.room item ≡ None → record_end ≤ r.calls
    → (events : List Event) → IsRecorded now events → record_refusal now events item ≡ Some RecordFull
refused-full r now item is none many =
    subst (λ (x : Recording). (events : List Event) → IsRecorded x events → record_refusal x events item ≡ Some RecordFull) is
    (λ events s. ap₂ (λ o b. first_refusal o (full_by b)) (told r events item s ∙ none) (full r.calls many))
