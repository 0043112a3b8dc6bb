-- From what is kept of a rendition follow the rule that refuses an item, and what is kept after it.
use Rattle.std.proofs.Common.{◌≡◌, ℕ, List, [], ◌∷◌, ◌++◌, true, refl, ap, ap₂, sym, ◌∙◌}
use Rattle.std.specs.Prelude.{Result, Ok, Err, OnOk, option_map}
use Rattle.ll_item.specs.Items.{is_about_ranges}
use Rattle.ll_settings.specs.Settings.{Configuration}
use Rattle.ll_item.specs.declared.item.Item.{Item}
use Rattle.ll_rendition.specs.Kept.{kept}
use Rattle.ll_rendition.specs.declared.rendition.Rendition.{Rendition}
use Rattle.ll_range.specs.Announced as range
use Rattle.ll_range.specs.Announced.{Announced, announced}
use Rattle.ll_window.specs.Compact.{Compact, compact}
use Rattle.ll_window.specs.Refusal as window
use Rattle.ll_item.specs.Told.{end_time}
use Rattle.ll_window.proofs.StepLemmas.{refusal_told, silent}
use Rattle.ll_rendition.specs.Refusal.{first_refusal, of_push, of_range, rendition_refusal}
use Rattle.ll_rendition.specs.Refusal.{refusal_of}

-- the rule that refuses an item
pub its_refusal : (c : Configuration) (own_items : List Item) (i : Item) → refusal_of (kept c own_items) i ≡ rendition_refusal c own_items i
unfolding rendition_refusal
its_refusal c own_items i =
    ap (λ f. first_refusal (option_map of_push f) (option_map of_range (range.refusal c own_items i)))
    (sym (refusal_told (compact c own_items) own_items i (window.refusal_after (compact c own_items) i) refl refl))

-- an item that changes the date ranges and leaves the window as it is
pub ranged : {E : Type 0} (c : Configuration) (before : List Item) (i j : Item) (k : Rendition) (a : Announced) (end : ℕ) (r : Result Unit E)
    → k ≡ kept c before → is_about_ranges i ≡ true → i ≡ j → end ≡ k.window.end_time
    → (k.ranges ≡ announced c before → end ≡ end_time before → OnOk r (a ≡ announced c (before ++ j ∷ [])))
    → OnOk r (record { window = k.window; ranges = a } ≡ kept c (before ++ i ∷ []))
ranged c before i j k a end (Err f) e is_range is now taken = tt
ranged c before i j k a end (Ok u) e is_range is now taken =
    let window = ap (λ (q : Rendition). q.window) e in
    let went = taken (ap (λ (q : Rendition). q.ranges) e) (now ∙ ap (λ (q : Compact). q.end_time) window) in
    ap₂ (λ x y. record { window = x; ranges = y }) (window ∙ sym (silent c before i is_range)) (went ∙ ap (λ x. announced c (before ++ x ∷ [])) (sym is))
