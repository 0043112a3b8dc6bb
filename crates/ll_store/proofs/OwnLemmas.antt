-- The items of one rendition, and one more.
use Rattle.std.proofs.Common.{◌≡◌, ◌≢◌, ℕ, ◌==◌, List, [], ◌∷◌, ◌++◌, true, false, ap, ◌∙◌, arith, append-nil, cond}
use Rattle.std.proofs.lemmas.Bool.Decides.{nat_tests}
use Rattle.std.proofs.lemmas.List.Elements.{filter-append}
use Rattle.ll_item.specs.Items.{rendition_of}
use Rattle.ll_item.specs.declared.item.Item.{Item}
use Rattle.ll_window.specs.Segments.{own}

pub own-same : (r : ℕ) (items : List Item) (i : Item) → rendition_of i ≡ r → own r (items ++ i ∷ []) ≡ own r items ++ i ∷ []
own-same r items i e =
    let yes : (rendition_of i == r) ≡ true = grind (arith, nat_tests) in
    filter-append (λ j. rendition_of j == r) items (i ∷ []) ∙ ap (λ b. own r items ++ cond b (i ∷ []) []) yes

pub own-other : (r : ℕ) (items : List Item) (i : Item) → rendition_of i ≢ r → own r (items ++ i ∷ []) ≡ own r items
own-other r items i ne =
    let no : (rendition_of i == r) ≡ false = grind (arith, nat_tests) in
    filter-append (λ j. rendition_of j == r) items (i ∷ []) ∙ ap (λ b. own r items ++ cond b (i ∷ []) []) no ∙ append-nil (own r items)
