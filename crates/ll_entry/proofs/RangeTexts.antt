-- The attribute list of a date range is read again with its ID in front, because no other attribute has that name.
use Rattle.std.proofs.Common.{◌≡◌, ◌≢◌, ℕ, true, List, [], ◌∷◌, ◌++◌, refl, ap, ◌∙◌, append_assoc, codes, Ok}
use Rattle.ll_attr.specs.Attributes.{attributes_in, spelling}
use Rattle.ll_attr.specs.declared.attributes.Attribute.{Attribute}
use Rattle.ll_page.proofs.RangeTexts.{read-with_id}
use Rattle.ll_range.specs.Attributes.{are_allowed, is_id}
use Rattle.ll_item.specs.ItemLines.{with_id}

some_read : (id : List ℕ) (a : Attribute) (more : List Attribute) (text : List ℕ) → is_id id ≡ true → are_allowed (a ∷ more) ≡ true → spelling (a ∷ more) ≡ text
    → attributes_in text ≡ Ok (a ∷ more) → attributes_in (spelling (with_id id (a ∷ more))) ≡ Ok (with_id id (a ∷ more))
some_read id a more [] is allowed e read = cc
some_read id a more (b ∷ bs) is allowed e read =
    ap (λ t. attributes_in (codes "ID=\"" ++ t)) (append_assoc id (codes "\"") (44 ∷ spelling (a ∷ more)))
    ∙ ap (λ t. attributes_in (codes "ID=\"" ++ (id ++ (codes "\"" ++ 44 ∷ t)))) e
    ∙ read-with_id id (b ∷ bs) (a ∷ more) is read allowed

-- attributes that a date range may have, at least one of them, are read again with its ID
pub with-id-read : (id : List ℕ) (list : List Attribute) → is_id id ≡ true → are_allowed list ≡ true → (list ≢ [] → attributes_in (spelling list) ≡ Ok list)
    → attributes_in (spelling (with_id id list)) ≡ Ok (with_id id list)
with-id-read id [] is allowed read = cc
with-id-read id (a ∷ more) is allowed read = some_read id a more (spelling (a ∷ more)) is allowed refl (read (λ e. cc))
