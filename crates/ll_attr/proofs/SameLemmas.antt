-- Lists of attributes are the same exactly when they are equal.
use Rattle.std.proofs.Common.{◌≡◌, ◌&&◌, List, Bool, true, ap, ap₂, arith, bytes_eq}
use Rattle.std.specs.Bool.{Decides}
use Rattle.std.proofs.lemmas.Slice.Eq.{bytes_eq-Decides, slice_eq-Decides}
use Rattle.ll_attr.specs.declared.attributes.Attribute.{Attribute}
use Rattle.ll_attr.specs.declared.attributes.AttrValue.{AttrValue}
use Rattle.ll_attr.specs.declared.attributes.AttrValue.TheVariants.{Quoted, Bare}
use Rattle.ll_attr.specs.Same.{kind_and_text, same_value, same_attribute, same_attributes}

same_bytes : (a b : AttrValue) → same_value a b ≡ true → a ≡ b
same_bytes (Quoted a) (Quoted b) e = ap Quoted ((bytes_eq-Decides a b).0 (grind (arith, e)))
same_bytes (Quoted a) (Bare b) e = absurd (grind (arith, e))
same_bytes (Bare a) (Quoted b) e = absurd (grind (arith, e))
same_bytes (Bare a) (Bare b) e = ap Bare ((bytes_eq-Decides a b).0 (grind (arith, e)))

both_true : (b c : Bool) → (b && c) ≡ true → (b ≡ true) × (c ≡ true)
both_true b c e = grind (arith, e)

and_true : (b c : Bool) → b ≡ true → c ≡ true → (b && c) ≡ true
and_true b c e f = grind (arith, e, f)

attribute_decided : (a b : Attribute) → Decides (same_attribute a b) (a ≡ b)
attribute_decided a b = (
  λ e.
      let h = both_true (bytes_eq a.name b.name) (same_value a.value b.value) e in
      ap₂ (λ n v. (let x : Attribute = record { name = n; value = v } in x)) ((bytes_eq-Decides a.name b.name).0 h.0) (same_bytes a.value b.value h.1),
  λ e.
      and_true (bytes_eq a.name b.name) (same_value a.value b.value) ((bytes_eq-Decides a.name b.name).1 (ap (λ (x : Attribute). x.name) e))
      ((bytes_eq-Decides (kind_and_text a.value) (kind_and_text b.value)).1 (ap (λ (x : Attribute). kind_and_text x.value) e)),
)

pub list_decided : (xs ys : List Attribute) (b : Bool) → b ≡ same_attributes xs ys → Decides b (xs ≡ ys)
list_decided xs ys b e = slice_eq-Decides attribute_decided xs ys b e
