-- Whether attributes are the same, byte by byte.
use Rattle.std.specs.Prelude.{ℕ, List, ◌∷◌, Bool, ◌&&◌, bytes_eq}
use Rattle.std.specs.Cmp.Lexicographic.{pointwise}
use Rattle.ll_attr.specs.declared.attributes.Attribute.{Attribute}
use Rattle.ll_attr.specs.declared.attributes.AttrValue.{AttrValue}
use Rattle.ll_attr.specs.declared.attributes.AttrValue.TheVariants.{Quoted, Bare}

-- a value as one text: its kind and then its bytes
abbrev pub kind_and_text : AttrValue → List ℕ
kind_and_text (Quoted text) = 1 ∷ text
kind_and_text (Bare text) = 0 ∷ text

abbrev pub same_value : AttrValue → AttrValue → Bool
same_value a b = bytes_eq (kind_and_text a) (kind_and_text b)

abbrev pub same_attribute : Attribute → Attribute → Bool
same_attribute a b = bytes_eq a.name b.name && same_value a.value b.value

-- the same attributes in the same order
abbrev pub same_attributes : List Attribute → List Attribute → Bool
same_attributes xs ys = pointwise same_attribute xs ys
