-- An attribute list, spelled attribute by attribute with what separates it from the one before.
use Rattle.std.proofs.Common.{◌≡◌, ℕ, ◌+◌, ◌<◌, List, [], ◌∷◌, ◌++◌, length, drop, get_or, refl, ap, sym, ◌∙◌, append_assoc, codes}
use Rattle.std.proofs.lemmas.List.{append-nil, at_drop_more}
use Rattle.ll_attr.specs.Attributes.{attribute_spelling, spelling}
use Rattle.ll_attr.specs.declared.attributes.Attribute.{Attribute}

abbrev pub spelled_after : List ℕ → List Attribute → List ℕ
spelled_after separator [] = []
spelled_after separator (a ∷ more) = separator ++ (attribute_spelling a ++ spelled_after (codes ",") more)

commas : (a : Attribute) (more : List Attribute) → attribute_spelling a ++ spelled_after (codes ",") more ≡ spelling (a ∷ more)
commas a [] = append-nil (attribute_spelling a)
commas a (b ∷ more) = ap (λ text. attribute_spelling a ++ (codes "," ++ text)) (commas b more)

pub spelled_whole : (list : List Attribute) → spelled_after [] list ≡ spelling list
spelled_whole [] = refl
spelled_whole (a ∷ more) = commas a more

pub spelled_more : (text more next whole separator : List ℕ) (items list : List Attribute) (i : ℕ) (a : Attribute) → items ≡ list → i < length items → a ≡ get_or items i a
    → more ≡ text ++ separator → next ≡ more ++ attribute_spelling a → text ++ spelled_after separator (drop i list) ≡ whole
    → next ++ spelled_after (codes ",") (drop (i + 1) list) ≡ whole
spelled_more text more next whole separator items list i a same inside at e d so_far =
    let within : i < length list = rw (← same) inside in
    let is : get_or list i a ≡ a = ap (λ (l : List Attribute). get_or l i a) (sym same) ∙ sym at in
    let after = spelled_after (codes ",") (drop (i + 1) list) in
    ap (λ t. t ++ after) d
    ∙ append_assoc more (attribute_spelling a) after
    ∙ ap (λ t. t ++ (attribute_spelling a ++ after)) e
    ∙ append_assoc text separator (attribute_spelling a ++ after)
    ∙ ap (λ (b : Attribute). text ++ (separator ++ (attribute_spelling b ++ after))) (sym is)
    ∙ ap (λ t. text ++ t) (sym (at_drop_more (spelled_after separator) list i a within))
    ∙ so_far
