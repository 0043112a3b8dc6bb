-- Clones place by place are an equal list.
use Rattle.std.proofs.Common.{◌≡◌, ℕ, List, [], ◌∷◌, map, refl, ap, ap₂, ◌∙◌, string_bytes}
use Rattle.std.specs.List.{AllZip}
use Rattle.std.specs.declared.string.String.{String}
use Rattle.ll_range.specs.Announced.{Announced}
use Rattle.ll_item.specs.Told.{Listed, Removal}
use Rattle.ll_range.specs.Kept.{listed_at, removal_at}
use Rattle.ll_range.specs.declared.listed.RangeEntry.{RangeEntry}

same_entry : {A : Type 0} (p q : String A × RangeEntry) → string_bytes q.0 ≡ string_bytes p.0 → q.1 ≡ p.1 → listed_at q ≡ listed_at p
same_entry p q e f =
    ap (λ i. (let x : Listed = record { id = i; attributes = q.1.attributes; added = q.1.added } in x)) e
    ∙ ap (λ (s : RangeEntry). (let x : Listed = record { id = string_bytes p.0; attributes = s.attributes; added = s.added } in x)) f

pub copied_listed : {A : Type 0} (es fs : List (String A × RangeEntry)) → AllZip (λ p q. (string_bytes q.0 ≡ string_bytes p.0) × (q.1 ≡ p.1)) es fs → map listed_at fs ≡ map listed_at es
copied_listed [] [] h = refl
copied_listed [] (f ∷ fs) h = absurd h
copied_listed (e ∷ es) [] h = absurd h
copied_listed (e ∷ es) (f ∷ fs) h = ap (λ x. x ∷ map listed_at fs) (same_entry e f h.0.0 h.0.1) ∙ ap (λ xs. listed_at e ∷ xs) (copied_listed es fs h.1)

same_removal : {A : Type 0} (p q : String A × ℕ) → string_bytes q.0 ≡ string_bytes p.0 → q.1 ≡ p.1 → removal_at q ≡ removal_at p
same_removal p q e f = ap₂ (λ i t. (let x : Removal = record { id = i; removed = t } in x)) e f

pub copied_recent : {A : Type 0} (es fs : List (String A × ℕ)) → AllZip (λ p q. (string_bytes q.0 ≡ string_bytes p.0) × (q.1 ≡ p.1)) es fs → map removal_at fs ≡ map removal_at es
copied_recent [] [] h = refl
copied_recent [] (f ∷ fs) h = absurd h
copied_recent (e ∷ es) [] h = absurd h
copied_recent (e ∷ es) (f ∷ fs) h = ap₂ (λ x xs. x ∷ xs) (same_removal e f h.0.0 h.0.1) (copied_recent es fs h.1)

pub same_told : (l : ℕ) (xs ys : List Listed) (rs ss : List Removal) → xs ≡ ys → rs ≡ ss
    → (let a : Announced = record { limit = l; listed = xs; recent = rs } in a) ≡ record { limit = l; listed = ys; recent = ss }
same_told l xs ys rs ss e f =
    ap (λ zs. (let a : Announced = record { limit = l; listed = zs; recent = rs } in a)) e
    ∙ ap (λ zs. (let a : Announced = record { limit = l; listed = ys; recent = zs } in a)) f
