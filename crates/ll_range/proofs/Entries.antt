-- The entries of a map by id, as the lists that they stand for: finding, adding last and removing agree on both.
use Rattle.std.proofs.Common.{◌≡◌, ℕ, ◌||◌, ◌++◌, Bool, true, false, not, cond, filter, List, [], ◌∷◌, Option, Some, None, is_some, map, refl, ap, ap₂, sym, subst, ◌∙◌, bytes_eq, string_bytes, nat_le, ◌+◌, Bor}
use Rattle.std.proofs.lemmas.List.{map-append}
use Rattle.std.specs.declared.string.String.{String}
use Rattle.std.specs.List.{list_any, find}
use Rattle.std.specs.Map.{lookup}
use Rattle.std.specs.Option.{option_map, option_copied}
use Rattle.std.specs.String.{string_eq}
use Rattle.indexmap.specs.IndexMap.{IndexMap, insert_entry, shift_remove_entry}
use Rattle.indexmap.proofs.CallerLemmas.{insert_entry-new}
use Rattle.ll_item.specs.Told.{Listed, Removal, others, other_removals}
use Rattle.ll_range.specs.Announced.{Announced, is_recent_one, was_removed}
use Rattle.ll_range.specs.Kept.{listed_at, removal_at}
use Rattle.ll_range.specs.declared.listed.RangeEntry.{RangeEntry}

map_by : {X Y : Type 0} (f : X → Y) (b : Bool) (x : X) (xs : List X) → map f (cond b (x ∷ xs) xs) ≡ cond b (f x ∷ map f xs) (map f xs)
map_by f true x xs = refl
map_by f false x xs = refl

-- what stays of a list and what stays of its image
pub map-filter : {X Y : Type 0} (f : X → Y) (p : Y → Bool) (xs : List X) → map f (filter (λ x. p (f x)) xs) ≡ filter p (map f xs)
map-filter f p [] = refl
map-filter f p (x ∷ xs) =
    map_by f (p (f x)) x (filter (λ x. p (f x)) xs) ∙ ap (λ ys. cond (p (f x)) (f x ∷ ys) ys) (map-filter f p xs)

-- whether a key is this id
abbrev pub has_id : {A : Type 0} → List ℕ → String A → Bool
has_id id key = bytes_eq id (string_bytes key)

-- whether an entry is of another id
abbrev pub has_other : {A V : Type 0} → List ℕ → String A × V → Bool
has_other id e = not (has_id id e.0)

module _ {A V : Type 0} (id : List ℕ) where
  kept_by : (b : Bool) (x : String A × V) (o : Option V) (more xs : List (String A × V)) → cond b (Some x.1) o ≡ None → (o ≡ None → more ≡ xs) → cond (not b) (x ∷ more) more ≡ x ∷ xs
  kept_by true x o more xs e rest = absurd (cc)
  kept_by false x o more xs e rest = ap (λ ys. x ∷ ys) (rest e)

  -- if the id is absent, all are of other ids
  all_others : (es : List (String A × V)) → lookup (has_id id) es ≡ None → filter (has_other id) es ≡ es
  all_others [] e = refl
  all_others (x ∷ es) e = kept_by (has_id id x.0) x (lookup (has_id id) es) (filter (has_other id) es) es e (all_others es)

  removed_by : (b : Bool) (x : String A × V) (es more : List (String A × V)) → (lookup (has_id id) es ≡ None → filter (has_other id) es ≡ es)
      → lookup (has_id id) (cond b es (x ∷ more)) ≡ None → b ≡ has_id id x.0 → (lookup (has_id id) more ≡ None → more ≡ filter (has_other id) es)
      → cond b es (x ∷ more) ≡ cond (not b) (x ∷ filter (has_other id) es) (filter (has_other id) es)
  removed_by true x es more here e test rest = sym (here e)
  removed_by false x es more here e test rest =
      ap (λ ys. x ∷ ys) (rest (subst (λ b. cond b (Some x.1) (lookup (has_id id) more) ≡ None) (sym test) e))

  -- without the first of the id, if that leaves none
  pub removed : (es : List (String A × V)) → lookup (has_id id) (shift_remove_entry (has_id id) es) ≡ None → shift_remove_entry (has_id id) es ≡ filter (has_other id) es
  removed [] e = refl
  removed (x ∷ es) e = removed_by (has_id id x.0) x es (shift_remove_entry (has_id id) es) (all_others es) e refl (removed es)

found_by : (b : Bool) (v : RangeEntry) (o : Option RangeEntry) (rest : Bool) → is_some o ≡ rest → is_some (cond b (Some v) o) ≡ (b || rest)
found_by true v o rest e = refl
found_by false v o rest e = e

pub listed_found : {A : Type 0} (id : List ℕ) (es : List (String A × RangeEntry)) → is_some (lookup (has_id id) es) ≡ list_any (λ (range : Listed). bytes_eq id range.id) (map listed_at es)
listed_found id [] = refl
listed_found id (e ∷ es) = found_by (has_id id e.0) e.1 (lookup (has_id id) es) _ (listed_found id es)

abbrev pub is_recent_by : ℕ → ℕ → Option ℕ → Bool
is_recent_by limit now None = false
is_recent_by limit now (Some removed) = nat_le now (removed + limit)

removal_by : {A : Type 0} (b : Bool) (e : String A × ℕ) (o : Option ℕ) (rest : Option Removal) → o ≡ option_map (λ (r : Removal). r.removed) rest
    → cond b (Some e.1) o ≡ option_map (λ (r : Removal). r.removed) (cond b (Some (removal_at e)) rest)
removal_by true e o rest h = refl
removal_by false e o rest h = h

removal_found : {A : Type 0} (id : List ℕ) (es : List (String A × ℕ))
    → lookup (has_id id) es ≡ option_map (λ (r : Removal). r.removed) (find (λ (r : Removal). bytes_eq id r.id) (map removal_at es))
removal_found id [] = refl
removal_found id (e ∷ es) = removal_by (has_id id e.0) e (lookup (has_id id) es) _ (removal_found id es)

recent_by : (limit now : ℕ) (o : Option Removal) → is_recent_by limit now (option_map (λ (r : Removal). r.removed) o) ≡ is_recent_one limit now o
recent_by limit now None = refl
recent_by limit now (Some r) = refl

-- whether the removal of an id is recent, by what the map finds
pub recent_found : {A : Type 0} (limit now : ℕ) (id : List ℕ) (es : List (String A × ℕ)) (a : Announced) (o : Option (Bor ℕ)) → option_copied o ≡ lookup (has_id id) es
    → limit ≡ a.limit → map removal_at es ≡ a.recent → is_recent_by limit now (option_copied o) ≡ was_removed now id a
recent_found limit now id es a o e same told =
    ap (is_recent_by limit now) (e ∙ removal_found id es)
    ∙ recent_by limit now (find (λ (r : Removal). bytes_eq id r.id) (map removal_at es))
    ∙ ap₂ (λ l rs. is_recent_one l now (find (λ (r : Removal). bytes_eq id r.id) rs)) same told

-- a key of a new id goes last
pub put_last : {A S V : Type 0} (m : IndexMap (String A) V S) (k : String A) (v : V) (id : List ℕ) → string_bytes k ≡ id → lookup (has_id id) m.entries ≡ None
    → insert_entry string_eq m.entries k v ≡ m.entries ++ (k, v) ∷ []
put_last m k v id same none = insert_entry-new string_eq m k v (ap (λ i. lookup (has_id i) m.entries) same ∙ none)

-- and in the list that the map stands for
put_in : {A S V R : Type 0} (at : String A × V → R) (m : IndexMap (String A) V S) (new : List (String A × V)) (k : String A) (v : V) (id : List ℕ) → string_bytes k ≡ id
    → lookup (has_id id) m.entries ≡ None → new ≡ insert_entry string_eq m.entries k v → map at new ≡ map at m.entries ++ at (k, v) ∷ []
put_in at m new k v id same none is =
    ap (map at) (is ∙ put_last m k v id same none) ∙ map-append at m.entries ((k, v) ∷ [])

no_one : {V : Type 0} (o : Option V) → is_some o ≡ false → o ≡ None
no_one None e = refl
no_one (Some v) e = absurd (cc)

-- a date range of a new id
pub listed_put : {A S : Type 0} (m : IndexMap (String A) RangeEntry S) (new : List (String A × RangeEntry)) (k : String A) (v : RangeEntry) (id : List ℕ) (xs : List Listed)
    → map listed_at m.entries ≡ xs → string_bytes k ≡ id → list_any (λ (range : Listed). bytes_eq id range.id) xs ≡ false → new ≡ insert_entry string_eq m.entries k v
    → map listed_at new ≡ xs ++ (record { id = id; attributes = v.attributes; added = v.added }) ∷ []
listed_put m new k v id xs told same none is =
    put_in listed_at m new k v id same
    (no_one (lookup (has_id id) m.entries) (listed_found id m.entries ∙ ap (list_any (λ (range : Listed). bytes_eq id range.id)) told ∙ none)) is
    ∙ ap₂ (λ ys i. ys ++ (let x : Listed = record { id = i; attributes = v.attributes; added = v.added } in x) ∷ []) told same

-- without a date range
pub listed_left : {A : Type 0} (id : List ℕ) (es new : List (String A × RangeEntry)) → new ≡ shift_remove_entry (has_id id) es → lookup (has_id id) new ≡ None
    → map listed_at new ≡ others id (map listed_at es)
listed_left id es new is none =
    ap (map listed_at) (is ∙ removed id es (subst (λ es. lookup (has_id id) es ≡ None) is none)) ∙ map-filter listed_at (λ (range : Listed). not (bytes_eq id range.id)) es

-- a removal after those of other ids
pub removal_put : {A S : Type 0} (es : List (String A × ℕ)) (m : IndexMap (String A) ℕ S) (new : List (String A × ℕ)) (k : String A) (time : ℕ) (id : List ℕ) → string_bytes k ≡ id
    → m.entries ≡ shift_remove_entry (has_id id) es → lookup (has_id id) m.entries ≡ None → new ≡ insert_entry string_eq m.entries k time
    → map removal_at new ≡ other_removals id (map removal_at es) ++ (record { id = id; removed = time }) ∷ []
removal_put es m new k time id same left none is =
    put_in removal_at m new k time id same none is
    ∙ ap (λ xs. map removal_at xs ++ removal_at (k, time) ∷ []) (left ∙ removed id es (subst (λ es. lookup (has_id id) es ≡ None) left none))
    ∙ ap (λ xs. xs ++ removal_at (k, time) ∷ []) (map-filter removal_at (λ (removal : Removal). not (bytes_eq id removal.id)) es)
    ∙ ap (λ i. other_removals id (map removal_at es) ++ (let x : Removal = record { id = i; removed = time } in x) ∷ []) same
