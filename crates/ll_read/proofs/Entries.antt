-- The entries of the map, as the date ranges that they stand for.
use Rattle.std.proofs.Common.{◌≡◌, ℕ, ◌||◌, ◌++◌, Bool, true, false, cond, List, [], ◌∷◌, Option, Some, is_some, map, refl, ap, ◌∙◌, bytes_eq, string_bytes, if◌then◌else◌}
use Rattle.std.specs.declared.string.String.{String}
use Rattle.std.specs.String.{string_eq}
use Rattle.std.specs.Map.{lookup}
use Rattle.indexmap.specs.IndexMap.{insert_entry}
use Rattle.ll_line.specs.Line.{DateRangeLine}
use Rattle.ll_read.specs.Ranges.{range_at, has_id}

found_by : (b : Bool) (v : List ℕ) (o : Option (List ℕ)) (rest : Bool) → is_some o ≡ rest → is_some (cond b (Some v) o) ≡ (b || rest)
found_by true v o rest e = refl
found_by false v o rest e = e

module _ {A : Type 0} (id : List ℕ) where
  abbrev has_key : String A → Bool
  has_key key = bytes_eq id (string_bytes key)

  -- a key of the map is the id of a date range
  pub key_found : (es : List (String A × List ℕ)) → is_some (lookup has_key es) ≡ has_id id (map range_at es)
  key_found [] = refl
  key_found (e ∷ es) = found_by (has_key e.0) e.1 (lookup has_key es) _ (key_found es)

  put_by : (b : Bool) (x : String A × List ℕ) (es : List (String A × List ℕ)) (k : String A) (v : List ℕ) (rest : Bool) → (b || rest) ≡ false → (rest ≡ false → map range_at (insert_entry string_eq es k v) ≡ map range_at es ++ range_at (k, v) ∷ [])
      → map range_at (if b then (x.0, v) ∷ es else x ∷ insert_entry string_eq es k v) ≡ range_at x ∷ (map range_at es ++ range_at (k, v) ∷ [])
  put_by true x es k v rest e h = absurd (cc)
  put_by false x es k v rest e h = ap (λ ys. range_at x ∷ ys) (h e)

  put_at_id : (es : List (String A × List ℕ)) (k : String A) (v : List ℕ) → string_bytes k ≡ id → has_id (string_bytes k) (map range_at es) ≡ false
      → map range_at (insert_entry string_eq es k v) ≡ map range_at es ++ range_at (k, v) ∷ []
  put_at_id [] k v same e = refl
  put_at_id (x ∷ es) k v same e =
      put_by (string_eq k x.0) x es k v (has_id (string_bytes k) (map range_at es)) e (put_at_id es k v same)

  -- a date range of a new id is put after the others
  pub put_last : (es : List (String A × List ℕ)) (k : String A) (v : List ℕ) → string_bytes k ≡ id → has_id id (map range_at es) ≡ false
      → map range_at (insert_entry string_eq es k v) ≡ map range_at es ++ (record { id = id; attributes = v }) ∷ []
  put_last es k v same e =
      put_at_id es k v same (ap (λ i. has_id i (map range_at es)) same ∙ e)
      ∙ ap (λ i. map range_at es ++ (let x : DateRangeLine = record { id = i; attributes = v } in x) ∷ []) same
