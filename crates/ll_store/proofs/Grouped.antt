-- Bytes grouped as segments are, one more segment and one more part.
use Rattle.std.proofs.Common.{◌≡◌, ℕ, ◌+◌, ◌≤◌, List, [], ◌∷◌, ◌++◌, refl, ap, ap₂, ◌∙◌, length, length-append, length-drop, take, drop, arith}
use Rattle.std.proofs.Math.Seq.{take-append-le, take_all, drop-append-le, drop-drop}
use Rattle.ll_item.specs.declared.part.Part.{Part}
use Rattle.ll_store.specs.Parts.{grouped, parts_in}

-- one more segment takes what the others leave
pub grouped-snoc : (ss : List (List Part)) (s : List Part) (bytes : List (List ℕ))
    → grouped (ss ++ s ∷ []) bytes ≡ grouped ss bytes ++ take (length s) (drop (parts_in ss) bytes) ∷ []
grouped-snoc [] s bytes = refl
grouped-snoc (q ∷ ss) s bytes =
    ap (λ l. take (length q) bytes ∷ l) (grouped-snoc ss s (drop (length q) bytes))
    ∙ ap (λ b. take (length q) bytes ∷ (grouped ss (drop (length q) bytes) ++ take (length s) b ∷ [])) (drop-drop (parts_in ss) (length q) bytes)

-- what stands after the bytes of these segments changes nothing
pub grouped-more : (ss : List (List Part)) (bytes more : List (List ℕ)) → parts_in ss ≤ length bytes → grouped ss (bytes ++ more) ≡ grouped ss bytes
grouped-more [] bytes more h = refl
grouped-more (q ∷ ss) bytes more h =
    let few : length q ≤ length bytes = omega (arith, h) in
    let left : parts_in ss ≤ length (drop (length q) bytes) = omega (arith, h, length-drop (length q) bytes) in
    ap₂ (λ a b. a ∷ grouped ss b) (take-append-le (length q) bytes more few) (drop-append-le (length q) bytes more few)
    ∙ ap (λ l. take (length q) bytes ∷ l) (grouped-more ss (drop (length q) bytes) more left)

-- a part that finishes the open segment: its bytes and those of the open segment are the last group
pub grouped-finished : (gs : List (List Part)) (us : List Part) (p : Part) (bytes : List (List ℕ)) (b : List ℕ) → parts_in gs + length us ≡ length bytes
    → grouped (gs ++ (us ++ p ∷ []) ∷ []) (bytes ++ b ∷ []) ≡ grouped gs bytes ++ (drop (parts_in gs) bytes ++ b ∷ []) ∷ []
grouped-finished gs us p bytes b h =
    let few : parts_in gs ≤ length bytes = omega (arith, h) in
    let kept = drop (parts_in gs) bytes in
    let whole : length (kept ++ b ∷ []) ≤ length (us ++ p ∷ []) =
    omega (arith, h, length-append kept (b ∷ []), length-append us (p ∷ []), length-drop (parts_in gs) bytes) in
    grouped-snoc gs (us ++ p ∷ []) (bytes ++ b ∷ [])
    ∙ ap₂ (λ a l. a ++ take (length (us ++ p ∷ [])) l ∷ []) (grouped-more gs bytes (b ∷ []) few) (drop-append-le (parts_in gs) bytes (b ∷ []) few)
    ∙ ap (λ l. grouped gs bytes ++ l ∷ []) (take_all (length (us ++ p ∷ [])) (kept ++ b ∷ []) whole)

-- a part that doesn't finish it is one more of the open segment
pub open-grown : (gs : List (List Part)) (bytes : List (List ℕ)) (b : List ℕ) → parts_in gs ≤ length bytes
    → drop (parts_in gs) (bytes ++ b ∷ []) ≡ drop (parts_in gs) bytes ++ b ∷ []
open-grown gs bytes b few = drop-append-le (parts_in gs) bytes (b ∷ []) few
