-- Of each rendition there are at most as many pieces as its playlist shows segments.
use Rattle.std.proofs.Common.{◌≡◌, ℕ, zero, suc, ◌+◌, ◌-◌, ◌≤◌, ◌<◌, List, [], ◌∷◌, ◌++◌, Some, None, length, take, drop, slice_get, slice_set, length-drop, refl, ap, sym, subst, arith}
use Rattle.ll_pieces.specs.Pieces.{PiecesOf}
use Rattle.ll_rendition.specs.declared.rendition.Rendition.{Rendition}
use Rattle.ll_page_cache.specs.Stored.{AreFew}

pub few-length : (ps : List PiecesOf) (ks : List Rendition) → AreFew ps ks → length ps ≡ length ks
few-length [] [] h = refl
few-length [] (k ∷ ks) h = absurd h
few-length (p ∷ ps) [] h = absurd h
few-length (p ∷ ps) (k ∷ ks) h = ap suc (few-length ps ks h.1)

-- the pieces of one more rendition are few
pub few-next : (n : ℕ) (ps : List PiecesOf) (ks : List Rendition) (x : PiecesOf) (k : Rendition) → length ps ≡ length ks → slice_get ks n ≡ Some k
    → length x.finished ≤ length k.window.window → AreFew (take n ps) (take n ks) → AreFew (take (suc n) (slice_set ps n x)) (take (suc n) ks)
few-next n [] [] x k e at le h = absurd (grind (arith, at))
few-next n [] (q ∷ ks) x k e at le h = absurd (omega (arith, e))
few-next n (p ∷ ps) [] x k e at le h = absurd (omega (arith, e))
few-next zero (p ∷ ps) (q ∷ ks) x k e at le h =
    let same : q ≡ k = grind (arith, at) in
    (subst (λ (r : Rendition). length x.finished ≤ length r.window.window) (sym same) le, tt)
few-next (suc n) (p ∷ ps) (q ∷ ks) x k e at le h = (h.0, few-next n ps ks x k (omega (arith, e)) at le h.1)

-- at each place so far, and at this one
pub few-at : (n m : ℕ) (ps : List PiecesOf) (ks : List Rendition) (x : PiecesOf) (k : Rendition) → m ≡ n + 1 → length ps ≡ length ks → slice_get ks n ≡ Some k
    → length x.finished ≤ length k.window.window → AreFew (take n ps) (take n ks) → AreFew (take m (slice_set ps n x)) (take m ks)
few-at n m ps ks x k one e at le h =
    let next : m ≡ suc n = omega (arith, one) in
    subst (λ i. AreFew (take i (slice_set ps n x)) (take i ks)) (sym next) (few-next n ps ks x k e at le h)

-- if the first are dropped until `n` are left, there are no more
pub few-left : {X : Type 0} (xs : List X) (n : ℕ) → length (drop (length xs - n) xs) ≤ n
few-left xs n = let d = length-drop (length xs - n) xs in omega (arith, d)

none-few : (n : ℕ) (ps : List PiecesOf) (ks : List Rendition) (x : PiecesOf) → n < length ks → length x.finished ≡ 0
    → AreFew ps (take n ks) → AreFew (ps ++ x ∷ []) (take (suc n) ks)
none-few n ps [] x lt none h = absurd (omega (arith, lt))
none-few zero [] (q ∷ ks) x lt none h = (omega (arith, none), tt)
none-few zero (p ∷ ps) (q ∷ ks) x lt none h = absurd h
none-few (suc n) [] (q ∷ ks) x lt none h = absurd h
none-few (suc n) (p ∷ ps) (q ∷ ks) x lt none h = (h.0, none-few n ps ks x (omega (arith, lt)) none h.1)

-- at one more place nothing is rendered yet
pub none-at : (n m : ℕ) (ps qs : List PiecesOf) (ks : List Rendition) (x : PiecesOf) → m ≡ n + 1 → qs ≡ ps ++ x ∷ [] → x ≡ record { finished = []; unfinished = None }
    → n < length ks → AreFew ps (take n ks) → AreFew qs (take m ks)
none-at n m ps qs ks x one is none lt h =
    let next : m ≡ suc n = omega (arith, one) in
    subst (λ xs. AreFew xs (take m ks)) (sym is)
    (subst (λ i. AreFew (ps ++ x ∷ []) (take i ks)) (sym next) (none-few n ps ks x lt (ap (λ (p : PiecesOf). length p.finished) none) h))
