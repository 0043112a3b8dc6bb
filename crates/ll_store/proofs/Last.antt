-- The last elements of a list, and of one that grows.
use Rattle.std.proofs.Common.{◌≡◌, ℕ, ◌+◌, ◌-◌, ◌<◌, ◌≤◌, List, ◌++◌, ap, sym, ◌∙◌, length, length-append, length-drop, drop, arith}
use Rattle.std.proofs.Math.Seq.{drop-append-le, drop-drop}
use Rattle.ll_store.specs.Media.{last_of}

pub length-last : {A : Type 0} (n : ℕ) (xs : List A) → n ≤ length xs → length (last_of n xs) ≡ n
length-last n xs h = length-drop (length xs - n) xs ∙ omega (arith, h)

start : (n m len new : ℕ) → n ≤ len → m ≤ n + new → (len - n) + (n + new - m) ≡ len + new - m
start n m len new a b = omega (arith, a, b)

-- what was dropped before isn't needed later
pub last-grown : {A : Type 0} (n m : ℕ) (xs new : List A) → n ≤ length xs → m ≤ n + length new → last_of m (xs ++ new) ≡ last_of m (last_of n xs ++ new)
last-grown n m xs new few less =
    let cut = length xs - n in
    let early : cut ≤ length xs = omega arith in
    let kept : length (last_of n xs ++ new) ≡ n + length new = length-append (last_of n xs) new ∙ ap (λ k. k + length new) (length-last n xs few) in
    ap (λ k. drop (k - m) (xs ++ new)) (length-append xs new)
    ∙ ap (λ k. drop k (xs ++ new)) (sym (start n m (length xs) (length new) few less))
    ∙ sym (drop-drop (n + length new - m) cut (xs ++ new))
    ∙ ap (λ ys. drop (n + length new - m) ys) (drop-append-le cut xs new early)
    ∙ ap (λ k. drop (k - m) (last_of n xs ++ new)) (sym kept)

-- without its first one, if more are left than are kept
pub last_shorter : {A : Type 0} (n : ℕ) (xs : List A) → n < length xs → last_of n (drop 1 xs) ≡ last_of n xs
last_shorter n xs h =
    ap (λ k. drop (k - n) (drop 1 xs)) (length-drop 1 xs)
    ∙ drop-drop (length xs - 1 - n) 1 xs
    ∙ ap (λ k. drop k xs) (omega (arith, h))

pub last_all : {A : Type 0} (n : ℕ) (xs : List A) → length xs ≤ n → last_of n xs ≡ xs
last_all n xs h = let none : length xs - n ≡ 0 = omega (arith, h) in ap (λ k. drop k xs) none
