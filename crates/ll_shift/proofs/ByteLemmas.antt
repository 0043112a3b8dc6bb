-- The number that bytes make is written as those bytes.
use Rattle.std.proofs.Common.{◌≡◌, ℕ, zero, suc, ◌+◌, ◌*◌, ◌^◌, ◌<◌, ◌≤◌, List, [], ◌∷◌, ◌++◌, ap, ap₂, sym, ◌∙◌, length, take, drop, get_or, inl, inr, append-nil, take-append-drop, length-drop, arith}
use Rattle.std.proofs.Math.Nat.{mod-lt, mul-le-mul_right}
use Rattle.std.proofs.lemmas.Bool.{cases_lt, cases_order}
use Rattle.std.proofs.lemmas.List.{drop-drop, get_or_past, length-take-le, nil_from_length}
use Rattle.std.proofs.lemmas.List.Elements.{All-drop, All-take}
use Rattle.std.specs.Int.{byte_at, bytes_high_first}
use Rattle.byteorder.specs.Endian.{big_bytes, big_number}
use Rattle.byteorder.specs.Numbers.{big_from-cons, big_from-lt, big_from-take, big_number-reads_back, length-bytes_high_first}
use Rattle.ll_shift.specs.Laws.{AreBytes}

-- ---- bytes

front-byte : (x : ℕ) (xs : List ℕ) → AreBytes (x ∷ xs) → x < 256
front-byte x xs h = h 0 0 (omega arith)

back-bytes : (x : ℕ) (xs : List ℕ) → AreBytes (x ∷ xs) → AreBytes xs
back-bytes x xs h k d l = h (suc k) d (omega (arith, l))

and-bytes : (x : ℕ) (xs : List ℕ) → x < 256 → AreBytes xs → AreBytes (x ∷ xs)
and-bytes x xs b h zero d l = b
and-bytes x xs b h (suc k) d l = h k d (omega (arith, l))

-- past their end too
each-byte : (xs : List ℕ) → AreBytes xs → (k : ℕ) → get_or xs k 0 < 256
each-byte xs h k = elim (cases_lt k (length xs)) [ inl l ↦ h k 0 l | inr l ↦ rw (get_or_past xs k 0 l) (omega arith) ]

byte-lt : (k v : ℕ) → byte_at k v < 256
byte-lt zero v = mod-lt v (omega arith)
byte-lt (suc k) v = mod-lt _ (omega arith)

written-bytes : (n v : ℕ) → AreBytes (bytes_high_first n v)
written-bytes zero v = λ k d l. absurd (omega (arith, l))
written-bytes (suc n) v = and-bytes (byte_at n v) (bytes_high_first n v) (byte-lt n v) (written-bytes n v)

pub number_fits : (n : ℕ) (xs : List ℕ) → AreBytes xs → big_number n xs < 256 ^ n
number_fits n xs h = big_from-lt 0 n xs (each-byte xs h)

-- ---- the same number, the same bytes

digits : (p x y r s : ℕ) → r < p → s < p → x * p + r ≡ y * p + s → x ≡ y
digits p x y r s lr ls e =
    elim (cases_order x y) [
      | inl same ↦ same
      | inr other ↦ elim other [
        | inl l ↦ absurd (let m : (x + 1) * p ≤ y * p = mul-le-mul_right p (omega (arith, l)) in omega (arith, m, e, lr, ls))
        | inr l ↦ absurd (let m : (y + 1) * p ≤ x * p = mul-le-mul_right p (omega (arith, l)) in omega (arith, m, e, lr, ls))
      ]
    ]

same-bytes : (n : ℕ) (xs ys : List ℕ) → length xs ≡ n → length ys ≡ n → AreBytes xs → AreBytes ys → big_number n xs ≡ big_number n ys → xs ≡ ys
same-bytes zero xs ys lx ly bx by e = nil_from_length xs lx ∙ sym (nil_from_length ys ly)
same-bytes (suc n) [] ys lx ly bx by e = absurd (omega (arith, lx))
same-bytes (suc n) (x ∷ xs) [] lx ly bx by e = absurd (omega (arith, ly))
same-bytes (suc n) (x ∷ xs) (y ∷ ys) lx ly bx by e =
    let bxs = back-bytes x xs bx in
    let bys = back-bytes y ys by in
    let fx = number_fits n xs bxs in
    let fy = number_fits n ys bys in
    let f : x * 256 ^ n + big_number n xs ≡ y * 256 ^ n + big_number n ys =
    ap (λ r. x * 256 ^ n + r) (sym (big_from-cons 0 n x xs)) ∙ e ∙ ap (λ r. y * 256 ^ n + r) (big_from-cons 0 n y ys) in
    let same = digits (256 ^ n) x y (big_number n xs) (big_number n ys) fx fy f in
    let g : x * 256 ^ n ≡ y * 256 ^ n = ap (λ a. a * 256 ^ n) same in
    ap₂ (λ a as'. a ∷ as') same (same-bytes n xs ys (omega (arith, lx)) (omega (arith, ly)) bxs bys (omega (arith, f, g)))

pub number_bytes : (n : ℕ) (xs : List ℕ) → AreBytes xs → n ≤ length xs → big_bytes n (big_number n xs) ≡ take n xs
number_bytes n xs h l =
    let v = big_number n xs in
    same-bytes n (bytes_high_first n v) (take n xs) (length-bytes_high_first n v) (length-take-le n xs l) (written-bytes n v) (All-take (λ b. b < 256) n xs h)
    (ap (big_number n) (sym (append-nil (bytes_high_first n v))) ∙ big_number-reads_back n v [] (number_fits n xs h)
    ∙ sym (big_from-take 0 n n xs (omega arith)))

-- a number at a place, written there again
pub written_again : (place n : ℕ) (xs : List ℕ) → AreBytes xs → place + n ≤ length xs
    → take place xs ++ (big_bytes n (big_number n (drop place xs)) ++ drop (place + n) xs) ≡ xs
written_again place n xs h l =
    ap (λ m. take place xs ++ (m ++ drop (place + n) xs))
    (number_bytes n (drop place xs) (All-drop (λ b. b < 256) place xs h) (let d = length-drop place xs in omega (arith, d, l)))
    ∙ ap (λ r. take place xs ++ (take n (drop place xs) ++ r)) (sym (drop-drop n place xs))
    ∙ ap (λ r. take place xs ++ r) (take-append-drop n (drop place xs))
    ∙ take-append-drop place xs
