-- Segments with more after them: which of them have left the window and which are skipped.
use Rattle.std.proofs.Common.{◌≡◌, ℕ, zero, suc, ◌+◌, ◌-◌, ◌≤◌, List, [], ◌∷◌, ◌++◌, Bool, true, false, nat_le, nat_lt, cond, map, take, drop, length, refl, ap, sym, ◌∙◌, arith}
use Rattle.std.proofs.lemmas.Bool.Decides.{nat_tests}
use Rattle.std.proofs.lemmas.List.{drop-drop, drop-map, take-map, drop-append-le, take-append-le, length-append, length-drop}
use Rattle.std.proofs.Math.Seq.{drop-append_seam}
use Rattle.ll_window.specs.Rows.{Row, one_if, lasting}
use Rattle.ll_window.specs.Window.{gone, window, listed, shown_by, skipped_in}
use Rattle.ll_window.proofs.SkipLemmas.{skipped-none}
use Rattle.ll_window.proofs.SuffixLemmas.{suffix}
use Rattle.ll_window.proofs.WindowLemmas.{lasting-append, lasting-cons}

-- how many have left the window
abbrev pub left : ℕ → List Row → ℕ
left least rs = length (gone least rs)

pub window-drop : (least : ℕ) (rs : List Row) → window least rs ≡ drop (left least rs) rs
window-drop least rs =
    sym (drop-append_seam (gone least rs) (window least rs)) ∙ ap (drop (left least rs)) (suffix least rs)

left_grows : (a b : Bool) (r : Row) (rs ss : List Row) → (a ≡ true → b ≡ true) → length rs ≤ length ss → length (cond a (r ∷ rs) []) ≤ length (cond b (r ∷ ss) [])
left_grows true true r rs ss h le = omega arith
left_grows true false r rs ss h le = let e = h refl in absurd (grind (arith, e))
left_grows false b r rs ss h le = omega arith

longer : (least : ℕ) (rs ss : List Row) → nat_le least (lasting rs) ≡ true → nat_le least (lasting (rs ++ ss)) ≡ true
longer least rs ss e = let a = lasting-append rs ss in grind (arith, nat_tests, a)

-- a window never begins earlier than it did
pub left-append : (least : ℕ) (rs ss : List Row) → left least rs ≤ left least (rs ++ ss)
left-append least [] ss = omega arith
left-append least (r ∷ rs) ss =
    left_grows (nat_le least (lasting rs)) (nat_le least (lasting (rs ++ ss))) r (gone least rs) (gone least (rs ++ ss))
    (longer least rs ss) (left-append least rs ss)

pub left-le : (least : ℕ) (rs : List Row) → left least rs ≤ length rs
left-le least rs = let a = length-append (gone least rs) (window least rs) in let e = ap length (suffix least rs) in omega (arith, a, e)

skipped-drop : (limit tail w : ℕ) (rs : List Row) → skipped_in limit tail rs ≡ 0 → skipped_in limit tail (drop w rs) ≡ 0
skipped-drop limit tail zero rs e = e
skipped-drop limit tail (suc w) [] e = refl
skipped-drop limit tail (suc w) (r ∷ rs) e = skipped-drop limit tail w rs (omega arith)

pub one_at_most : (b : Bool) → one_if b ≤ 1
one_at_most true = omega arith
one_at_most false = omega arith

skipped-le : (limit tail : ℕ) (rs ss : List Row) → skipped_in limit tail ss ≡ 0 → skipped_in limit tail (rs ++ ss) ≤ length rs
skipped-le limit tail [] ss e = omega arith
skipped-le limit tail (r ∷ rs) ss e =
    let a = one_at_most (nat_lt limit (lasting (rs ++ ss) + tail)) in let b = skipped-le limit tail rs ss e in omega (arith, a, b)

-- what is skipped stands in the first segments, where none of the others is
pub skipped-within : (limit tail w : ℕ) (rs ss : List Row) → skipped_in limit tail ss ≡ 0 → 1 ≤ skipped_in limit tail (drop w (rs ++ ss))
    → w + skipped_in limit tail (drop w (rs ++ ss)) ≤ length rs
skipped-within limit tail zero rs ss e some = let a = skipped-le limit tail rs ss e in omega arith
skipped-within limit tail (suc w) [] ss e some = let a = skipped-drop limit tail (suc w) ss e in absurd (omega arith)
skipped-within limit tail (suc w) (r ∷ rs) ss e some = let a = skipped-within limit tail w rs ss e some in omega arith

-- listed parts

hidden : (near limit x : ℕ) → near ≤ limit → nat_lt limit x ≡ true → nat_lt x near ≡ false
hidden near limit x le e = grind (arith, nat_tests)

no_more : (n : ℕ) → 0 + n ≡ n
no_more n = omega arith

bare_by : (near limit tail : ℕ) (r : Row) (rs : List Row) (b : Bool) → near ≤ limit → nat_lt limit (lasting rs + tail) ≡ b
    → take (skipped_in limit tail rs) (map (shown_by false) rs) ≡ take (skipped_in limit tail rs) (listed near tail rs)
    → take (one_if b + skipped_in limit tail rs) (map (shown_by false) (r ∷ rs)) ≡ take (one_if b + skipped_in limit tail rs) (listed near tail (r ∷ rs))
bare_by near limit tail r rs true le e more =
    let next : 1 + skipped_in limit tail rs ≡ suc (skipped_in limit tail rs) = omega arith in
    ap (λ n. take n (map (shown_by false) (r ∷ rs))) next
    ∙ ap (λ b. shown_by b r ∷ take (skipped_in limit tail rs) (map (shown_by false) rs)) (sym (hidden near limit (lasting rs + tail) le e))
    ∙ ap (λ xs. shown_by (nat_lt (lasting rs + tail) near) r ∷ xs) more
    ∙ ap (λ n. take n (listed near tail (r ∷ rs))) (sym next)
bare_by near limit tail r [] false le e more = refl
bare_by near limit tail r (s ∷ rs) false le e more =
    let none : 0 + skipped_in limit tail (s ∷ rs) ≡ 0 = no_more (skipped_in limit tail (s ∷ rs)) ∙ skipped-none limit tail s rs (let a = lasting-cons s rs in grind (arith, nat_tests)) in
    ap (λ n. take n (map (shown_by false) (r ∷ s ∷ rs))) none ∙ ap (λ n. take n (listed near tail (r ∷ s ∷ rs))) (sym none)

-- the skipped segments list no parts
pub skipped-bare : (near limit tail : ℕ) (rs : List Row) → near ≤ limit
    → take (skipped_in limit tail rs) (map (shown_by false) rs) ≡ take (skipped_in limit tail rs) (listed near tail rs)
skipped-bare near limit tail [] le = refl
skipped-bare near limit tail (r ∷ rs) le =
    bare_by near limit tail r rs (nat_lt limit (lasting rs + tail)) le refl (skipped-bare near limit tail rs le)

hide_by : (b : Bool) (r : Row) → shown_by false (shown_by b r) ≡ shown_by false r
hide_by true r = refl
hide_by false r = refl

pub hidden-listed : (near tail : ℕ) (rs : List Row) → map (shown_by false) (listed near tail rs) ≡ map (shown_by false) rs
hidden-listed near tail [] = refl
hidden-listed near tail (r ∷ rs) =
    ap (λ x. x ∷ map (shown_by false) (listed near tail rs)) (hide_by (nat_lt (lasting rs + tail) near) r)
    ∙ ap (λ xs. shown_by false r ∷ xs) (hidden-listed near tail rs)

take-inside : {A : Type 0} (w k : ℕ) (xs ys : List A) → w + k ≤ length xs → take k (drop w xs) ≡ take k (drop w (xs ++ ys))
take-inside w k xs ys le =
    let l = length-drop w xs in
    sym (take-append-le k (drop w xs) ys (omega (arith, l))) ∙ ap (take k) (sym (drop-append-le w xs ys (omega arith)))

meets : (v w : ℕ) → v ≤ w → v + (w - v) ≡ w
meets v w le = omega arith

-- The segments of an earlier window that stand in a later one too, where it begins, parts aside.
pub kept-rows : (least near a k : ℕ) (rs ss : List Row) → left least (rs ++ ss) + k ≤ length rs
    → map (shown_by false) (take k (drop (left least (rs ++ ss) - left least rs) (listed near a (window least rs))))
    ≡ take k (map (shown_by false) (window least (rs ++ ss)))
kept-rows least near a k rs ss le =
    let v = left least rs in
    let w = left least (rs ++ ss) in
    let i = w - v in
    let earlier = listed near a (window least rs) in
    sym (take-map (shown_by false) k (drop i earlier))
    ∙ ap (take k) (sym (drop-map (shown_by false) i earlier))
    ∙ ap (λ xs. take k (drop i xs)) (hidden-listed near a (window least rs))
    ∙ ap (λ xs. take k (drop i (map (shown_by false) xs))) (window-drop least rs)
    ∙ ap (take k) (drop-map (shown_by false) i (drop v rs))
    ∙ ap (λ xs. take k (map (shown_by false) xs)) (drop-drop i v rs ∙ ap (λ j. drop j rs) (meets v w (left-append least rs ss)))
    ∙ take-map (shown_by false) k (drop w rs)
    ∙ ap (map (shown_by false)) (take-inside w k rs ss le)
    ∙ ap (λ xs. map (shown_by false) (take k xs)) (sym (window-drop least (rs ++ ss)))
    ∙ sym (take-map (shown_by false) k (window least (rs ++ ss)))
