-- Which segments are skipped: the first ones, as those after a segment last longer the earlier it is.
use Rattle.std.proofs.Common.{◌≡◌, ℕ, zero, suc, ◌+◌, ◌-◌, ◌≤◌, ◌<◌, List, [], ◌∷◌, true, false, nat_lt, length, drop, get_or, refl, ap, sym, ◌∙◌, arith, drop-cons}
use Rattle.std.proofs.lemmas.List.Sums.{sum_by-take-drop}
use Rattle.std.proofs.lemmas.Bool.Decides.{nat_tests}
use Rattle.ll_window.specs.Rows.{Row, one_if, lasting}
use Rattle.ll_window.specs.Window.{listed, skipped_in}
use Rattle.ll_window.proofs.WindowLemmas.{lasting-cons, lasting-listed}

not_less : (limit x : ℕ) → x ≤ limit → nat_lt limit x ≡ false
not_less limit x le = grind (arith, nat_tests)

less : (limit x : ℕ) → limit < x → nat_lt limit x ≡ true
less limit x le = grind (arith, nat_tests)

no_more : (n : ℕ) → 0 + n ≡ n
no_more n = omega arith

-- if the first isn't skipped, none is
pub skipped-none : (limit tail : ℕ) (r : Row) (rs : List Row) → lasting rs + tail ≤ limit → skipped_in limit tail (r ∷ rs) ≡ 0
skipped-none limit tail r [] le = ap (λ b. one_if b + 0) (not_less limit (lasting [] + tail) le)
skipped-none limit tail r (s ∷ rs) le =
    ap (λ b. one_if b + skipped_in limit tail (s ∷ rs)) (not_less limit (lasting (s ∷ rs) + tail) le)
    ∙ no_more (skipped_in limit tail (s ∷ rs))
    ∙ skipped-none limit tail s rs (let a = lasting-cons s rs in omega arith)

-- which are skipped does not depend on the parts that they list
pub skipped-listed : (limit tail near t : ℕ) (rs : List Row) → skipped_in limit tail (listed near t rs) ≡ skipped_in limit tail rs
skipped-listed limit tail near t [] = refl
skipped-listed limit tail near t (r ∷ rs) =
    ap (λ l. one_if (nat_lt limit (l + tail)) + skipped_in limit tail (listed near t rs)) (lasting-listed near t rs)
    ∙ ap (λ n. one_if (nat_lt limit (lasting rs + tail)) + n) (skipped-listed limit tail near t rs)

-- the segments from a place on, one place further to the front
pub one-back : (rs : List Row) (n : ℕ) (r : Row) → n < length rs → r ≡ get_or rs n r → drop n rs ≡ r ∷ drop (suc n) rs
one-back rs n r lt e = drop-cons rs n r lt ∙ ap (λ x. x ∷ drop (suc n) rs) (sym e)

-- they last no longer than all
pub lasting-all : (rs : List Row) (n : ℕ) → lasting (drop n rs) ≤ lasting rs
lasting-all rs n = let e = sum_by-take-drop (λ (r : Row). r.segment.duration) rs n in omega (arith, e)

-- how long they last, and that none of them is skipped if those after the first last no longer than the limit
pub goes-back : (limit tail after count d : ℕ) (rs : List Row) (r : Row) → 0 < count → count ≤ length rs → r ≡ get_or rs (count - 1) r
    → after ≡ lasting (drop count rs) + tail → d ≡ r.segment.duration → after ≤ limit
    → (after + d ≡ lasting (drop (count - 1) rs) + tail) × (skipped_in limit tail (drop (count - 1) rs) ≡ 0)
goes-back limit tail after count d rs r some within e is same short =
    let n = count - 1 in
    let back = one-back rs n r (omega arith) e in
    let a = ap lasting back in
    let b = lasting-cons r (drop (suc n) rs) in
    let next : count ≡ suc n = omega arith in
    let c = ap (λ i. lasting (drop i rs)) next in (
      omega (arith, a, b, c, is, same),
      ap (skipped_in limit tail) back ∙ skipped-none limit tail r (drop (suc n) rs) (omega (arith, c, is, short)),
    )

-- all before them are skipped if they last longer than the limit
pub skipped-before : (limit tail n : ℕ) (rs : List Row) → n ≤ length rs → limit < lasting (drop n rs) + tail → skipped_in limit tail (drop n rs) ≡ 0 → n ≡ skipped_in limit tail rs
skipped-before limit tail zero rs le long none = sym none
skipped-before limit tail (suc n) [] le long none = absurd (omega arith)
skipped-before limit tail (suc n) (r ∷ rs) le long none =
    let a = lasting-all rs n in
    let b = ap (λ b. one_if b + skipped_in limit tail rs) (less limit (lasting rs + tail) (omega (arith, a, long))) in
    let c = skipped-before limit tail n rs (omega arith) long none in
    omega (arith, b, c)
