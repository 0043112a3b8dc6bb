-- The next window follows from the window alone: segments that left it and parts that it no longer lists play no role.
use Rattle.std.proofs.Common.{◌≡◌, ℕ, suc, ◌+◌, ◌≤◌, List, [], ◌∷◌, ◌++◌, Bool, true, false, cond, length, nat_le, nat_lt, refl, ap, sym, ◌∙◌, arith}
use Rattle.std.proofs.lemmas.Bool.Decides.{nat_tests}
use Rattle.std.proofs.lemmas.List.Sums.{sum_by-append}
use Rattle.ll_window.specs.Rows.{Row, one_if, lasting, broken_in}
use Rattle.ll_window.specs.Window.{gone, window, shown_by, listed}

pub lasting-append : (rs ss : List Row) → lasting (rs ++ ss) ≡ lasting rs + lasting ss
lasting-append rs ss = sum_by-append (λ (r : Row). r.segment.duration) rs ss

pub broken-append : (rs ss : List Row) → broken_in (rs ++ ss) ≡ broken_in rs + broken_in ss
broken-append rs ss = sum_by-append (λ (r : Row). one_if r.segment.broken) rs ss

pub lasting-cons : (r : Row) (rs : List Row) → lasting (r ∷ rs) ≡ r.segment.duration + lasting rs
lasting-cons r rs = let a = lasting-append (r ∷ []) rs in omega (arith, a)

pub broken-cons : (r : Row) (rs : List Row) → broken_in (r ∷ rs) ≡ one_if r.segment.broken + broken_in rs
broken-cons r rs = let a = broken-append (r ∷ []) rs in omega (arith, a)

-- one more segment

longer : (least : ℕ) (rs : List Row) (s : Row) → nat_le least (lasting rs) ≡ true → nat_le least (lasting (rs ++ s ∷ [])) ≡ true
longer least rs s e = let a = lasting-append rs (s ∷ []) in grind (arith, nat_tests, a)

window_by : (least : ℕ) (r : Row) (rs : List Row) (s : Row) (b : Bool) → nat_le least (lasting rs) ≡ b
    → window least (rs ++ s ∷ []) ≡ window least (window least rs ++ s ∷ [])
    → window least (r ∷ rs ++ s ∷ []) ≡ window least (cond b (window least rs) (r ∷ rs) ++ s ∷ [])
window_by least r rs s true e rest = ap (λ b. cond b (window least (rs ++ s ∷ [])) (r ∷ (rs ++ s ∷ []))) (longer least rs s e) ∙ rest
window_by least r rs s false e rest = refl

-- the window of all and one more is that of the window and one more
pub window-snoc : (least : ℕ) (rs : List Row) (s : Row) → window least (rs ++ s ∷ []) ≡ window least (window least rs ++ s ∷ [])
window-snoc least [] s = refl
window-snoc least (r ∷ rs) s = window_by least r rs s (nat_le least (lasting rs)) refl (window-snoc least rs s)

gone_by : (least : ℕ) (r : Row) (rs : List Row) (s : Row) (b : Bool) → nat_le least (lasting rs) ≡ b
    → gone least (rs ++ s ∷ []) ≡ gone least rs ++ gone least (window least rs ++ s ∷ [])
    → gone least (r ∷ rs ++ s ∷ []) ≡ cond b (r ∷ gone least rs) [] ++ gone least (cond b (window least rs) (r ∷ rs) ++ s ∷ [])
gone_by least r rs s true e rest =
    ap (λ b. cond b (r ∷ gone least (rs ++ s ∷ [])) []) (longer least rs s e) ∙ ap (λ more. r ∷ more) rest
gone_by least r rs s false e rest = refl

-- what has left of all and one more is what had left, and what leaves of the window and one more
pub gone-snoc : (least : ℕ) (rs : List Row) (s : Row) → gone least (rs ++ s ∷ []) ≡ gone least rs ++ gone least (window least rs ++ s ∷ [])
gone-snoc least [] s = refl
gone-snoc least (r ∷ rs) s = gone_by least r rs s (nat_le least (lasting rs)) refl (gone-snoc least rs s)

-- listed parts

pub shown-segment : (b : Bool) (r : Row) → (shown_by b r).segment ≡ r.segment
shown-segment true r = refl
shown-segment false r = refl

pub lasting-listed : (near tail : ℕ) (rs : List Row) → lasting (listed near tail rs) ≡ lasting rs
lasting-listed near tail [] = refl
lasting-listed near tail (r ∷ rs) =
    lasting-cons (shown_by (nat_lt (lasting rs + tail) near) r) (listed near tail rs)
    ∙ ap (λ s. s.duration + lasting (listed near tail rs)) (shown-segment (nat_lt (lasting rs + tail) near) r)
    ∙ ap (λ n. r.segment.duration + n) (lasting-listed near tail rs)
    ∙ sym (lasting-cons r rs)

pub broken-listed : (near tail : ℕ) (rs : List Row) → broken_in (listed near tail rs) ≡ broken_in rs
broken-listed near tail [] = refl
broken-listed near tail (r ∷ rs) =
    broken-cons (shown_by (nat_lt (lasting rs + tail) near) r) (listed near tail rs)
    ∙ ap (λ s. one_if s.broken + broken_in (listed near tail rs)) (shown-segment (nat_lt (lasting rs + tail) near) r)
    ∙ ap (λ n. one_if r.segment.broken + n) (broken-listed near tail rs)
    ∙ sym (broken-cons r rs)

pub length_listed : (near tail : ℕ) (rs : List Row) → length (listed near tail rs) ≡ length rs
length_listed near tail [] = refl
length_listed near tail (r ∷ rs) = ap suc (length_listed near tail rs)

listed_window_by : (least near tail : ℕ) (r : Row) (rs : List Row) (b : Bool)
    → window least (listed near tail rs) ≡ listed near tail (window least rs)
    → cond b (window least (listed near tail rs)) (shown_by (nat_lt (lasting rs + tail) near) r ∷ listed near tail rs)
    ≡ listed near tail (cond b (window least rs) (r ∷ rs))
listed_window_by least near tail r rs true rest = rest
listed_window_by least near tail r rs false rest = refl

-- which segments the window has does not depend on the parts that they list
pub window-listed : (least near tail : ℕ) (rs : List Row) → window least (listed near tail rs) ≡ listed near tail (window least rs)
window-listed least near tail [] = refl
window-listed least near tail (r ∷ rs) =
    ap (λ n. cond (nat_le least n) (window least (listed near tail rs)) (shown_by (nat_lt (lasting rs + tail) near) r ∷ listed near tail rs))
    (lasting-listed near tail rs)
    ∙ listed_window_by least near tail r rs (nat_le least (lasting rs)) (window-listed least near tail rs)

gone_listed_by : (least near tail : ℕ) (r s : Row) (rs : List Row) (b : Bool) → s.segment ≡ r.segment
    → broken_in (gone least (listed near tail rs)) ≡ broken_in (gone least rs)
    → broken_in (cond b (s ∷ gone least (listed near tail rs)) []) ≡ broken_in (cond b (r ∷ gone least rs) [])
gone_listed_by least near tail r s rs true e rest =
    broken-cons s (gone least (listed near tail rs))
    ∙ ap (λ t. one_if t.broken + broken_in (gone least (listed near tail rs))) e
    ∙ ap (λ n. one_if r.segment.broken + n) rest
    ∙ sym (broken-cons r (gone least rs))
gone_listed_by least near tail r s rs false e rest = refl

-- nor how many broken ones have left it
pub gone-listed : (least near tail : ℕ) (rs : List Row) → broken_in (gone least (listed near tail rs)) ≡ broken_in (gone least rs)
gone-listed least near tail [] = refl
gone-listed least near tail (r ∷ rs) =
    let s = shown_by (nat_lt (lasting rs + tail) near) r in
    ap (λ n. broken_in (cond (nat_le least n) (s ∷ gone least (listed near tail rs)) [])) (lasting-listed near tail rs)
    ∙ gone_listed_by least near tail r s rs (nat_le least (lasting rs)) (shown-segment (nat_lt (lasting rs + tail) near) r) (gone-listed least near tail rs)

shown_twice : (b c : Bool) (r : Row) → (b ≡ true → c ≡ true) → shown_by b (shown_by c r) ≡ shown_by b r
shown_twice true true r h = refl
shown_twice true false r h = let e = h refl in absurd (grind (arith, e))
shown_twice false true r h = refl
shown_twice false false r h = refl

nearer : (near x y : ℕ) → x ≤ y → nat_lt y near ≡ true → nat_lt x near ≡ true
nearer near x y le e = grind (arith, nat_tests)

-- what was listed with less after it makes no difference to what is listed with more
pub listed-again : (near a b : ℕ) (rs ss : List Row) → a ≤ lasting ss + b → listed near b (listed near a rs ++ ss) ≡ listed near b (rs ++ ss)
listed-again near a b [] ss le = refl
listed-again near a b (r ∷ rs) ss le =
    let e = lasting-append (listed near a rs) ss in
    let f = lasting-listed near a rs in
    let g = lasting-append rs ss in
    let same : lasting (listed near a rs ++ ss) ≡ lasting (rs ++ ss) = omega (arith, e, f, g) in
    ap (λ n. shown_by (nat_lt (n + b) near) (shown_by (nat_lt (lasting rs + a) near) r) ∷ listed near b (listed near a rs ++ ss)) same
    ∙ ap (λ s. s ∷ listed near b (listed near a rs ++ ss))
    (shown_twice (nat_lt (lasting (rs ++ ss) + b) near) (nat_lt (lasting rs + a) near) r
    (nearer near (lasting rs + a) (lasting (rs ++ ss) + b) (omega (arith, g))))
    ∙ ap (λ more. shown_by (nat_lt (lasting (rs ++ ss) + b) near) r ∷ more) (listed-again near a b rs ss le)

-- one more segment after segments as they were listed, if it lasts longer than what was open
pub listed-window-again : (least near a : ℕ) (rs : List Row) (s : Row) → a ≤ lasting (s ∷ [])
    → listed near 0 (window least (rs ++ s ∷ [])) ≡ listed near 0 (window least (listed near a rs ++ s ∷ []))
listed-window-again least near a rs s le =
    sym (window-listed least near 0 (rs ++ s ∷ []))
    ∙ ap (window least) (sym (listed-again near a 0 rs (s ∷ []) (omega (arith, le))))
    ∙ window-listed least near 0 (listed near a rs ++ s ∷ [])

pub gone-window-again : (least near a : ℕ) (rs : List Row) (s : Row) → a ≤ lasting (s ∷ [])
    → broken_in (gone least (rs ++ s ∷ [])) ≡ broken_in (gone least (listed near a rs ++ s ∷ []))
gone-window-again least near a rs s le =
    sym (gone-listed least near 0 (rs ++ s ∷ []))
    ∙ ap (λ xs. broken_in (gone least xs)) (sym (listed-again near a 0 rs (s ∷ []) (omega (arith, le))))
    ∙ gone-listed least near 0 (listed near a rs ++ s ∷ [])

-- one more segment after the window as it was listed
pub listed-window-snoc : (least near a : ℕ) (rs : List Row) (s : Row) → a ≤ lasting (s ∷ [])
    → listed near 0 (window least (rs ++ s ∷ [])) ≡ listed near 0 (window least (listed near a (window least rs) ++ s ∷ []))
listed-window-snoc least near a rs s le = ap (listed near 0) (window-snoc least rs s) ∙ listed-window-again least near a (window least rs) s le

pub gone-window-snoc : (least near a : ℕ) (rs : List Row) (s : Row) → a ≤ lasting (s ∷ [])
    → broken_in (gone least (rs ++ s ∷ [])) ≡ broken_in (gone least rs) + broken_in (gone least (listed near a (window least rs) ++ s ∷ []))
gone-window-snoc least near a rs s le =
    ap broken_in (gone-snoc least rs s)
    ∙ broken-append (gone least rs) (gone least (window least rs ++ s ∷ []))
    ∙ ap (λ n. broken_in (gone least rs) + n) (gone-window-again least near a (window least rs) s le)
