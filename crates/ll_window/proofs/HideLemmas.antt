-- The far segments are the first ones, and have no parts.
use Rattle.std.proofs.Common.{◌≡◌, ℕ, zero, suc, ◌+◌, ◌≤◌, ◌<◌, List, [], ◌∷◌, ◌++◌, true, false, Some, length, length-append, length-set, nat_lt, drop, slice_get, slice_set, refl, ap, ap₂, sym, ◌∙◌, true≢false, arith}
use Rattle.std.proofs.lemmas.Bool.Decides.{nat_tests}
use Rattle.ll_window.specs.declared.finished.Finished.{Finished}
use Rattle.ll_window.specs.Hidden.{AreHidden, hidden}
use Rattle.ll_window.specs.Rows.{Row, lasting}
use Rattle.ll_window.specs.Window.{listed, shown_by}
use Rattle.ll_window.proofs.SkipLemmas.{lasting-all}
use Rattle.ll_window.proofs.WindowLemmas.{lasting-append, lasting-cons}

is_far : (near x : ℕ) → near ≤ x → nat_lt x near ≡ false
is_far near x le = grind (arith, nat_tests)

is_near : (near x : ℕ) → x < near → nat_lt x near ≡ true
is_near near x lt = grind (arith, nat_tests)

-- if the first lists its parts, all do
all_near : (near tail : ℕ) (r : Row) (rs : List Row) → lasting rs + tail < near → listed near tail (r ∷ rs) ≡ r ∷ rs
all_near near tail r [] lt = ap (λ b. shown_by b r ∷ []) (is_near near (lasting [] + tail) lt)
all_near near tail r (q ∷ rs) lt =
    let e = lasting-cons q rs in
    ap₂ (λ b more. shown_by b r ∷ more) (is_near near (lasting (q ∷ rs) + tail) lt) (all_near near tail q rs (omega (arith, e, lt)))

-- a segment after which others last that long has dropped its parts
far_first : (near tail : ℕ) (r : Row) (rs : List Row) → near ≤ lasting rs + tail → listed near tail (r ∷ rs) ≡ shown_by false r ∷ listed near tail rs
far_first near tail r rs le = ap (λ b. shown_by b r ∷ listed near tail rs) (is_far near (lasting rs + tail) le)

-- if the first of the others lists its parts, those that have dropped their parts are exactly those that list none
pub as_listed : (near tail n : ℕ) (rs : List Row) → hidden n rs ≡ rs → (0 < n → near ≤ lasting (drop n rs) + tail)
    → ((r : Row) → slice_get rs n ≡ Some r → lasting (drop (suc n) rs) + tail < near) → rs ≡ listed near tail rs
as_listed near tail n [] given far next = refl
as_listed near tail zero (r ∷ rs) given far next = sym (all_near near tail r rs (next r refl))
as_listed near tail (suc n) (r ∷ rs) given far next =
    let first : shown_by false r ≡ r = grind (arith, given) in
    let more : hidden n rs ≡ rs = grind (arith, given) in
    let a = lasting-all rs n in
    let le = far (omega arith) in
    ap₂ (λ x xs. x ∷ xs) (sym first) (as_listed near tail n rs more (λ some. le) next)
    ∙ sym (far_first near tail r rs (omega (arith, a, le)))

pub far_so : (f : Finished) (near tail : ℕ) → AreHidden f → (0 < f.far → near ≤ f.near_lasting + tail) → 0 < f.far → near ≤ lasting (drop f.far f.rows.items) + tail
far_so f near tail h far some = let e = far some in let s = h.sum in omega (arith, e, s)

within : (rs : List Row) (n : ℕ) (r : Row) → slice_get rs n ≡ Some r → n < length rs
within [] n r e = absurd (grind (arith, e))
within (q ∷ rs) zero r e = omega arith
within (q ∷ rs) (suc n) r e = let lt = within rs n r e in omega (arith, lt)

-- past the last segment there is none
pub none_there : (rs : List Row) (len n : ℕ) (r : Row) → len ≡ length rs → (n < len → false ≡ true) → slice_get rs n ≡ Some r → ⊥
none_there rs len n r many past e = true≢false (sym (past (let lt = within rs n r e in omega (arith, lt, many))))

-- ---- one more drops its parts

lasting-hidden : (n : ℕ) (rs : List Row) (r : Row) → slice_get rs n ≡ Some r → lasting (slice_set rs n (shown_by false r)) ≡ lasting rs
lasting-hidden n [] r e = refl
lasting-hidden zero (q ∷ rs) r e =
    let same : q ≡ r = grind (arith, e) in
    let a = lasting-cons q rs in
    let b = lasting-cons (shown_by false r) rs in
    let c = ap (λ x. x.segment.duration) same in
    omega (arith, a, b, c)
lasting-hidden (suc n) (q ∷ rs) r e =
    let a = lasting-cons q rs in
    let b = lasting-cons q (slice_set rs n (shown_by false r)) in
    let c = lasting-hidden n rs r e in
    omega (arith, a, b, c)

pub listed-hidden : (near tail n : ℕ) (rs : List Row) (r : Row) → slice_get rs n ≡ Some r → near ≤ lasting (drop (suc n) rs) + tail
    → listed near tail (slice_set rs n (shown_by false r)) ≡ listed near tail rs
listed-hidden near tail n [] r e le = refl
listed-hidden near tail zero (q ∷ rs) r e le =
    let same : q ≡ r = grind (arith, e) in
    far_first near tail (shown_by false r) rs le ∙ ap (λ x. shown_by false x ∷ listed near tail rs) (sym same) ∙ sym (far_first near tail q rs le)
listed-hidden near tail (suc n) (q ∷ rs) r e le =
    ap₂ (λ l more. shown_by (nat_lt (l + tail) near) q ∷ more) (lasting-hidden n rs r e) (listed-hidden near tail n rs r e le)

pub given-hidden : (n : ℕ) (rs : List Row) (r : Row) → hidden n rs ≡ rs → slice_get rs n ≡ Some r
    → hidden (suc n) (slice_set rs n (shown_by false r)) ≡ slice_set rs n (shown_by false r)
given-hidden n [] r given e = refl
given-hidden zero (q ∷ rs) r given e = refl
given-hidden (suc n) (q ∷ rs) r given e =
    let first : shown_by false q ≡ q = grind (arith, given) in
    let more : hidden n rs ≡ rs = grind (arith, given) in
    ap₂ (λ x xs. x ∷ xs) first (given-hidden n rs r more e)

pub drop-hidden : (n : ℕ) (rs : List Row) (r : Row) → drop (suc n) (slice_set rs n (shown_by false r)) ≡ drop (suc n) rs
drop-hidden n [] r = refl
drop-hidden zero (q ∷ rs) r = refl
drop-hidden (suc n) (q ∷ rs) r = drop-hidden n rs r

-- how long those after a place last
pub lasting-after : (rs : List Row) (n : ℕ) (r : Row) → slice_get rs n ≡ Some r → lasting (drop n rs) ≡ r.segment.duration + lasting (drop (suc n) rs)
lasting-after [] n r e = absurd (grind (arith, e))
lasting-after (q ∷ rs) zero r e =
    let same : q ≡ r = grind (arith, e) in
    lasting-cons q rs ∙ ap (λ x. x.segment.duration + lasting rs) same
lasting-after (q ∷ rs) (suc n) r e = lasting-after rs n r e

-- ---- the first segment leaves, or one comes last

pub given-more : (n : ℕ) (rs ss : List Row) → n ≤ length rs → hidden n rs ≡ rs → hidden n (rs ++ ss) ≡ rs ++ ss
given-more zero rs ss le e = refl
given-more (suc n) [] ss le e = absurd (omega arith)
given-more (suc n) (r ∷ rs) ss le e =
    let first : shown_by false r ≡ r = grind (arith, e) in
    let more : hidden n rs ≡ rs = grind (arith, e) in
    ap₂ (λ x xs. x ∷ xs) first (given-more n rs ss (omega arith) more)

lasting-more : (n : ℕ) (rs : List Row) (r : Row) → n ≤ length rs → lasting (drop n (rs ++ r ∷ [])) ≡ lasting (drop n rs) + r.segment.duration
lasting-more zero rs r le =
    let a = lasting-append rs (r ∷ []) in
    let b = lasting-cons r [] in
    omega (arith, a, b)
lasting-more (suc n) [] r le = absurd (omega arith)
lasting-more (suc n) (q ∷ rs) r le = lasting-more n rs r (omega arith)

-- ---- what is known of far segments after each step

pub set-same : (n : ℕ) (rs : List Row) (r : Row) → slice_get rs n ≡ Some r → slice_set rs n r ≡ rs
set-same n [] r e = refl
set-same zero (q ∷ rs) r e = let same : q ≡ r = grind (arith, e) in ap (λ x. x ∷ rs) (sym same)
set-same (suc n) (q ∷ rs) r e = ap (λ xs. q ∷ xs) (set-same n rs r e)

next : (n : ℕ) → n + 1 ≡ suc n
next n = omega arith

pub one-hidden : (f g : Finished) (r x : Row) → AreHidden f → slice_get f.rows.items f.far ≡ Some r → f.far < length f.rows.items → x ≡ shown_by false r
    → g.rows.items ≡ slice_set f.rows.items f.far x → g.far ≡ f.far + 1 → g.near_lasting + r.segment.duration ≡ f.near_lasting → AreHidden g
one-hidden f g r x h at lt is rows far sum =
    let rs = f.rows.items in
    let new = rows ∙ ap (slice_set rs f.far) is in
    let one = far ∙ next f.far in
    let n = ap length new in
    let m = length-set rs f.far (shown_by false r) in
    let a = lasting-after rs f.far r at in
    let b = ap lasting (ap₂ drop one new ∙ drop-hidden f.far rs r) in
    let s = h.sum in
    record {
      within = omega (arith, n, m, one, lt);
      sum = omega (arith, a, b, s, sum);
      given_up = ap₂ hidden one new ∙ given-hidden f.far rs r h.given_up at ∙ sym new;
    }

pub more-hidden : (f g : Finished) (r : Row) → AreHidden f → g.rows.items ≡ f.rows.items ++ r ∷ [] → g.far ≡ f.far
    → g.near_lasting ≡ f.near_lasting + r.segment.duration → AreHidden g
more-hidden f g r h rows far sum =
    let n = ap length rows in
    let m = length-append f.rows.items (r ∷ []) in
    let w = h.within in
    let s = h.sum in
    let a = lasting-more f.far f.rows.items r w in
    let b = ap lasting (ap₂ drop far rows) in
    record {
      within = omega (arith, n, m, far, w);
      sum = omega (arith, a, b, s, sum);
      given_up = ap₂ hidden far rows ∙ given-more f.far f.rows.items (r ∷ []) w h.given_up ∙ sym rows;
    }

-- the others last no longer than all
pub near-within : (f : Finished) → AreHidden f → f.near_lasting ≤ lasting f.rows.items
near-within f h = let a = lasting-all f.rows.items f.far in let s = h.sum in omega (arith, a, s)
