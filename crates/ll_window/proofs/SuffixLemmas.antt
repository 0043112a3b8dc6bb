-- The window is a suffix, and no shorter one lasts long enough.
use Rattle.std.proofs.Common.{◌≡◌, ℕ, ◌+◌, ◌≤◌, ◌<◌, List, [], ◌∷◌, ◌++◌, Bool, true, false, cond, length, nat_le, refl, ap, arith}
use Rattle.std.proofs.lemmas.Bool.Decides.{nat_tests}
use Rattle.ll_window.specs.Rows.{Row, lasting}
use Rattle.ll_window.specs.Window.{gone, window, WindowLaw}
use Rattle.ll_window.proofs.WindowLemmas.{lasting-append, lasting-cons}

no_longer_by : (b : Bool) (least : ℕ) (r : Row) (rs : List Row) → length (window least rs) ≤ length rs → length (cond b (window least rs) (r ∷ rs)) ≤ length (r ∷ rs)
no_longer_by true least r rs h = omega arith
no_longer_by false least r rs h = omega arith

no_longer : (least : ℕ) (rs : List Row) → length (window least rs) ≤ length rs
no_longer least [] = omega arith
no_longer least (r ∷ rs) = no_longer_by (nat_le least (lasting rs)) least r rs (no_longer least rs)

suffix_by : (b : Bool) (least : ℕ) (r : Row) (rs : List Row) → gone least rs ++ window least rs ≡ rs
    → cond b (r ∷ gone least rs) [] ++ cond b (window least rs) (r ∷ rs) ≡ r ∷ rs
suffix_by true least r rs h = ap (λ more. r ∷ more) h
suffix_by false least r rs h = refl

pub suffix : (least : ℕ) (rs : List Row) → gone least rs ++ window least rs ≡ rs
suffix least [] = refl
suffix least (r ∷ rs) = suffix_by (nat_le least (lasting rs)) least r rs (suffix least rs)

long_by : (b : Bool) (least : ℕ) (r : Row) (rs : List Row) → nat_le least (lasting rs) ≡ b → (least ≤ lasting rs → least ≤ lasting (window least rs))
    → least ≤ lasting (r ∷ rs) → least ≤ lasting (cond b (window least rs) (r ∷ rs))
long_by true least r rs e h le = h (grind (arith, nat_tests))
long_by false least r rs e h le = le

long_enough : (least : ℕ) (rs : List Row) → least ≤ lasting rs → least ≤ lasting (window least rs)
long_enough least [] le = le
long_enough least (r ∷ rs) le = long_by (nat_le least (lasting rs)) least r rs refl (long_enough least rs) le

all_by : (b : Bool) (least : ℕ) (r : Row) (rs : List Row) → nat_le least (lasting rs) ≡ b → r.segment.duration + lasting rs < least
    → cond b (window least rs) (r ∷ rs) ≡ r ∷ rs
all_by true least r rs e lt = absurd (grind (arith, nat_tests))
all_by false least r rs e lt = refl

all_of_them : (least : ℕ) (rs : List Row) → lasting rs < least → window least rs ≡ rs
all_of_them least [] lt = refl
all_of_them least (r ∷ rs) lt =
    let e = lasting-cons r rs in all_by (nat_le least (lasting rs)) least r rs refl (omega (arith, lt, e))

shortest_by : (b : Bool) (least : ℕ) (r : Row) (rs after : List Row) → nat_le least (lasting rs) ≡ b → least ≤ lasting rs
    → length (window least rs) ≤ length after → length (cond b (window least rs) (r ∷ rs)) ≤ length after
shortest_by true least r rs after e le h = h
shortest_by false least r rs after e le h = absurd (grind (arith, nat_tests))

shortest : (least : ℕ) (before after : List Row) → least ≤ lasting after → length (window least (before ++ after)) ≤ length after
shortest least [] after le = no_longer least after
shortest least (r ∷ before) after le =
    let e = lasting-append before after in
    shortest_by (nat_le least (lasting (before ++ after))) least r (before ++ after) after refl (omega (arith, e)) (shortest least before after le)

at : (least : ℕ) (rs before after : List Row) → before ++ after ≡ rs → least ≤ lasting after → length (window least rs) ≤ length after
at least rs before after e le = rw e at (shortest least before after le)

pub window-law : WindowLaw
window-law least rs = record {
  suffix = suffix least rs;
  long_enough = long_enough least rs;
  all_of_them = all_of_them least rs;
  shortest = at least rs;
}
