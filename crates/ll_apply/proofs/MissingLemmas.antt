-- The least of the numbers that a playlist lacks.
use Rattle.std.proofs.Common.{◌≡◌, ℕ, zero, suc, ◌+◌, ◌≤◌, ◌<◌, Bool, true, false, nat_le, nat_lt, ◌&&◌, length, Option, Some, None, Err, refl, ap, sym, ◌∙◌, arith}
use Rattle.std.proofs.lemmas.Bool.Decides.{nat_tests}
use Rattle.ll_line.specs.Playlist.{Playlist}
use Rattle.ll_apply.specs.declared.fault.ApplyFault.TheVariants.{NotRecent}
use Rattle.ll_apply.specs.Applied.{applied_by, missing, missing_by, has, unless_missing, updated}
use Rattle.ll_apply.specs.NotRecent.{IsLeastMissing, NotRecentLaw}

missing_at : (base : Playlist) (m n k : ℕ) (b : Bool) → has base m ≡ b → (missing base (m + 1) n ≡ Some k → IsLeastMissing base (m + 1) n k)
    → missing_by b m (missing base (m + 1) n) ≡ Some k → IsLeastMissing base m (suc n) k
missing_at base m n k true e more h =
    let i = more h in
    record { low = omega (arith, i.low); high = omega (arith, i.high); lacked = i.lacked; others = λ j low high. from j low high (nat_lt m j) refl }
  where
    from : (j : ℕ) → m ≤ j → j < k → (c : Bool) → nat_lt m j ≡ c → has base j ≡ true
    from j low high true d = (more h).others j (grind (arith, nat_tests)) high
    from j low high false d = let s : j ≡ m = grind (arith, nat_tests) in ap (has base) s ∙ e
missing_at base m n k false e more h =
    let same : m ≡ k = grind (arith, h) in
    record {
      low = omega (arith, same);
      high = omega (arith, same);
      lacked = ap (has base) (sym same) ∙ e;
      others = λ j low high. absurd (omega (arith, same));
    }

least-missing : (base : Playlist) (m n k : ℕ) → missing base m n ≡ Some k → IsLeastMissing base m n k
least-missing base m zero k h = absurd (grind (arith, h))
least-missing base m (suc n) k h = missing_at base m n k (has base m) refl (λ e. least-missing base (m + 1) n k e) h

missed : (o : Option ℕ) (p : Playlist) (number : ℕ) → unless_missing o p ≡ Err (NotRecent number) → o ≡ Some number
missed None p number h = absurd (grind (arith, h))
missed (Some m) p number h = let same : m ≡ number = grind (arith, h) in ap Some same

pub not-recent : NotRecentLaw
not-recent base delta skip number e h =
    least-missing base delta.sequence skip.count number
    (missed (missing base delta.sequence skip.count) (updated base delta skip) number (ap (λ s. applied_by s base delta) (sym e) ∙ h))

-- the numbers that a playlist lacks, by where the numbers asked for begin and end

one_more : (m n : ℕ) → m + 1 + n ≡ m + suc n
one_more m n = omega arith

pub missing-above : (base : Playlist) (m n : ℕ) → base.sequence + length base.segments ≤ m → missing base m (suc n) ≡ Some m
missing-above base m n high = let e : has base m ≡ false = grind (arith, nat_tests) in ap (λ b. missing_by b m (missing base (m + 1) n)) e

-- the first number past the playlist, if the numbers asked for begin within it and end past it
pub missing-past : (base : Playlist) (left m n : ℕ) → base.sequence ≤ m → m + left ≡ base.sequence + length base.segments → left < n
    → missing base m n ≡ Some (m + left)
missing-past base zero m (suc n) low is more = missing-above base m n (omega arith) ∙ ap Some (omega arith)
missing-past base (suc left) m (suc n) low is more =
    let e : has base m ≡ true = grind (arith, nat_tests) in
    ap (λ b. missing_by b m (missing base (m + 1) n)) e
    ∙ missing-past base left (m + 1) n (omega arith) (omega arith) (omega arith)
    ∙ ap Some (one_more m left)
missing-past base left m zero low is more = absurd (omega arith)

-- none, if they begin and end within it

has_one : (low count m : ℕ) → low ≤ m → suc m ≤ low + count → (nat_le low m && nat_lt m (low + count)) ≡ true
has_one low count m a b = grind (arith, nat_tests)

pub missing-none : (base : Playlist) (m n : ℕ) → base.sequence ≤ m → m + n ≤ base.sequence + length base.segments → missing base m n ≡ None
missing-none base m zero low high = refl
missing-none base m (suc n) low high =
    ap (λ b. missing_by b m (missing base (m + 1) n)) (has_one base.sequence (length base.segments) m low (omega arith))
    ∙ missing-none base (m + 1) n (omega arith) (omega arith)
