-- Bytes without the last ones that are 0.
use Rattle.std.proofs.Math.Nat.{pow-le-pow_right}
use Rattle.std.proofs.lemmas.Grind.{pow_more}
use Rattle.std.proofs.Common.{◌≡◌, ◌==◌, ◌+◌, ◌-◌, ◌*◌, ◌/◌, ◌%◌, ◌^◌, ◌<◌, ◌≤◌, arith, suc, ℕ, List, [], ◌∷◌, ◌++◌, false, refl, ap, ◌∙◌}
use Rattle.ll_codecs.specs.Hevc.{before_zeros, reversed, without_zeros}

pub zero_last : (front : List ℕ) → without_zeros (front ++ 0 ∷ []) ≡ without_zeros front
zero_last [] = refl
zero_last (byte ∷ more) = ap (before_zeros byte) (zero_last more)

before-some : (byte : ℕ) (more : List ℕ) (last : ℕ) → before_zeros byte (more ++ last ∷ []) ≡ byte ∷ (more ++ last ∷ [])
before-some byte [] last = refl
before-some byte (next ∷ more) last = refl

pub other_last : (front : List ℕ) (last : ℕ) → (last == 0) ≡ false → without_zeros (front ++ last ∷ []) ≡ front ++ last ∷ []
other_last [] last e = rw e refl
other_last (byte ∷ more) last e = ap (before_zeros byte) (other_last more last e) ∙ before-some byte more last

-- ---- bits in the other order

-- one more bit is turned
pub bit_more : (c before n all : ℕ) → c < 32 → reversed (32 - c) before n ≡ all → reversed (32 - (c + 1)) (before * 2 + n % 2) (n / 2) ≡ all
bit_more c before n all l e = ap (λ k. reversed k before n) (one-less c l) ∙ e
  where
    one-less : (c : ℕ) → c < 32 → suc (32 - (c + 1)) ≡ 32 - c
    one-less c l = omega (arith, l)

-- no bit is left
pub bits_done : (c before n all : ℕ) → 32 ≤ c → reversed (32 - c) before n ≡ all → before ≡ all
bits_done c before n all l e = ap (λ k. reversed k before n) (none c l) ∙ e
  where
    none : (c : ℕ) → 32 ≤ c → 0 ≡ 32 - c
    none c l = omega (arith, l)

pub turned_more : (c before bit : ℕ) → before < 2 ^ c → bit < 2 → before * 2 + bit < 2 ^ (c + 1)
turned_more c before bit l b = let p = pow_more 2 c in omega (arith, l, b, p)

pub turned_few : (c before : ℕ) → c < 32 → before < 2 ^ c → before < 2 ^ 31
turned_few c before l s = let p : 2 ^ c ≤ 2 ^ 31 = pow-le-pow_right {n = 2} (omega arith) {i = c} {j = 31} (omega (arith, l)) in omega (arith, s, p)
