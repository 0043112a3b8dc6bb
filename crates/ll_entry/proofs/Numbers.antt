-- Numbers below 2^64 are read again from their digits, which are a word.
use Rattle.std.proofs.Common.{◌≡◌, ℕ, ◌<◌, ◌^◌, Bool, List, true, false, refl, arith, decimal, nat_le, bytes_eq, Option, Some, None, if◌then◌else◌}
use Rattle.ll_attr.specs.Numbers.{number_in}
use Rattle.ll_format.specs.Words.{at_most, spelled_by}
use Rattle.ll_format.proofs.FormatLaws.{guarded}
use Rattle.ll_format.proofs.WordLaws.{inside_from, is_figure, number-lacks, number-laws, number_figures}
use Rattle.ll_entry.proofs.Cuts.{IsWord}

-- 2^64 - 1
abbrev most : ℕ
most = 18446744073709551615

kept : (b : Bool) (m n : ℕ) → at_most most (if b then Some m else None) ≡ Some n → Some m ≡ Some n
kept true m n h = (guarded (nat_le m most) (Some m) n h).1
kept false m n h = cc

taken : (o : Option ℕ) (text : List ℕ) (n : ℕ) → at_most most (spelled_by o decimal text) ≡ Some n → o ≡ Some n
taken None text n h = cc
taken (Some m) text n h = kept (bytes_eq (decimal m) text) m n h

pub number-back : (n : ℕ) → n < 2 ^ 64 → number_in 20 (decimal n) ≡ Some n
number-back n small = taken (number_in 20 (decimal n)) (decimal n) n ((number-laws most (omega arith)).again n (omega arith))

pub number-word : (n : ℕ) → n < 2 ^ 64 → IsWord (decimal n)
number-word n small = record {
  spaceless = number-lacks 32 most n refl (omega arith) (omega arith);
  one_line = inside_from is_figure (decimal n) refl refl (number_figures most n (omega arith) (omega arith));
}
