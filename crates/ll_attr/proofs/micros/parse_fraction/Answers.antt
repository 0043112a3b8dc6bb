-- At most six digits are always a number, which its scale leaves below a million.
use Rattle.std.proofs.Common.{arith}
use Rattle.std.proofs.lemmas.Bool.Decides.{nat_tests}
use Rattle.ll_attr.proofs.Digits.{number_in-short}
use Rattle.ll_attr.proofs.Fractions.{scaled-lt}
use Rattle.ll_attr.proofs.micros.parse_fraction.Goals as goal

pub returns-in_err-digits : goal.returns-in_err-digits
returns-in_err-digits c = grind (arith, nat_tests, number_in-short)

pub overflow_mul-result : goal.overflow_mul-result
overflow_mul-result c = grind (arith, scaled-lt)
