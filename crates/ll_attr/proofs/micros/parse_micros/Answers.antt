-- `cut` cuts at the first point or nowhere, and the two lemmas on `micros_in` say what the parts then mean.
use Rattle.std.proofs.Common.{arith, ◌∙◌, None, Some, refl}
use Rattle.ll_attr.proofs.MicrosAtCut.{micros_in-cut, micros_in-uncut}
use Rattle.ll_attr.proofs.Digits.{number_in-lt}
use Rattle.ll_attr.proofs.Fractions.{fraction_in-lt}
use Rattle.ll_attr.proofs.micros.parse_micros.Goals as goal

pub returns-in_err-parse_number-in-None-clause-value :
    goal.returns-in_err-parse_number-in-None-clause-value
returns-in_err-parse_number-in-None-clause-value c =
    c.from_residual.ensures ∙ micros_in-uncut c.args.text.now None c.in-None.ensures.parts c.in_err-parse_number-in-None.ensures

pub returns-in_ok-parse_number-in-None-clause-value :
    goal.returns-in_ok-parse_number-in-None-clause-value
returns-in_ok-parse_number-in-None-clause-value c =
    micros_in-uncut c.args.text.now (Some c.in_ok-parse_number-in-None.field-0) c.in-None.ensures.parts c.in_ok-parse_number-in-None.ensures

pub returns-in_err-whole-in-Some-clause-value : goal.returns-in_err-whole-in-Some-clause-value
returns-in_err-whole-in-Some-clause-value c =
    c.from_residual-in_err-whole-in-Some.ensures
    ∙ micros_in-cut c.args.text.now c.in-Some.whole.now c.in-Some.fraction.now None _ c.in-Some.ensures.parts c.in_err-whole-in-Some.ensures refl

pub returns-in_err-fraction-in-Some-clause-value :
    goal.returns-in_err-fraction-in-Some-clause-value
returns-in_err-fraction-in-Some-clause-value c =
    c.from_residual-in_err-fraction-in-Some.ensures
    ∙ micros_in-cut c.args.text.now c.in-Some.whole.now c.in-Some.fraction.now (Some c.in_ok-whole-in-Some.whole) None c.in-Some.ensures.parts c.in_ok-whole-in-Some.ensures c.in_err-fraction-in-Some.ensures

pub returns-in_ok-fraction-in-Some-clause-value :
    goal.returns-in_ok-fraction-in-Some-clause-value
returns-in_ok-fraction-in-Some-clause-value c =
    micros_in-cut c.args.text.now c.in-Some.whole.now c.in-Some.fraction.now (Some c.in_ok-whole-in-Some.whole) (Some c.in_ok-fraction-in-Some.fraction) c.in-Some.ensures.parts c.in_ok-whole-in-Some.ensures c.in_ok-fraction-in-Some.ensures

pub overflow_mul-result : goal.overflow_mul-result
overflow_mul-result c = grind (arith, number_in-lt)

pub overflow_mul-result-in-Some : goal.overflow_mul-result-in-Some
overflow_mul-result-in-Some c =
    omega (arith, number_in-lt 12 c.in-Some.whole.now c.in_ok-whole-in-Some.whole c.in_ok-whole-in-Some.ensures)

pub overflow_add-result : goal.overflow_add-result
overflow_add-result c =
    omega (
      arith,
      number_in-lt 12 c.in-Some.whole.now c.in_ok-whole-in-Some.whole c.in_ok-whole-in-Some.ensures,
      fraction_in-lt c.in-Some.fraction.now c.in_ok-fraction-in-Some.fraction c.in_ok-fraction-in-Some.ensures,
    )
