-- Digits have no sign, so `parse` returns their value if it fits 64 bits.
use Rattle.std.proofs.Common.{◌≡◌, ◌∙◌, true, arith}
use Rattle.std.proofs.lemmas.Bool.Decides.{nat_tests}
use Rattle.ll_attr.specs.Numbers.{is_digits}
use Rattle.ll_attr.proofs.Digits.{number_in-parsed}
use Rattle.ll_attr.proofs.number.parse_number.Goals as goal

pub returns : goal.returns
returns c =
    let digits : is_digits c.args.most c.args.text.now ≡ true = grind (arith, nat_tests) in
    c.ok.ensures.value ∙ number_in-parsed c.args.most c.args.text.now c.parse.result digits c.parse.ensures.value.0
