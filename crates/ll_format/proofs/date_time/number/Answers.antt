-- A number of `count` digits is below that power of ten.
use Rattle.std.proofs.Common.{IfSome, ℕ, ◌≡◌, ◌<◌, ◌^◌, Option, Some, None, List}
use Rattle.ll_attr.proofs.Digits.{number_in-lt}
use Rattle.ll_attr.specs.Numbers.{number_in}
use Rattle.ll_format.proofs.date_time.number.Goals as goal

small : (count : ℕ) (text : List ℕ) (r : Option ℕ) → r ≡ number_in count text → IfSome r (λ n. n < 10 ^ count)
small count text None e = tt
small count text (Some n) e = number_in-lt count text n e

pub returns-clause-bound : goal.returns-clause-bound
returns-clause-bound c = small c.args.count c.args.text.now c.parse_number.result c.parse_number.ensures
