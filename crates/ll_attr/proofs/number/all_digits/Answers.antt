-- `all` over the bytes is `list_all` of the test, which is what `all_ascii_digits` asks of each byte.
use Rattle.std.proofs.Common.{rules, ◌∙◌}
use borrow.Author.Tests.{tests}
use Rattle.std.proofs.lemmas.Iterator.Adapters.{YieldsList-from_bytes}
use Rattle.std.proofs.lemmas.Iterator.Search.{all_from_yields_List}
use Rattle.std.specs.Char.{is_ascii_digit}
use Rattle.ll_attr.proofs.Digits.{list_all-is_ascii_digit}
use Rattle.ll_attr.proofs.number.all_digits.Goals as goal

pub returns : goal.returns
returns c =
    all_from_yields_List is_ascii_digit _ _ _ c.all.ensures.ran (YieldsList-from_bytes c.args.text.now c.bytes.ensures.rest) (λ x b q k. search (rules, tests)) ∙ list_all-is_ascii_digit c.args.text.now
