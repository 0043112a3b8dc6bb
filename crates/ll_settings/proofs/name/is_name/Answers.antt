-- `all` over the bytes is `list_all` of the test.
use Rattle.std.proofs.Common.{◌≡◌, arith, rules}
use borrow.Author.Tests.{tests}
use Rattle.std.proofs.lemmas.Bool.Decides.{nat_tests}
use Rattle.std.proofs.lemmas.Iterator.Adapters.{YieldsList-from_bytes}
use Rattle.std.proofs.lemmas.Iterator.Search.{all_from_yields_List}
use Rattle.std.specs.List.{list_all}
use Rattle.ll_settings.specs.Names.{is_name_byte}
use Rattle.ll_settings.proofs.name.is_name.Goals as goal

pub returns-then-text-le32 : goal.returns-then-text-le32
returns-then-text-le32 c =
    let all : c.all.result ≡ list_all is_name_byte c.args.text.now =
    all_from_yields_List is_name_byte _ _ _ c.all.ensures.ran (YieldsList-from_bytes c.args.text.now c.bytes.ensures.rest) (λ x b q k. search (rules, tests))
    in grind (arith, nat_tests)
