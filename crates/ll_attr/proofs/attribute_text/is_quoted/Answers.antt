-- `all` over the bytes is `list_all` of the test.
use Rattle.std.proofs.Common.{rules}
use borrow.Author.Tests.{tests}
use Rattle.std.proofs.lemmas.Iterator.Adapters.{YieldsList-from_bytes}
use Rattle.std.proofs.lemmas.Iterator.Search.{all_from_yields_List}
use Rattle.ll_attr.specs.Attributes.{is_quoted_byte}
use Rattle.ll_attr.proofs.attribute_text.is_quoted.Goals as goal

pub returns : goal.returns
returns c =
    all_from_yields_List is_quoted_byte _ _ _ c.all.ensures.ran (YieldsList-from_bytes c.args.text.now c.bytes.ensures.rest) (λ x b q k. search (rules, tests))
