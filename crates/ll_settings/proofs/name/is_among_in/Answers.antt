-- `any` over the parts between commas is `list_any` of the test.
use Rattle.std.proofs.Common.{rules, lit<}
use borrow.Author.Tests.{tests}
use Rattle.std.proofs.lemmas.Iterator.Search.{any_from_yields_List}
use Rattle.std.proofs.lemmas.Iterator.Splits.{YieldsList-from_str_split}
use Rattle.std.specs.Str.{bytes_eq}
use Rattle.ll_settings.proofs.name.is_among_in.Goals as goal

pub returns : goal.returns
returns c =
    any_from_yields_List (bytes_eq c.args.name.now) _ _ _ c.any.ensures.ran (YieldsList-from_str_split 44 c.args.text.now (lit< tt) c.split.ensures.text c.split.ensures.has_more c.split.ensures.pattern) (λ x b q k. search (rules, tests))
