-- `all` over the bytes is `list_all` of the test.
use Rattle.std.proofs.Common.{rules}
use borrow.Author.Tests.{tests}
use Rattle.std.proofs.lemmas.Iterator.{YieldsList-from_slice}
use Rattle.std.proofs.lemmas.Iterator.Search.{all_from_yields_List}
use Rattle.ll_command.specs.Secrets.{is_plain}
use Rattle.ll_command.proofs.secret.are_plain.Goals as goal

pub returns : goal.returns
returns c =
    all_from_yields_List is_plain _ _ _ c.all.ensures.ran (YieldsList-from_slice c.args.bytes.now cc) (λ x b q k. search (rules, tests))
