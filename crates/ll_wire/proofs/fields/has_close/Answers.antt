-- `any` over the members of a list is `list_any` of the test.
use Rattle.std.proofs.Common.{rules, ◌==◌}
use borrow.Author.Tests.{tests}
use Rattle.std.proofs.lemmas.Iterator.Search.{any_from_yields_List}
use Rattle.std.proofs.lemmas.Iterator.Splits.{YieldsList-from_slice_split}
use Rattle.ll_wire.specs.Heads.{is_close}
use Rattle.ll_wire.proofs.fields.has_close.Goals as goal

pub returns : goal.returns
returns c =
    any_from_yields_List is_close _ _ _ c.any.ensures.ran
    (YieldsList-from_slice_split _ (λ b. b == 44) c.args.value.now c.split.ensures.rest c.split.ensures.done c.split.ensures.closure (λ x b q k. search (rules, tests)))
    (λ x b q k. search (rules, tests))
