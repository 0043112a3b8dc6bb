-- A release takes any request if it takes a first one.
use Rattle.std.proofs.Common.{◌∙◌}
use Rattle.ll_book.proofs.TakeLemmas.{takes_some}
use Rattle.ll_book.proofs.book.Book.takes_any.Goals as goal

pub returns : goal.returns
returns c = c.is_some.ensures ∙ takes_some c.args.which c.args.self.now c.first_taken.result c.first_taken.ensures.some c.first_taken.ensures.none
