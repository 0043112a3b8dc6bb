-- The first ticket of those that have their reply.
use Rattle.std.proofs.Common.{◌∙◌, ap}
use Rattle.std.specs.List.{slice_get}
use Rattle.ll_verdict.specs.Waiting.{first_ready}
use Rattle.ll_book.proofs.SlotLemmas.{first_ticket}
use Rattle.ll_book.proofs.book.Book.first_ready.Goals as goal

pub returns : goal.returns
returns c = c.first.ensures ∙ ap (λ ns. slice_get ns 0) c.self.invariant.told ∙ first_ticket c.self.inside.slots ∙ ap first_ready c.self.view_is
