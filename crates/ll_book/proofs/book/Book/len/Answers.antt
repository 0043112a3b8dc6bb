-- Tickets rise.
use Rattle.std.proofs.Common.{subst}
use Rattle.ll_verdict.specs.Waiting.{IsRising}
use Rattle.ll_book.proofs.SlotLemmas.{rises}
use Rattle.ll_book.proofs.book.Book.len.Goals as goal

pub returns-clause-rising : goal.returns-clause-rising
returns-clause-rising c = subst (IsRising 0) c.self.view_is (rises 0 c.self.inside.slots c.self.invariant.rising)
