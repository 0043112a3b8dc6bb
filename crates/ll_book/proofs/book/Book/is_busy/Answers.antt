-- As many wait as stand in the order of what is awaited.
use Rattle.std.proofs.Common.{◌∙◌, ap, nat_le}
use Rattle.ll_verdict.specs.State.{waiting_in}
use Rattle.ll_book.proofs.book.Book.is_busy.Goals as goal

pub returns : goal.returns
returns c = ap (nat_le 65536) (c.len.ensures.value ∙ c.self.invariant.wanted.count) ∙ ap (λ ss. nat_le 65536 (waiting_in ss)) c.self.view_is
