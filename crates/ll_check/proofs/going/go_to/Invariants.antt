-- What is left of the record is known, if the record was at first.
use Rattle.std.specs.Prelude.{◌+◌, ◌*◌, ◌^◌, length}
use Rattle.ll_check.proofs.GoingLemmas.{GoingBy}
use Rattle.ll_check.proofs.SourceLemmas.{Reads}
use Rattle.ll_check.proofs.going.go_to.Given as goal

abbrev pub invariant-pieces : goal.invariant-pieces
invariant-pieces g l =
    Reads (g.R.Reader.left l.fn.source) (g.R.Reader.left l.source) l.unread.text (g.R.Reader.reads l.fn.source) (g.R.Reader.failures l.fn.source)
    (g.R.Reader.reads l.source) l.unread.reads (g.R.Reader.failures l.source)
    (GoingBy g.V.Visitor.holds l.fn.entry l.fn.sink l.fn.visitor l.checker l.visitor l.sink)

abbrev pub decreases-pieces : goal.decreases-pieces
decreases-pieces g l = l.unread.reads * 2 ^ 64 + length l.unread.text
