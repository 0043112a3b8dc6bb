-- An entry's line is kept.
use Rattle.std.proofs.Common.{OnOk, sym, subst}
use Rattle.ll_multivariant.proofs.KeepLemmas.{for-each}
use Rattle.ll_multivariant.specs.Keeping.{AddsTold}
use Rattle.ll_multivariant.proofs.kept.Kept.add.Goals as goal

pub returns-in-Entry : goal.returns-in-Entry
returns-in-Entry c =
    subst (λ t. OnOk c.add_line.result (AddsTold c.args.self.now c.add_line.new.self t)) (sym c.in-Entry.is)
    (for-each c.add_line.result c.args.self.now c.add_line.new.self c.in-Entry.version c.in-Entry.line.now c.add_line.ensures)
