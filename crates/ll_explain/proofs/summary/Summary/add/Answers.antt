-- The summary of entries and one more follows from that of the entries.
use Rattle.ll_explain.proofs.SummaryLemmas.{counts-on}
use Rattle.ll_explain.proofs.summary.Summary.add.Goals as goal

pub returns : goal.returns
returns c = λ before short is.
    counts-on c.args.self.now c.add_kind.new.self c.count.new.many c.still_held.result c.max-self.result before c.args.entry.now short is c.count.ensures c.add_kind.ensures
    c.still_held.ensures c.max-self.ensures
