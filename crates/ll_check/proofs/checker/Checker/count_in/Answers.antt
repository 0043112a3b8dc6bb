-- The result of bytes that are read to their end from the start is what is counted then.
use Rattle.std.proofs.Common.{◌≡◌, None, true, rules}
use Rattle.ll_attr.specs.Words.{pieces_at}
use Rattle.ll_entry.specs.Chain.{Between, checked, checked_from, not_before}
use Rattle.ll_check.proofs.LaterLemmas.{wants-none}
use Rattle.ll_check.proofs.Places.{first-at}
use Rattle.ll_check.proofs.Whole.{where-err, where-ok, whole, wrong-whole}
use Rattle.ll_check.proofs.checker.Checker.count_in.Goals as goal

pub returns-clause-value : goal.returns-clause-value
returns-clause-value c =
    where-ok (checked c.args.bytes.now) c.count.result
    (whole c.args.bytes.now c.args.self.now c.read.new.self c.count.result c.requires c.in_ok-read.ensures.right c.count.ensures)

pub returns-clause-wrong : goal.returns-clause-wrong
returns-clause-wrong c =
    where-err (checked c.args.bytes.now) c.count.result
    (whole c.args.bytes.now c.args.self.now c.read.new.self c.count.result c.requires c.in_ok-read.ensures.right c.count.ensures)

pub returns-clause-memory : goal.returns-clause-memory
returns-clause-memory c =
    wants-none (λ f. not_before f.entry (checked_from (Between None) (pieces_at 10 c.args.bytes.now)) ≡ true) c.args.self.now c.read.new.self c.args.bytes.now c.count.result
    c.requires c.in_ok-read.ensures.right c.count.ensures

pub returns-in_err-read-clause-wrong : goal.returns-in_err-read-clause-wrong
returns-in_err-read-clause-wrong c =
    let fact = wrong-whole c.args.bytes.now c.in_err-read.field-0.0 (c.in_err-read.ensures.wrong (Between None) (first-at c.args.self.now c.requires)) in
    search (rules, fact)

pub returns-in_err-read-clause-memory : goal.returns-in_err-read-clause-memory
returns-in_err-read-clause-memory c =
    let fact = c.in_err-read.ensures.memory (Between None) (first-at c.args.self.now c.requires) in
    search (rules, fact)
