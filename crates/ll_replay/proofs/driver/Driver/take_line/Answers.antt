-- A line changes the driver as it means.
use Rattle.std.proofs.Common.{◌≤◌, Err, ap, arith, length}
use Rattle.ll_replay.specs.contracts.driver.Driver.{the_view}
use Rattle.ll_replay.proofs.TakeLemmas.{take-acts, take-bad, take-cut, take-nowhere, take-too_long}
use Rattle.ll_replay.proofs.driver.Driver.take_line.Goals as goal

pub returns-then-text-gt-LONGEST_LINE-clause-cut : goal.returns-then-text-gt-LONGEST_LINE-clause-cut
returns-then-text-gt-LONGEST_LINE-clause-cut g c = take-too_long (the_view c.self.inside) _ _ c.args.text.now c.self.view_is c.if-text-gt-LONGEST_LINE.true

pub returns-in-Ok-clause-ok : goal.returns-in-Ok-clause-ok
returns-in-Ok-clause-ok g c =
    let short : length c.args.text.now ≤ 65536 = omega arith in
    take-acts (the_view c.self.inside) _ c.acts.new.self _ _ c.args.text.now c.in-Ok.acts c.acts.result c.self.view_is short c.in-Ok.ensures.acts c.acts.ensures.ok

pub returns-in-Ok-clause-cut : goal.returns-in-Ok-clause-cut
returns-in-Ok-clause-cut g c =
    let short : length c.args.text.now ≤ 65536 = omega arith in
    take-cut (the_view c.self.inside) _ _ _ c.args.text.now c.in-Ok.acts c.acts.result c.self.view_is short c.in-Ok.ensures.acts c.acts.ensures.cut

pub returns-in-Err-BadLine-clause-cut : goal.returns-in-Err-BadLine-clause-cut
returns-in-Err-BadLine-clause-cut g c =
    let short : length c.args.text.now ≤ 65536 = omega arith in
    take-bad (the_view c.self.inside) _ _ c.args.text.now c.self.view_is short (c.in-Err-BadLine.ensures.bad (ap Err c.in-Err-BadLine.field-0-is))

pub returns-in-Err-Memory-clause-cut : goal.returns-in-Err-Memory-clause-cut
returns-in-Err-Memory-clause-cut g c =
    let short : length c.args.text.now ≤ 65536 = omega arith in
    take-nowhere (the_view c.self.inside) _ _ c.args.text.now c.self.view_is short (c.in-Err-Memory.ensures.memory (ap Err c.in-Err-Memory.field-0-is))
