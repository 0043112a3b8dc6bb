-- Each line adds a channel or a secret, until one isn't allowed there, memory runs out or no line is left.
use Rattle.std.proofs.Common.{None, Some, ap, cond, subst, sym, ◌∙◌}
use Rattle.ll_config.proofs.ConfigLemmas.{fault-is}
use Rattle.ll_config.proofs.HostedLemmas.{Reads, reads_bad, reads_memory, reads_next, reads_none}
use Rattle.ll_config.specs.Config.{hosted_from, nobody}
use Rattle.ll_config.specs.Faults.{IsRightTo}
use Rattle.ll_config.proofs.config.add_lines.Goals as goal

pub loop-alloc-init : goal.loop-alloc-init
loop-alloc-init c = subst (Reads c.args.lines.now c.args.lines.now) (sym c.requires) (reads_none c.args.lines.now)

pub loop-alloc-preserved : goal.loop-alloc-preserved
loop-alloc-preserved c =
    reads_next c.args.lines.now c.loop-alloc.lines c.text.new.self c.loop-alloc.all c.add_line.new.self c.in_ok-line.line.now c.loop-alloc.invariant
    c.in_ok-line.ensures.value (c.in-Ok-true.ensures.added ∙ ap (λ done. cond done (Some c.add_line.new.self) None) c.in-Ok-true.field-0-test)

pub returns-in-Ok-false-clause-bad : goal.returns-in-Ok-false-clause-bad
returns-in-Ok-false-clause-bad c =
    let read = hosted_from nobody c.args.lines.now.lines c.args.lines.now.number in
    fault-is c.bad.result read (IsRightTo c.args.lines.now.number read) c.loop-alloc.lines c.text.new.self c.in_ok-line.ensures.number c.bad.ensures
    (reads_bad c.args.lines.now c.loop-alloc.lines c.text.new.self c.loop-alloc.all c.in_ok-line.line.now c.loop-alloc.invariant c.in_ok-line.ensures.value
    (c.in-Ok-false.ensures.added ∙ ap (λ done. cond done (Some c.add_line.new.self) None) c.in-Ok-false.field-0-test))

pub returns-in-Err-clause-bad : goal.returns-in-Err-clause-bad
returns-in-Err-clause-bad c =
    reads_memory c.args.lines.now c.loop-alloc.lines c.text.new.self c.loop-alloc.all c.in_ok-line.line.now c.loop-alloc.invariant c.in_ok-line.ensures.value
    c.in-Err.ensures.memory
