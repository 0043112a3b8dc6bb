use Rattle.std.specs.Prelude.{◌≡◌, string_bytes, take}
use Rattle.ll_explain.specs.SummaryLines as spec
use Rattle.ll_explain.proofs.summary_lines.summary_text.Given as goal

abbrev pub invariant-loop-before : goal.invariant-loop-before
invariant-loop-before l = string_bytes l.text ≡ spec.chains_text 0 (take l.before l.chains)
