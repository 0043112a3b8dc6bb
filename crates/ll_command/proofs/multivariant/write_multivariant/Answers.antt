-- What was written if it failed: a prefix of the playlist, or of the line of a wrong record.
use Rattle.std.proofs.Common.{Bool, List, ℕ, Err, Ok, true, false, ap, refl, sym, ◌∙◌}
use Rattle.ll_command.proofs.CutLemmas.{line-cut, text-cut}
use Rattle.ll_command.specs.Multivariants.{IsMultivariant}
use Rattle.ll_command.proofs.multivariant.write_multivariant.Goals as goal

pub returns-in_err-write_out-in-Ok-clause-cut : goal.returns-in_err-write_out-in-Ok-clause-cut
returns-in_err-write_out-in-Ok-clause-cut g c =
    let t = c.in-Ok.ensures.text in
    text-cut c.from_residual.result (λ (text : List ℕ). (x : Bool) × IsMultivariant c.args.chunks.now c.args.sources.now x text) c.as_bytes.result.now
    (g.W.Writer.written c.args.out.now) (g.W.Writer.written c.write_out.new.out) (true, (t.0, t.1, t.2 ∙ ap Ok (sym c.as_bytes.ensures.value)))
    c.in_err-write_out-in-Ok.ensures.cut

pub returns-in-Err-Wrong-clause-cut : goal.returns-in-Err-Wrong-clause-cut
returns-in-Err-Wrong-clause-cut g c =
    let w = c.in-Err-Wrong in
    line-cut c.write_answer.result (λ (text : List ℕ). (x : Bool) × IsMultivariant c.args.chunks.now c.args.sources.now x text) w.fault
    (g.W.Writer.written c.args.out.now) (g.W.Writer.written c.write_answer.new.out)
    (λ other. (false, (w.fault, w.ensures.wrong w.fault (ap Err w.field-0-is) other, refl))) c.write_answer.ensures.cut
    (λ e. ap g.W.Writer.written (c.write_answer.ensures.none e))
