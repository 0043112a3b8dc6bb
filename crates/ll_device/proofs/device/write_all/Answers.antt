-- Each write takes a prefix of what is left, so the bytes taken join.
use Rattle.std.proofs.Common.{◌∙◌}
use Rattle.ll_device.proofs.WriteLemmas.{taken_within, Appends-taken, AppendsPrefix-taken}
use Rattle.ll_device.proofs.device.write_all.Goals as goal

pub returns-in_err-taken-clause-cut : goal.returns-in_err-taken-clause-cut
returns-in_err-taken-clause-cut g c =
    AppendsPrefix-taken c.from_residual.result _ _ _ c.args.text.now c.loop-taken.taken c.loop-taken.invariant.wrote c.in_err-taken.ensures.kept

pub loop-taken-preserved : goal.loop-taken-preserved
loop-taken-preserved g c = record {
  within = taken_within c.args.text.now c.loop-taken.taken c.in_ok-taken.field-0 c.loop-taken.invariant.within c.in_ok-taken.ensures.count;
  wrote = Appends-taken _ _ _ c.args.text.now c.loop-taken.taken c.in_ok-taken.field-0 c.loop-taken.invariant.wrote c.in_ok-taken.ensures.bytes;
  steady = c.in_ok-taken.ensures.steady ∙ c.loop-taken.invariant.steady;
  unread = c.in_ok-taken.ensures.unread ∙ c.loop-taken.invariant.unread;
}
