-- Each write takes a prefix of what is left of both, so the bytes taken join; after the first text the rest of the second is left.
use Rattle.std.proofs.Common.{◌++◌, ◌∙◌, ◌<◌, ◌≤◌, length, rules}
use Rattle.ll_device.proofs.WriteLemmas.{AppendsPrefix-taken, both_cut, both_taken, both_whole, both_within}
use Rattle.ll_device.proofs.device.write_both.Goals as goal

pub returns-in_err-taken-clause-cut : goal.returns-in_err-taken-clause-cut
returns-in_err-taken-clause-cut g c =
    AppendsPrefix-taken c.from_residual.result _ _ _ (c.args.first.now ++ c.args.second.now) c.loop-taken.taken c.loop-taken.invariant.wrote c.in_err-taken.ensures.kept

pub loop-taken-preserved : goal.loop-taken-preserved
loop-taken-preserved g c =
    let more : c.loop-taken.taken < length c.args.first.now = search rules in
    record {
      within = both_within c.args.first.now c.args.second.now c.loop-taken.taken c.in_ok-taken.field-0 more c.in_ok-taken.ensures.count;
      wrote = both_taken c.args.first.now c.args.second.now c.loop-taken.taken _ _ _ c.loop-taken.invariant.wrote c.in_ok-taken.field-0 more c.in_ok-taken.ensures.bytes;
      steady = c.in_ok-taken.ensures.steady ∙ c.loop-taken.invariant.steady;
      unread = c.in_ok-taken.ensures.unread ∙ c.loop-taken.invariant.unread;
    }

pub returns-clause-whole : goal.returns-clause-whole
returns-clause-whole g c =
    let over : length c.args.first.now ≤ c.loop-taken.taken = search rules in
    both_whole c.args.first.now c.args.second.now c.loop-taken.taken _ _ _ c.loop-taken.invariant.wrote c.write_all.result over c.write_all.ensures.whole

pub returns-clause-cut : goal.returns-clause-cut
returns-clause-cut g c =
    let over : length c.args.first.now ≤ c.loop-taken.taken = search rules in
    both_cut c.args.first.now c.args.second.now c.loop-taken.taken _ _ _ c.loop-taken.invariant.wrote c.write_all.result over c.write_all.ensures.cut
