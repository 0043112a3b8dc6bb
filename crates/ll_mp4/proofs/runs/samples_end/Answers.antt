-- One sample more, and no sample more.
use Rattle.std.proofs.Common.{rules, arith, ◌≡◌, ◌<◌, ◌-◌, ◌∙◌, sym, length, length-drop}
use Rattle.ll_mp4.specs.Samples.{width}
use Rattle.ll_mp4.proofs.RunLemmas.{enough_left, sample_more, samples_done}
use Rattle.ll_mp4.proofs.runs.samples_end.Goals as goal

pub samples-preserved : goal.samples-preserved
samples-preserved c =
    let l : c.samples.counter < c.args.run.now.count = search rules in
    let left = enough_left c.args.run.now.count c.samples.counter (width c.args.run.now.flags) (length c.samples.rest.now) l c.samples.invariant.enough in
    rw (c.saturating_add-tick.ensures, c.read_u32.ensures, c.split_at.ensures.back, c.width-bytes.ensures.told)
    (record {
      same = c.samples.invariant.same ∙ sample_more (width c.args.run.now.flags) c.args.run.now.count c.samples.counter c.samples.tick c.samples.rest.now l;
      few = search rules;
      enough = omega (arith, left.1, length-drop (width c.args.run.now.flags) c.samples.rest.now);
    })

pub returns : goal.returns
returns c =
    let none : c.args.run.now.count - c.samples.counter ≡ 0 = search rules in
    sym (c.samples.invariant.same ∙ samples_done (width c.args.run.now.flags) _ c.samples.tick c.samples.rest.now none c.samples.invariant.few)
