-- Each channel takes the reading, one after another.
use Rattle.std.proofs.Common.{◌≡◌, ◌<◌, ◌∙◌, Err, [], ap, arith, length, refl}
use Rattle.ll_replay.specs.Kept.{Kept}
use Rattle.ll_replay.proofs.RestLemmas.{all-told, clocks-cut, clocks-next}
use Rattle.ll_replay.proofs.RunLemmas.{IfErr-handed, same_fault}
use Rattle.ll_replay.proofs.driver.Driver.clocks.Goals as goal

pub loop-place-init : goal.loop-place-init
loop-place-init g c = record { goes = λ w base s. ([], refl, s); lines = refl; steady = refl }

pub returns-in_err-done-clause-cut : goal.returns-in_err-done-clause-cut
returns-in_err-done-clause-cut g c =
    let f = c.in_err-done.field-0.0 in
    let count = c.len-place-end.ensures ∙ ap (λ (k : Kept). length k.declared) c.self.view_is in
    let within : c.loop-place.place < length c.args.self.now.declared = omega (arith, count) in
    IfErr-handed _ c.from_residual.result f c.from_residual.ensures.1
    (clocks-cut f _ c.loop-place.self _ _ _ c.args.self.now.declared c.loop-place.place c.args.ms within c.loop-place.invariant.goes c.in_err-done.ensures.cut)

pub returns-in_err-done-clause-write_failed : goal.returns-in_err-done-clause-write_failed
returns-in_err-done-clause-write_failed g c e =
    omega (arith, c.in_err-done.ensures.write_failed (ap Err (same_fault c.from_residual.result c.in_err-done.field-0.0 _ c.from_residual.ensures.1 e)), c.loop-place.invariant.steady)

pub loop-place-preserved : goal.loop-place-preserved
loop-place-preserved g c =
    let count = c.len-place-end.ensures ∙ ap (λ (k : Kept). length k.declared) c.self.view_is in
    let within : c.loop-place.place < length c.args.self.now.declared = omega (arith, count) in record {
      goes =
          clocks-next _ c.loop-place.self c.done.new.self _ _ _ c.args.self.now.declared c.loop-place.place c.args.ms within c.loop-place.invariant.goes c.in_ok-done.ensures.ok;
      lines = c.in_ok-done.ensures.lines ∙ c.loop-place.invariant.lines;
      steady = c.in_ok-done.ensures.steady ∙ c.loop-place.invariant.steady;
    }

pub returns-clause-ok : goal.returns-clause-ok
returns-clause-ok g c =
    let count = c.len-place-end.ensures ∙ ap (λ (k : Kept). length k.declared) c.self.view_is in
    let last : c.loop-place.place ≡ length c.args.self.now.declared = omega (arith, count) in
    all-told _ c.loop-place.self _ _ c.args.self.now.declared c.loop-place.place c.args.ms last c.loop-place.invariant.goes

pub returns-clause-lines : goal.returns-clause-lines
returns-clause-lines g c = c.loop-place.invariant.lines

pub returns-clause-steady : goal.returns-clause-steady
returns-clause-steady g c = c.loop-place.invariant.steady
