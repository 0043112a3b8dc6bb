-- Each turn looks at one byte more, up to the last.
use Rattle.std.proofs.Common.{◌==◌, ◌&&◌, ap, ap₂, arith, refl, sym, ◌∙◌, bytes_eq, slice_index}
use Rattle.std.proofs.lemmas.List.{take_all}
use Rattle.ll_door.proofs.SameLemmas.{same_more}
use Rattle.ll_door.proofs.digest.is_same.Goals as goal

pub loop-place-init : goal.loop-place-init
loop-place-init c = refl

pub loop-place-preserved : goal.loop-place-preserved
loop-place-preserved c =
    let one = c.args.one.now in
    let other = c.args.other.now in
    let at = c.loop-place.place in
    ap (λ b. b && (slice_index one at == slice_index other at)) c.loop-place.invariant
    ∙ sym (same_more at one other (omega (arith, c.told-one, c.loop-place-test.true)) (omega (arith, c.told-other, c.loop-place-test.true)))

pub returns : goal.returns
returns c =
    let one = c.args.one.now in
    let other = c.args.other.now in
    let at = c.loop-place.place in
    c.loop-place.invariant
    ∙ ap₂ bytes_eq (take_all at one (omega (arith, c.told-one, c.loop-place-test.false))) (take_all at other (omega (arith, c.told-other, c.loop-place-test.false)))
