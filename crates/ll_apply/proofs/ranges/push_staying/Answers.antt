-- A turn writes the line of the date range at its place if it stays, and there is one at each place.
use Rattle.std.proofs.Common.{true, false, string_bytes, ap, sym, ◌∙◌, arith}
use Rattle.std.proofs.lemmas.List.{append-nil}
use Rattle.ll_apply.specs.Applied as spec
use Rattle.ll_apply.proofs.Staying.{next-staying}
use Rattle.ll_apply.proofs.ranges.push_staying.Goals as goal
use Rattle.ll_apply.proofs.ranges.push_staying.Goals.{in-Some+then-stays+in_ok-push_line, in-Some+else-stays, in_default}

pub loop-place-preserved : goal.loop-place-preserved
loop-place-preserved c =
    elim c.match-range.branch [
      | in-Some+then-stays+in_ok-push_line w ↦
          next-staying (spec.stays c.args.removed.now c.args.delta.now.ranges) (string_bytes c.loop-place.text) (string_bytes c.match-range.text) _ c.args.base.now.ranges
          c.loop-place.place _ true w.in-Some.ensures (sym (w.stays.ensures c.args.removed.now c.in_ok-removed.ensures) ∙ w.if-stays.true)
          (ap string_bytes w.text-is ∙ w.in_ok-push_line.ensures) c.loop-place.invariant
      | in-Some+else-stays w ↦
          next-staying (spec.stays c.args.removed.now c.args.delta.now.ranges) (string_bytes c.loop-place.text) (string_bytes c.match-range.text) _ c.args.base.now.ranges
          c.loop-place.place _ false w.in-Some.ensures (sym (w.stays.ensures c.args.removed.now c.in_ok-removed.ensures) ∙ w.if-stays.false)
          (ap string_bytes w.text-is ∙ sym (append-nil (string_bytes c.loop-place.text))) c.loop-place.invariant
      | in_default w ↦ absurd (omega (arith, w.in_default.ensures))
    ]
