-- A turn writes the line of the date range at its place, and there is one at each place.
use Rattle.std.proofs.Common.{string_bytes, ap, ◌∙◌, arith}
use Rattle.ll_page.proofs.RangeLemmas.{next-range}
use Rattle.ll_page.proofs.playlist.push_ranges.Goals as goal
use Rattle.ll_page.proofs.playlist.push_ranges.Goals.{in-Some+in_ok-push_range, in_default}

pub loop-place-preserved : goal.loop-place-preserved
loop-place-preserved c =
    elim c.match-listed.branch [
      | in-Some+in_ok-push_range w ↦
          next-range (string_bytes c.loop-place.text) (string_bytes c.match-listed.text) _ c.args.ranges.now.listed c.loop-place.place _
          w.in-Some.ensures (ap string_bytes w.text-is ∙ w.in_ok-push_range.ensures) c.loop-place.invariant
      | in_default w ↦ absurd (omega (arith, w.in_default.ensures))
    ]
