-- A turn writes the line of the date range at its place, and there is one at each place.
use Rattle.std.proofs.Common.{string_bytes, ap, ◌∙◌, arith}
use Rattle.ll_read.proofs.RangesLeft.{next-range}
use Rattle.ll_read.proofs.playlist.Playlist.push_ranges.Goals as goal
use Rattle.ll_read.proofs.playlist.Playlist.push_ranges.Goals.{in-Some+in_ok-push_line, in_default}

pub loop-place-preserved : goal.loop-place-preserved
loop-place-preserved c =
    elim c.match-range.branch [
      | in-Some+in_ok-push_line w ↦
          next-range (string_bytes c.loop-place.text) (string_bytes c.match-range.text) _ c.args.self.now.ranges c.loop-place.place _
          w.in-Some.ensures (ap string_bytes w.text-is ∙ w.in_ok-push_line.ensures) c.loop-place.invariant
      | in_default w ↦ absurd (omega (arith, w.in_default.ensures))
    ]
