-- A turn makes the piece of the segment at its place, and there is one at each place.
use Rattle.std.proofs.Common.{◌≡◌, ◌<◌, ◌+◌, ◌-◌, ◌++◌, ◌∷◌, [], ◌∙◌, ap, drop, length, map, sym, take, arith}
use Rattle.std.specs.Arc.{arc_value}
use Rattle.ll_pieces.specs.Piece.{finished_piece}
use Rattle.ll_pieces.proofs.PieceLemmas.{next-row, parts_after, segment_after, some-place}
use Rattle.ll_pieces.proofs.pieces.finished_of.Goals as goal
use Rattle.ll_pieces.proofs.pieces.finished_of.Goals.{in-Some+in_ok-of+in_ok-push, in_default}

pub loop-place-preserved : goal.loop-place-preserved
loop-place-preserved c =
    let n = c.args.skipped in
    let rows = c.args.window.now.window in
    let i = c.loop-place.place - n in
    let at : n + i ≡ c.loop-place.place = omega (arith, c.loop-place.auto.place) in
    let next : i + 1 ≡ c.loop-place.place + 1 - n = omega (arith, c.loop-place.auto.place) in
    elim c.match-segment.branch [
      | in-Some+in_ok-of+in_ok-push w ↦
          let pushed : c.match-segment.finished.items ≡ c.loop-place.finished.items ++ w.in_ok-of.field-0 ∷ [] = cc (w.finished-is, w.in_ok-push.ensures.items) in
          next-row arc_value c.loop-place.finished.items _ w.in_ok-of.field-0 (drop n rows) i w.in-Some.segment w.shown_parts-parts.result.now
          (segment_after rows n i c.loop-place.place _ at w.in-Some.ensures.value) (parts_after rows n i c.loop-place.place _ at w.shown_parts-parts.ensures)
          w.in_ok-of.ensures c.loop-place.invariant pushed
          ∙ ap (λ m. map finished_piece (take m (drop n rows))) next
      | in_default w ↦
          let within : c.loop-place.place < length rows = omega arith in
          absurd (some-place rows c.loop-place.place within (sym w.in_default.is ∙ c.segment.ensures.value))
    ]
