-- One box more.
use Rattle.std.proofs.Common.{rules, arith, ◌≡◌, ◌+◌, ◌≤◌, ◌∙◌, false, Ok, Some, length, length-drop}
use Rattle.ll_mp4.specs.Boxes.{header_of}
use Rattle.ll_mp4.specs.Units.{is_last, size_limit}
use Rattle.ll_mp4.proofs.UnitLemmas.{unit_more}
use Rattle.ll_mp4.proofs.units.read_unit.Goals as goal

pub boxes-preserved : goal.boxes-preserved
boxes-preserved c =
    let head : header_of c.boxes.rest.now ≡ Ok (Some c.in-Some.head) = search rules in
    let few : c.boxes.end + c.in-Some.head.size ≤ size_limit = search rules in
    let whole : c.in-Some.head.size ≤ length c.boxes.rest.now = search rules in
    let more : is_last c.in-Some.head.kind ≡ false = search rules in
    rw c.split_at.ensures.back
    (record {
      same = c.boxes.invariant.same ∙ unit_more c.boxes.end c.boxes.rest.now c.in-Some.head head few whole more;
      sum = omega (arith, c.boxes.invariant.sum, whole, length-drop c.in-Some.head.size c.boxes.rest.now);
      few = few;
    })
