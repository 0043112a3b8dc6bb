-- An `mfra` box more, or one that is torn.
use Rattle.std.proofs.Common.{rules, ◌≡◌, ◌≤◌, ◌<◌, ◌∙◌, sym, true, false, Ok, Err, Some, None, length}
use Rattle.ll_mp4.specs.Boxes.{header_of}
use Rattle.ll_mp4.specs.Lefts.{is_index}
use Rattle.ll_mp4.proofs.LeftLemmas.{index_bad, index_more, index_none, index_other, index_torn}
use Rattle.ll_mp4.proofs.units.after_index.Goals as goal
use Rattle.ll_mp4.proofs.units.after_index.Goals.{in_default, in_default-2}

pub returns-then-head-come : goal.returns-then-head-come
returns-then-head-come c =
    let head : header_of c.boxes.rest.now ≡ Ok (Some c.in-Ok-Some.head) = search rules in
    let index : is_index c.in-Ok-Some.head.kind ≡ true = search rules in
    let part : length c.boxes.rest.now < c.in-Ok-Some.head.size = search rules in
    sym (c.boxes.invariant ∙ index_torn c.boxes.rest.now c.in-Ok-Some.head head index part)

pub boxes-preserved : goal.boxes-preserved
unfolding Rattle.ll_mp4.specs.Kinds.code
boxes-preserved c =
    let head : header_of c.boxes.rest.now ≡ Ok (Some c.in-Ok-Some.head) = search rules in
    let index : is_index c.in-Ok-Some.head.kind ≡ true = search rules in
    let whole : c.in-Ok-Some.head.size ≤ length c.boxes.rest.now = search rules in
    rw c.split_at.ensures.back (c.boxes.invariant ∙ index_more c.boxes.rest.now c.in-Ok-Some.head head index whole)

pub returns-then-head-code : goal.returns-then-head-code
returns-then-head-code c =
    let head : header_of c.boxes.rest.now ≡ Ok (Some c.in-Ok-Some.head) = search rules in
    let other : is_index c.in-Ok-Some.head.kind ≡ false = search rules in
    sym (c.boxes.invariant ∙ index_other c.boxes.rest.now c.in-Ok-Some.head head other)

pub returns : goal.returns
returns c =
    elim c.match-read_head.branch [
      | in_default w ↦
          (let none : header_of c.boxes.rest.now ≡ Ok None = search rules in
          sym (c.boxes.invariant ∙ index_none c.boxes.rest.now none))
      | in_default-2 w ↦
          (let bad : header_of c.boxes.rest.now ≡ Err w.in_default.field-0 = search rules in
          sym (c.boxes.invariant ∙ index_bad c.boxes.rest.now w.in_default.field-0 bad))
    ]
