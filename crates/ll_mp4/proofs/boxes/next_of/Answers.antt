-- The front box is one of the type, or another.
use Rattle.std.proofs.Common.{rules, ◌≡◌, ◌==◌, false}
use Rattle.ll_mp4.specs.Kinds.{code}
use Rattle.ll_mp4.proofs.BoxLemmas.{found_one, found_other}
use Rattle.ll_mp4.proofs.boxes.next_of.Goals as goal

pub returns-then-front-code-clause-told : goal.returns-then-front-code-clause-told
returns-then-front-code-clause-told c =
    let is : c.in-Some.front.kind ≡ code c.args.kind = search rules in
    found_one c.args.kind c.args.bytes.now c.boxes.rest.now _ c.in-Some.front c.boxes.invariant.same c.in_ok-front.ensures.told c.in-Some.is is

pub boxes-preserved : goal.boxes-preserved
boxes-preserved c =
    let is : (c.in-Some.front.kind == code c.args.kind) ≡ false = search rules in
    record {
      same = found_other c.args.kind c.args.bytes.now c.boxes.rest.now _ c.in-Some.front c.boxes.invariant.same c.in_ok-front.ensures.told c.in-Some.is is;
      shorter = search rules;
    }
