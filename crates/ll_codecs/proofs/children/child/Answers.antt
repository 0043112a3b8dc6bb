-- The front box is one of the type, or another.
use Rattle.std.proofs.Common.{rules, ◌≡◌, ◌==◌, false}
use Rattle.ll_codecs.proofs.ChildLemmas.{child_one, child_other}
use Rattle.ll_codecs.proofs.children.child.Goals as goal

pub returns-then-front-kind : goal.returns-then-front-kind
returns-then-front-kind c =
    let is : c.in-Some.front.kind ≡ c.args.kind = search rules in
    child_one c.args.kind c.args.bytes.now c.boxes.rest.now _ c.in-Some.front c.boxes.invariant c.in_ok-front.ensures.told c.in-Some.is is

pub boxes-preserved : goal.boxes-preserved
boxes-preserved c =
    let is : (c.in-Some.front.kind == c.args.kind) ≡ false = search rules in
    child_other c.args.kind c.args.bytes.now c.boxes.rest.now _ c.in-Some.front c.boxes.invariant c.in_ok-front.ensures.told c.in-Some.is is
