-- Each step leads on, and at the end nothing is left.
use Rattle.ll_attr.specs.Words.{pieces_at}
use Rattle.ll_check.proofs.StepLemmas.{GoesTo, goes-on}
use Rattle.ll_check.specs.Found.{IsAt}
use Rattle.ll_check.specs.Steps.{Moves}
use Rattle.ll_entry.specs.Chain.{Position}
use Rattle.ll_check.proofs.checker.Checker.read.Goals as goal
use Rattle.ll_check.proofs.checker.Checker.read.Goals.{In-Some}

on : (c : In-Some) (p : Position) → IsAt c.args.self.now p → GoesTo c.next.new.self p (pieces_at 10 c.args.bytes.now) (pieces_at 10 c.in-Some.more.now)
on c p at =
    let told : (q : Position) → IsAt c.loop-told.self q
    → Moves c.next.new.self q c.in-Some._told (pieces_at 10 c.loop-told.rest.now) (pieces_at 10 c.in-Some.more.now) = λ q there. rw c.in-Some.is at (c.in_ok-_told.ensures.right q there) in
    goes-on c.loop-told.self c.next.new.self p (pieces_at 10 c.args.bytes.now) (pieces_at 10 c.loop-told.rest.now) c.in-Some.more.now c.in-Some._told
    (c.loop-told.invariant p at) told

pub loop-told-preserved : goal.loop-told-preserved
loop-told-preserved c = on (goal.at.loop-told-preserved c).In-Some

pub loop-told-preserved-in-Some : goal.loop-told-preserved-in-Some
loop-told-preserved-in-Some c = on (goal.at.loop-told-preserved-in-Some c).In-Some

pub loop-told-preserved-in-Some-2 : goal.loop-told-preserved-in-Some-2
loop-told-preserved-in-Some-2 c = on (goal.at.loop-told-preserved-in-Some-2 c).In-Some
