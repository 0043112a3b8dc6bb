-- The answers so far and what is taken from the rest are together what is taken from all.
use Rattle.std.proofs.Common.{◌≤◌, ◌-◌, length, drop}
use Rattle.ll_session.specs.Talk.{taking}
use Rattle.ll_session.specs.Told.{AddsUp}
use Rattle.ll_session.proofs.taken.take_front.Given as goal

abbrev pub invariant-loop-told : goal.invariant-loop-told
invariant-loop-told l = record {
  within : l.at ≤ length l.unread;
  stands : AddsUp (taking l.unread) l.told (taking (drop l.at l.unread));
}

abbrev pub decreases-loop-told : goal.decreases-loop-told
decreases-loop-told l = length l.unread - l.at
