use Rattle.std.specs.Prelude.{◌≡◌, ◌+◌, ◌≤◌, IsTrue, length, map, sum, vec_capacity, vec_len}
use mathlib.Core.List.{IsPrefix}
use Rattle.ll_hub.specs.Calls.{AreTotals}
use Rattle.ll_hub.proofs.locks.ChannelLocks.finish.Given as goal

abbrev pub invariant-loop-channel_lock : goal.invariant-loop-channel_lock
invariant-loop-channel_lock g l = record {
  totals : IsTrue l.at_home → AreTotals l.fn.self l.fn.past l.past l.found.items;
  grows : IsPrefix l.fn.past l.past;
  each : vec_len l.found + vec_len l.left ≡ length l.fn.self;
  room : vec_len l.found + vec_len l.left ≤ vec_capacity l.found;
  parts : l.all.parts ≡ l.fn.all.parts + vec_len l.found;
  publishes : l.all.publishes ≡ l.fn.all.publishes + sum (map (λ t. t.publishes) l.found.items);
  asks : l.all.asks ≡ l.fn.all.asks + sum (map (λ t. t.asks) l.found.items);
}

abbrev pub decreases-loop-channel_lock : goal.decreases-loop-channel_lock
decreases-loop-channel_lock g l = goal.left-loop-channel_lock g l
