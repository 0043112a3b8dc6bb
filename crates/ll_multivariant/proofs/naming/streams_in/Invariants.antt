-- The renditions that are left go on with those that were named.
use Rattle.std.proofs.Common.{◌≡◌, ◌+◌, [], length}
use Rattle.ll_multivariant.specs.Naming.{streams_after, streams_in}
use Rattle.ll_multivariant.proofs.naming.streams_in.Given as goal

abbrev pub invariant-sources : goal.invariant-sources
invariant-sources l = record {
  same : streams_after [] (streams_in l.fn.settings l.fn.additions 0 l.fn.sources) ≡ streams_after l.streams.items (streams_in l.fn.settings l.fn.additions l.number l.left);
  few : l.number + length l.left ≡ length l.fn.sources;
}

abbrev pub decreases-sources : goal.decreases-sources
decreases-sources l = length l.left
