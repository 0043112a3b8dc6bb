-- The bits that are left come after those that were turned, which are as many as the steps.
use Rattle.std.proofs.Common.{◌≡◌, ◌-◌, ◌<◌, ◌^◌}
use Rattle.ll_codecs.specs.Hevc.{reversed}
use Rattle.ll_codecs.proofs.hevc.reversed.Given as goal

abbrev pub invariant-bits : goal.invariant-bits
invariant-bits l = record {
  same : reversed (32 - l.counter) l.turned l.left ≡ reversed 32 0 l.fn.number;
  small : l.turned < 2 ^ l.counter;
}
