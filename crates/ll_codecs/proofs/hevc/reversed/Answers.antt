-- A step turns one more bit.
use Rattle.std.proofs.Common.{rules, ◌<◌, ◌%◌, arith}
use Rattle.ll_codecs.proofs.HevcLemmas.{bit_more, turned_more}
use Rattle.ll_codecs.proofs.hevc.reversed.Goals as goal

pub bits-preserved : goal.bits-preserved
bits-preserved c =
    let on : c.bits.counter < 32 = search rules in
    let bit : c.bits.left % 2 < 2 = omega arith in
    record {
      same = bit_more c.bits.counter c.bits.turned c.bits.left _ on c.bits.invariant.same;
      small = turned_more c.bits.counter c.bits.turned (c.bits.left % 2) c.bits.invariant.small bit;
    }
