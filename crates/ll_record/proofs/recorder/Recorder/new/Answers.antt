use Rattle.std.proofs.Common.{[]}
use Rattle.ll_record.proofs.Next.{none-open, recorded-new}
use Rattle.ll_record.proofs.recorder.Recorder.new.Goals as goal

pub invariant_of-result : goal.invariant_of-result
invariant_of-result c = record {
  events = [];
  recorded = recorded-new c.in_ok-new.field-0 c.args.channel c.args.settings c.new-2.result.lines c.in_ok-new.ensures c.new-2.ensures;
  room = none-open c.in_ok-new.field-0 c.args.channel c.args.settings c.new-2.result.free c.in_ok-new.ensures;
}
