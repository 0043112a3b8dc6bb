use Rattle.ll_record.proofs.Refused.{refused, refused-full, unrefused}
use Rattle.ll_record.specs.contracts.recorder.Recorder.{the_view}
use Rattle.ll_record.proofs.recorder.Recorder.test.Goals as goal

pub returns-in-Err-clause-refused : goal.returns-in-Err-clause-refused
returns-in-Err-clause-refused c = refused (the_view c.self.inside) c.args.self.now c.args.item.now c.in-Err.fault c.self.view_is c.in-Err.ensures.rule

pub returns-then-self-ge-RECORD_END-clause-refused : goal.returns-then-self-ge-RECORD_END-clause-refused
returns-then-self-ge-RECORD_END-clause-refused c =
    refused-full (the_view c.self.inside) c.args.self.now c.args.item.now c.self.view_is c.in_default.ensures.rule c.if-self-ge-RECORD_END.true

pub returns-clause-refused : goal.returns-clause-refused
returns-clause-refused c = unrefused (the_view c.self.inside) c.args.self.now c.args.item.now c.self.view_is c.in_default.ensures.rule c.if-self-ge-RECORD_END.false
