-- What was still to be written is written last.
use Rattle.std.proofs.Common.{[]}
use Rattle.ll_attr.specs.Words.{pieces_at}
use Rattle.ll_entry.specs.Chain.{Between}
use Rattle.ll_explain.proofs.UpgradedLemmas.{failed-first, failed-more, written-all, written-cut, written-first, written-more}
use Rattle.ll_explain.proofs.upgraded.upgrade.Goals as goal

pub returns-then-write-clause-right : goal.returns-then-write-clause-right
returns-then-write-clause-right g c input is =
    let v = c.in-Ok.ensures.visited input is in
    let first = g.W.Writer.written c.args.out.now in
    let w = v.1 (written-first first c.new.result.items (pieces_at 10 input) c.new.ensures.items, failed-first (g.W.Writer.failures c.args.out.now)) in
    let all = written-more first (g.W.Writer.written c.go_over.new.sink) (g.W.Writer.written c.write.new.out) c.go_over.new.visitor.text.items c.write.new.self.text.items
    (Between v.0) (pieces_at 10 input) (pieces_at 10 []) w.0 c.write.ensures.written in (
      (c.in-Ok.field-0, c.in-Ok.ensures.value input is),
      written-all first (g.W.Writer.written c.write.new.out) c.write.new.self.text.items input v.0 all (c.write.ensures.all c.if-write.true),
    )

pub returns-in-Ok-clause-cut : goal.returns-in-Ok-clause-cut
returns-in-Ok-clause-cut g c input is =
    let v = c.in-Ok.ensures.visited input is in
    let first = g.W.Writer.written c.args.out.now in
    let w = v.1 (written-first first c.new.result.items (pieces_at 10 input) c.new.ensures.items, failed-first (g.W.Writer.failures c.args.out.now)) in
    let more = written-more first (g.W.Writer.written c.go_over.new.sink) (g.W.Writer.written c.write.new.out) c.go_over.new.visitor.text.items c.write.new.self.text.items
    (Between v.0) (pieces_at 10 input) (pieces_at 10 []) w.0 c.write.ensures.written in
    written-cut first (g.W.Writer.written c.write.new.out) c.write.new.self.text.items (Between v.0) (pieces_at 10 input) (pieces_at 10 []) more

pub returns-in-Err-clause-cut : goal.returns-in-Err-clause-cut
returns-in-Err-clause-cut g c input is =
    let first = g.W.Writer.written c.args.out.now in
    let h = c.in-Err.ensures.held input is (written-first first c.new.result.items (pieces_at 10 input) c.new.ensures.items, failed-first (g.W.Writer.failures c.args.out.now)) in
    written-cut first (g.W.Writer.written c.go_over.new.sink) c.go_over.new.visitor.text.items h.0 (pieces_at 10 input) h.1 h.3.0

pub returns-clause-cut : goal.returns-clause-cut
returns-clause-cut g c input is =
    let first = g.W.Writer.written c.args.out.now in
    let h = c.in-Err-2.ensures.held input is (written-first first c.new.result.items (pieces_at 10 input) c.new.ensures.items, failed-first (g.W.Writer.failures c.args.out.now)) in
    written-cut first (g.W.Writer.written c.go_over.new.sink) c.go_over.new.visitor.text.items h.0 (pieces_at 10 input) h.1 h.3.0

pub returns-in-Ok-clause-unwritten : goal.returns-in-Ok-clause-unwritten
returns-in-Ok-clause-unwritten g c input is e =
    let v = c.in-Ok.ensures.visited input is in
    let w = v.1 (written-first (g.W.Writer.written c.args.out.now) c.new.result.items (pieces_at 10 input) c.new.ensures.items, failed-first (g.W.Writer.failures c.args.out.now)) in
    (failed-more _ _ _ _ _ w.1 c.write.ensures.failed).1 (c.write.ensures.told c.if-write.false)

pub returns-in-Err-clause-unwritten : goal.returns-in-Err-clause-unwritten
returns-in-Err-clause-unwritten g c input is e =
    let h = c.in-Err.ensures.held input is (written-first (g.W.Writer.written c.args.out.now) c.new.result.items (pieces_at 10 input) c.new.ensures.items, failed-first (g.W.Writer.failures c.args.out.now)) in
    h.3.1.1 c.if-unwritten.true
