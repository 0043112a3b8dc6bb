-- Each read adds to what came, until it ends by LF.
use Rattle.std.proofs.Common.{◌∙◌, ◌-◌, ◌+◌, take, rules}
use borrow.Rule.Slice.PartMut.{put_mid, same_len_mid}
use Rattle.ll_push.specs.Exchanges.{link_value}
use Rattle.ll_push.proofs.ReadLemmas.{come-more, cut-by, ends-by, long-by, said-by}
use Rattle.ll_push.proofs.answer.read_answer.Goals as goal

pub returns-in_err-len-clause-read : goal.returns-in_err-len-clause-read
returns-in_err-len-clause-read g c =
    let value = link_value g.P.Writer.written g.P.Writer.inward g.P.Writer.failures in
    cut-by (value c.args.link.now) (value c.loop-len.link) (value c.read_some.new.link) (take c.loop-len.len c.loop-len.line) c.from_residual.result c.in_err-len.field-0.0
    c.loop-len.invariant.steady c.loop-len.invariant.come c.in_err-len.ensures.lost.1 c.in_err-len.ensures.lost.0 c.from_residual.ensures.1

pub returns-then-line-len-eq10-clause-read : goal.returns-then-line-len-eq10-clause-read
returns-then-line-len-eq10-clause-read g c =
    let value = link_value g.P.Writer.written g.P.Writer.inward g.P.Writer.failures in
    let len = c.loop-len.len + c.in_ok-len.field-0 in
    let line = put_mid c.loop-len.len (128 - c.loop-len.len) c.loop-len.line c.read_some.new.buf in
    let come = come-more (g.P.Writer.inward c.args.link.now) (g.P.Writer.inward c.loop-len.link) (g.P.Writer.inward c.read_some.new.link) c.loop-len.line c.read_some.new.buf
    c.loop-len.len (128 - c.loop-len.len) c.in_ok-len.field-0 (search rules) c.in_ok-len.ensures.count.1 c.loop-len.invariant.come c.in_ok-len.ensures.came in
    said-by (value c.args.link.now) (value c.read_some.new.link) (take len line) (take (len - 1) line) c.answer_of.result
    (c.in_ok-len.ensures.steady ∙ c.loop-len.invariant.steady) come (ends-by line len 0 (search rules) (search rules) c.if-line-len-eq10.true) c.answer_of.ensures.said

pub returns-clause-read : goal.returns-clause-read
returns-clause-read g c = (
  take c.loop-len.len c.loop-len.line,
  c.loop-len.invariant.come,
  long-by c.loop-len.line c.loop-len.len c.loop-len.invariant.long c.loop-len.invariant.within c.loop-len-test.false,
)

pub loop-len-preserved : goal.loop-len-preserved
loop-len-preserved g c = record {
  within = search rules;
  long = same_len_mid c.loop-len.len (128 - c.loop-len.len) c.loop-len.line c.read_some.new.buf c.read_some.auto.buf ∙ c.loop-len.invariant.long;
  come =
      come-more (g.P.Writer.inward c.args.link.now) (g.P.Writer.inward c.loop-len.link) (g.P.Writer.inward c.read_some.new.link) c.loop-len.line c.read_some.new.buf c.loop-len.len
      (128 - c.loop-len.len) c.in_ok-len.field-0 (search rules) c.in_ok-len.ensures.count.1 c.loop-len.invariant.come c.in_ok-len.ensures.came;
  steady = c.in_ok-len.ensures.steady ∙ c.loop-len.invariant.steady;
  unwritten = search rules;
}
