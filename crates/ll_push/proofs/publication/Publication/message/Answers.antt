-- The next message is the first of those that are still to be sent.
use Rattle.std.proofs.Common.{◌∙◌, arith, Err, ap, sym}
use Rattle.ll_push.specs.Meaning.{targeted}
use Rattle.ll_push.specs.Publishing.{told_ahead}
use Rattle.ll_push.specs.declared.fault.PushFault.TheVariants.{Input}
use Rattle.ll_push.proofs.NextLemmas.{last-taken, readily-first, readily-none, same-fed, same-nothing, same-same, same-taken}
use Rattle.ll_push.proofs.PieceLemmas.{not-some}
use Rattle.ll_push.proofs.ExchangeLemmas.{same-fault}
use Rattle.ll_push.proofs.publication.Publication.message.Goals as goal

pub returns-in_err-message-clause-refused : goal.returns-in_err-message-clause-refused
returns-in_err-message-clause-refused g c a fault told e =
    let same = c.loop.invariant.same a told in
    same-nothing (targeted c.args.target.now) c.args.self.now c.loop.self a _ same _
    (c.in_err-message.ensures.refused same.rest fault
    (ap (λ f. Err f) (same-fault c.from_residual.result c.in_err-message.field-0.0 (Input fault) c.from_residual.ensures.1 e)))

pub returns-in-Some-clause-next : goal.returns-in-Some-clause-next
returns-in-Some-clause-next g c a told =
    let same = c.loop.invariant.same a told in
    readily-first (targeted c.args.target.now) c.args.self.now c.loop.self a _ same c.ready.new.self _ c.in-Some.message c.in_ok-message.field-0 c.in-Some.is
    (c.in_ok-message.ensures.next (g.R.Reader.left c.loop.source) same.rest same.is_left)

pub returns-then-is_over-clause-next : goal.returns-then-is_over-clause-next
returns-then-is_over-clause-next g c a told =
    let t = targeted c.args.target.now in
    let same = c.loop.invariant.same a told in
    let left = told_ahead (g.R.Reader.left c.loop.source) (g.C.Calendar.coming c.ready.new.clock) in
    let still = readily-none t c.args.self.now c.loop.self a _ same c.ready.new.self left c.in_ok-message.field-0 (not-some c.in_ok-message.field-0 c.in_default.not-Some)
    (c.in_ok-message.ensures.next (g.R.Reader.left c.loop.source) same.rest same.is_left) in
    same-taken t c.args.self.now c.ready.new.self a left still.0 c.last.new.self left c.in_ok-last.field-0
    (last-taken t c.ready.new.self still.0.rest still.1 (sym c.is_over.ensures ∙ c.if-is_over.true) c.last.new.self left still.0.is_left c.in_ok-last.field-0 c.in_ok-last.ensures)

pub loop-preserved : goal.loop-preserved
loop-preserved g c = record {
  same = λ a told.
      let t = targeted c.args.target.now in
      let same = c.loop.invariant.same a told in
      let left = told_ahead (g.R.Reader.left c.loop.source) (g.C.Calendar.coming c.ready.new.clock) in
      let still = readily-none t c.args.self.now c.loop.self a _ same c.ready.new.self left c.in_ok-message.field-0 (not-some c.in_ok-message.field-0 c.in_default.not-Some)
      (c.in_ok-message.ensures.next (g.R.Reader.left c.loop.source) same.rest same.is_left) in
      same-same t c.args.self.now c.ready.new.self a left still.0 _ _
      (same-fed t c.ready.new.self still.1 still.0.rest (g.R.Reader.left c.loop.source) (g.R.Reader.left c.read_more.new.source) (g.C.Calendar.coming c.ready.new.clock)
      still.0.is_left c.read_more.new.cutter c.in_ok-read_more.ensures.fed);
  reads = let once = c.read_more.ensures.once in let reads = c.loop.invariant.reads in omega (arith, once, reads);
  steady = c.in_ok-read_more.ensures.steady ∙ c.loop.invariant.steady;
  calm = c.in_ok-message.ensures.steady ∙ c.loop.invariant.calm;
}
