-- What is left of the record is known from the first read to the last.
use Rattle.std.proofs.Common.{◌∙◌, ℕ, List, None, ◌++◌, arith, inr, rules, subst}
use Rattle.ll_attr.specs.Words.{pieces_at}
use Rattle.ll_check.proofs.GoingLemmas.{GoingBy, by-early, by-elsewhere, by-ended, by-first, by-goes, by-held, by-past, by-stay, by-stayed, going-early, going-found, going-over}
use Rattle.ll_check.proofs.SourceLemmas.{end-fault, fault-of, known-end, known-so, reads-first, reads-on, stayed-end, stayed-read}
use Rattle.ll_check.proofs.StepLemmas.{GoesTo}
use Rattle.ll_check.specs.Found.{IsAt}
use Rattle.ll_check.specs.Going.{IsEarly, IsElsewhere, IsFound}
use Rattle.ll_check.specs.Passing.{IsWrongAt}
use Rattle.ll_check.specs.Unread.{IsFaultOf}
use Rattle.ll_check.specs.Visiting.{StaysWithin, StillHolds}
use Rattle.ll_check.specs.declared.source.RecordFault.TheVariants.{Wrong}
use Rattle.ll_entry.specs.Chain.{Between, Position}
use Rattle.ll_check.proofs.going.go_to.Goals as goal

pub pieces-init : goal.pieces-init
pieces-init g c =
    reads-first (g.R.Reader.left c.args.source.now) c.new-unread.result.text (g.R.Reader.reads c.args.source.now) (g.R.Reader.failures c.args.source.now) c.new-unread.result.reads
    (GoingBy g.V.Visitor.holds c.args.entry c.args.sink.now c.args.visitor.now c.new-checker.result c.args.visitor.now c.args.sink.now) c.new-unread.ensures.text
    c.new-unread.ensures.reads (by-first g.V.Visitor.holds c.args.entry c.args.sink.now c.args.visitor.now c.new-checker.result c.new-checker.ensures)

pub returns-in_err-found-clause-wrong : goal.returns-in_err-found-clause-wrong
returns-in_err-found-clause-wrong g c input is =
    let f = c.in_err-found.field-0.0 in
    let text = c.pieces.unread.text in
    let at : IsWrongAt c.pieces.checker text f = subst (λ x. IsWrongAt c.pieces.checker x f) c.text.ensures c.in_err-found.ensures.wrong in
    let fact : IsFaultOf input (Wrong f) =
    known-so (g.R.Reader.left c.pieces.source) text (GoingBy g.V.Visitor.holds c.args.entry c.args.sink.now c.args.visitor.now c.pieces.checker c.pieces.visitor c.pieces.sink input) (IsFaultOf input (Wrong f))
    (λ more h. fault-of c.pieces.checker input text more f (by-goes g.V.Visitor.holds c.args.entry c.args.sink.now c.args.visitor.now c.pieces.checker c.pieces.visitor c.pieces.sink input (text ++ more) h) at)
    (c.pieces.invariant.known input is) in
    search (rules, fact)

pub returns-in_err-found-clause-early : goal.returns-in_err-found-clause-early
returns-in_err-found-clause-early g c input is =
    let f = c.in_err-found.field-0.0 in
    let text = c.pieces.unread.text in
    let fact : IsEarly c.args.entry (Wrong f) =
    known-so (g.R.Reader.left c.pieces.source) text (GoingBy g.V.Visitor.holds c.args.entry c.args.sink.now c.args.visitor.now c.pieces.checker c.pieces.visitor c.pieces.sink input) (IsEarly c.args.entry (Wrong f))
    (λ more h. inr (omega (arith, c.in_err-found.ensures.place h.now h.at))) (c.pieces.invariant.known input is) in
    search (rules, fact)

pub returns-in_err-found-clause-held : goal.returns-in_err-found-clause-held
returns-in_err-found-clause-held g c input is =
    let fact : StaysWithin g.V.Visitor.holds c.args.sink.now c.args.visitor.now c.pieces.visitor c.pieces.sink (pieces_at 10 input) =
    known-so (g.R.Reader.left c.pieces.source) c.pieces.unread.text (GoingBy g.V.Visitor.holds c.args.entry c.args.sink.now c.args.visitor.now c.pieces.checker c.pieces.visitor c.pieces.sink input)
    (StaysWithin g.V.Visitor.holds c.args.sink.now c.args.visitor.now c.pieces.visitor c.pieces.sink (pieces_at 10 input))
    (λ more h. by-held g.V.Visitor.holds c.args.entry c.args.sink.now c.args.visitor.now c.pieces.checker c.pieces.visitor c.pieces.sink input (c.pieces.unread.text ++ more) h) (c.pieces.invariant.known input is) in
    search (rules, fact)

pub returns-in-Some-clause-gone : goal.returns-in-Some-clause-gone
returns-in-Some-clause-gone g c input is =
    let text = c.pieces.unread.text in
    let holds : Position → List (List ℕ) → Type 0 = StillHolds g.V.Visitor.holds c.args.sink.now c.args.visitor.now c.pieces.visitor c.pieces.sink (pieces_at 10 input) in
    known-so (g.R.Reader.left c.pieces.source) text (GoingBy g.V.Visitor.holds c.args.entry c.args.sink.now c.args.visitor.now c.pieces.checker c.pieces.visitor c.pieces.sink input)
    (IsFound holds c.args.entry (pieces_at 10 input) c.in-Some.found)
    (λ more h. going-found c.pieces.checker c.args.entry holds (pieces_at 10 input) c.text.result.now text more c.in-Some.found h c.text.ensures
    (λ p more at. rw c.in-Some.is at (c.in_ok-found.ensures.right p more at))) (c.pieces.invariant.known input is)

pub returns-in_err-pass-clause-wrong : goal.returns-in_err-pass-clause-wrong
returns-in_err-pass-clause-wrong g c input is =
    let f = c.in_err-pass.field-0.0 in
    let text = c.pieces.unread.text in
    let other : (p : Position) (more : List ℕ) → IsAt c.pieces.checker p → IsElsewhere c.pieces.checker c.reply_at.new.checker p c.args.entry c.text.result.now more =
    λ p more at. rw c.in_default.is at (c.in_ok-found.ensures.right p more at) in
    let fact : IsFaultOf input (Wrong f) =
    known-so (g.R.Reader.left c.pieces.source) text (GoingBy g.V.Visitor.holds c.args.entry c.args.sink.now c.args.visitor.now c.pieces.checker c.pieces.visitor c.pieces.sink input) (IsFaultOf input (Wrong f))
    (λ more h. fault-of c.reply_at.new.checker input text more f
    (by-elsewhere g.V.Visitor.holds c.args.entry c.args.sink.now c.args.visitor.now c.pieces.checker c.reply_at.new.checker c.pieces.visitor c.pieces.sink c.text.result.now other input (text ++ more) h) c.in_err-pass.ensures.wrong)
    (c.pieces.invariant.known input is) in
    search (rules, fact)

pub returns-in_err-pass-clause-early : goal.returns-in_err-pass-clause-early
returns-in_err-pass-clause-early g c input is =
    let f = c.in_err-pass.field-0.0 in
    let text = c.pieces.unread.text in
    let other : (p : Position) (more : List ℕ) → IsAt c.pieces.checker p → IsElsewhere c.pieces.checker c.reply_at.new.checker p c.args.entry c.text.result.now more =
    λ p more at. rw c.in_default.is at (c.in_ok-found.ensures.right p more at) in
    let fact : IsEarly c.args.entry (Wrong f) =
    known-so (g.R.Reader.left c.pieces.source) text (GoingBy g.V.Visitor.holds c.args.entry c.args.sink.now c.args.visitor.now c.pieces.checker c.pieces.visitor c.pieces.sink input) (IsEarly c.args.entry (Wrong f))
    (λ more h. by-early g.V.Visitor.holds c.args.entry c.args.sink.now c.args.visitor.now c.pieces.checker c.reply_at.new.checker c.pieces.visitor c.pieces.sink c.text.result.now f.entry other c.in_err-pass.ensures.place input
    (text ++ more) h) (c.pieces.invariant.known input is) in
    search (rules, fact)

pub returns-in_err-pass-clause-held : goal.returns-in_err-pass-clause-held
returns-in_err-pass-clause-held g c input is =
    let other : (p : Position) (more : List ℕ) → IsAt c.pieces.checker p → IsElsewhere c.pieces.checker c.reply_at.new.checker p c.args.entry c.text.result.now more =
    λ p more at. rw c.in_default.is at (c.in_ok-found.ensures.right p more at) in
    let fact : StaysWithin g.V.Visitor.holds c.args.sink.now c.args.visitor.now c.pass.new.visitor c.pass.new.sink (pieces_at 10 input) =
    known-so (g.R.Reader.left c.pieces.source) c.pieces.unread.text (GoingBy g.V.Visitor.holds c.args.entry c.args.sink.now c.args.visitor.now c.pieces.checker c.pieces.visitor c.pieces.sink input)
    (StaysWithin g.V.Visitor.holds c.args.sink.now c.args.visitor.now c.pass.new.visitor c.pass.new.sink (pieces_at 10 input))
    (λ more h. by-ended g.V.Visitor.holds c.args.entry c.args.sink.now c.args.visitor.now c.pieces.checker c.reply_at.new.checker c.pieces.visitor c.pass.new.visitor c.pieces.sink c.pass.new.sink
    c.text.result.now c.pieces.unread.text other c.in_err-pass.ensures.ended input more h) (c.pieces.invariant.known input is) in
    search (rules, fact)

pub pieces-preserved-then-branch : goal.pieces-preserved-then-branch
pieces-preserved-then-branch g c =
    let p = c.in_ok-pass.ensures.passed c.if-branch.true in
    let text = c.pieces.unread.text in
    let other : (p : Position) (more : List ℕ) → IsAt c.pieces.checker p → IsElsewhere c.pieces.checker c.reply_at.new.checker p c.args.entry c.text.result.now more =
    λ p more at. rw c.in_default.is at (c.in_ok-found.ensures.right p more at) in
    reads-on (g.R.Reader.left c.args.source.now) (g.R.Reader.left c.pieces.source) text c.pass.new.unread.text (g.R.Reader.reads c.args.source.now)
    (g.R.Reader.failures c.args.source.now) (g.R.Reader.reads c.pieces.source) c.pieces.unread.reads c.pass.new.unread.reads (g.R.Reader.failures c.pieces.source)
    (GoingBy g.V.Visitor.holds c.args.entry c.args.sink.now c.args.visitor.now c.pieces.checker c.pieces.visitor c.pieces.sink)
    (GoingBy g.V.Visitor.holds c.args.entry c.args.sink.now c.args.visitor.now c.pass.new.checker c.pass.new.visitor c.pass.new.sink) c.pieces.invariant p.1
    (by-past g.V.Visitor.holds c.args.entry c.args.sink.now c.args.visitor.now c.pieces.checker c.reply_at.new.checker c.pass.new.checker c.pieces.visitor c.pass.new.visitor
    c.pieces.sink c.pass.new.sink c.text.result.now text c.pass.new.unread.text p.0.0 c.text.ensures other p.0.1 p.0.2)

pub pieces-preserved : goal.pieces-preserved
pieces-preserved g c =
    let s = c.in_ok-pass.ensures.stayed c.if-branch.false in
    let other : (p : Position) (more : List ℕ) → IsAt c.pieces.checker p → IsElsewhere c.pieces.checker c.reply_at.new.checker p c.args.entry c.text.result.now more =
    λ p more at. rw c.in_default.is at (c.in_ok-found.ensures.right p more at) in
    stayed-read (g.R.Reader.left c.args.source.now) (g.R.Reader.left c.pieces.source) (g.R.Reader.left c.read.new.source) (g.R.Reader.reads c.args.source.now)
    (g.R.Reader.failures c.args.source.now) (g.R.Reader.reads c.pieces.source) (g.R.Reader.reads c.read.new.source) (g.R.Reader.failures c.pieces.source)
    (g.R.Reader.failures c.read.new.source) c.reply_at.new.checker c.pass.new.checker c.pieces.unread c.pass.new.unread c.read.new.self
    (GoingBy g.V.Visitor.holds c.args.entry c.args.sink.now c.args.visitor.now c.pieces.checker c.pieces.visitor c.pieces.sink)
    (GoingBy g.V.Visitor.holds c.args.entry c.args.sink.now c.args.visitor.now c.pass.new.checker c.pass.new.visitor c.pass.new.sink) c.pieces.invariant s.0 c.in_ok-read.ensures.same c.in_ok-read.ensures.once.0
    c.in_ok-read.ensures.once.1 c.in_ok-read.ensures.steady
    (by-stay g.V.Visitor.holds c.args.entry c.args.sink.now c.args.visitor.now c.pieces.checker c.reply_at.new.checker c.pass.new.checker c.pieces.visitor c.pass.new.visitor c.pieces.sink c.pass.new.sink c.text.result.now
    c.pieces.unread.text other s.0.short s.1 s.2)

pub returns-in_err-read-clause-held : goal.returns-in_err-read-clause-held
returns-in_err-read-clause-held g c input is =
    let s = c.in_ok-pass.ensures.stayed c.if-branch.false in
    let fact : StaysWithin g.V.Visitor.holds c.args.sink.now c.args.visitor.now c.pass.new.visitor c.pass.new.sink (pieces_at 10 input) =
    known-so (g.R.Reader.left c.pieces.source) c.pieces.unread.text (GoingBy g.V.Visitor.holds c.args.entry c.args.sink.now c.args.visitor.now c.pieces.checker c.pieces.visitor c.pieces.sink input)
    (StaysWithin g.V.Visitor.holds c.args.sink.now c.args.visitor.now c.pass.new.visitor c.pass.new.sink (pieces_at 10 input))
    (λ more h. by-stayed g.V.Visitor.holds c.args.entry c.args.sink.now c.args.visitor.now c.pieces.checker c.pieces.visitor c.pass.new.visitor c.pieces.sink c.pass.new.sink s.1 s.2 input
    (c.pieces.unread.text ++ more) h) (c.pieces.invariant.known input is) in
    search (rules, fact)

pub returns-in_err-end-clause-held : goal.returns-in_err-end-clause-held
returns-in_err-end-clause-held g c input is =
    let s = c.in_ok-pass.ensures.stayed c.if-branch.false in
    let fact : StaysWithin g.V.Visitor.holds c.args.sink.now c.args.visitor.now c.pass.new.visitor c.pass.new.sink (pieces_at 10 input) =
    known-so (g.R.Reader.left c.pieces.source) c.pieces.unread.text (GoingBy g.V.Visitor.holds c.args.entry c.args.sink.now c.args.visitor.now c.pieces.checker c.pieces.visitor c.pieces.sink input)
    (StaysWithin g.V.Visitor.holds c.args.sink.now c.args.visitor.now c.pass.new.visitor c.pass.new.sink (pieces_at 10 input))
    (λ more h. by-stayed g.V.Visitor.holds c.args.entry c.args.sink.now c.args.visitor.now c.pieces.checker c.pieces.visitor c.pass.new.visitor c.pieces.sink c.pass.new.sink s.1 s.2 input
    (c.pieces.unread.text ++ more) h) (c.pieces.invariant.known input is) in
    search (rules, fact)

pub returns-in_err-end-clause-wrong : goal.returns-in_err-end-clause-wrong
returns-in_err-end-clause-wrong g c input is =
    let f = c.in_err-end.field-0.0 in
    let s = c.in_ok-pass.ensures.stayed c.if-branch.false in
    let over = c.in_ok-read.ensures.end c.if-not-branch.true in
    let other : (p : Position) (more : List ℕ) → IsAt c.pieces.checker p → IsElsewhere c.pieces.checker c.reply_at.new.checker p c.args.entry c.text.result.now more =
    λ p more at. rw c.in_default.is at (c.in_ok-found.ensures.right p more at) in
    let r = stayed-read (g.R.Reader.left c.args.source.now) (g.R.Reader.left c.pieces.source) (g.R.Reader.left c.read.new.source) (g.R.Reader.reads c.args.source.now)
    (g.R.Reader.failures c.args.source.now) (g.R.Reader.reads c.pieces.source) (g.R.Reader.reads c.read.new.source) (g.R.Reader.failures c.pieces.source)
    (g.R.Reader.failures c.read.new.source) c.reply_at.new.checker c.pass.new.checker c.pieces.unread c.pass.new.unread c.read.new.self
    (GoingBy g.V.Visitor.holds c.args.entry c.args.sink.now c.args.visitor.now c.pieces.checker c.pieces.visitor c.pieces.sink)
    (λ input rest. GoesTo c.reply_at.new.checker (Between None) (pieces_at 10 input) (pieces_at 10 rest)) c.pieces.invariant s.0 c.in_ok-read.ensures.same
    c.in_ok-read.ensures.once.0 c.in_ok-read.ensures.once.1 c.in_ok-read.ensures.steady
    (by-elsewhere g.V.Visitor.holds c.args.entry c.args.sink.now c.args.visitor.now c.pieces.checker c.reply_at.new.checker c.pieces.visitor c.pieces.sink c.text.result.now other) in
    let h = known-end (g.R.Reader.left c.read.new.source) c.read.new.self.text
    (λ rest. GoesTo c.reply_at.new.checker (Between None) (pieces_at 10 input) (pieces_at 10 rest)) over.1 (r.known input is) in
    let fact : IsFaultOf input (Wrong f) =
    end-fault input f (stayed-end c.reply_at.new.checker c.pass.new.checker c.pieces.unread c.pass.new.unread input c.read.new.self.text c.text-then-not-branch.result.now c.end.result h
    s.0 over.0 c.text-then-not-branch.ensures c.end.ensures.value ∙ c.in_err-end.was) in
    search (rules, fact)

pub returns-in_err-end-clause-early : goal.returns-in_err-end-clause-early
returns-in_err-end-clause-early g c input is =
    let f = c.in_err-end.field-0.0 in
    let s = c.in_ok-pass.ensures.stayed c.if-branch.false in
    let over = c.in_ok-read.ensures.end c.if-not-branch.true in
    let holds : Position → List (List ℕ) → Type 0 =
    StillHolds g.V.Visitor.holds c.args.sink.now c.args.visitor.now c.pass.new.visitor c.pass.new.sink (pieces_at 10 input) in
    let other : (p : Position) (more : List ℕ) → IsAt c.pieces.checker p → IsElsewhere c.pieces.checker c.reply_at.new.checker p c.args.entry c.text.result.now more =
    λ p more at. rw c.in_default.is at (c.in_ok-found.ensures.right p more at) in
    let r = stayed-read (g.R.Reader.left c.args.source.now) (g.R.Reader.left c.pieces.source) (g.R.Reader.left c.read.new.source) (g.R.Reader.reads c.args.source.now)
    (g.R.Reader.failures c.args.source.now) (g.R.Reader.reads c.pieces.source) (g.R.Reader.reads c.read.new.source) (g.R.Reader.failures c.pieces.source)
    (g.R.Reader.failures c.read.new.source) c.reply_at.new.checker c.pass.new.checker c.pieces.unread c.pass.new.unread c.read.new.self
    (GoingBy g.V.Visitor.holds c.args.entry c.args.sink.now c.args.visitor.now c.pieces.checker c.pieces.visitor c.pieces.sink)
    (GoingBy g.V.Visitor.holds c.args.entry c.args.sink.now c.args.visitor.now c.pass.new.checker c.pass.new.visitor c.pass.new.sink) c.pieces.invariant s.0 c.in_ok-read.ensures.same c.in_ok-read.ensures.once.0
    c.in_ok-read.ensures.once.1 c.in_ok-read.ensures.steady
    (by-stay g.V.Visitor.holds c.args.entry c.args.sink.now c.args.visitor.now c.pieces.checker c.reply_at.new.checker c.pass.new.checker c.pieces.visitor c.pass.new.visitor c.pieces.sink c.pass.new.sink c.text.result.now
    c.pieces.unread.text other s.0.short s.1 s.2) in
    let h = known-end (g.R.Reader.left c.read.new.source) c.read.new.self.text (GoingBy g.V.Visitor.holds c.args.entry c.args.sink.now c.args.visitor.now c.pass.new.checker c.pass.new.visitor c.pass.new.sink input) over.1 (r.known input is) in
    let fact : IsEarly c.args.entry (Wrong f) =
    going-early c.pass.new.checker c.args.entry f.entry holds (pieces_at 10 input) (pieces_at 10 c.read.new.self.text) h c.in_err-end.ensures.place in
    search (rules, fact)

pub returns-then-not-branch-clause-gone : goal.returns-then-not-branch-clause-gone
returns-then-not-branch-clause-gone g c input is =
    let s = c.in_ok-pass.ensures.stayed c.if-branch.false in
    let over = c.in_ok-read.ensures.end c.if-not-branch.true in
    let holds : Position → List (List ℕ) → Type 0 =
    StillHolds g.V.Visitor.holds c.args.sink.now c.args.visitor.now c.pass.new.visitor c.pass.new.sink (pieces_at 10 input) in
    let other : (p : Position) (more : List ℕ) → IsAt c.pieces.checker p → IsElsewhere c.pieces.checker c.reply_at.new.checker p c.args.entry c.text.result.now more =
    λ p more at. rw c.in_default.is at (c.in_ok-found.ensures.right p more at) in
    let r = stayed-read (g.R.Reader.left c.args.source.now) (g.R.Reader.left c.pieces.source) (g.R.Reader.left c.read.new.source) (g.R.Reader.reads c.args.source.now)
    (g.R.Reader.failures c.args.source.now) (g.R.Reader.reads c.pieces.source) (g.R.Reader.reads c.read.new.source) (g.R.Reader.failures c.pieces.source)
    (g.R.Reader.failures c.read.new.source) c.reply_at.new.checker c.pass.new.checker c.pieces.unread c.pass.new.unread c.read.new.self
    (GoingBy g.V.Visitor.holds c.args.entry c.args.sink.now c.args.visitor.now c.pieces.checker c.pieces.visitor c.pieces.sink)
    (GoingBy g.V.Visitor.holds c.args.entry c.args.sink.now c.args.visitor.now c.pass.new.checker c.pass.new.visitor c.pass.new.sink) c.pieces.invariant s.0 c.in_ok-read.ensures.same c.in_ok-read.ensures.once.0
    c.in_ok-read.ensures.once.1 c.in_ok-read.ensures.steady
    (by-stay g.V.Visitor.holds c.args.entry c.args.sink.now c.args.visitor.now c.pieces.checker c.reply_at.new.checker c.pass.new.checker c.pieces.visitor c.pass.new.visitor c.pieces.sink c.pass.new.sink c.text.result.now
    c.pieces.unread.text other s.0.short s.1 s.2) in
    let h = known-end (g.R.Reader.left c.read.new.source) c.read.new.self.text (GoingBy g.V.Visitor.holds c.args.entry c.args.sink.now c.args.visitor.now c.pass.new.checker c.pass.new.visitor c.pass.new.sink input) over.1 (r.known input is) in
    let q = stayed-read (g.R.Reader.left c.args.source.now) (g.R.Reader.left c.pieces.source) (g.R.Reader.left c.read.new.source) (g.R.Reader.reads c.args.source.now)
    (g.R.Reader.failures c.args.source.now) (g.R.Reader.reads c.pieces.source) (g.R.Reader.reads c.read.new.source) (g.R.Reader.failures c.pieces.source)
    (g.R.Reader.failures c.read.new.source) c.reply_at.new.checker c.pass.new.checker c.pieces.unread c.pass.new.unread c.read.new.self
    (GoingBy g.V.Visitor.holds c.args.entry c.args.sink.now c.args.visitor.now c.pieces.checker c.pieces.visitor c.pieces.sink)
    (λ input rest. GoesTo c.reply_at.new.checker (Between None) (pieces_at 10 input) (pieces_at 10 rest)) c.pieces.invariant s.0 c.in_ok-read.ensures.same
    c.in_ok-read.ensures.once.0 c.in_ok-read.ensures.once.1 c.in_ok-read.ensures.steady
    (by-elsewhere g.V.Visitor.holds c.args.entry c.args.sink.now c.args.visitor.now c.pieces.checker c.reply_at.new.checker c.pieces.visitor c.pieces.sink c.text.result.now other) in
    let m = known-end (g.R.Reader.left c.read.new.source) c.read.new.self.text
    (λ rest. GoesTo c.reply_at.new.checker (Between None) (pieces_at 10 input) (pieces_at 10 rest)) over.1 (q.known input is) in
    let right = stayed-end c.reply_at.new.checker c.pass.new.checker c.pieces.unread c.pass.new.unread input c.read.new.self.text c.text-then-not-branch.result.now c.end.result m
    s.0 over.0 c.text-then-not-branch.ensures c.end.ensures.value ∙ c.in_ok-end.was in
    going-over c.pass.new.checker c.args.entry c.in_ok-end.field-0 holds input c.read.new.self.text c.text-then-not-branch.result.now h c.text-then-not-branch.ensures c.in_ok-end.ensures.over right
