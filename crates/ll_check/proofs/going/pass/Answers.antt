-- What the checker has gone over of the text that was read, and what the visitor did.
use Rattle.std.proofs.Common.{◌≤◌, ◌^◌, ◌+◌, ◌++◌, ◌∙◌, [], ap, refl, rules, sym, subst}
use Rattle.ll_attr.specs.Words.{pieces_at}
use Rattle.ll_check.proofs.GoingLemmas.{ended-at}
use Rattle.ll_check.proofs.LaterLemmas.{later-as}
use Rattle.ll_check.proofs.ReachedLemmas.{passed-first}
use Rattle.ll_check.proofs.SourceLemmas.{has-passed}
use Rattle.ll_check.specs.Lines.{IsBehind, IsShort}
use Rattle.ll_check.specs.Steps.{Moves, Tells}
use Rattle.ll_check.specs.Visiting.{HasEnded}
use Rattle.ll_entry.specs.Chain.{checked_from}
use Rattle.ll_check.proofs.going.pass.Goals as goal

pub returns-in_default-clause-stayed : goal.returns-in_default-clause-stayed
returns-in_default-clause-stayed g c = λ _. (
  record {
    short = λ p there. subst (λ t. IsShort c.args.checker.now c.step.new.self p t) c.text.ensures (rw c.in_default.is at (c.in_ok-told.ensures.right p [] there));
    same = refl;
  },
  refl,
  refl,
)

pub returns-in_err-told-clause-ended : goal.returns-in_err-told-clause-ended
returns-in_err-told-clause-ended g c =
    let fact : HasEnded g.V.Visitor.holds c.args.checker.now c.args.unread.now.text c.args.visitor.now c.args.sink.now c.args.visitor.now c.args.sink.now =
    λ first p lines more at held. let mid = pieces_at 10 (c.args.unread.now.text ++ more) in (p, mid, passed-first p mid, held) in
    search (rules, fact)

pub returns-clause-passed : goal.returns-clause-passed
returns-clause-passed g c = λ _.
    let behind : IsBehind c.in-Some.rest.now c.text.result.now = rw c.in-Some.is at c.in_ok-told.ensures.behind in
    let left = c.keep.ensures.text behind.front c.in-Some.rest.now (sym c.text.ensures ∙ behind.are) refl in (
      (
        c.in-Some.told,
        has-passed c.args.checker.now c.step.new.self c.args.unread.now.text c.text.result.now c.in-Some.rest.now c.keep.new.self.text c.in-Some.told c.text.ensures left behind
            (λ p more there. rw c.in-Some.is at (c.in_ok-told.ensures.right p more there)),
        λ first p next lines mid rest at held by. c.visit.ensures.on first p next lines mid rest held by (subst (λ n. n ≤ 2 ^ 63) (c.entries-entry.ensures.value p at) c.entries-entry.ensures.few) c.if-not-visit.false,
      ),
      c.keep.ensures.reads,
    )

pub returns-then-not-visit-clause-wrong : goal.returns-then-not-visit-clause-wrong
returns-then-not-visit-clause-wrong g c = record {
  wrong = λ p more there kind. absurd (kind refl);
  later = λ p more there.
      let lines = pieces_at 10 (c.args.unread.now.text ++ more) in
      later-as (c.entries-entry.result + 1) p lines (checked_from p lines) refl (ap (λ n. n + 1) (c.entries-entry.ensures.value p there));
}

pub returns-then-not-visit-clause-ended : goal.returns-then-not-visit-clause-ended
returns-then-not-visit-clause-ended g c = λ first p lines more at held.
    let rest = pieces_at 10 (c.in-Some.rest.now ++ more) in
    let m : Moves c.step.new.self p c.in-Some.told (pieces_at 10 (c.text.result.now ++ more)) rest = rw c.in-Some.is at (c.in_ok-told.ensures.right p more at) in
    let mid = pieces_at 10 (c.args.unread.now.text ++ more) in
    let by : Tells p c.in-Some.told m.next mid rest = subst (λ t. Tells p c.in-Some.told m.next (pieces_at 10 (t ++ more)) rest) c.text.ensures m.by in
    ended-at g.V.Visitor.holds first c.visit.new.self c.visit.new.sink lines p m.next c.in-Some.told mid rest by
    (c.visit.ensures.ended first p m.next lines mid rest held by (subst (λ n. n ≤ 2 ^ 63) (c.entries-entry.ensures.value p at) c.entries-entry.ensures.few)
    c.if-not-visit.true)
