-- One after another times out, the first deadline first.
use Rattle.std.proofs.Common.{◌^◌, ◌∙◌, ap, filter, find, length, option_map, refl, subst, sym, arith}
use Rattle.ll_book.specs.Numbers.{AreRising}
use Rattle.ll_verdict.specs.Waiting.{has_ticket, ticket_in}
use Rattle.ll_verdict.specs.declared.reply.Settled.TheVariants.{Timeout}
use Rattle.ll_book.specs.Release.{expired, is_over}
use Rattle.ll_book.proofs.BookLemmas.{few_pass, rising_changed}
use Rattle.ll_book.proofs.ExpireLemmas.{all_expired, expired_step, over_fewer}
use Rattle.ll_book.proofs.book.Book.expire.Goals as goal

pub loop-entry-init : goal.loop-entry-init
loop-entry-init c = record {
  rest = λ t. refl;
  left = omega arith;
  as_many = refl;
  rising = subst (AreRising ticket_in 0) c.self.view_is c.self.invariant.rising;
  few = few_pass (is_over c.args.now) c.self.inside.slots c.args.self.now c.len.result (2 ^ 63) c.self.view_is c.len.ensures.value c.len.ensures.few;
}

pub loop-entry-smaller : goal.loop-entry-smaller
loop-entry-smaller c =
    let w = c.in-Some.ensures.some in
    let less = over_fewer c.args.now c.in-Some.entry c.loop-entry.self c.loop-entry.invariant.rising w.0 w.1 in
    omega (arith, less, ap (λ ss. length (filter (is_over c.args.now) ss)) c.settle.ensures)

pub loop-entry-preserved : goal.loop-entry-preserved
loop-entry-preserved c =
    let w = c.in-Some.ensures.some in
    let less = over_fewer c.args.now c.in-Some.entry c.loop-entry.self c.loop-entry.invariant.rising w.0 w.1 in
    let before = c.loop-entry.invariant in
    record {
      rest = λ t. ap (λ ss. option_map (expired c.args.now) (find (has_ticket t) ss)) c.settle.ensures ∙ expired_step c.args.now c.in-Some.entry c.loop-entry.self w.0 w.1 t ∙ before.rest t;
      left = omega (arith, less, before.left, ap (λ ss. length (filter (is_over c.args.now) ss)) c.settle.ensures);
      as_many = omega (arith, before.as_many, c.first_over.ensures.looked);
      rising = subst (AreRising ticket_in 0) (sym c.settle.ensures) (rising_changed c.in-Some.entry.ticket Timeout c.loop-entry.self before.rising);
      few = before.few;
    }

pub returns-clause-slots : goal.returns-clause-slots
returns-clause-slots c =
    all_expired c.args.now c.loop-entry.self c.args.self.now c.loop-entry.invariant.rising (subst (AreRising ticket_in 0) c.self.view_is c.self.invariant.rising) c.in_default.ensures.none c.loop-entry.invariant.rest
