-- One after another gets its reply.
use Rattle.std.proofs.Common.{◌^◌, ◌∙◌, ap, filter, find, length, option_map, refl, subst, sym, arith}
use Rattle.ll_book.specs.Numbers.{AreRising}
use Rattle.ll_verdict.specs.Waiting.{has_ticket, ticket_in}
use Rattle.ll_book.specs.Release.{HoldersValue, takes}
use Rattle.ll_book.proofs.BookLemmas.{few_pass, rising_changed}
use Rattle.ll_book.proofs.ReplyLemmas.{HasReplies, all_released, have_replies, reply_given, replied, replies_left, released_found, takes_fewer}
use Rattle.ll_book.proofs.book.Book.release.Goals as goal

pub loop-entry-init : goal.loop-entry-init
loop-entry-init c =
    let rising = subst (AreRising ticket_in 0) c.self.view_is c.self.invariant.rising in
    record {
      rest = λ t. ap (λ (h : HoldersValue). option_map (replied c.args.which h.holders) (find (has_ticket t) c.args.self.now)) c.holders.view_is ∙ released_found c.args.which c.args.holders.holders c.args.self.now rising c.requires.those t;
      pages = subst (λ (h : HoldersValue). HasReplies c.args.which h.holders c.args.self.now) (sym c.holders.view_is) (have_replies c.args.which c.args.holders.holders c.args.self.now c.requires.those);
      left = omega arith;
      as_many = refl;
      rising = rising;
      few = few_pass (takes c.args.which) c.self.inside.slots c.args.self.now c.len.result (2 ^ 63) c.self.view_is c.len.ensures.value c.len.ensures.few;
    }

pub loop-entry-smaller : goal.loop-entry-smaller
loop-entry-smaller c =
    let w = c.in-Some.ensures.some in
    let less = takes_fewer c.args.which c.in-Some.entry c.in-Some-remove.reply c.loop-entry.self c.loop-entry.invariant.rising w.0 w.1 in
    omega (arith, less, ap (λ ss. length (filter (takes c.args.which) ss)) c.settle.ensures)

pub loop-entry-preserved : goal.loop-entry-preserved
loop-entry-preserved c =
    let w = c.in-Some.ensures.some in
    let less = takes_fewer c.args.which c.in-Some.entry c.in-Some-remove.reply c.loop-entry.self c.loop-entry.invariant.rising w.0 w.1 in
    let before = c.loop-entry.invariant in
    record {
      rest = λ t. ap (λ ss. option_map (replied c.args.which c.remove.new.self.entries) (find (has_ticket t) ss)) c.settle.ensures
          ∙ reply_given c.args.which c.in-Some.entry c.in-Some-remove.reply c.loop-entry.replies.entries c.remove.new.self.entries c.loop-entry.self w.0 w.1
          c.in-Some-remove.ensures.value c.remove.ensures.updates.0 t ∙ before.rest t;
      pages = subst (HasReplies c.args.which c.remove.new.self.entries) (sym c.settle.ensures)
          (replies_left c.args.which c.in-Some.entry c.in-Some-remove.reply c.loop-entry.replies.entries c.remove.new.self.entries c.loop-entry.self before.pages c.remove.ensures.updates.0);
      left = omega (arith, less, before.left, ap (λ ss. length (filter (takes c.args.which) ss)) c.settle.ensures);
      as_many = omega (arith, before.as_many, c.first_taken.ensures.looked);
      rising = subst (AreRising ticket_in 0) (sym c.settle.ensures) (rising_changed c.in-Some.entry.ticket c.in-Some-remove.reply c.loop-entry.self before.rising);
      few = before.few;
    }

pub returns-clause-slots : goal.returns-clause-slots
returns-clause-slots c =
    all_released c.args.which c.loop-entry.replies.entries c.args.holders.holders c.loop-entry.self c.args.self.now c.loop-entry.invariant.rising (subst (AreRising ticket_in 0) c.self.view_is c.self.invariant.rising)
    c.requires.those c.in_default.ensures.none c.loop-entry.invariant.rest
