-- The replies, made one after another in the order of what is awaited, are those of the release in order of tickets.
use Rattle.std.proofs.Common.{◌∙◌, ◌≡◌, ◌^◌, ap, None, find, refl, subst, sym, arith}
use Rattle.std.specs.Ordering.{is_gt}
use Rattle.ll_book.specs.Numbers.{AreRising}
use Rattle.ll_book.specs.Places.{place_cmp}
use Rattle.ll_verdict.specs.Waiting.{has_ticket, ticket_in}
use Rattle.ll_book.specs.Orders.{holder_at, is_held, is_passed, reply_under, reply_if, start}
use Rattle.ll_book.specs.Release.{holders_of, takes}
use Rattle.ll_book.proofs.Holding.{supply_of}
use Rattle.ll_book.proofs.BookLemmas.{few_pass}
use Rattle.ll_book.proofs.HolderLemmas.{fewer_to_come, first_to_come, from_turn, held_turn, holders_are, none_held, not_gt}
use Rattle.ll_book.proofs.book.Book.holders.Goals as goal

pub loop-place-init : goal.loop-place-init
loop-place-init c =
    let rising = subst (AreRising ticket_in 0) c.self.view_is c.self.invariant.rising in
    record {
      met = λ t. ap (λ es. reply_under es t) c.new-holders.ensures.empty
          ∙ subst (λ p. None ≡ reply_if (is_passed (is_held c.args.which p) (find (has_ticket t) c.args.self.now)) (holder_at (supply_of c.args.pages.now c.args.part.now) c.args.self.now t)) (sym c.start-after.ensures)
          (none_held c.args.which (supply_of c.args.pages.now c.args.part.now) c.args.self.now rising t);
      from = ap (λ p. is_gt (place_cmp (start c.args.which) p)) c.start-after.ensures ∙ not_gt (start c.args.which);
      counted = (let le = first_to_come c.args.which c.start-after.result c.args.self.now in omega (arith, le));
      few = few_pass (takes c.args.which) c.self.inside.slots c.args.self.now c.len.result (2 ^ 63) c.self.view_is c.len.ensures.value c.len.ensures.few;
      same = refl;
    }

pub loop-place-smaller : goal.loop-place-smaller
loop-place-smaller c = fewer_to_come c.args.which c.args.self.now c.loop-place.after c.in-Some.place c.in-Some.ensures.some

pub loop-place-preserved : goal.loop-place-preserved
loop-place-preserved c =
    let before = c.loop-place.invariant in
    let next = c.in-Some.ensures.some in
    let less = fewer_to_come c.args.which c.args.self.now c.loop-place.after c.in-Some.place next in
    let same_pages = c.add_holder.ensures.pages in
    record {
      met = λ t. held_turn c.args.which c.args.self.now c.loop-place.after c.in-Some.place next (supply_of c.loop-place.pages c.args.part.now) c.loop-place.holders.entries c.add_holder.new.holders.entries c.in_ok-add_holder.ensures.added before.met t
          ∙ ap (λ p. reply_if (is_passed (is_held c.args.which c.in-Some.place) (find (has_ticket t) c.args.self.now)) (holder_at (supply_of p c.args.part.now) c.args.self.now t)) (sym same_pages);
      from = from_turn c.args.which c.args.self.now c.loop-place.after c.in-Some.place next before.from;
      counted = omega (arith, before.counted, less, c.next_taken.ensures.looked);
      few = before.few;
      same = same_pages ∙ before.same;
    }

pub returns-clause-holders : goal.returns-clause-holders
returns-clause-holders c =
    holders_are (supply_of c.loop-place.pages c.args.part.now) c.args.which c.loop-place.after c.args.self.now c.loop-place.holders.entries (subst (AreRising ticket_in 0) c.self.view_is c.self.invariant.rising) c.len-2.ensures.ordered
    c.in_default.ensures.none c.loop-place.invariant.met
    ∙ ap (λ p. holders_of (supply_of p c.args.part.now) c.args.which c.args.self.now) c.loop-place.invariant.same
