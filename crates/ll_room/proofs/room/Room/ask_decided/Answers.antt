-- The request gets what was decided, and the room takes it.
use Rattle.std.proofs.Common.{ap, subst, sym, ◌∙◌}
use Rattle.ll_room.specs.RoomValue.{less, tickets, with_presentation}
use Rattle.ll_room.specs.Decided.{IsDecided, reply_here, reply_in}
use Rattle.ll_room.specs.Kept.{with_answer}
use Rattle.ll_room.specs.contracts.room.Room.{the_view}
use Rattle.ll_verdict.specs.declared.reply.Reply.TheVariants as reply
use Rattle.ll_room.proofs.AskLemmas.{low, newest-held}
use Rattle.ll_room.proofs.DecideLemmas.{decided-holds, decided-stands}
use Rattle.ll_room.proofs.room.Room.ask_decided.Goals as goal

pub returns-in-NotFound-clause-asked : goal.returns-in-NotFound-clause-asked
returns-in-NotFound-clause-asked c es stands =
    let h = c.args.self.now in
    decided-stands h c.answer.new.self c.args.want c.args.decision reply.NotFound c.requires.decided (ap (reply_in h) c.in-NotFound.is) (low h (the_view c.self.inside) c.self.view_is c.self.invariant.target)
    c.answer.ensures.counted es stands

pub returns-in_ok-reply-in-There-clause-asked : goal.returns-in_ok-reply-in-There-clause-asked
returns-in_ok-reply-in-There-clause-asked c es stands =
    let h = c.args.self.now in
    decided-stands h c.answer-in-There.new.self c.args.want c.args.decision c.in_ok-reply-in-There.reply c.requires.decided
    (ap (reply_in h) c.in-There.is ∙ ap (λ x. reply_here x c.in-There.wanted) (sym c.self.view_is) ∙ c.in_ok-reply-in-There.ensures.reply)
    (low h (the_view c.self.inside) c.self.view_is c.self.invariant.target)
    (c.answer-in-There.ensures.counted ∙ ap (λ p. with_answer (with_presentation (the_view c.self.inside) p)) c.reply.ensures.unchanged ∙ ap with_answer c.self.view_is) es stands

pub returns-in-TooFar-clause-asked : goal.returns-in-TooFar-clause-asked
returns-in-TooFar-clause-asked c es stands =
    let h = c.args.self.now in
    decided-stands h c.answer-in-TooFar.new.self c.args.want c.args.decision reply.TooFar c.requires.decided (ap (reply_in h) c.in-TooFar.is) (low h (the_view c.self.inside) c.self.view_is c.self.invariant.target)
    c.answer-in-TooFar.ensures.counted es stands

pub returns-in-Busy-clause-asked : goal.returns-in-Busy-clause-asked
returns-in-Busy-clause-asked c es stands =
    let h = c.args.self.now in
    decided-stands h c.answer-in-Busy.new.self c.args.want c.args.decision reply.Busy c.requires.decided (ap (reply_in h) c.in-Busy.is) (low h (the_view c.self.inside) c.self.view_is c.self.invariant.target)
    c.answer-in-Busy.ensures.counted es stands

pub returns-in_ok-hold-in-Waits-clause-asked : goal.returns-in_ok-hold-in-Waits-clause-asked
returns-in_ok-hold-in-Waits-clause-asked c es stands =
    let h = c.args.self.now in
    decided-holds h c.hold.new.self c.args.want c.in-Waits.wanted (subst (IsDecided h c.args.want) c.in-Waits.is c.requires.decided) (low h (the_view c.self.inside) c.self.view_is c.self.invariant.target) c.in_ok-hold-in-Waits.ensures.held es stands

pub returns-in_ok-hold-in-Waits-clause-newest : goal.returns-in_ok-hold-in-Waits-clause-newest
returns-in_ok-hold-in-Waits-clause-newest c =
    let h = c.args.self.now in
    ap (λ p. less p.ticket (tickets c.hold.new.self)) c.in_ok-hold-in-Waits.ensures.parked
    ∙ newest-held h (the_view c.self.inside) c.hold.new.self c.in-Waits.wanted c.self.view_is c.self.invariant.below c.in_ok-hold-in-Waits.ensures.held
