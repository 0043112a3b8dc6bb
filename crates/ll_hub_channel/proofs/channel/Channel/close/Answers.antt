use Rattle.std.proofs.Common.{◌≡◌, ◌∙◌, ◌++◌, ◌∷◌, [], true, refl, ap, subst, sym, true≢false}
use Rattle.ll_record.specs.Recording.{IsRecorded}
use Rattle.ll_room.specs.Answers as room
use Rattle.ll_room.specs.RoomValue.{among, less, tickets}
use Rattle.ll_room.specs.Ticket.{Ticket}
use Rattle.ll_room.specs.declared.asked.Closed.TheVariants as given_up
use Rattle.ll_hub_channel.proofs.ToldLemmas.{among-open, closes, left-beside, none-missing, the-value}
use Rattle.ll_hub_channel.specs.Channel.{ticket_at}
use Rattle.ll_hub_channel.specs.Section.{IsClosed, IsOpenAt}
use Rattle.ll_verdict.specs.Events.{Close}
use Rattle.ll_hub_channel.proofs.channel.Channel.close.Goals as goal
use Rattle.ll_hub_channel.proofs.channel.Channel.close.Goals.{After-close}

here : (c : After-close) → IsOpenAt c.self.inside.recorder c.args.known.place c.args.known.settings.now c.args.entry
here c = c.if-not-is_here.ensures.0 refl

open_there : (c : After-close) → among c.args.entry.ticket (tickets c.self.inside.recorder.room) ≡ true
open_there c = among-open _ c.self.inside.recorder.room.slots _ (here c).open_there

-- the value that stands for the request is taken out
its-value : (c : After-close) → c.in-Some.parked ≡ ticket_at c.self.inside.recorder.room.channel c.args.entry.ticket
its-value c = the-value _ _ _ (open_there c) c.in-Some.ensures.value

done : (c : After-close) → c.close.result ≡ given_up.Done
done c = c.close.ensures.answer ∙ closes c.self.inside.recorder.room c.in-Some.parked c.args.entry.ticket (its-value c) (open_there c)

is-done : (c : After-close) → room.is_done c.close.result ≡ true
is-done c = ap room.is_done (done c)

pub unreachable-requires : goal.unreachable-requires
unreachable-requires c =
    none-missing _ _ (among-open _ c.self.inside.recorder.room.slots _ (c.if-not-is_here.ensures.0 refl).open_there)
    (sym c.in_default.is ∙ c.take.ensures.value)

pub unreachable-requires-in-Stranger : goal.unreachable-requires-in-Stranger
unreachable-requires-in-Stranger c =
    true≢false (sym (is-done (goal.at.unreachable-requires-in-Stranger c).After-close) ∙ ap room.is_done c.in-Stranger.is)

pub invariant_of-self : goal.invariant_of-self
invariant_of-self c =
    let at = (goal.at.invariant_of-self c).After-close in
    left-beside c.self.inside.recorder c.close.new.self _ c.args.entry.ticket _ _ c.self.invariant
    (c.close.ensures.given_up (is-done at) c.self.invariant.events c.self.invariant.recorded) c.close.ensures.goes_on.same
    (c.close.ensures.fewer (is-done at) ∙ ap (λ (p : Ticket). less p.ticket (tickets c.self.inside.recorder.room)) (its-value at))
    c.in-Some.ensures.left

pub returns-clause-closed : goal.returns-clause-closed
returns-clause-closed c =
    let at = (goal.at.returns-clause-closed c).After-close in
    subst (λ r. IsClosed r c.close.new.self c.args.known.place c.args.known.settings.now c.args.entry) c.self.view_is (record {
      open_there = here at;
      recorded = λ es before. subst (λ (p : Ticket). IsRecorded c.close.new.self (es ++ Close p.ticket ∷ [])) (its-value at) (c.close.ensures.given_up (is-done at) es before);
    })
