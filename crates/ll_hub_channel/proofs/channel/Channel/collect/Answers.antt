use Rattle.std.proofs.Common.{◌≡◌, ◌∙◌, ◌++◌, ◌∷◌, [], List, true, true≢false, refl, sym, subst, ap}
use Rattle.ll_record.specs.Recording.{IsRecorded}
use Rattle.ll_room.specs.declared.stamped.Stamp.TheVariants as stamp
use Rattle.ll_verdict.specs.Events.{Event, Collect}
use Rattle.ll_verdict.specs.declared.reply.Reply.{Reply}
use Rattle.ll_room.specs.Answers as room
use Rattle.ll_room.specs.RoomValue.{less, tickets}
use Rattle.ll_room.specs.StampedValue.{StampedValue}
use Rattle.ll_room.specs.Ticket.{Ticket}
use Rattle.ll_room.specs.declared.asked.Collected.TheVariants.{Got}
use Rattle.ll_hub_channel.proofs.CountLemmas.{as-counted}
use Rattle.ll_hub_channel.proofs.ToldLemmas.{IsHanded, among-ready, handed, left-beside, none-missing, the-value, tried}
use Rattle.ll_hub_channel.specs.Channel.{ticket_at}
use Rattle.ll_hub_channel.specs.Section.{IsAsCounted, IsCollected}
use Rattle.ll_hub_channel.specs.Told.{IsDecided}
use Rattle.ll_hub_channel.proofs.channel.Channel.collect.Goals as goal
use Rattle.ll_hub_channel.proofs.channel.Channel.collect.Goals.{After-collect}

-- the value that stands for the request is taken out
its-value : (c : After-collect) → c.in-Some.parked ≡ ticket_at c.self.inside.recorder.room.channel c.args.entry.ticket
its-value c =
    the-value _ _ _ (among-ready _ c.self.inside.recorder.room.slots _ (c.if-not-is_ready.ensures.0 refl))
    c.in-Some.ensures.value

-- its reply is there, and is handed out
reply : (c : After-collect) (es : List Event) → IsRecorded c.self.inside.recorder es → IsHanded c.self.inside.recorder.room es c.args.entry
reply c es k = handed c.self.inside.recorder.room es c.args.entry k.stands (c.if-not-is_ready.ensures.0 refl)

got : (c : After-collect) (es : List Event) (k : IsRecorded c.self.inside.recorder es)
    → c.collect.result ≡ Got (room.collected_at c.self.inside.recorder.room c.args.entry.ticket (reply c es k).answer)
got c es k = c.collect.ensures.answer ∙ ap (room.collected c.self.inside.recorder.room) (its-value c) ∙ (reply c es k).got

is-got : (c : After-collect) → room.is_got c.collect.result ≡ true
is-got c = ap room.is_got (got c c.self.invariant.events c.self.invariant.recorded)

pub unreachable-requires : goal.unreachable-requires
unreachable-requires c =
    none-missing _ _ (among-ready _ c.self.inside.recorder.room.slots _ (c.if-not-is_ready.ensures.0 refl))
    (sym c.in_default.is ∙ c.take.ensures.value)

pub unreachable-requires-in-Still : goal.unreachable-requires-in-Still
unreachable-requires-in-Still c = true≢false (sym (is-got (goal.at.unreachable-requires-in-Still c).After-collect) ∙ ap room.is_got c.in-Still.is)

pub unreachable-requires-in-Stranger : goal.unreachable-requires-in-Stranger
unreachable-requires-in-Stranger c = true≢false (sym (is-got (goal.at.unreachable-requires-in-Stranger c).After-collect) ∙ ap room.is_got c.in-Stranger.is)

pub invariant_of-self : goal.invariant_of-self
invariant_of-self c =
    let at = (goal.at.invariant_of-self c).After-collect in
    left-beside c.self.inside.recorder c.collect.new.self _ c.args.entry.ticket _ _ c.self.invariant
    (c.collect.ensures.handed (is-got at) c.self.invariant.events c.self.invariant.recorded) c.collect.ensures.goes_on.same
    (c.collect.ensures.fewer (is-got at) ∙ ap (λ (p : Ticket). less p.ticket (tickets c.self.inside.recorder.room)) (its-value at))
    c.in-Some.ensures.left

-- its reply, by any events that are recorded
told : (c : After-collect) (m : StampedValue Reply) → Got m ≡ c.collect.result → (es : List Event) → IsRecorded c.self.inside.recorder es
    → (m.room ≡ c.args.known.place) × (m.stamp ≡ stamp.Collect c.args.entry.ticket) × IsDecided c.args.known.settings.now es c.args.entry m.value
told c m is es k =
    let here = c.if-not-is_here.ensures.0 refl in
    tried c.self.inside.recorder.room es _ _ c.args.entry m (reply c es k) (is ∙ got c es k) here.number here.settings

pub returns-clause-tried : goal.returns-clause-tried
returns-clause-tried c =
    let at = (goal.at.returns-clause-tried c).After-collect in
    let its = told at c.in-Got.reply (sym c.in-Got.is) in
    let here = its c.self.invariant.events c.self.invariant.recorded in (
      here.0,
      here.1,
      subst (λ r. IsCollected r c.collect.new.self c.args.known.settings.now c.args.entry c.in-Got.reply.value) c.self.view_is (record {
        recorded = λ es before. subst (λ (p : Ticket). IsRecorded c.collect.new.self (es ++ Collect p.ticket ∷ [])) (its-value at) (c.collect.ensures.handed (is-got at) es before);
        decided = λ es before. (its es before).2;
      }),
    )

pub returns-clause-counts : goal.returns-clause-counts
returns-clause-counts c =
    let at = (goal.at.returns-clause-counts c).After-collect in
    subst (λ r. IsAsCounted r c.collect.new.self) c.self.view_is
    (as-counted c.self.inside.recorder c.collect.new.self c.self.invariant.events (Collect c.in-Some.parked.ticket) c.self.invariant.recorded.stands
    (c.collect.ensures.handed (is-got at) c.self.invariant.events c.self.invariant.recorded).stands c.collect.ensures.goes_on.same refl refl)
