use Rattle.std.proofs.Common.{◌∙◌, ◌++◌, ◌∷◌, [], List, refl, subst, sym, ap, append-nil, append_assoc}
use Rattle.std.proofs.lemmas.Option.{none-some}
use Rattle.ll_verdict.specs.Events.{Ask, Clock, Event}
use Rattle.ll_record.specs.Recording.{IsRecorded, Recording, of_channel}
use Rattle.ll_room.specs.Answers.{new_tickets}
use Rattle.ll_room.specs.RoomValue.{tickets}
use Rattle.ll_room.specs.Ticket.{Ticket}
use Rattle.ll_room.specs.declared.asked.Asked.TheVariants.{Held}
use Rattle.ll_hub_channel.specs.Channel.{IsChannel}
use Rattle.ll_hub_channel.specs.Section.{HasAsked, IsAsCounted, IsMet, is_filled}
use Rattle.ll_hub_channel.specs.Told.{IsAskRefused}
use Rattle.ll_hub_channel.proofs.CountLemmas.{as-counted, has-asked}
use Rattle.ll_hub_channel.proofs.FaultLemmas.{request-fault}
use Rattle.ll_hub_channel.proofs.ToldLemmas.{IsKept, IsMade, asks-held, asks-later, asks-now, held-entry, kept-beside, stays-beside, still-met}
use Rattle.ll_hub_channel.proofs.channel.Channel.ask.Goals as goal
use Rattle.ll_hub_channel.proofs.channel.Channel.ask.Goals.{In-Ok, In-Ok-Held}

-- the recorder after it, and the values beside it
clocked : (c : In-Ok) → IsChannel c.clock.new.self c.self.inside.parked.items
clocked c =
    stays-beside _ _ _ _ c.self.invariant (c.in-Ok.ensures.passed c.self.invariant.events c.self.invariant.recorded) c.in-Ok.ensures.goes_on.same c.in-Ok.ensures.still_open

-- no more is counted by it
counted : (c : In-Ok) → IsAsCounted c.self.inside.recorder c.clock.new.self
counted c =
    as-counted _ _ c.self.invariant.events (Clock c.args.ms) c.self.invariant.recorded.stands
    (c.in-Ok.ensures.passed c.self.invariant.events c.self.invariant.recorded).stands c.in-Ok.ensures.goes_on.same refl refl

-- the room that was met is still met
met : (c : In-Ok) → IsMet c.clock.new.self c.args.known.place c.args.known.settings.now c.args.known.seen
met c =
    still-met _ _ _ _ _ (counted c) c.in-Ok.ensures.goes_on.same
    (subst (λ r. IsMet r c.args.known.place c.args.known.settings.now c.args.known.seen) (sym c.self.view_is) c.requires)

-- the request is held, after any events that are recorded
made : (c : In-Ok-Held) (es : List Event) → IsRecorded c.clock.new.self es
    → IsMade c.clock.new.self.room c.ask.new.self es c.args.want (Held c.in-Ok-Held.one)
made c es k = subst (IsMade c.clock.new.self.room c.ask.new.self es c.args.want) c.in-Ok-Held.field-0-is (record {
  answer = c.in-Ok-Held.ensures.answer es k;
  recorded = c.in-Ok-Held.ensures.asked es k;
  same = c.in-Ok-Held.ensures.goes_on.same;
  opened = c.in-Ok-Held.ensures.opened;
  newest = c.in-Ok-Held.ensures.newest;
})

kept : (c : In-Ok-Held) (es : List Event) → IsRecorded c.clock.new.self es
    → IsKept c.ask.new.self.room c.in-Ok-Held.one c.clock.new.self.room.settings es c.args.want
kept c es k = asks-held c.clock.new.self.room c.ask.new.self es c.args.want c.in-Ok-Held.one k.stands (made c es k)

pub hold-requires-clause-held : goal.hold-requires-clause-held
hold-requires-clause-held c none =
    let at = goal.at.hold-requires-clause-held c in
    let k = clocked at.In-Ok in
    let held = kept at.In-Ok-Held k.events k.recorded in
    none-some held.entry (sym none ∙ held.found_it)

pub invariant_of-self-in-Ok-Held : goal.invariant_of-self-in-Ok-Held
invariant_of-self-in-Ok-Held c =
    let at = goal.at.invariant_of-self-in-Ok-Held c in
    let k = clocked at.In-Ok in
    kept-beside _ _ _ _ _ _ k (made at.In-Ok-Held k.events k.recorded)
    (c.hold.ensures.kept ∙ ap (λ (ps : List Ticket). ps ++ c.in-Ok-Held.one ∷ []) c.reserve.ensures.items)

-- the reading is recorded, after any events that are
then : (c : In-Ok) (es : List Event) → IsRecorded c.args.self.now es → IsRecorded c.clock.new.self (es ++ Clock c.args.ms ∷ [])
then c es before = c.in-Ok.ensures.passed es (subst (λ r. IsRecorded r es) (sym c.self.view_is) before)

-- and so is the request
asked : (c : In-Ok) (r2 : Recording) (es : List Event) → IsRecorded r2 ((es ++ Clock c.args.ms ∷ []) ++ Ask (of_channel c.clock.new.self.room.settings c.args.want) ∷ [])
    → IsRecorded r2 (es ++ Clock c.args.ms ∷ Ask (of_channel c.args.known.settings.now c.args.want) ∷ [])
asked c r2 es after =
    subst (λ s. IsRecorded r2 (es ++ Clock c.args.ms ∷ Ask (of_channel s c.args.want) ∷ [])) (met c).settings
    (subst (IsRecorded r2) (append_assoc es (Clock c.args.ms ∷ []) (Ask (of_channel c.clock.new.self.room.settings c.args.want) ∷ [])) after)

pub returns-in-Ok-Now-clause-asked : goal.returns-in-Ok-Now-clause-asked
returns-in-Ok-Now-clause-asked c es before =
    let at = goal.at.returns-in-Ok-Now-clause-asked c in
    let k = then at.In-Ok es before in
    asks-now _ _ _ _ _ _ _ k.stands (met at.In-Ok) (sym c.in-Ok-Now.field-0-is ∙ c.in-Ok-Now.ensures.answer _ k)

pub returns-in-Ok-Now-clause-recorded : goal.returns-in-Ok-Now-clause-recorded
returns-in-Ok-Now-clause-recorded c es before =
    let at = goal.at.returns-in-Ok-Now-clause-recorded c in
    asked at.In-Ok _ es (c.in-Ok-Now.ensures.asked _ (then at.In-Ok es before))

pub returns-in-Ok-Held-clause-asked : goal.returns-in-Ok-Held-clause-asked
returns-in-Ok-Held-clause-asked c es before =
    let at = goal.at.returns-in-Ok-Held-clause-asked c in
    let k = then at.In-Ok es before in
    asks-later c.clock.new.self _ _ _ _ _ _ k.stands (met at.In-Ok)
    (held-entry _ _ _ _ _ _ _ (kept at.In-Ok-Held _ k) refl c.hold.ensures.entry)

pub returns-in-Ok-Held-clause-recorded : goal.returns-in-Ok-Held-clause-recorded
returns-in-Ok-Held-clause-recorded c es before =
    let at = goal.at.returns-in-Ok-Held-clause-recorded c in
    asked at.In-Ok _ es (c.in-Ok-Held.ensures.asked _ (then at.In-Ok es before))

pub returns-in-Ok-Held-clause-counted : goal.returns-in-Ok-Held-clause-counted
returns-in-Ok-Held-clause-counted c =
    let at = goal.at.returns-in-Ok-Held-clause-counted c in
    let k = clocked at.In-Ok in
    subst (λ r. HasAsked r c.ask.new.self) c.self.view_is
    (has-asked _ _ _ _ (of_channel c.clock.new.self.room.settings c.args.want) (counted at.In-Ok) k.recorded.stands
    (c.in-Ok-Held.ensures.asked k.events k.recorded).stands c.in-Ok-Held.ensures.goes_on.same)

pub invariant_of-self-in-Ok-Now : goal.invariant_of-self-in-Ok-Now
invariant_of-self-in-Ok-Now c =
    let k = clocked (goal.at.invariant_of-self-in-Ok-Now c).In-Ok in
    subst (IsChannel c.ask.new.self) (sym c.reserve.ensures.items)
    (stays-beside _ _ _ _ k (c.in-Ok-Now.ensures.asked k.events k.recorded) c.in-Ok-Now.ensures.goes_on.same
    (c.in-Ok-Now.ensures.opened ∙ ap (λ a. tickets c.clock.new.self.room ++ new_tickets a) c.in-Ok-Now.field-0-is ∙ append-nil (tickets c.clock.new.self.room)))

pub returns-in-Ok-Now-clause-counted : goal.returns-in-Ok-Now-clause-counted
returns-in-Ok-Now-clause-counted c =
    let at = goal.at.returns-in-Ok-Now-clause-counted c in
    let k = clocked at.In-Ok in
    subst (λ r. HasAsked r c.ask.new.self) c.self.view_is
    (has-asked _ _ _ _ (of_channel c.clock.new.self.room.settings c.args.want) (counted at.In-Ok) k.recorded.stands
    (c.in-Ok-Now.ensures.asked k.events k.recorded).stands c.in-Ok-Now.ensures.goes_on.same)

pub returns-in-Err-ask-clause-uncounted : goal.returns-in-Err-ask-clause-uncounted
returns-in-Err-ask-clause-uncounted c =
    subst (λ r. IsAsCounted r c.ask.new.self) c.self.view_is
    (subst (IsAsCounted c.self.inside.recorder) (sym c.in-Err-ask.ensures.unchanged) (counted (goal.at.returns-in-Err-ask-clause-uncounted c).In-Ok))

pub returns-in-Err-ask-clause-refused : goal.returns-in-Err-ask-clause-refused
returns-in-Err-ask-clause-refused c =
    let at = (goal.at.returns-in-Err-ask-clause-refused c).In-Ok in
    let after = c.in-Err-ask.ensures.unchanged in
    rw c.refuses-in-Err-ask.ensures (
      refl,
      record {
        recorded = λ es before. subst (λ r. IsRecorded r (es ++ Clock c.args.ms ∷ [])) (sym after) (then at es before);
        refused = subst (λ r. IsAskRefused (is_filled r) c.in-Err-ask.fault) (sym after) (request-fault c.clock.new.self _ c.in-Err-ask.ensures.full c.in-Err-ask.ensures.memory);
      },
    )
