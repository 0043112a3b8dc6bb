-- A request is answered at once, or is held, or is closed again if its owner can't be kept; in each case the rooms still fit who waits.
use Rattle.std.proofs.Common.{◌∙◌, ◌++◌, Err, Some, ap, refl, slice_set, subst, sym}
use Rattle.std.proofs.lemmas.Option.{slice_get_read}
use Rattle.ll_room.specs.Answers.{is_done, new_tickets, others}
use Rattle.ll_room.specs.RoomValue.{tickets}
use Rattle.ll_verdict.specs.Events.{Ask}
use Rattle.ll_script_rooms.specs.Kept.{Leads}
use Rattle.ll_script_rooms.specs.World.{ask}
use Rattle.ll_script_rooms.specs.declared.answer.ActAnswer.TheVariants.{Replied}
use Rattle.ll_script_rooms.proofs.ActLemmas.{ask_nowhere, asked_full, asked_now}
use Rattle.ll_script_rooms.proofs.StandLemmas.{still_same}
use Rattle.ll_script_rooms.proofs.CallLemmas.{held_leads, kept_of, newest_closes, none_read, tied_back, tied_held}
use Rattle.ll_script_rooms.proofs.rooms.Rooms.ask.Goals as goal

pub returns-in_default-clause-asked : goal.returns-in_default-clause-asked
returns-in_default-clause-asked c w e =
    let v = c.self.inside.rooms in
    ask_nowhere (kept_of v.items c.self.inside.held c.self.inside.events) w c.args.owner c.args.place c.args.want (c.self.view_is ∙ e) (none_read v.items _ c.args.place v.ok.0 c.in_default.ensures.variant.1)

pub invariant_of-self-in-Ok-Now : goal.invariant_of-self-in-Ok-Now
invariant_of-self-in-Ok-Now c =
    let v = c.self.inside.rooms in
    still_same v.items c.self.inside.held c.args.place c.in-Some.room.now c.ask.new.self (Ask c.args.want) c.self.invariant
    (slice_get_read v.items _ c.args.place c.in-Some.room.now v.ok.0 (c.in-Some.ensures.variant.0 refl) c.in-Some.ensures.value)
    c.in-Ok-Now.ensures.same c.in-Ok-Now.ensures.asked (ap (λ a. others a (tickets c.ask.new.self)) (sym c.in-Ok-Now.field-0-is) ∙ c.in-Ok-Now.ensures.newest)

pub invariant_of-self-in-Ok : goal.invariant_of-self-in-Ok
invariant_of-self-in-Ok c =
    let v = c.self.inside.rooms in
    tied_held v.items c.self.inside.held c.put.new.self c.args.place c.args.owner c.args.want c.in-Ok-Held.parked c.in-Some.room.now c.ask.new.self c.self.invariant
    (slice_get_read v.items _ c.args.place c.in-Some.room.now v.ok.0 (c.in-Some.ensures.variant.0 refl) c.in-Some.ensures.value)
    c.in-Ok-Held.ensures.same c.in-Ok-Held.ensures.asked (λ events st. sym c.in-Ok-Held.field-0-is ∙ c.in-Ok-Held.ensures.answer events st) (c.in-Ok-Held.ensures.opened ∙ ap (λ a. tickets c.in-Some.room.now ++ new_tickets a) c.in-Ok-Held.field-0-is) (ap (λ a. others a (tickets c.ask.new.self)) (sym c.in-Ok-Held.field-0-is) ∙ c.in-Ok-Held.ensures.newest) c.in-Ok.ensures.put

pub unreachable-requires : goal.unreachable-requires
unreachable-requires c =
    let v = c.self.inside.rooms in
    newest_closes v.items c.self.inside.held c.args.place c.args.owner c.args.want c.in-Ok-Held.parked c.in-Err.parked c.in-Some.room.now c.ask.new.self c.self.invariant
    (slice_get_read v.items _ c.args.place c.in-Some.room.now v.ok.0 (c.in-Some.ensures.variant.0 refl) c.in-Some.ensures.value)
    c.in-Ok-Held.ensures.same c.in-Ok-Held.ensures.asked (λ events st. sym c.in-Ok-Held.field-0-is ∙ c.in-Ok-Held.ensures.answer events st) (c.in-Ok-Held.ensures.opened ∙ ap (λ a. tickets c.in-Some.room.now ++ new_tickets a) c.in-Ok-Held.field-0-is) (ap (λ a. others a (tickets c.ask.new.self)) (sym c.in-Ok-Held.field-0-is) ∙ c.in-Ok-Held.ensures.newest) c.in-Err.ensures.handed_back.0 (ap is_done (sym c.in-Stranger.ensures.answer))

pub invariant_of-self-in-Err : goal.invariant_of-self-in-Err
invariant_of-self-in-Err c =
    let v = c.self.inside.rooms in
    tied_back v.items c.self.inside.held c.put.new.self c.args.place c.args.want c.in-Ok-Held.parked c.in-Err.parked c.in-Some.room.now c.ask.new.self c.close.new.self c.self.invariant
    (slice_get_read v.items _ c.args.place c.in-Some.room.now v.ok.0 (c.in-Some.ensures.variant.0 refl) c.in-Some.ensures.value)
    c.in-Ok-Held.ensures.same c.in-Ok-Held.ensures.asked c.in-Done.ensures.same (c.in-Done.ensures.given_up refl) (c.in-Done.ensures.fewer refl) (ap (λ a. others a (tickets c.ask.new.self)) (sym c.in-Ok-Held.field-0-is) ∙ c.in-Ok-Held.ensures.newest) c.in-Err.ensures.handed_back.0 c.in-Err.ensures.handed_back.1

pub returns-in-Ok-Now-clause-asked : goal.returns-in-Ok-Now-clause-asked
returns-in-Ok-Now-clause-asked c w e =
    let v = c.self.inside.rooms in
    subst (λ r. Leads (kept_of (slice_set v.items c.args.place c.ask.new.self) c.self.inside.held c.saturating_add-self-inside.result) (Some (Replied c.args.owner r)) w (ask c.args.owner c.args.place c.args.want w)) (sym c.into_inner.ensures)
    (asked_now _ (kept_of v.items c.self.inside.held c.self.inside.events) w c.args.owner c.args.place c.args.want c.in-Ok-Now.reply c.in-Some.room.now c.ask.new.self c.saturating_add-self-inside.ensures (c.self.view_is ∙ e)
    (slice_get_read v.items _ c.args.place c.in-Some.room.now v.ok.0 (c.in-Some.ensures.variant.0 refl) c.in-Some.ensures.value)
    c.in-Ok-Now.ensures.same c.in-Ok-Now.ensures.asked (λ events st. sym c.in-Ok-Now.field-0-is ∙ c.in-Ok-Now.ensures.answer events st) c.in-Ok-Now.ensures.within)

pub returns-in-Ok-clause-asked : goal.returns-in-Ok-clause-asked
returns-in-Ok-clause-asked c w e =
    let v = c.self.inside.rooms in
    held_leads v.items c.self.inside.held c.put.new.self c.self.inside.events _ w c.args.owner c.args.place c.args.want c.in-Ok-Held.parked c.in-Some.room.now c.ask.new.self c.saturating_add-self-inside-in-Ok.ensures (c.self.view_is ∙ e) c.self.invariant
    (slice_get_read v.items _ c.args.place c.in-Some.room.now v.ok.0 (c.in-Some.ensures.variant.0 refl) c.in-Some.ensures.value)
    c.in-Ok-Held.ensures.same c.in-Ok-Held.ensures.asked (λ events st. sym c.in-Ok-Held.field-0-is ∙ c.in-Ok-Held.ensures.answer events st) c.in-Ok-Held.ensures.within c.in-Ok.ensures.put

pub returns-in-Err-RecordFull-clause-asked : goal.returns-in-Err-RecordFull-clause-asked
returns-in-Err-RecordFull-clause-asked c w e =
    let v = c.self.inside.rooms in
    asked_full (kept_of v.items c.self.inside.held c.self.inside.events) w c.args.owner c.args.place c.args.want c.in-Some.room.now c.ask.new.self (c.self.view_is ∙ e)
    (slice_get_read v.items _ c.args.place c.in-Some.room.now v.ok.0 (c.in-Some.ensures.variant.0 refl) c.in-Some.ensures.value)
    c.in-Err-RecordFull.ensures.unchanged (c.in-Err-RecordFull.ensures.full (ap Err c.in-Err-RecordFull.field-0-is))
