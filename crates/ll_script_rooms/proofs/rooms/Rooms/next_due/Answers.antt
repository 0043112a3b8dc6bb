-- The first ready ticket of a room is that of a request that waits, and its reply is collected; if no ticket is ready, no reply is due.
use Rattle.std.proofs.Common.{◌∙◌, ap, refl, subst, sym, slice_set}
use Rattle.std.proofs.lemmas.Option.{slice_get_read}
use Rattle.ll_room.specs.Answers.{is_got}
use Rattle.ll_script_rooms.specs.Kept.{Leads}
use Rattle.ll_script_rooms.specs.World.{next_reply}
use Rattle.ll_script_rooms.proofs.ActLemmas.{idle, still_idle, still_nowhere, next_reply_nowhere}
use Rattle.ll_script_rooms.proofs.CallLemmas.{kept_of, none_read, not_lost, not_refused, tied_told, told_due}
use Rattle.ll_script_rooms.proofs.rooms.Rooms.next_due.Goals as goal

pub returns-in_err-room-clause-told : goal.returns-in_err-room-clause-told
returns-in_err-room-clause-told c w e =
    let v = c.self.inside.rooms in
    subst (λ a. Leads (kept_of v.items c.self.inside.held c.self.inside.events) a w (next_reply c.args.place w)) (sym c.from_residual.ensures)
    (next_reply_nowhere (kept_of v.items c.self.inside.held c.self.inside.events) w c.args.place (c.self.view_is ∙ e) (none_read v.items _ c.args.place v.ok.0 c.in_err-room.ensures.variant.1))

pub returns-in_err-room-clause-still : goal.returns-in_err-room-clause-still
returns-in_err-room-clause-still c w e none =
    let v = c.self.inside.rooms in
    still_nowhere (kept_of v.items c.self.inside.held c.self.inside.events) w c.args.place (c.self.view_is ∙ e) (none_read v.items _ c.args.place v.ok.0 c.in_err-room.ensures.variant.1)

pub returns-in_err-ticket-clause-still : goal.returns-in_err-ticket-clause-still
returns-in_err-ticket-clause-still c w e none =
    let v = c.self.inside.rooms in
    still_idle (kept_of v.items c.self.inside.held c.self.inside.events) w c.args.place c.in_ok-room.room.now (c.self.view_is ∙ e)
    (slice_get_read v.items _ c.args.place c.in_ok-room.room.now v.ok.0 (c.in_ok-room.ensures.variant.0 refl) c.in_ok-room.ensures.value) (sym c.next_ready.ensures ∙ c.in_err-ticket.was)

pub returns-in_err-ticket-clause-told : goal.returns-in_err-ticket-clause-told
returns-in_err-ticket-clause-told c w e =
    let v = c.self.inside.rooms in
    subst (λ a. Leads (kept_of (slice_set v.items c.args.place c.in_ok-room.room.now) c.self.inside.held c.self.inside.events) a w (next_reply c.args.place w)) (sym c.from_residual-in_err-ticket.ensures)
    (idle (kept_of v.items c.self.inside.held c.self.inside.events) w c.args.place c.in_ok-room.room.now c.in_ok-room.room.now (c.self.view_is ∙ e)
    (slice_get_read v.items _ c.args.place c.in_ok-room.room.now v.ok.0 (c.in_ok-room.ensures.variant.0 refl) c.in_ok-room.ensures.value) refl (sym c.next_ready.ensures ∙ c.in_err-ticket.was))

pub unreachable-requires : goal.unreachable-requires
unreachable-requires c =
    let v = c.self.inside.rooms in
    not_lost v.items c.self.inside.held c.args.place c.in_ok-ticket.ticket c.in_ok-room.room.now c.self.invariant
    (slice_get_read v.items _ c.args.place c.in_ok-room.room.now v.ok.0 (c.in_ok-room.ensures.variant.0 refl) c.in_ok-room.ensures.value)
    (sym c.next_ready.ensures ∙ c.in_ok-ticket.was) (sym c.under.ensures ∙ c.in_default.is)

pub unreachable-requires-in-Still : goal.unreachable-requires-in-Still
unreachable-requires-in-Still c =
    let v = c.self.inside.rooms in
    not_refused v.items c.self.inside.held c.args.place c.in_ok-ticket.ticket c.in_ok-room.room.now c.in-Some-take.parked c.self.invariant
    (slice_get_read v.items _ c.args.place c.in_ok-room.room.now v.ok.0 (c.in_ok-room.ensures.variant.0 refl) c.in_ok-room.ensures.value)
    (sym c.next_ready.ensures ∙ c.in_ok-ticket.was) c.in-Some-take.ensures.value (ap is_got (sym c.in-Still.ensures.answer))

pub unreachable-requires-in-Stranger : goal.unreachable-requires-in-Stranger
unreachable-requires-in-Stranger c =
    let v = c.self.inside.rooms in
    not_refused v.items c.self.inside.held c.args.place c.in_ok-ticket.ticket c.in_ok-room.room.now c.in-Some-take.parked c.self.invariant
    (slice_get_read v.items _ c.args.place c.in_ok-room.room.now v.ok.0 (c.in_ok-room.ensures.variant.0 refl) c.in_ok-room.ensures.value)
    (sym c.next_ready.ensures ∙ c.in_ok-ticket.was) c.in-Some-take.ensures.value (ap is_got (sym c.in-Stranger.ensures.answer))

pub invariant_of-self-2 : goal.invariant_of-self-2
invariant_of-self-2 c =
    let v = c.self.inside.rooms in
    tied_told v.items c.self.inside.held c.take.new.self c.args.place c.in_ok-ticket.ticket c.in_ok-room.room.now c.collect.new.self c.in-Some-take.parked c.self.invariant
    (slice_get_read v.items _ c.args.place c.in_ok-room.room.now v.ok.0 (c.in_ok-room.ensures.variant.0 refl) c.in_ok-room.ensures.value)
    c.in-Got.ensures.same (c.in-Got.ensures.handed refl) (c.in-Got.ensures.fewer refl) c.in-Some-take.ensures.value c.take.ensures.left

pub returns-clause-told : goal.returns-clause-told
returns-clause-told c w e =
    let v = c.self.inside.rooms in
    told_due v.items c.self.inside.held c.take.new.self c.self.inside.events w c.args.place c.in_ok-ticket.ticket c.in_ok-room.room.now c.collect.new.self c.in-Some-take.parked
    c.in-Got.reply c.into_inner.result c.in-Some.wait (c.self.view_is ∙ e)
    (slice_get_read v.items _ c.args.place c.in_ok-room.room.now v.ok.0 (c.in_ok-room.ensures.variant.0 refl) c.in_ok-room.ensures.value)
    c.in-Got.ensures.same (c.in-Got.ensures.handed refl) (sym c.next_ready.ensures ∙ c.in_ok-ticket.was) c.in-Some.ensures c.in-Some-take.ensures.value c.take.ensures.left
    c.in-Got.ensures.answer c.into_inner.ensures
