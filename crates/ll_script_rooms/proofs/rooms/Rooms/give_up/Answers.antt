-- The request that waits has a room, which closes it.
use Rattle.std.proofs.Common.{◌∙◌, ap, refl, sym}
use Rattle.std.proofs.lemmas.Option.{slice_get_read}
use Rattle.ll_room.specs.Answers.{is_done}
use Rattle.ll_script_rooms.proofs.CallLemmas.{gave_up_one, no_room, none_read, not_stranger, tied_gave_up, waiting_there}
use Rattle.ll_script_rooms.proofs.rooms.Rooms.give_up.Goals as goal

pub unreachable-requires-in_default-get_mut : goal.unreachable-requires-in_default-get_mut
unreachable-requires-in_default-get_mut c =
    let v = c.self.inside.rooms in
    no_room v.items c.self.inside.held c.args.wait.place c.args.wait.ticket c.in-Some.parked c.self.invariant
    (none_read v.items _ c.args.wait.place v.ok.0 c.in_default-get_mut.ensures.variant.1) c.in-Some.ensures.value

pub unreachable-requires-in-Stranger : goal.unreachable-requires-in-Stranger
unreachable-requires-in-Stranger c =
    let v = c.self.inside.rooms in
    not_stranger v.items c.self.inside.held c.args.wait.place c.args.wait.ticket c.in-Some-get_mut.room.now c.in-Some.parked c.self.invariant
    (slice_get_read v.items _ c.args.wait.place c.in-Some-get_mut.room.now v.ok.0 (c.in-Some-get_mut.ensures.variant.0 refl) c.in-Some-get_mut.ensures.value)
    (waiting_there c.args.wait.place c.args.wait.ticket c.in-Some.parked c.self.inside.held c.in-Some.ensures.value) c.in-Some.ensures.value (ap is_done (sym c.in-Stranger.ensures.answer))

pub invariant_of-self : goal.invariant_of-self
invariant_of-self c =
    let v = c.self.inside.rooms in
    tied_gave_up v.items c.self.inside.held c.take.new.self c.args.wait.place c.args.wait.ticket c.in-Some-get_mut.room.now c.close.new.self c.in-Some.parked c.self.invariant
    (slice_get_read v.items _ c.args.wait.place c.in-Some-get_mut.room.now v.ok.0 (c.in-Some-get_mut.ensures.variant.0 refl) c.in-Some-get_mut.ensures.value)
    c.in-Done.ensures.same (c.in-Done.ensures.given_up refl) (c.in-Done.ensures.fewer refl) c.in-Some.ensures.value c.take.ensures.left

pub returns-clause-given_up : goal.returns-clause-given_up
returns-clause-given_up c w e =
    let v = c.self.inside.rooms in
    gave_up_one v.items c.self.inside.held c.take.new.self c.self.inside.events _ w c.args.wait c.in-Some-get_mut.room.now c.close.new.self c.in-Some.parked c.saturating_add-self-inside.ensures (c.self.view_is ∙ e)
    (slice_get_read v.items _ c.args.wait.place c.in-Some-get_mut.room.now v.ok.0 (c.in-Some-get_mut.ensures.variant.0 refl) c.in-Some-get_mut.ensures.value)
    c.in-Done.ensures.same (c.in-Done.ensures.given_up refl) c.in-Some.ensures.value c.take.ensures.left
