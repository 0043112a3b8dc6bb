-- An item is refused, or is an event of the channel at its place.
use Rattle.std.proofs.Common.{◌∙◌, Some, ap, refl, slice_set, subst, sym}
use Rattle.std.proofs.lemmas.Option.{slice_get_read}
use Rattle.ll_verdict.specs.Events.{Publish}
use Rattle.ll_script_rooms.specs.Kept.{Leads}
use Rattle.ll_script_rooms.specs.World.{offer}
use Rattle.ll_script_rooms.proofs.ActLemmas.{accepted, offer_nowhere, refused}
use Rattle.ll_script_rooms.proofs.StandLemmas.{still_same}
use Rattle.ll_script_rooms.proofs.CallLemmas.{count_is, kept_of, none_read}
use Rattle.ll_script_rooms.proofs.rooms.Rooms.offer.Goals as goal

pub returns-in_default-clause-offered : goal.returns-in_default-clause-offered
returns-in_default-clause-offered c w e =
    let v = c.self.inside.rooms in
    offer_nowhere (kept_of v.items c.self.inside.held c.self.inside.events) w c.args.place c.args.item (c.self.view_is ∙ e) (none_read v.items _ c.args.place v.ok.0 c.in_default.ensures.variant.1)

pub returns-in-Err : goal.returns-in-Err
returns-in-Err c = record {
  offered = λ w e.
      let v = c.self.inside.rooms in
      subst (λ a. Leads (kept_of (slice_set v.items c.args.place c.publish.new.self) c.self.inside.held c.self.inside.events) (Some a) w (offer c.args.place c.args.item w)) (sym c.in_ok-answer-in-Err.ensures.1)
      (refused (kept_of v.items c.self.inside.held c.self.inside.events) w c.args.place c.args.item c.in-Err.fault c.in-Some.room.now c.publish.new.self (c.self.view_is ∙ e)
      (slice_get_read v.items _ c.args.place c.in-Some.room.now v.ok.0 (c.in-Some.ensures.variant.0 refl) c.in-Some.ensures.value)
      c.in-Err.ensures.unchanged (λ events st. c.in-Err.ensures.refused events st c.in_ok-answer-in-Err.ensures.0));
  unchanged = tt;
}

pub invariant_of-self-2 : goal.invariant_of-self-2
invariant_of-self-2 c =
    let v = c.self.inside.rooms in
    still_same v.items c.self.inside.held c.args.place c.in-Some.room.now c.publish.new.self (Publish c.args.item) c.self.invariant
    (slice_get_read v.items _ c.args.place c.in-Some.room.now v.ok.0 (c.in-Some.ensures.variant.0 refl) c.in-Some.ensures.value)
    c.in-Ok.ensures.same (λ events st. (c.in-Ok.ensures.accepted events st).1) c.in-Ok.ensures.still_open

pub returns-clause-offered : goal.returns-clause-offered
returns-clause-offered c w e =
    let v = c.self.inside.rooms in
    accepted _ (kept_of v.items c.self.inside.held c.self.inside.events) w c.args.place c.args.item c.into_inner-count.result c.in-Some.room.now c.publish.new.self c.saturating_add-self-inside.ensures (c.self.view_is ∙ e)
    (slice_get_read v.items _ c.args.place c.in-Some.room.now v.ok.0 (c.in-Some.ensures.variant.0 refl) c.in-Some.ensures.value)
    c.in-Ok.ensures.same c.in-Ok.ensures.accepted (c.into_inner-count.ensures ∙ ap count_is c.in-Ok.ensures.count)
