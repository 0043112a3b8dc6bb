-- A reading of the clock is refused, or is an event of the channel at its place.
use Rattle.std.proofs.Common.{◌∙◌, Err, ap, refl, subst, sym}
use Rattle.std.proofs.lemmas.Option.{slice_get_read}
use Rattle.ll_verdict.specs.Events.{Clock}
use Rattle.ll_script_rooms.specs.Kept.{Leads}
use Rattle.ll_script_rooms.specs.World.{clock}
use Rattle.ll_script_rooms.proofs.ActLemmas.{clock_nowhere, clocked_on}
use Rattle.ll_script_rooms.proofs.StandLemmas.{still_same}
use Rattle.ll_script_rooms.proofs.CallLemmas.{clock_refused, kept_of, none_read}
use Rattle.ll_script_rooms.proofs.rooms.Rooms.clock.Goals as goal

pub returns-in_err-room : goal.returns-in_err-room
returns-in_err-room c = record {
  clocked = λ w e.
      let v = c.self.inside.rooms in
      subst (λ a. Leads (kept_of v.items c.self.inside.held c.self.inside.events) a w (clock c.args.place c.args.ms w)) (sym c.from_residual.ensures)
      (clock_nowhere (kept_of v.items c.self.inside.held c.self.inside.events) w c.args.place c.args.ms (c.self.view_is ∙ e) (none_read v.items _ c.args.place v.ok.0 c.in_err-room.ensures.variant.1));
}

pub returns-in-Err : goal.returns-in-Err
returns-in-Err c = record {
  clocked = λ w e.
      let v = c.self.inside.rooms in
      clock_refused (kept_of v.items c.self.inside.held c.self.inside.events) w c.args.place c.args.ms c.in-Err.fault c.in_ok-room.room.now c.clock.new.self (c.self.view_is ∙ e)
      (slice_get_read v.items _ c.args.place c.in_ok-room.room.now v.ok.0 (c.in_ok-room.ensures.variant.0 refl) c.in_ok-room.ensures.value)
      c.in-Err.ensures.unchanged (λ k. c.in-Err.ensures.range (ap Err k)) (λ k. c.in-Err.ensures.full (ap Err k))
      (λ k. c.in-Err.ensures.memory (ap Err k));
}

pub invariant_of-self-2 : goal.invariant_of-self-2
invariant_of-self-2 c =
    let v = c.self.inside.rooms in
    still_same v.items c.self.inside.held c.args.place c.in_ok-room.room.now c.clock.new.self (Clock c.args.ms) c.self.invariant
    (slice_get_read v.items _ c.args.place c.in_ok-room.room.now v.ok.0 (c.in_ok-room.ensures.variant.0 refl) c.in_ok-room.ensures.value)
    c.in_default.ensures.same c.in_default.ensures.passed c.in_default.ensures.still_open

pub returns : goal.returns
returns c = record {
  clocked = λ w e.
      let v = c.self.inside.rooms in
      clocked_on _ (kept_of v.items c.self.inside.held c.self.inside.events) w c.args.place c.args.ms c.in_ok-room.room.now c.clock.new.self c.saturating_add-self-inside.ensures (c.self.view_is ∙ e)
      (slice_get_read v.items _ c.args.place c.in_ok-room.room.now v.ok.0 (c.in_ok-room.ensures.variant.0 refl) c.in_ok-room.ensures.value)
      c.in_default.ensures.same c.in_default.ensures.passed c.in_default.ensures.within.0 c.in_default.ensures.within.1;
}
