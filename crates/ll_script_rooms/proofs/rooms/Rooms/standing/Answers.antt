-- The room at the place says where the rendition stands.
use Rattle.std.proofs.Common.{ap, refl, slice_get, sym, ◌∙◌}
use Rattle.std.proofs.lemmas.Option.{slice_get_past, slice_get_read}
use Rattle.ll_script_rooms.proofs.CallLemmas.{kept_of}
use Rattle.ll_script_rooms.proofs.StandingLemmas.{nowhere-stands, there-stands}
use Rattle.ll_script_rooms.proofs.rooms.Rooms.standing.Goals as goal

pub returns-in_err-room : goal.returns-in_err-room
returns-in_err-room c = λ w e.
    let v = c.self.inside.rooms in
    let none = ap (λ rooms. slice_get rooms c.args.place) (sym c.deref.ensures.value) ∙ slice_get_past c.deref.result.now c.args.place c.in_err-room.ensures.lookup.3 in
    c.from_residual.ensures
    ∙ nowhere-stands (kept_of v.items c.self.inside.held c.self.inside.events) w c.args.place c.args.rendition (c.self.view_is ∙ e) none

pub returns : goal.returns
returns c = λ w e.
    let v = c.self.inside.rooms in
    let room = c.in_ok-room.room.now in
    let found = c.in_ok-room.ensures.lookup in
    let there =
    ap (λ rooms. slice_get rooms c.args.place) (sym c.deref.ensures.value) ∙ slice_get_read c.deref.result.now _ c.args.place room refl found.3.0 found.1 in
    there-stands (kept_of v.items c.self.inside.held c.self.inside.events) w c.args.place c.args.rendition room c.standing.result (c.self.view_is ∙ e) there
    c.standing.ensures
