-- The new room stands for a channel without events.
use Rattle.std.proofs.Common.{◌∙◌, [], None, ap, subst, sym}
use Rattle.ll_verdict.specs.State.{state_of}
use Rattle.ll_room.specs.RoomValue.{room_value}
use Rattle.ll_script_rooms.specs.Kept.{AreTied, Leads}
use Rattle.ll_script_rooms.specs.World.{declare}
use Rattle.ll_script_rooms.proofs.ActLemmas.{declared, tied_new}
use Rattle.ll_script_rooms.proofs.CallLemmas.{kept_of}
use Rattle.ll_script_rooms.proofs.rooms.Rooms.declare.Goals as goal

pub invariant_of-self-2 : goal.invariant_of-self-2
invariant_of-self-2 c =
    let v = c.self.inside.rooms in
    subst (λ rs. AreTied rs c.self.inside.held) (sym c.in_ok-push.ensures.items)
    (tied_new v.items c.self.inside.held c.args.settings c.in_ok-room.room c.self.invariant
    (c.in_ok-room.ensures ∙ ap (λ n. room_value n c.args.settings (state_of c.args.settings [])) (c.len.ensures ∙ v.ok.0)))

pub returns-clause-declared : goal.returns-clause-declared
returns-clause-declared c w e =
    let v = c.self.inside.rooms in
    subst (λ rs. Leads (kept_of rs c.self.inside.held c.self.inside.events) None w (declare c.args.settings w)) (sym c.in_ok-push.ensures.items)
    (declared (kept_of v.items c.self.inside.held c.self.inside.events) w c.args.settings c.in_ok-room.room (c.self.view_is ∙ e)
    (c.in_ok-room.ensures ∙ ap (λ n. room_value n c.args.settings (state_of c.args.settings [])) (c.len.ensures ∙ v.ok.0)))
