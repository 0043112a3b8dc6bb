-- The request that is found by its owner waits under its ticket.
use Rattle.std.proofs.Common.{◌≡◌, is_some, subst, sym, true}
use Rattle.ll_script_rooms.specs.Waits.{under}
use Rattle.ll_script_rooms.specs.Kept.{Kept}
use Rattle.ll_script_rooms.proofs.ActLemmas.{id_waits}
use Rattle.ll_script_rooms.proofs.rooms.Rooms.close.Goals as goal

pub give_up-requires : goal.give_up-requires
give_up-requires c =
    subst (λ (k : Kept). is_some (under c.in-Some.wait.place c.in-Some.wait.ticket k.waits) ≡ true) c.self.view_is
    (id_waits c.args.owner c.in-Some.wait c.self.inside.held (sym c.in-Some.ensures))
