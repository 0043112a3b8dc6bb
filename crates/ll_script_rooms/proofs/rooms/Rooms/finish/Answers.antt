-- Each request that is closed leaves fewer that wait, and at the end none waits.
use Rattle.std.proofs.Common.{◌≡◌, is_some, subst, sym, true}
use Rattle.ll_script_rooms.specs.Waits.{under}
use Rattle.ll_script_rooms.specs.Kept.{Kept}
use Rattle.ll_script_rooms.proofs.ActLemmas.{first_waits}
use Rattle.ll_script_rooms.proofs.CallLemmas.{none_left, smaller}
use Rattle.ll_script_rooms.proofs.rooms.Rooms.finish.Goals as goal

pub give_up-requires : goal.give_up-requires
give_up-requires c =
    subst (λ (k : Kept). is_some (under c.in-Some.wait.place c.in-Some.wait.ticket k.waits) ≡ true) c.self.view_is
    (first_waits c.in-Some.wait c.self.inside.held (sym c.in-Some.ensures))

pub loop-wait-smaller : goal.loop-wait-smaller
loop-wait-smaller c =
    smaller c.loop-wait.self.waits c.give_up.new.self.waits c.in-Some.wait c.give_up.ensures.left
    (subst (λ (k : Kept). is_some (under c.in-Some.wait.place c.in-Some.wait.ticket k.waits) ≡ true) c.self.view_is
    (first_waits c.in-Some.wait c.self.inside.held (sym c.in-Some.ensures)))

pub drop-held-requires : goal.drop-held-requires
drop-held-requires c = none_left c.self.inside.held c.in-None.ensures
