-- One more item, by what is kept.
use Rattle.std.proofs.Common.{ap, subst, ◌∙◌, ◌≤◌}
use Rattle.ll_room.specs.Freed.{new_supply, releases}
use Rattle.ll_room.specs.RoomValue.{RoomValue, presentation_in, tickets}
use Rattle.ll_settings.specs.Settings.{Configuration}
use Rattle.ll_room.proofs.AcceptLemmas.{publish-stands}
use Rattle.ll_room.proofs.PublishLemmas.{same-tickets}
use Rattle.ll_room.proofs.room.Room.accept.Goals as goal

pub returns-clause-accepted : goal.returns-clause-accepted
returns-clause-accepted c es stands =
    publish-stands c.args.self.now c.take_in.new.self es c.args.item stands
    (subst (λ (s : Configuration). 1 ≤ s.target) c.in_ok-take_in.ensures.goes_on.settings (subst (λ (x : RoomValue). 1 ≤ x.settings.target) c.self.view_is c.self.invariant.target))
    (subst (λ (s : Configuration). 1 ≤ s.window) c.in_ok-take_in.ensures.goes_on.settings (subst (λ (x : RoomValue). 1 ≤ x.settings.window) c.self.view_is c.self.invariant.window))
    c.requires c.in_ok-take_in.ensures.goes_on c.in_ok-take_in.ensures.accepted

pub returns-clause-still_open : goal.returns-clause-still_open
returns-clause-still_open c =
    let h = c.args.self.now in
    ap tickets c.in_ok-take_in.ensures.accepted
    ∙ same-tickets (new_supply h (presentation_in c.take_in.new.self) c.args.item) (releases h c.args.item) h.slots
