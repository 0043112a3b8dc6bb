-- If no request is released, only what is kept of the items changes.
use Rattle.std.proofs.Common.{◌≡◌, false, refl, rules, subst}
use Rattle.ll_book.specs.Releases.{takes_any}
use Rattle.ll_presentation.specs.Items.{HasTaken}
use Rattle.ll_room.specs.Freed.{releases}
use Rattle.ll_room.specs.RoomValue.{presentation_in}
use Rattle.ll_room.specs.contracts.room.Room.{the_view}
use Rattle.ll_room.proofs.KeptLemmas.{few-events, free-few}
use Rattle.ll_room.proofs.PublishLemmas.{kept-item, silent-item}
use Rattle.ll_room.proofs.room.Room.take_in.Goals as goal

pub returns-clause-goes_on : goal.returns-clause-goes_on
returns-clause-goes_on c = subst (λ x. HasTaken (presentation_in x) c.accept.new.self c.args.item.now) c.self-2.view_is c.in_ok-accept.ensures.accepted

pub returns-clause-accepted : goal.returns-clause-accepted
returns-clause-accepted c =
    let now = c.args.self.now in
    let first : takes_any (releases now c.args.item.now).0 now.slots ≡ false = search rules in
    let second : takes_any (releases now c.args.item.now).1 now.slots ≡ false = search rules in
    silent-item (the_view c.self-2.inside) now c.accept.new.self c.args.item.now c.self-2.view_is first second

pub invariant_of-self-2 : goal.invariant_of-self-2
invariant_of-self-2 c =
    let h = the_view c.self-2.inside in
    let on = c.in_ok-accept.ensures.accepted in
    kept-item h c.accept.new.self h.slots (few-events h c.args.self.now c.self-2.view_is (free-few c.args.self.now c.args.item.now c.requires.allowed)) c.self-2.invariant on.settings on.count refl
