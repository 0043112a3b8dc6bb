-- The requests whose time is over are settled, and all stay open.
use Rattle.std.proofs.Common.{◌∙◌, ap, sym, subst, map, arith}
use Rattle.ll_verdict.specs.Waiting.{ticket_in}
use Rattle.ll_room.specs.RoomValue.{Stands}
use Rattle.ll_room.proofs.KeptLemmas.{clock-kept}
use Rattle.ll_room.proofs.SettleLemmas.{clock-stands, clock-tickets}
use Rattle.ll_room.proofs.room.Room.clock.Goals as goal

pub invariant_of-self : goal.invariant_of-self
invariant_of-self c =
    clock-kept _ c.max-now.result c.expire.new.self c.self.invariant c.if-self-ge-EVENT_END.false
    (omega (arith, c.max-now.ensures, c.self.invariant.early, c.if-ms-gt-LAST_TIME.false)) c.expire.ensures.slots

pub returns-clause-passed : goal.returns-clause-passed
returns-clause-passed c = λ es st.
    clock-stands _ es c.args.ms c.max-now.result c.expire.new.self c.self.invariant.target (subst (λ h. Stands h es) (sym c.self.view_is) st)
    c.max-now.ensures c.expire.ensures.slots

pub returns-clause-still_open : goal.returns-clause-still_open
returns-clause-still_open c =
    ap (map ticket_in) c.expire.ensures.slots ∙ clock-tickets c.max-now.result c.self.inside.book ∙ ap (λ h. map ticket_in h.slots) c.self.view_is
