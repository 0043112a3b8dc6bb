-- The request leaves, or it isn't open in this room.
use Rattle.std.proofs.Common.{◌∙◌, ap, sym, subst, map, is_some}
use Rattle.ll_verdict.specs.Waiting.{ticket_in}
use Rattle.ll_room.specs.RoomValue.{Stands, less}
use Rattle.ll_room.proofs.KeptLemmas.{leave-kept}
use Rattle.ll_verdict.proofs.WaitingLemmas.{open-found}
use Rattle.ll_room.proofs.SettleLemmas.{close-stands, done, fewer, not_done}
use Rattle.ll_room.proofs.room.Room.close.Goals as goal

pub invariant_of-self : goal.invariant_of-self
invariant_of-self c =
    leave-kept _ c.ticket-ticket.result c.drop_ticket.new.self c.self.invariant c.drop_ticket.ensures.slots
    (sym (open-found c.ticket-ticket.result c.self.inside.book) ∙ sym (ap is_some c.find.ensures) ∙ c.if-is_none.ensures)

pub returns-clause-given_up : goal.returns-clause-given_up
returns-clause-given_up c = λ spent es st.
    close-stands _ es c.ticket-ticket.result c.args.parked.ticket c.drop_ticket.new.self c.self.invariant.target (subst (λ h. Stands h es) (sym c.self.view_is) st)
    c.ticket-ticket.ensures c.drop_ticket.ensures.slots

pub returns-clause-fewer : goal.returns-clause-fewer
returns-clause-fewer c = λ spent.
    ap (map ticket_in) c.drop_ticket.ensures.slots ∙ fewer c.ticket-ticket.result c.self.inside.book
    ∙ ap (λ n. less n (map ticket_in c.self.inside.book)) c.ticket-ticket.ensures ∙ ap (λ h. less c.args.parked.ticket (map ticket_in h.slots)) c.self.view_is

pub returns-clause-answer : goal.returns-clause-answer
returns-clause-answer c =
    done _ c.args.self.now c.args.parked c.ticket-ticket.result c.self.view_is (sym c.channel.ensures ∙ c.if-channel-self.false) c.ticket-ticket.ensures
    (sym (open-found c.ticket-ticket.result c.self.inside.book) ∙ sym (ap is_some c.find.ensures) ∙ c.if-is_none.ensures)

pub returns-then-is_none-clause-answer : goal.returns-then-is_none-clause-answer
returns-then-is_none-clause-answer c =
    not_done _ c.args.self.now c.args.parked c.ticket-ticket.result c.self.view_is (sym c.channel.ensures ∙ c.if-channel-self.false) c.ticket-ticket.ensures
    (sym (open-found c.ticket-ticket.result c.self.inside.book) ∙ sym (ap is_some c.find.ensures) ∙ c.if-is_none.ensures)
