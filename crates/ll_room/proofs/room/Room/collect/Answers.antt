-- The request leaves with its reply, or nothing changes.
use Rattle.std.proofs.Common.{◌≡◌, ◌∙◌, ap, sym, subst, map, is_some, true, None}
use Rattle.ll_verdict.specs.Waiting.{found, reply_at, ticket_in}
use Rattle.ll_room.specs.RoomValue.{Stands, less}
use Rattle.ll_room.proofs.KeptLemmas.{leave-kept, same-kept}
use Rattle.ll_verdict.proofs.WaitingLemmas.{open-found, open-ready, unready}
use Rattle.ll_room.proofs.SettleLemmas.{collect-stands, fewer, same-room, still, stranger}
use Rattle.ll_room.proofs.room.Room.collect.Goals.{in-Some-find, in-None}
use Rattle.ll_room.proofs.room.Room.collect.Goals as goal

pub invariant_of-self : goal.invariant_of-self
invariant_of-self c =
    let ready : is_some (reply_at c.ticket-ticket.result c.self.inside.book) ≡ true = sym (ap is_some c.in-Some.ensures.reply) in
    leave-kept _ c.ticket-ticket.result c.take.new.self c.self.invariant (c.take.ensures.alone (ap is_some c.in-Some.is))
    (open-ready c.ticket-ticket.result c.self.inside.book ready)

pub returns-in-Some-clause-handed : goal.returns-in-Some-clause-handed
returns-in-Some-clause-handed c = λ got es st.
    collect-stands _ es c.ticket-ticket.result c.args.parked.ticket c.take.new.self c.self.invariant.target (subst (λ h. Stands h es) (sym c.self.view_is) st)
    c.ticket-ticket.ensures c.take.ensures.left

pub returns-in-Some-clause-fewer : goal.returns-in-Some-clause-fewer
returns-in-Some-clause-fewer c = λ got.
    ap (map ticket_in) (c.take.ensures.alone (ap is_some c.in-Some.is)) ∙ fewer c.ticket-ticket.result c.self.inside.book
    ∙ ap (λ n. less n (map ticket_in c.self.inside.book)) c.ticket-ticket.ensures ∙ ap (λ h. less c.args.parked.ticket (map ticket_in h.slots)) c.self.view_is

pub invariant_of-self-2 : goal.invariant_of-self-2
invariant_of-self-2 c =
    same-kept _ c.take.new.self c.self.invariant
    (c.take.ensures.left ∙ unready c.ticket-ticket.result c.self.inside.book (sym c.take.ensures.reply ∙ c.in_default.is))

pub returns-clause-answer : goal.returns-clause-answer
returns-clause-answer c =
    let none : reply_at c.ticket-ticket.result c.self.inside.book ≡ None = sym c.take.ensures.reply ∙ c.in_default.is in
    let left : c.take.new.self ≡ c.self.inside.book = c.take.ensures.left ∙ unready c.ticket-ticket.result c.self.inside.book none in
    let there = sym (open-found c.ticket-ticket.result c.self.inside.book) ∙ ap (λ ss. is_some (found c.ticket-ticket.result ss)) (sym left) ∙ sym (ap is_some c.find.ensures) in
    let here = sym c.channel.ensures ∙ c.if-channel-self.false in
    elim c.match-find.branch [
      | in-Some-find w ↦ w.result-is ∙ still _ c.args.self.now c.args.parked c.ticket-ticket.result c.self.view_is here c.ticket-ticket.ensures none (there ∙ ap is_some w.in-Some-find.is)
      | in-None w ↦ w.result-is ∙ stranger _ c.args.self.now c.args.parked c.ticket-ticket.result c.self.view_is here c.ticket-ticket.ensures none (there ∙ ap is_some w.in-None.is)
    ]

pub returns-clause-nothing : goal.returns-clause-nothing
returns-clause-nothing c = λ nothing.
    same-room _ c.take.new.self (c.take.ensures.left ∙ unready c.ticket-ticket.result c.self.inside.book (sym c.take.ensures.reply ∙ c.in_default.is)) ∙ c.self.view_is
