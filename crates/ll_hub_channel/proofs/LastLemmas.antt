-- The last of the values beside a room is spent.
use Rattle.std.proofs.Common.{◌≡◌, ℕ, List, [], ◌∷◌, ◌++◌, true, refl, ap, ◌∙◌, sym, subst, arith}
use Rattle.ll_room.proofs.TicketLemmas.{distinct_less}
use Rattle.ll_room.specs.Answers as room
use Rattle.ll_room.specs.RoomValue.{AreDistinct, RoomValue, IsSame, among, less, tickets}
use Rattle.ll_room.specs.Ticket.{Ticket}
use Rattle.ll_room.specs.declared.asked.Closed.{Closed}
use Rattle.ll_room.specs.declared.asked.Closed.TheVariants as given_up
use Rattle.ll_hub_channel.proofs.ParkedLemmas.{among_last, last-leaves}
use Rattle.ll_hub_channel.proofs.ToldLemmas.{closes}
use Rattle.ll_hub_channel.specs.Channel.{parked_for, ticket_at}

-- the tickets whose last value is this one
pub record IsLast (channel : ℕ) (ns : List ℕ) (ps : List Ticket) (p : Ticket) : Type 0 where
  pub before : List ℕ
  pub ticket : ℕ
  pub tickets_are : ns ≡ before ++ ticket ∷ []
  pub rest : ps ≡ parked_for channel before
  pub value : p ≡ ticket_at channel ticket

last-of : (channel : ℕ) (ns : List ℕ) (ps : List Ticket) (p : Ticket) → ps ++ p ∷ [] ≡ parked_for channel ns → IsLast channel ns ps p
last-of channel [] [] p e = cc
last-of channel [] (q ∷ ps) p e = cc
last-of channel (n ∷ []) [] p e = record { before = []; ticket = n; tickets_are = refl; rest = refl; value = cc }
last-of channel (n ∷ m ∷ ns) [] p e = cc
last-of channel (n ∷ ns) (q ∷ ps) p e =
    let l = last-of channel ns ps p (cc) in
    record { before = n ∷ l.before; ticket = l.ticket; tickets_are = ap (λ ns. n ∷ ns) l.tickets_are; rest = grind (arith, l.rest); value = l.value }

pub closes-last : (h : RoomValue) (one p : Ticket) (ps qs : List Ticket) → ps ≡ parked_for h.channel (tickets h) → ps ≡ qs ++ one ∷ [] → p ≡ one
    → room.closed h p ≡ given_up.Done
closes-last h one p ps qs each items same =
    let l = last-of h.channel (tickets h) qs one (sym items ∙ each) in
    closes h p l.ticket (same ∙ l.value) (ap (among l.ticket) l.tickets_are ∙ among_last l.ticket l.before)

pub after-last : (h h2 : RoomValue) (one p : Ticket) (ps qs : List Ticket) (r : Closed) → ps ≡ parked_for h.channel (tickets h) → AreDistinct (tickets h) → ps ≡ qs ++ one ∷ []
    → p ≡ one → r ≡ room.closed h p → (room.is_done r ≡ true → tickets h2 ≡ less p.ticket (tickets h)) → IsSame h h2
    → (qs ≡ parked_for h2.channel (tickets h2)) × AreDistinct (tickets h2)
after-last h h2 one p ps qs r each once items same answer fewer kept =
    let l = last-of h.channel (tickets h) qs one (sym items ∙ each) in
    let left : tickets h2 ≡ less l.ticket (tickets h) =
    fewer (ap room.is_done (answer ∙ closes-last h one p ps qs each items same)) ∙ ap (λ (p : Ticket). less p.ticket (tickets h)) (same ∙ l.value) in
    let rest : less l.ticket (tickets h) ≡ l.before = ap (less l.ticket) l.tickets_are ∙ last-leaves l.ticket l.before (subst AreDistinct l.tickets_are once) in
    (rw (kept.channel, left, rest) l.rest, rw left (distinct_less l.ticket (tickets h) once))
