-- The values that stand for open requests: one is taken out by its ticket.
use Rattle.std.proofs.Common.{◌≡◌, ℕ, ◌+◌, List, [], ◌∷◌, ◌++◌, true, Option, Some, None, if◌then◌else◌, nat_lt, refl, suc, length, slice_index_or, position, arith}
use Rattle.std.proofs.lemmas.Bool.Decides.{nat_tests}
use Rattle.std.specs.List.{position_or_len, remove}
use Rattle.ll_room.proofs.TicketLemmas.{absent}
use Rattle.ll_room.specs.RoomValue.{AreDistinct, among, less}
use Rattle.ll_room.specs.Ticket.{Ticket}
use Rattle.ll_hub_channel.specs.Channel.{is_of, parked_for, ticket_at}

abbrev place : ℕ → ℕ → List ℕ → ℕ
place t channel ns = position_or_len (is_of t) (parked_for channel ns)

-- a ticket that is among these has a place
has-place : (t channel : ℕ) (ns : List ℕ) → among t ns ≡ nat_lt (place t channel ns) (length (parked_for channel ns))
has-place t channel [] = refl
has-place t channel (n ∷ ns) = grind (arith, nat_tests, has-place t channel ns)

-- its value stands there
value-there : (t channel : ℕ) (ns : List ℕ) (d : Ticket) → among t ns ≡ true → slice_index_or (parked_for channel ns) (place t channel ns) d ≡ ticket_at channel t
value-there t channel [] d h = cc
value-there t channel (n ∷ ns) d h = grind (arith, nat_tests, value-there t channel ns d)

remove_next : (p : Ticket) (ps : List Ticket) (i : ℕ) → remove (p ∷ ps) (1 + i) ≡ p ∷ remove ps i
remove_next p ps i = let next : 1 + i ≡ suc i = omega arith in rw next

-- without it, the values of the others are left
others-left : (t channel : ℕ) (ns : List ℕ) → AreDistinct ns → remove (parked_for channel ns) (place t channel ns) ≡ parked_for channel (less t ns)
others-left t channel [] once = refl
others-left t channel (n ∷ ns) once =
    grind (arith, nat_tests, others-left t channel ns once.1, absent t ns, remove_next (ticket_at channel n) (parked_for channel ns) (place t channel ns))

-- ---- taking one out

pub none-taken : (t channel : ℕ) (ns : List ℕ) (ps : List Ticket) (r : Option Ticket) → None ≡ position (is_of t) ps → ps ≡ parked_for channel ns → r ≡ None
    → r ≡ (if among t ns then Some (ticket_at channel t) else None)
none-taken t channel ns ps r h e is = grind (arith, has-place t channel ns)

pub none-left : (t channel : ℕ) (ns : List ℕ) (ps : List Ticket) → None ≡ position (is_of t) ps → ps ≡ parked_for channel ns → ps ≡ parked_for channel (less t ns)
none-left t channel ns ps h e = grind (arith, has-place t channel ns, absent t ns)

pub one-taken : (t channel i : ℕ) (ns : List ℕ) (ps : List Ticket) (p : Ticket) → Some i ≡ position (is_of t) ps → ps ≡ parked_for channel ns
    → p ≡ slice_index_or ps i p → Some p ≡ (if among t ns then Some (ticket_at channel t) else None)
one-taken t channel i ns ps p h e is = grind (arith, has-place t channel ns, value-there t channel ns p)

pub one-left : (t channel i : ℕ) (ns : List ℕ) (ps qs : List Ticket) → AreDistinct ns → Some i ≡ position (is_of t) ps → ps ≡ parked_for channel ns
    → qs ≡ remove ps i → qs ≡ parked_for channel (less t ns)
one-left t channel i ns ps qs once h e is = grind (arith, has-place t channel ns, others-left t channel ns once)

-- ---- the last one leaves

pub among_last : (t : ℕ) (ns : List ℕ) → among t (ns ++ t ∷ []) ≡ true
among_last t [] = grind (arith, nat_tests)
among_last t (n ∷ ns) = grind (arith, nat_tests, among_last t ns)

pub last-leaves : (t : ℕ) (ns : List ℕ) → AreDistinct (ns ++ t ∷ []) → less t (ns ++ t ∷ []) ≡ ns
last-leaves t [] once = grind (arith, nat_tests)
last-leaves t (n ∷ ns) once = grind (arith, nat_tests, last-leaves t ns once.1, among_last t ns)
