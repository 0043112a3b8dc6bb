-- For private contracts: the two orders in which requests wait, and the invariant of a book.
use Rattle.std.specs.Prelude.{◌≡◌, ℕ, ◌≤◌, ◌+◌, ◌&&◌, ◌||◌, ◌==◌, List, [], ◌∷◌, Bool, true, false, not, Option, None, Some, filter, find, length, map, nat_le, nat_lt, option_map}
use Rattle.std.specs.BTreeMap.{is_at}
use Rattle.std.specs.Map.{lookup}
use Rattle.std.specs.Ordering.{nat_cmp, is_gt, is_lt}
use Rattle.ll_directive.specs.declared.want.Awaited.{Awaited}
use Rattle.ll_directive.specs.declared.want.Awaited.TheVariants as awaited
use Rattle.ll_book.specs.Numbers.{AreRising}
use Rattle.ll_book.specs.Places.{IsBefore, IsOrder, place_cmp}
use Rattle.ll_book.specs.declared.place.OrderKey.{OrderKey}
use Rattle.ll_verdict.specs.State.{is_waiting}
use Rattle.ll_verdict.specs.Waiting.{found, has_ticket, is_ready, ticket_in}
use Rattle.ll_verdict.specs.declared.entry.Entry.{Entry}
use Rattle.ll_verdict.specs.declared.entry.Slot.{Slot}
use Rattle.ll_verdict.specs.declared.reply.Settled.{Settled}
use Rattle.ll_book.specs.Release.{Supply, given_in, takes}
use Rattle.ll_book.specs.declared.release.Release.{Release}
use Rattle.ll_book.specs.declared.release.Release.TheVariants.{Part, Segment, All}

-- what a request awaits, as a number: 0 for a part, 1 for a segment, 2 for nothing
abbrev pub kind_of : Awaited → ℕ
kind_of awaited.Nothing = 2
kind_of (awaited.Segment msn) = 1
kind_of (awaited.Part msn index) = 0

abbrev pub msn_of : Awaited → ℕ
msn_of awaited.Nothing = 0
msn_of (awaited.Segment msn) = msn
msn_of (awaited.Part msn index) = msn

abbrev pub index_of : Awaited → ℕ
index_of awaited.Nothing = 0
index_of (awaited.Segment msn) = 0
index_of (awaited.Part msn index) = index

-- the place of a request in the order of what is awaited
abbrev pub want_of : Entry → OrderKey
want_of e = record { group = e.wanted.rendition; kind = kind_of e.wanted.awaited; rank = msn_of e.wanted.awaited; subrank = index_of e.wanted.awaited; number = e.ticket }

-- the place of a request in the order of time
abbrev pub time_of : Entry → OrderKey
time_of e = record { group = 0; kind = 0; rank = e.deadline; subrank = 0; number = e.ticket }

abbrev pub want_at : Slot → OrderKey
want_at s = want_of s.entry

abbrev pub time_at : Slot → OrderKey
time_at s = time_of s.entry

-- whether a release takes a waiting request whose place in the order of what is awaited is `p`
abbrev pub covers : Release → OrderKey → Bool
covers (Part rendition msn part) p = p.group == rendition && (p.kind == 0 && (nat_lt p.rank msn || (p.rank == msn && nat_le p.subrank part)))
covers (Segment rendition msn) p = p.group == rendition && (p.kind == 1 && nat_le p.rank msn)
covers (All rendition) p = p.group == rendition

abbrev pub first_kind : Release → ℕ
first_kind (Part rendition msn part) = 0
first_kind (Segment rendition msn) = 1
first_kind (All rendition) = 0

abbrev pub rendition_of : Release → ℕ
rendition_of (Part rendition msn part) = rendition
rendition_of (Segment rendition msn) = rendition
rendition_of (All rendition) = rendition

-- a place before all that a release covers
abbrev pub start : Release → OrderKey
start which = record { group = rendition_of which; kind = first_kind which; rank = 0; subrank = 0; number = 0 }

-- the request once it has the reply `x`
abbrev pub settle_with : Settled → Slot → Slot
settle_with x s = record s { settled = Some x }

-- the request `e` is open and waits
abbrev pub IsWaiting : Entry → List Slot → Type 0
IsWaiting e slots = find (has_ticket e.ticket) slots ≡ Some (record { entry = e; settled = None })

-- whether something is found and passes the test `p`
abbrev pub is_passed : (Slot → Bool) → Option Slot → Bool
is_passed p None = false
is_passed p (Some s) = p s

-- the invariant of a book: both orders are those of the requests that wait, and `ready` has the tickets of those that have their reply, with
-- `capacity` for all that are open
pub record IsBook (slots : List Slot) (wants times : List OrderKey) (ready : List ℕ) (capacity : ℕ) : Type 0 where
  pub rising : AreRising ticket_in 0 slots
  pub wanted : IsOrder ticket_in is_waiting want_at slots wants
  pub timed : IsOrder ticket_in is_waiting time_at slots times
  pub told : ready ≡ map ticket_in (filter is_ready slots)
  pub memory : length wants + length ready ≤ capacity

-- in the order of what is awaited, `place` is that of the first request after the place `after` that the release takes
pub record IsNextTaken (which : Release) (after place : OrderKey) (slots : List Slot) : Type 0 where
  pub slot : Slot
  pub there : find (has_ticket place.number) slots ≡ Some slot
  pub taken : takes which slot ≡ true
  pub at : want_at slot ≡ place
  pub later : IsBefore after place
  pub first : (s : Slot) → find (has_ticket s.entry.ticket) slots ≡ Some s → takes which s ≡ true → IsBefore after (want_at s) → is_gt (place_cmp place (want_at s)) ≡ false

-- no request that the release takes stands after the place `after`
abbrev pub NoneTaken : Release → OrderKey → List Slot → Type 0
NoneTaken which after slots = (s : Slot) → find (has_ticket s.entry.ticket) slots ≡ Some s → takes which s ≡ true → IsBefore after (want_at s) → ⊥

-- whether the release takes the request, and its place is after `after`
abbrev pub is_to_come : Release → OrderKey → Slot → Bool
is_to_come which after s = takes which s && is_lt (place_cmp after (want_at s))

-- whether the release takes the request, and its place isn't after `after`
abbrev pub is_held : Release → OrderKey → Slot → Bool
is_held which after s = takes which s && not (is_lt (place_cmp after (want_at s)))

-- the reply for request `t`, among those made
abbrev pub reply_under : List (ℕ × Settled) → ℕ → Option Settled
reply_under replies t = lookup (is_at (nat_cmp t)) replies

-- the reply that request `t` gets, if it is open
abbrev pub holder_at : Supply → List Slot → ℕ → Option Settled
holder_at supply slots t = option_map (λ (e : Entry). given_in supply e.wanted) (found t slots)

abbrev pub reply_if : Bool → Option Settled → Option Settled
reply_if true reply = reply
reply_if false reply = None

-- tickets, and how many there is memory for
pub record Kept : Type 0 where
  pub tickets : List ℕ
  pub memory : ℕ

abbrev pub put_by : Bool → ℕ → ℕ → List ℕ → List ℕ → List ℕ
put_by true t n more rest = n ∷ rest
put_by false t n more rest = t ∷ n ∷ more

-- the numbers, which rise, with `t` inserted in order
abbrev pub put_in : ℕ → List ℕ → List ℕ
put_in t [] = t ∷ []
put_in t (n ∷ more) = put_by (nat_lt n t) t n more (put_in t more)
