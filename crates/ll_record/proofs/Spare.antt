-- Each open request can have its last line: the memory for it is there.
use Rattle.std.proofs.Common.{◌≡◌, ℕ, ◌+◌, ◌*◌, ◌≤◌, ◌==◌, ◌||◌, List, [], ◌∷◌, ◌++◌, Bool, true, false, not, cond, ap, refl, ◌∙◌, sym, subst, true≢false, length, map, arith}
use Rattle.std.proofs.lemmas.List.{length-append, length-map}
use Rattle.std.specs.List.{list_any}
use Rattle.ll_verdict.specs.Waiting.{has_ticket, ticket_in}
use Rattle.ll_room.specs.Answers.{is_open, new_tickets}
use Rattle.ll_room.specs.RoomValue.{RoomValue, among, less, tickets}
use Rattle.ll_room.specs.declared.asked.Asked.{Asked}
use Rattle.ll_room.specs.declared.asked.Asked.TheVariants.{Held, Now}
use Rattle.ll_verdict.specs.declared.entry.Slot.{Slot}
use Rattle.ll_record.specs.Kept.{spare}

many : (h : RoomValue) → length (tickets h) ≡ length h.slots
many h = length-map h.slots ticket_in

open_among : (t : ℕ) (ss : List Slot) → list_any (has_ticket t) ss ≡ among t (map ticket_in ss)
open_among t [] = refl
open_among t (s ∷ ss) = ap (λ b. (s.entry.ticket == t) || b) (open_among t ss)

-- what is left is never more
less_by : (n : ℕ) (ns ms : List ℕ) (b : Bool) → length ms ≤ length ns → length (cond b (n ∷ ms) ms) ≤ length (n ∷ ns)
less_by n ns ms true h = omega (arith, h)
less_by n ns ms false h = omega (arith, h)

no_more : (t : ℕ) (ns : List ℕ) → length (less t ns) ≤ length ns
no_more t [] = omega arith
no_more t (n ∷ ns) = less_by n ns (less t ns) (not (n == t)) (no_more t ns)

fewer_by : (t n : ℕ) (ns ms : List ℕ) (b more : Bool) → length ms ≤ length ns → (more ≡ true → length ms + 1 ≤ length ns) → (b || more) ≡ true
    → length (cond (not b) (n ∷ ms) ms) + 1 ≤ length (n ∷ ns)
fewer_by t n ns ms true more h k e = omega (arith, h)
fewer_by t n ns ms false more h k e = let less_one = k e in omega (arith, less_one)

fewer : (t : ℕ) (ns : List ℕ) → among t ns ≡ true → length (less t ns) + 1 ≤ length ns
fewer t [] e = absurd (true≢false (sym e))
fewer t (n ∷ ns) e = fewer_by t n ns (less t ns) (n == t) (among t ns) (no_more t ns) (fewer t ns) e

-- one that was open is closed: its line takes what was kept for it
pub spare-less : (h new : RoomValue) (t line free left : ℕ) → is_open h t ≡ true → tickets new ≡ less t (tickets h) → spare * length h.slots ≤ free
    → line ≤ spare → free ≤ left + line → spare * length new.slots ≤ left
spare-less h new t line free left is e enough short taken =
    let here = fewer t (tickets h) (sym (open_among t h.slots) ∙ is) in
    let new_many : length new.slots ≡ length (less t (tickets h)) = sym (many new) ∙ ap length e in
    let old_many = many h in
    omega (arith, here, new_many, old_many, enough, short, taken)

-- the same requests are open
pub spare-same : (h new : RoomValue) (left : ℕ) → tickets new ≡ tickets h → spare * length h.slots ≤ left → spare * length new.slots ≤ left
spare-same h new left e enough = subst (λ n. spare * n ≤ left) (sym (many h) ∙ ap length (sym e) ∙ many new) enough

-- one more is open at most
pub spare-more : (h new : RoomValue) (ns : List ℕ) (left : ℕ) → tickets new ≡ tickets h ++ ns → length ns ≤ 1 → spare * (length h.slots + 1) ≤ left → spare * length new.slots ≤ left
spare-more h new ns left e few enough =
    let new_many : length new.slots ≡ length (tickets h) + length ns = sym (many new) ∙ ap length e ∙ length-append (tickets h) ns in
    let old_many = many h in
    omega (arith, few, new_many, old_many, enough)

-- what a call leaves, after its own line
pub spare-left : (n len line requests free left : ℕ) → len ≡ line → requests ≡ n → len + 1 + spare * requests ≤ free → free ≤ left + (line + 1) → spare * n ≤ left
spare-left n len line requests free left e f enough taken = omega (arith, e, f, enough, taken)

pub spare-left-more : (n len line requests free left : ℕ) → len ≡ line → requests ≡ n → len + 1 + spare * (requests + 1) ≤ free → free ≤ left + (line + 1)
    → spare * (n + 1) ≤ left
spare-left-more n len line requests free left e f enough taken = omega (arith, e, f, enough, taken)

-- a line of at most 79 bytes, with its end
pub short-line : (n m : ℕ) → n ≡ m → m ≤ 79 → n + 1 ≤ spare
short-line n m e h = omega (arith, e, h)

pub one-new : (a : Asked) → length (new_tickets a) ≤ 1
one-new (Now reply) = omega arith
one-new (Held parked) = omega arith
