-- The open requests of the rooms, and the requests that wait.
use Rattle.std.proofs.Common.{◌≡◌, ℕ, zero, suc, ◌==◌, ◌&&◌, ◌||◌, List, [], ◌∷◌, ◌++◌, Bool, true, false, not, cond, if◌then◌else◌, Option, Some, None, is_none, is_some, refl, ap, ◌∙◌, sym, subst, true≢false, filter, map, slice_get, slice_set, arith}
use Rattle.std.specs.List.{list_any}
use Rattle.std.proofs.lemmas.Bool.Decides.{nat_tests}
use Rattle.ll_verdict.specs.Waiting.{has_ticket, ticket_in}
use Rattle.ll_verdict.specs.declared.entry.Slot.{Slot}
use Rattle.ll_room.specs.Answers.{is_open}
use Rattle.ll_room.proofs.TicketLemmas.{absent, distinct_less, distinct_more, newest_is_new}
use Rattle.ll_room.specs.RoomValue.{AreDistinct, RoomValue, among, less, tickets}
use Rattle.ll_script_rooms.specs.Waits.{under, without}
use Rattle.ll_script_rooms.specs.declared.wait.Wait.{Wait}
use Rattle.ll_script_rooms.specs.World.{Channel}
use Rattle.ll_script_rooms.specs.Kept.{AreTied, room_values_from, is_in, open_in, ticket_of, tickets_at}

pub some_is : {X : Type 0} (x y : X) → Some x ≡ Some y → x ≡ y
some_is x y h = ap (λ o. elim o [ None ↦ x | Some z ↦ z ]) h

pub none_some : {X : Type 0} (x : X) → None ≡ Some x → ⊥
none_some x h = true≢false (ap is_none h)

pub equal : (a b : ℕ) → (a == b) ≡ true → a ≡ b
equal a b h = grind (arith, nat_tests, h)

pub same_test : (t : ℕ) → (t == t) ≡ true
same_test t = grind (arith, nat_tests)

clash : (x i j : ℕ) → (j == i) ≡ false → (x == i) ≡ true → (x == j) ≡ false
clash x i j h k = grind (arith, nat_tests, h, k)

pub turn : (i j : ℕ) → (j == i) ≡ false → (i == j) ≡ false
turn i j f = grind (arith, nat_tests, f)

pub append_none : (ns : List ℕ) → ns ++ [] ≡ ns
append_none [] = refl
append_none (n ∷ ns) = ap (λ ms. n ∷ ms) (append_none ns)

-- ---- the request that waits under a ticket

find_by : (place t : ℕ) (x : Wait) (a b : Bool) (o : Option Wait) (ys : List Wait) → (x.ticket == t) ≡ b → is_some o ≡ list_any (λ n. n == t) (map ticket_of ys)
    → is_some (cond (a && b) (Some x) o) ≡ list_any (λ n. n == t) (map ticket_of (cond a (x ∷ ys) ys))
find_by place t x true true o ys e h = ap (λ b. b || list_any (λ n. n == t) (map ticket_of ys)) (sym e)
find_by place t x true false o ys e h = h ∙ ap (λ b. b || list_any (λ n. n == t) (map ticket_of ys)) (sym e)
find_by place t x false b o ys e h = h

pub find_any : (place t : ℕ) (xs : List Wait) → is_some (under place t xs) ≡ list_any (λ n. n == t) (tickets_at place xs)
find_any place t [] = refl
find_any place t (x ∷ xs) = find_by place t x (x.place == place) (x.ticket == t) (under place t xs) (filter (is_in place) xs) refl (find_any place t xs)

pub any_map : (t : ℕ) (ss : List Slot) → list_any (λ n. n == t) (map ticket_in ss) ≡ list_any (has_ticket t) ss
any_map t [] = refl
any_map t (s ∷ ss) = ap (λ b. (s.entry.ticket == t) || b) (any_map t ss)

-- a request waits at a place exactly if it is open in the room there
pub is_open_there : (rooms : List RoomValue) (waits : List Wait) (i t : ℕ) (h : RoomValue) → AreTied rooms waits → slice_get rooms i ≡ Some h → is_some (under i t waits) ≡ is_open h t
is_open_there rooms waits i t h tied at =
    find_any i t waits ∙ ap (list_any (λ n. n == t)) (tied.opened i ∙ ap open_in at) ∙ any_map t h.slots

-- a request that waits has a room
pub has_room : (rooms : List RoomValue) (waits : List Wait) (i t : ℕ) → AreTied rooms waits → slice_get rooms i ≡ None → is_some (under i t waits) ≡ true → ⊥
has_room rooms waits i t tied at h =
    true≢false (sym h ∙ find_any i t waits ∙ ap (list_any (λ n. n == t)) (tied.opened i ∙ ap open_in at))

-- ---- one leaves

drop_by : (t : ℕ) (x : Wait) (a b : Bool) (xs ys : List Wait) (place : ℕ) → (x.place == place) ≡ a → (x.ticket == t) ≡ b
    → AreDistinct (map ticket_of (cond a (x ∷ filter (is_in place) xs) (filter (is_in place) xs)))
    → (AreDistinct (tickets_at place xs) → tickets_at place ys ≡ less t (tickets_at place xs))
    → tickets_at place (cond (a && b) xs (x ∷ ys)) ≡ less t (map ticket_of (cond a (x ∷ filter (is_in place) xs) (filter (is_in place) xs)))
drop_by t x true true xs ys place e f d ih =
    sym (ap (λ b. cond (not b) (x.ticket ∷ less t (tickets_at place xs)) (less t (tickets_at place xs))) f
    ∙ absent t (tickets_at place xs) (ap (λ n. among n (tickets_at place xs)) (sym (equal x.ticket t f)) ∙ d.0))
drop_by t x true false xs ys place e f d ih =
    ap (λ b. map ticket_of (cond b (x ∷ filter (is_in place) ys) (filter (is_in place) ys))) e ∙ ap (λ ns. x.ticket ∷ ns) (ih d.1)
    ∙ ap (λ b. cond (not b) (x.ticket ∷ less t (tickets_at place xs)) (less t (tickets_at place xs))) (sym f)
drop_by t x false b xs ys place e f d ih = ap (λ b. map ticket_of (cond b (x ∷ filter (is_in place) ys) (filter (is_in place) ys))) e ∙ ih d

pub tickets_drop : (place t : ℕ) (xs : List Wait) → AreDistinct (tickets_at place xs) → tickets_at place (without place t xs) ≡ less t (tickets_at place xs)
tickets_drop place t [] d = refl
tickets_drop place t (x ∷ xs) d =
    drop_by t x (x.place == place) (x.ticket == t) xs (without place t xs) place refl refl d (tickets_drop place t xs)

other_by : (i j t : ℕ) (x : Wait) (a b : Bool) (xs ys : List Wait) → (x.place == i) ≡ a → (j == i) ≡ false → tickets_at j ys ≡ tickets_at j xs
    → tickets_at j (cond (a && b) xs (x ∷ ys)) ≡ tickets_at j (x ∷ xs)
other_by i j t x true true xs ys e f h = ap (λ b. map ticket_of (cond b (x ∷ filter (is_in j) xs) (filter (is_in j) xs))) (sym (clash x.place i j f e))
other_by i j t x true false xs ys e f h = both (x.place == j)
  where
    both : (b : Bool) → map ticket_of (cond b (x ∷ filter (is_in j) ys) (filter (is_in j) ys)) ≡ map ticket_of (cond b (x ∷ filter (is_in j) xs) (filter (is_in j) xs))
    both true = ap (λ ns. x.ticket ∷ ns) h
    both false = h
other_by i j t x false b xs ys e f h = both (x.place == j)
  where
    both : (b : Bool) → map ticket_of (cond b (x ∷ filter (is_in j) ys) (filter (is_in j) ys)) ≡ map ticket_of (cond b (x ∷ filter (is_in j) xs) (filter (is_in j) xs))
    both true = ap (λ ns. x.ticket ∷ ns) h
    both false = h

pub tickets_other : (i j t : ℕ) (xs : List Wait) → (j == i) ≡ false → tickets_at j (without i t xs) ≡ tickets_at j xs
tickets_other i j t [] f = refl
tickets_other i j t (x ∷ xs) f = other_by i j t x (x.place == i) (x.ticket == t) xs (without i t xs) refl f (tickets_other i j t xs f)

-- ---- one comes

more_by : (j : ℕ) (x y : Wait) (b : Bool) (xs ys : List Wait) → map ticket_of ys ≡ map ticket_of xs ++ (if x.place == j then x.ticket ∷ [] else [])
    → map ticket_of (cond b (y ∷ ys) ys) ≡ map ticket_of (cond b (y ∷ xs) xs) ++ (if x.place == j then x.ticket ∷ [] else [])
more_by j x y true xs ys h = ap (λ ns. y.ticket ∷ ns) h
more_by j x y false xs ys h = h

alone : (x : Wait) (b : Bool) → map ticket_of (cond b (x ∷ []) []) ≡ (if b then x.ticket ∷ [] else [])
alone x true = refl
alone x false = refl

pub tickets_more : (j : ℕ) (xs : List Wait) (x : Wait) → tickets_at j (xs ++ x ∷ []) ≡ tickets_at j xs ++ (if x.place == j then x.ticket ∷ [] else [])
tickets_more j [] x = alone x (x.place == j)
tickets_more j (y ∷ xs) x = more_by j x y (y.place == j) (filter (is_in j) xs) (filter (is_in j) (xs ++ x ∷ [])) (tickets_more j xs x)

-- ---- a room changes

pub get_set : {X : Type 0} (xs : List X) (i : ℕ) (x y : X) → slice_get xs i ≡ Some x → slice_get (slice_set xs i y) i ≡ Some y
get_set [] i x y h = absurd (none_some x h)
get_set (z ∷ xs) zero x y h = refl
get_set (z ∷ xs) (suc i) x y h = get_set xs i x y h

pub get_other : {X : Type 0} (xs : List X) (i j : ℕ) (y : X) → (j == i) ≡ false → slice_get (slice_set xs i y) j ≡ slice_get xs j
get_other [] i j y h = refl
get_other (z ∷ xs) zero zero y h = absurd (true≢false h)
get_other (z ∷ xs) zero (suc j) y h = refl
get_other (z ∷ xs) (suc i) zero y h = refl
get_other (z ∷ xs) (suc i) (suc j) y h = get_other xs i j y (grind (arith, nat_tests, h))

tied_at : (rooms : List RoomValue) (waits waits2 : List Wait) (i : ℕ) (h h2 : RoomValue) (cs : List Channel) → AreTied rooms waits → slice_get rooms i ≡ Some h
    → slice_set rooms i h2 ≡ room_values_from 0 cs → ((j : ℕ) → (j == i) ≡ false → tickets_at j waits2 ≡ tickets_at j waits) → tickets_at i waits2 ≡ tickets h2 → AreDistinct (tickets h2)
    → AreTied (slice_set rooms i h2) waits2
tied_at rooms waits waits2 i h h2 cs tied at are others here once = record {
  channels = cs;
  rooms_are = are;
  opened = λ j. opens j (j == i) refl;
  distinct = λ j. stand_once j (j == i) refl;
}
  where
    opens : (j : ℕ) (b : Bool) → (j == i) ≡ b → tickets_at j waits2 ≡ open_in (slice_get (slice_set rooms i h2) j)
    opens j true f =
        subst (λ j. tickets_at j waits2 ≡ open_in (slice_get (slice_set rooms i h2) j)) (sym (equal j i f)) (here ∙ ap open_in (sym (get_set rooms i h h2 at)))
    opens j false f = others j f ∙ tied.opened j ∙ ap open_in (sym (get_other rooms i j h2 f))

    stand_once : (j : ℕ) (b : Bool) → (j == i) ≡ b → AreDistinct (tickets_at j waits2)
    stand_once j true f = subst (λ j. AreDistinct (tickets_at j waits2)) (sym (equal j i f)) (subst AreDistinct (sym here) once)
    stand_once j false f = subst AreDistinct (sym (others j f)) (tied.distinct j)

-- the open tickets of a room
there : (rooms : List RoomValue) (waits : List Wait) (i : ℕ) (h : RoomValue) → AreTied rooms waits → slice_get rooms i ≡ Some h → tickets_at i waits ≡ tickets h
there rooms waits i h tied at = tied.opened i ∙ ap open_in at

once : (rooms : List RoomValue) (waits : List Wait) (i : ℕ) (h : RoomValue) → AreTied rooms waits → slice_get rooms i ≡ Some h → AreDistinct (tickets h)
once rooms waits i h tied at = subst AreDistinct (there rooms waits i h tied at) (tied.distinct i)

-- a room whose open tickets stay
pub tied_same : (rooms : List RoomValue) (waits : List Wait) (i : ℕ) (h h2 : RoomValue) (cs : List Channel) → AreTied rooms waits → slice_get rooms i ≡ Some h
    → slice_set rooms i h2 ≡ room_values_from 0 cs → tickets h2 ≡ tickets h → AreTied (slice_set rooms i h2) waits
tied_same rooms waits i h h2 cs tied at are e =
    tied_at rooms waits waits i h h2 cs tied at are (λ j f. refl) (there rooms waits i h tied at ∙ sym e) (subst AreDistinct (sym e) (once rooms waits i h tied at))

-- a room of which one leaves
pub tied_less : (rooms : List RoomValue) (waits : List Wait) (i t : ℕ) (h h2 : RoomValue) (cs : List Channel) → AreTied rooms waits → slice_get rooms i ≡ Some h
    → slice_set rooms i h2 ≡ room_values_from 0 cs → tickets h2 ≡ less t (tickets h) → AreTied (slice_set rooms i h2) (without i t waits)
tied_less rooms waits i t h h2 cs tied at are e =
    tied_at rooms waits (without i t waits) i h h2 cs tied at are (λ j f. tickets_other i j t waits f)
    (tickets_drop i t waits (tied.distinct i) ∙ ap (less t) (there rooms waits i h tied at) ∙ sym e)
    (subst AreDistinct (sym e) (distinct_less t (tickets h) (once rooms waits i h tied at)))

-- a room to which one comes
pub tied_more : (rooms : List RoomValue) (waits : List Wait) (x : Wait) (h h2 : RoomValue) (cs : List Channel) → AreTied rooms waits → slice_get rooms x.place ≡ Some h
    → slice_set rooms x.place h2 ≡ room_values_from 0 cs → tickets h2 ≡ tickets h ++ x.ticket ∷ [] → less x.ticket (tickets h2) ≡ tickets h
    → AreTied (slice_set rooms x.place h2) (waits ++ x ∷ [])
tied_more rooms waits x h h2 cs tied at are e back =
    tied_at rooms waits (waits ++ x ∷ []) x.place h h2 cs tied at are
    (λ j f. tickets_more j waits x ∙ ap (λ b. tickets_at j waits ++ (if b then x.ticket ∷ [] else [])) (turn x.place j f) ∙ append_none (tickets_at j waits))
    (tickets_more x.place waits x ∙ ap (λ b. tickets_at x.place waits ++ (if b then x.ticket ∷ [] else [])) (same_test x.place)
    ∙ ap (λ ns. ns ++ x.ticket ∷ []) (there rooms waits x.place h tied at) ∙ sym e)
    (subst AreDistinct (sym e) (distinct_more x.ticket (tickets h) (once rooms waits x.place h tied at)
    (newest_is_new x.ticket (tickets h) (ap (less x.ticket) (sym e) ∙ back))))
