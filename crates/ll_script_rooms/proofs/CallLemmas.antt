-- What the calls are owed.
use Rattle.std.proofs.Common.{◌≡◌, ℕ, ◌<◌, ◌≤◌, ◌^◌, ◌==◌, ◌&&◌, List, [], ◌∷◌, ◌++◌, Bool, true, false, if◌then◌else◌, Option, Some, None, is_some, option_map, length, refl, ap, ap₂, ◌∙◌, sym, subst, true≢false, find, slice_get, slice_set, arith}
use Rattle.std.specs.Set.{remove_key}
use Rattle.std.proofs.lemmas.Bool.Decides.{nat_tests}
use Rattle.std.proofs.lemmas.Option.{slice_get_within}
use Rattle.ll_verdict.specs.Waiting.{first_ready}
use Rattle.ll_verdict.specs.Events.{Ask, Collect, Close}
use Rattle.ll_directive.specs.Targets.{WantValue}
use Rattle.ll_verdict.specs.declared.reply.Reply.{Reply}
use Rattle.ll_room.specs.Answers as room
use Rattle.ll_room.specs.RoomValue.{RoomValue, IsSame, less, tickets}
use Rattle.ll_room.specs.StampedValue.{StampedValue}
use Rattle.ll_room.specs.Ticket.{Ticket}
use Rattle.ll_room.specs.declared.asked.Asked.TheVariants.{Held}
use Rattle.ll_verdict.specs.Full.{event_end}
use Rattle.ll_room.specs.declared.asked.Collected.TheVariants.{Got}
use Rattle.ll_verdict.specs.declared.fault.ClockFault.{ClockFault}
use Rattle.ll_verdict.specs.declared.fault.ClockFault.TheVariants.{ClockRange, RecordFull, Memory}
use Rattle.ll_script_rooms.specs.Waits.{is_under, parked_of, under, without}
use Rattle.ll_script_rooms.specs.declared.owner.Owner.{Owner}
use Rattle.ll_script_rooms.specs.declared.wait.Wait.{Wait}
use Rattle.ll_script_rooms.specs.Kept.{AreTied, Kept, Leads, kept_world}
use Rattle.ll_script_rooms.specs.World.{World, ask, clock, close_at, next_reply}
use Rattle.ll_script_rooms.specs.declared.answer.ActAnswer.TheVariants.{ClockRefused, Replied}
use Rattle.ll_script_rooms.proofs.ActLemmas.{Answered, own_test, asked_held, held_is, clock_full, clock_range, closes, gave_up, gets, one_more, ready_waits, ticked}
use Rattle.ll_script_rooms.proofs.DueLemmas.{find_passes}
use Rattle.ll_script_rooms.proofs.StandLemmas.{GoesOn, still_back, still_less, still_more}
use Rattle.ll_script_rooms.proofs.TieLemmas.{get_set, has_room, none_some, some_is}

abbrev pub kept_of : List RoomValue → List Wait → ℕ → Kept
kept_of rooms waits n = record { rooms = rooms; waits = waits; events = n }

none_by : {X : Type 0} (xs : List X) (n i : ℕ) (o : Option X) → slice_get xs i ≡ o → n ≡ length xs → (i < n → false ≡ true) → o ≡ None
none_by xs n i None e l past = refl
none_by xs n i (Some x) e l past = absurd (true≢false (sym (past (subst (λ m. i < m) (sym l) (slice_get_within xs i x e)))))

pub none_read : {X : Type 0} (xs : List X) (n i : ℕ) → n ≡ length xs → (i < n → false ≡ true) → slice_get xs i ≡ None
none_read xs n i l past = none_by xs n i (slice_get xs i) refl l past

equal : (a b : ℕ) → (a == b) ≡ true → a ≡ b
equal a b h = grind (arith, nat_tests, h)

and_left : (a b : Bool) → (a && b) ≡ true → a ≡ true
and_left true b h = refl
and_left false b h = h

and_right : (a b : Bool) → (a && b) ≡ true → b ≡ true
and_right true b h = h
and_right false b h = absurd (true≢false (sym h))

parked_by : (i t : ℕ) (p : Ticket) (xs : List Wait) (o : Option Wait) → under i t xs ≡ o → Some p ≡ option_map parked_of o → p ≡ record { channel = i; ticket = t }
parked_by i t p xs None e f = absurd (none_some p (sym f))
parked_by i t p xs (Some x) e f =
    let k : is_under i t x ≡ true = find_passes (is_under i t) x xs e in
    some_is p (parked_of x) f
    ∙ ap₂ (λ a b. record { channel = a; ticket = b }) (equal x.place i (and_left (x.place == i) (x.ticket == t) k)) (equal x.ticket t (and_right (x.place == i) (x.ticket == t) k))

-- the value that is taken
pub parked_is : (i t : ℕ) (p : Ticket) (xs : List Wait) → Some p ≡ option_map parked_of (under i t xs) → p ≡ record { channel = i; ticket = t }
parked_is i t p xs f = parked_by i t p xs (under i t xs) refl f

pub not_lost : (rooms : List RoomValue) (waits : List Wait) (i t : ℕ) (h : RoomValue) → AreTied rooms waits → slice_get rooms i ≡ Some h → first_ready h.slots ≡ Some t → under i t waits ≡ None → ⊥
not_lost rooms waits i t h tied at ready lost = true≢false (sym (ready_waits rooms waits i t h tied at ready) ∙ ap is_some lost)

pub not_refused : (rooms : List RoomValue) (waits : List Wait) (i t : ℕ) (h : RoomValue) (p : Ticket) → AreTied rooms waits → slice_get rooms i ≡ Some h → first_ready h.slots ≡ Some t
    → Some p ≡ option_map parked_of (under i t waits) → room.is_got (room.collected h p) ≡ false → ⊥
not_refused rooms waits i t h p tied at ready value lost = true≢false (sym (gets rooms waits i t h p tied at ready (parked_is i t p waits value)) ∙ lost)

ticket_is : (i t : ℕ) (p : Ticket) (xs : List Wait) → Some p ≡ option_map parked_of (under i t xs) → p.ticket ≡ t
ticket_is i t p xs value = ap (λ (p : Ticket). p.ticket) (parked_is i t p xs value)

pub tied_told : (rooms : List RoomValue) (waits waits2 : List Wait) (i t : ℕ) (h h2 : RoomValue) (p : Ticket) → AreTied rooms waits → slice_get rooms i ≡ Some h → IsSame h h2 → GoesOn h h2 (Collect p.ticket)
    → tickets h2 ≡ less p.ticket (tickets h) → Some p ≡ option_map parked_of (under i t waits) → waits2 ≡ without i t waits → AreTied (slice_set rooms i h2) waits2
tied_told rooms waits waits2 i t h h2 p tied at same goes fewer value left =
    subst (λ xs. AreTied (slice_set rooms i h2) xs) (ap (λ n. without i n waits) (ticket_is i t p waits value) ∙ sym left)
    (still_less rooms waits i p.ticket h h2 (Collect p.ticket) tied at same goes fewer)

pub tied_gave_up : (rooms : List RoomValue) (waits waits2 : List Wait) (i t : ℕ) (h h2 : RoomValue) (p : Ticket) → AreTied rooms waits → slice_get rooms i ≡ Some h → IsSame h h2 → GoesOn h h2 (Close p.ticket)
    → tickets h2 ≡ less p.ticket (tickets h) → Some p ≡ option_map parked_of (under i t waits) → waits2 ≡ without i t waits → AreTied (slice_set rooms i h2) waits2
tied_gave_up rooms waits waits2 i t h h2 p tied at same goes fewer value left =
    subst (λ xs. AreTied (slice_set rooms i h2) xs) (ap (λ n. without i n waits) (ticket_is i t p waits value) ∙ sym left)
    (still_less rooms waits i p.ticket h h2 (Close p.ticket) tied at same goes fewer)

pub told_due : (rooms : List RoomValue) (waits waits2 : List Wait) (n : ℕ) (w : World) (i t : ℕ) (h h2 : RoomValue) (p : Ticket) (m : StampedValue Reply) (v : Reply) (x : Wait)
    → kept_of rooms waits n ≡ kept_world w → slice_get rooms i ≡ Some h → IsSame h h2 → GoesOn h h2 (Collect p.ticket) → first_ready h.slots ≡ Some t → Some x ≡ under i t waits
    → Some p ≡ option_map parked_of (under i t waits) → waits2 ≡ without i t waits → Got m ≡ room.collected h p → v ≡ m.value
    → Leads (kept_of (slice_set rooms i h2) waits2 n) (Some (Replied x.owner v)) w (next_reply i w)
told_due rooms waits waits2 n w i t h h2 p m v x e at same goes ready found value left handed is =
    subst (λ v. Leads (kept_of (slice_set rooms i h2) waits2 n) (Some (Replied x.owner v)) w (next_reply i w)) (sym is)
    (subst (λ xs. Leads (kept_of (slice_set rooms i h2) xs n) (Some (Replied x.owner m.value)) w (next_reply i w)) (sym left)
    (ticked (kept_of rooms waits n) w i t h h2 p m x e at same goes (ticket_is i t p waits value) ready (sym found) handed))

pub gave_up_one : (rooms : List RoomValue) (waits waits2 : List Wait) (n n2 : ℕ) (w : World) (x : Wait) (h h2 : RoomValue) (p : Ticket)
    → n2 ≡ one_more n → kept_of rooms waits n ≡ kept_world w → slice_get rooms x.place ≡ Some h → IsSame h h2 → GoesOn h h2 (Close p.ticket)
    → Some p ≡ option_map parked_of (under x.place x.ticket waits) → waits2 ≡ without x.place x.ticket waits
    → Leads (kept_of (slice_set rooms x.place h2) waits2 n2) None w (close_at w x (slice_get w.channels x.place))
gave_up_one rooms waits waits2 n n2 w x h h2 p more e at same goes value left =
    subst (λ xs. Leads (kept_of (slice_set rooms x.place h2) xs n2) None w (close_at w x (slice_get w.channels x.place))) (sym left)
    (gave_up n2 (kept_of rooms waits n) w x h h2 p more e at same goes (ticket_is x.place x.ticket p waits value))

pub not_stranger : (rooms : List RoomValue) (waits : List Wait) (i t : ℕ) (h : RoomValue) (p : Ticket) → AreTied rooms waits → slice_get rooms i ≡ Some h → is_some (under i t waits) ≡ true
    → Some p ≡ option_map parked_of (under i t waits) → room.is_done (room.closed h p) ≡ false → ⊥
not_stranger rooms waits i t h p tied at waiting value lost = true≢false (sym (closes rooms waits i t h p tied at waiting (parked_is i t p waits value)) ∙ lost)

waiting_by : (p : Ticket) (o : Option Wait) → Some p ≡ option_map parked_of o → is_some o ≡ true
waiting_by p None f = absurd (none_some p (sym f))
waiting_by p (Some x) f = refl

pub waiting_there : (i t : ℕ) (p : Ticket) (waits : List Wait) → Some p ≡ option_map parked_of (under i t waits) → is_some (under i t waits) ≡ true
waiting_there i t p waits f = waiting_by p (under i t waits) f

pub no_room : (rooms : List RoomValue) (waits : List Wait) (i t : ℕ) (p : Ticket) → AreTied rooms waits → slice_get rooms i ≡ None → Some p ≡ option_map parked_of (under i t waits) → ⊥
no_room rooms waits i t p tied at f = has_room rooms waits i t tied at (waiting_there i t p waits f)

abbrev pub count_is : StampedValue ℕ → ℕ
count_is m = m.value

pub clock_refused : (old : Kept) (w : World) (i ms : ℕ) (f : ClockFault) (h h2 : RoomValue) → old ≡ kept_world w → slice_get old.rooms i ≡ Some h → h2 ≡ h
    → (f ≡ ClockRange → 2 ^ 60 < ms) → (f ≡ RecordFull → (ms ≤ 2 ^ 60) × (event_end ≤ h.events)) → (f ≡ Memory → ⊥)
    → Leads (kept_of (slice_set old.rooms i h2) old.waits old.events) (Some (ClockRefused f)) w (clock i ms w)
clock_refused old w i ms ClockRange h h2 e at u range full memory = clock_range old w i ms h h2 e at u (range refl)
clock_refused old w i ms RecordFull h h2 e at u range full memory = clock_full old w i ms h h2 e at u (full refl).0 (full refl).1
clock_refused old w i ms Memory h h2 e at u range full memory = absurd (memory refl)

pub none_left : (xs : List Wait) → None ≡ slice_get xs 0 → xs ≡ []
none_left [] h = refl
none_left (x ∷ xs) h = absurd (none_some x h)

shorter_by : (q : Wait → Bool) (x : Wait) (b : Bool) (xs : List Wait) → is_some (if b then Some x else find q xs) ≡ true → (is_some (find q xs) ≡ true → length (remove_key q xs) < length xs)
    → length (if b then xs else x ∷ remove_key q xs) < length (x ∷ xs)
shorter_by q x true xs h ih = omega arith
shorter_by q x false xs h ih = let k : length (remove_key q xs) < length xs = ih h in omega (arith, k)

shorter : (q : Wait → Bool) (xs : List Wait) → is_some (find q xs) ≡ true → length (remove_key q xs) < length xs
shorter q [] h = absurd (true≢false (sym h))
shorter q (x ∷ xs) h = shorter_by q x (q x) xs h (shorter q xs)

pub smaller : (xs ys : List Wait) (x : Wait) → ys ≡ without x.place x.ticket xs → is_some (under x.place x.ticket xs) ≡ true → length ys < length xs
smaller xs ys x e h = subst (λ zs. length zs < length xs) (sym e) (shorter (is_under x.place x.ticket) xs h)

pub tied_held : (rooms : List RoomValue) (waits waits2 : List Wait) (i : ℕ) (owner : Owner) (want : WantValue) (p : Ticket) (h h2 : RoomValue) → AreTied rooms waits → slice_get rooms i ≡ Some h → IsSame h h2
    → GoesOn h h2 (Ask want) → Answered h want (Held p) → tickets h2 ≡ tickets h ++ p.ticket ∷ [] → less p.ticket (tickets h2) ≡ tickets h
    → waits2 ≡ waits ++ (record { owner = owner; place = p.channel; ticket = p.ticket }) ∷ [] → AreTied (slice_set rooms i h2) waits2
tied_held rooms waits waits2 i owner want p h h2 tied at same goes answer more back left =
    subst (λ xs. AreTied (slice_set rooms i h2) xs) (sym left)
    (subst (λ n. AreTied (slice_set rooms i h2) (waits ++ (record { owner = owner; place = n; ticket = p.ticket }) ∷ [])) (sym (ap (λ (p : Ticket). p.channel) (held_is rooms waits i h want p tied at answer)))
    (still_more rooms waits (record { owner = owner; place = i; ticket = p.ticket }) h h2 (Ask want) tied at same goes more back))

pub held_leads : (rooms : List RoomValue) (waits waits2 : List Wait) (n n2 : ℕ) (w : World) (owner : Owner) (i : ℕ) (want : WantValue) (p : Ticket) (h h2 : RoomValue) → n2 ≡ one_more n → kept_of rooms waits n ≡ kept_world w → AreTied rooms waits
    → slice_get rooms i ≡ Some h → IsSame h h2 → GoesOn h h2 (Ask want) → Answered h want (Held p) → h.events < event_end
    → waits2 ≡ waits ++ (record { owner = owner; place = p.channel; ticket = p.ticket }) ∷ [] → Leads (kept_of (slice_set rooms i h2) waits2 n2) None w (ask owner i want w)
held_leads rooms waits waits2 n n2 w owner i want p h h2 more e tied at same goes answer few left =
    subst (λ xs. Leads (kept_of (slice_set rooms i h2) xs n2) None w (ask owner i want w)) (sym left)
    (asked_held n2 (kept_of rooms waits n) w owner i want p h h2 more e tied at same goes answer few)

last_by : (y : Wait) (b : Bool) (o : Option Wait) → is_some o ≡ true → is_some (if b then Some y else o) ≡ true
last_by y true o h = refl
last_by y false o h = h

last_waits : (xs : List Wait) (x : Wait) → is_some (under x.place x.ticket (xs ++ x ∷ [])) ≡ true
last_waits [] x = ap (λ b. is_some (if b then Some x else None)) (own_test x)
last_waits (y ∷ xs) x = last_by y (is_under x.place x.ticket y) (under x.place x.ticket (xs ++ x ∷ [])) (last_waits xs x)

-- the newest request is open
pub newest_closes : (rooms : List RoomValue) (waits : List Wait) (i : ℕ) (owner : Owner) (want : WantValue) (p q : Ticket) (h h2 : RoomValue) → AreTied rooms waits → slice_get rooms i ≡ Some h → IsSame h h2
    → GoesOn h h2 (Ask want) → Answered h want (Held p) → tickets h2 ≡ tickets h ++ p.ticket ∷ [] → less p.ticket (tickets h2) ≡ tickets h → q ≡ p
    → room.is_done (room.closed h2 q) ≡ false → ⊥
newest_closes rooms waits i owner want p q h h2 tied at same goes answer more back e lost =
    true≢false (sym (closes (slice_set rooms i h2) (waits ++ (record { owner = owner; place = i; ticket = p.ticket }) ∷ []) i p.ticket h2 q
    (still_more rooms waits (record { owner = owner; place = i; ticket = p.ticket }) h h2 (Ask want) tied at same goes more back) (get_set rooms i h h2 at)
    (last_waits waits (record { owner = owner; place = i; ticket = p.ticket }))
    (e ∙ ap (λ n. record { channel = n; ticket = p.ticket }) (ap (λ (p : Ticket). p.channel) (held_is rooms waits i h want p tied at answer)))) ∙ lost)

pub tied_back : (rooms : List RoomValue) (waits waits2 : List Wait) (i : ℕ) (want : WantValue) (p q : Ticket) (h h2 h3 : RoomValue) → AreTied rooms waits → slice_get rooms i ≡ Some h → IsSame h h2
    → GoesOn h h2 (Ask want) → IsSame h2 h3 → GoesOn h2 h3 (Close q.ticket) → tickets h3 ≡ less q.ticket (tickets h2) → less p.ticket (tickets h2) ≡ tickets h → q ≡ p → waits2 ≡ waits
    → AreTied (slice_set rooms i h3) waits2
tied_back rooms waits waits2 i want p q h h2 h3 tied at same goes same2 goes2 fewer back e left =
    subst (λ xs. AreTied (slice_set rooms i h3) xs) (sym left)
    (still_back rooms waits i h h2 h3 (Ask want) (Close q.ticket) tied at same goes same2 goes2 (fewer ∙ ap (λ (p : Ticket). less p.ticket (tickets h2)) e ∙ back))
