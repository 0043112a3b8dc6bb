-- The rooms stand for the channels of a script.
use Rattle.std.proofs.Common.{◌≡◌, ℕ, zero, suc, ◌+◌, List, [], ◌∷◌, ◌++◌, Option, Some, None, option_map, length, refl, ap, ap₂, ◌∙◌, sym, subst, slice_get, slice_set, arith}
use Rattle.ll_verdict.specs.Events.{Event}
use Rattle.ll_verdict.specs.State.{state_of}
use Rattle.ll_room.specs.RoomValue.{RoomValue, IsSame, Stands, room_value, less, tickets}
use Rattle.ll_script_rooms.specs.Waits.{without}
use Rattle.ll_script_rooms.specs.declared.wait.Wait.{Wait}
use Rattle.ll_script_rooms.specs.World.{Channel, World, event_count, with_event}
use Rattle.ll_script_rooms.specs.Kept.{AreTied, Kept, Leads, answers_of, home_at, room_values_from, kept_world}
use Rattle.ll_script_rooms.specs.declared.answer.ActAnswer.{ActAnswer}
use Rattle.ll_script_rooms.proofs.TieLemmas.{none_some, some_is, tied_less, tied_more, tied_same}

pub no_more : (i : ℕ) → 0 + i ≡ i
no_more i = omega arith

next_place : (n i : ℕ) → n + 1 + i ≡ n + suc i
next_place n i = omega arith

at_first : (n : ℕ) → n ≡ n + zero
at_first n = omega arith

homes_get : (n : ℕ) (cs : List Channel) (i : ℕ) → slice_get (room_values_from n cs) i ≡ option_map (home_at (n + i)) (slice_get cs i)
homes_get n [] i = refl
homes_get n (c ∷ cs) zero = ap (λ m. Some (home_at m c)) (at_first n)
homes_get n (c ∷ cs) (suc i) = homes_get (n + 1) cs i ∙ ap (λ m. option_map (home_at m) (slice_get cs i)) (next_place n i)

homes_set : (n : ℕ) (cs : List Channel) (i : ℕ) (c : Channel) → slice_set (room_values_from n cs) i (home_at (n + i) c) ≡ room_values_from n (slice_set cs i c)
homes_set n [] i c = refl
homes_set n (d ∷ cs) zero c = ap (λ m. home_at m c ∷ room_values_from (n + 1) cs) (sym (at_first n))
homes_set n (d ∷ cs) (suc i) c =
    ap (λ m. home_at n d ∷ slice_set (room_values_from (n + 1) cs) i (home_at m c)) (sym (next_place n i)) ∙ ap (λ hs. home_at n d ∷ hs) (homes_set (n + 1) cs i c)

pub homes_more : (n : ℕ) (cs : List Channel) (c : Channel) (m : ℕ) → m ≡ n + length cs → room_values_from n cs ++ home_at m c ∷ [] ≡ room_values_from n (cs ++ c ∷ [])
homes_more n [] c m e = ap (λ k. home_at k c ∷ []) (e ∙ sym (at_first n))
homes_more n (d ∷ cs) c m e = ap (λ hs. home_at n d ∷ hs) (homes_more (n + 1) cs c m (e ∙ sym (next_place n (length cs))))

-- the channel of a room
at_channel : (cs : List Channel) (i : ℕ) (h : RoomValue) (d : Option Channel) → slice_get cs i ≡ d → slice_get (room_values_from 0 cs) i ≡ Some h
    → (P : Option Channel → Type 0) → ((c : Channel) → slice_get cs i ≡ Some c → h ≡ home_at i c → P (Some c)) → P d
at_channel cs i h None e at P f = absurd (none_some h (sym (homes_get 0 cs i ∙ ap (option_map (home_at (0 + i))) e) ∙ at))
at_channel cs i h (Some c) e at P f =
    f c e (some_is h (home_at i c) (sym at ∙ homes_get 0 cs i ∙ ap (option_map (home_at (0 + i))) e ∙ ap (λ m. Some (home_at m c)) (no_more i)))

pub channel_of : (rooms : List RoomValue) (cs : List Channel) (i : ℕ) (h : RoomValue) → rooms ≡ room_values_from 0 cs → slice_get rooms i ≡ Some h
    → (P : Option Channel → Type 0) → ((c : Channel) → slice_get cs i ≡ Some c → h ≡ home_at i c → P (Some c)) → P (slice_get cs i)
channel_of rooms cs i h are at P f = at_channel cs i h (slice_get cs i) refl (ap (λ rs. slice_get rs i) (sym are) ∙ at) P f

nowhere : (cs : List Channel) (i : ℕ) (d : Option Channel) → slice_get cs i ≡ d → slice_get (room_values_from 0 cs) i ≡ None → (P : Option Channel → Type 0) → P None → P d
nowhere cs i None e at P p = p
nowhere cs i (Some c) e at P p = absurd (none_some (home_at (0 + i) c) (sym at ∙ homes_get 0 cs i ∙ ap (option_map (home_at (0 + i))) e))

pub no_channel : (rooms : List RoomValue) (cs : List Channel) (i : ℕ) → rooms ≡ room_values_from 0 cs → slice_get rooms i ≡ None → (P : Option Channel → Type 0) → P None → P (slice_get cs i)
no_channel rooms cs i are at P p = nowhere cs i (slice_get cs i) refl (ap (λ rs. slice_get rs i) (sym are) ∙ at) P p

-- a room stands for the events of its channel
pub stands_for : (i : ℕ) (c : Channel) (h : RoomValue) → h ≡ home_at i c → Stands h c.events
stands_for i c h is = subst (λ h. Stands h c.events) (sym is) refl

-- it goes on with an event
abbrev pub GoesOn : RoomValue → RoomValue → Event → Type 0
GoesOn h h2 e = (events : List Event) → Stands h events → Stands h2 (events ++ e ∷ [])

moved : (i : ℕ) (c : Channel) (h h2 : RoomValue) (e : Event) → h ≡ home_at i c → IsSame h h2 → GoesOn h h2 e → h2 ≡ home_at i (with_event e c)
moved i c h h2 e is same goes =
    goes c.events (stands_for i c h is)
    ∙ ap₂ (λ n s. room_value n s (state_of s (c.events ++ e ∷ []))) (same.channel ∙ ap (λ (h : RoomValue). h.channel) is) (same.settings ∙ ap (λ (h : RoomValue). h.settings) is)

pub changed : (rooms : List RoomValue) (cs : List Channel) (i : ℕ) (h h2 : RoomValue) (c : Channel) (e : Event) → rooms ≡ room_values_from 0 cs → h ≡ home_at i c → IsSame h h2 → GoesOn h h2 e
    → slice_set rooms i h2 ≡ room_values_from 0 (slice_set cs i (with_event e c))
changed rooms cs i h h2 c e are is same goes =
    ap₂ (λ rs k. slice_set rs i k) are (moved i c h h2 e is same goes ∙ ap (λ m. home_at m (with_event e c)) (sym (no_more i))) ∙ homes_set 0 cs i (with_event e c)

pub changed_twice : (rooms : List RoomValue) (cs : List Channel) (i : ℕ) (h h2 h3 : RoomValue) (c : Channel) (e f : Event) → rooms ≡ room_values_from 0 cs → h ≡ home_at i c → IsSame h h2 → GoesOn h h2 e
    → IsSame h2 h3 → GoesOn h2 h3 f → slice_set rooms i h3 ≡ room_values_from 0 (slice_set cs i (with_event f (with_event e c)))
changed_twice rooms cs i h h2 h3 c e f are is same goes same2 goes2 =
    ap₂ (λ rs k. slice_set rs i k) are
    (moved i (with_event e c) h2 h3 f (moved i c h h2 e is same goes) same2 goes2 ∙ ap (λ m. home_at m (with_event f (with_event e c))) (sym (no_more i)))
    ∙ homes_set 0 cs i (with_event f (with_event e c))

-- ---- the tie goes on

-- a room to which a request came that leaves again
pub still_back : (rooms : List RoomValue) (waits : List Wait) (i : ℕ) (h h2 h3 : RoomValue) (e f : Event) → AreTied rooms waits → slice_get rooms i ≡ Some h → IsSame h h2 → GoesOn h h2 e
    → IsSame h2 h3 → GoesOn h2 h3 f → tickets h3 ≡ tickets h → AreTied (slice_set rooms i h3) waits
still_back rooms waits i h h2 h3 e f tied at same goes same2 goes2 k =
    channel_of rooms tied.channels i h tied.rooms_are at (λ d. AreTied (slice_set rooms i h3) waits)
    (λ c there is. tied_same rooms waits i h h3 (slice_set tied.channels i (with_event f (with_event e c))) tied at
    (changed_twice rooms tied.channels i h h2 h3 c e f tied.rooms_are is same goes same2 goes2) k)

pub still_same : (rooms : List RoomValue) (waits : List Wait) (i : ℕ) (h h2 : RoomValue) (e : Event) → AreTied rooms waits → slice_get rooms i ≡ Some h → IsSame h h2 → GoesOn h h2 e
    → tickets h2 ≡ tickets h → AreTied (slice_set rooms i h2) waits
still_same rooms waits i h h2 e tied at same goes k =
    channel_of rooms tied.channels i h tied.rooms_are at (λ d. AreTied (slice_set rooms i h2) waits)
    (λ c there is. tied_same rooms waits i h h2 (slice_set tied.channels i (with_event e c)) tied at (changed rooms tied.channels i h h2 c e tied.rooms_are is same goes) k)

pub still_less : (rooms : List RoomValue) (waits : List Wait) (i t : ℕ) (h h2 : RoomValue) (e : Event) → AreTied rooms waits → slice_get rooms i ≡ Some h → IsSame h h2 → GoesOn h h2 e
    → tickets h2 ≡ less t (tickets h) → AreTied (slice_set rooms i h2) (without i t waits)
still_less rooms waits i t h h2 e tied at same goes k =
    channel_of rooms tied.channels i h tied.rooms_are at (λ d. AreTied (slice_set rooms i h2) (without i t waits))
    (λ c there is. tied_less rooms waits i t h h2 (slice_set tied.channels i (with_event e c)) tied at (changed rooms tied.channels i h h2 c e tied.rooms_are is same goes) k)

pub still_more : (rooms : List RoomValue) (waits : List Wait) (x : Wait) (h h2 : RoomValue) (e : Event) → AreTied rooms waits → slice_get rooms x.place ≡ Some h → IsSame h h2 → GoesOn h h2 e
    → tickets h2 ≡ tickets h ++ x.ticket ∷ [] → less x.ticket (tickets h2) ≡ tickets h → AreTied (slice_set rooms x.place h2) (waits ++ x ∷ [])
still_more rooms waits x h h2 e tied at same goes k back =
    channel_of rooms tied.channels x.place h tied.rooms_are at (λ d. AreTied (slice_set rooms x.place h2) (waits ++ x ∷ []))
    (λ c there is. tied_more rooms waits x h h2 (slice_set tied.channels x.place (with_event e c)) tied at (changed rooms tied.channels x.place h h2 c e tied.rooms_are is same goes) k back)

-- each room's number is its place
pub number_is : (rooms : List RoomValue) (waits : List Wait) (i : ℕ) (h : RoomValue) → AreTied rooms waits → slice_get rooms i ≡ Some h → h.channel ≡ i
number_is rooms waits i h tied at = channel_of rooms tied.channels i h tied.rooms_are at (λ d. h.channel ≡ i) (λ c there is. ap (λ (h : RoomValue). h.channel) is)

-- ---- one act

pub leads : (rooms : List RoomValue) (waits : List Wait) (n : ℕ) (a : Option ActAnswer) (w w2 : World) → rooms ≡ room_values_from 0 w2.channels → waits ≡ w2.waits → n ≡ event_count w2
    → w2.answers ≡ w.answers ++ answers_of a → Leads (record { rooms = rooms; waits = waits; events = n }) a w w2
leads rooms waits n a w w2 e f g k = record {
  stands = ap₂ (λ rs xs. record { rooms = rs; waits = xs; events = n }) e f ∙ ap (λ m. record { rooms = room_values_from 0 w2.channels; waits = w2.waits; events = m }) g;
  answers = k;
}

append_none : (list : List ActAnswer) → list ≡ list ++ []
append_none [] = refl
append_none (a ∷ more) = ap (λ bs. a ∷ bs) (append_none more)

-- an act that changes nothing
pub stays : (old : Kept) (w : World) → old ≡ kept_world w → Leads old None w w
stays old w e = record { stands = e; answers = append_none w.answers }
