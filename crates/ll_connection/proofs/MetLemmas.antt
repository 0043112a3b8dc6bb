-- Each connection has as many waiting requests as its session has wants out, whatever comes to it.
use Rattle.std.proofs.Common.{◌≡◌, ◌≢◌, ℕ, zero, suc, ◌+◌, ◌≤◌, ◌==◌, List, [], ◌∷◌, Bool, true, false, Option, Some, None, is_some, length, map, if◌then◌else◌, refl, ap, ◌∙◌, sym, subst, true≢false, slice_get, arith}
use Rattle.std.proofs.lemmas.Bool.Decides.{nat_tests}
use Rattle.ll_settings.specs.Channels.{channel_of_name}
use Rattle.ll_settings.proofs.ChannelLemmas.{named-within}
use Rattle.ll_directive.specs.Targets.{WantValue}
use Rattle.ll_script_rooms.specs.Waits.{is_same, wait_of, without}
use Rattle.ll_script_rooms.specs.declared.owner.Owner.{Owner}
use Rattle.ll_script_rooms.specs.declared.owner.Owner.TheVariants.{Get, Connection}
use Rattle.ll_script_rooms.specs.declared.wait.Wait.{Wait}
use Rattle.ll_settings.specs.Settings.{Configuration}
use Rattle.ll_verdict.specs.Full.{is_full}
use Rattle.ll_session.specs.Past.{next_by, next_entries, overflows}
use Rattle.ll_session.specs.Requests.{Entry}
use Rattle.ll_session.specs.Talk.{SessionValue, fed, fresh, next_want, pulled}
use Rattle.ll_session.proofs.SplitLemmas.{taking-right}
use Rattle.ll_verdict.specs.Events.{asks}
use Rattle.ll_verdict.specs.Verdict.{at_once, held}
use Rattle.ll_verdict.specs.declared.reply.Reply.{Reply}
use Rattle.ll_wire.specs.declared.answer.Answer.{Answer}
use Rattle.ll_wire.specs.declared.answer.Answer.TheVariants as player
use Rattle.ll_script_rooms.specs.World.{Channel, World, all_settings, ask_at, asked_if, close, close_at, close_of, repeat, silent}
use Rattle.ll_script_rooms.specs.World as world
use Rattle.ll_script_rooms.proofs.TieLemmas.{equal, none_some, same_test, some_is}
use Rattle.ll_script_rooms.proofs.WaitLemmas.{IsOpen, ask-open, close-open, has_channel, once_each}
use Rattle.ll_connection.proofs.CountLemmas.{count-less, count-more, is_its_own, none_waits, own_ticket}
use Rattle.ll_connection.proofs.RoomsLaws.{asked-keeps}
use Rattle.ll_connection.proofs.TurnLemmas.{found, kept_other}
use Rattle.ll_connection.specs.Met.{AreMatched, outs, waiting_of, wants_out}
use Rattle.ll_connection.specs.Turn.{Connections, bytes, bytes_to, end, end_of, left, reply, reply_to, session_of, with_session}
use Rattle.ll_connection.specs.Visit.{Luck, Visit, answered_by, arrived, ask_in, asked, came, close_if, enough, first_spoken, hand_all, submit, muted_if, put_out, released, step, step_by, step_if}
use Rattle.ll_connection.specs.Visit as visit

same_by : (o : Owner) (n m : ℕ) → is_same o (Connection n) ≡ true → is_same o (Connection m) ≡ (n == m)
same_by (Get id) n m h = cc
same_by (Connection k) n m h = ap (λ i. i == m) (equal k n h)

-- ---- a request of a connection is closed

closed_counts : (n m : ℕ) (w : World) → IsOpen w
    → waiting_of m (close (Connection n) w).waits + (if is_some (wait_of (Connection n) w.waits) then (if n == m then 1 else 0) else 0) ≡ waiting_of m w.waits
closed_counts n m w tied = by (wait_of (Connection n) w.waits) refl
  where
    at : (x : Wait) (o : Option Channel) → wait_of (Connection n) w.waits ≡ Some x → slice_get w.channels x.place ≡ o
        → waiting_of m (close_at w x o).waits + (if n == m then 1 else 0) ≡ waiting_of m w.waits
    at x None e h =
        absurd (has_channel w x.place x.ticket tied h (ap is_some (own_ticket (Connection n) x w.waits e (once_each w.channels w.waits tied x.place))))
    at x (Some c) e h =
        ap (λ b. waiting_of m (without x.place x.ticket w.waits) + (if b then 1 else 0)) (sym (same_by x.owner n m (is_its_own (Connection n) x w.waits e)))
        ∙ count-less m x.place x.ticket w.waits x (own_ticket (Connection n) x w.waits e (once_each w.channels w.waits tied x.place))

    by : (o : Option Wait) → wait_of (Connection n) w.waits ≡ o
        → waiting_of m (close_of w o).waits + (if is_some o then (if n == m then 1 else 0) else 0) ≡ waiting_of m w.waits
    by None e = omega arith
    by (Some x) e = at x (slice_get w.channels x.place) e refl

closed_own : (n : ℕ) (w : World) → IsOpen w → waiting_of n w.waits ≤ 1 → waiting_of n (close (Connection n) w).waits ≡ 0
closed_own n w tied few = by (wait_of (Connection n) w.waits) refl
  where
    by : (o : Option Wait) → wait_of (Connection n) w.waits ≡ o → waiting_of n (close (Connection n) w).waits ≡ 0
    by None e = omega (arith, none_waits n w.waits e, closed_counts n n w tied)
    by (Some x) e =
        let counts : waiting_of n (close (Connection n) w).waits + (if n == n then 1 else 0) ≡ waiting_of n w.waits =
        ap (λ o. waiting_of n (close (Connection n) w).waits + (if is_some o then (if n == n then 1 else 0) else 0)) (sym e) ∙ closed_counts n n w tied in
        let one_left : waiting_of n (close (Connection n) w).waits + 1 ≡ waiting_of n w.waits =
        ap (λ b. waiting_of n (close (Connection n) w).waits + (if b then 1 else 0)) (sym (same_test n)) ∙ counts in
        omega (arith, one_left, few)

closed_other : (n m : ℕ) (w : World) → IsOpen w → (n == m) ≡ false → waiting_of m (close (Connection n) w).waits ≡ waiting_of m w.waits
closed_other n m w tied f = by (wait_of (Connection n) w.waits) refl
  where
    by : (o : Option Wait) → wait_of (Connection n) w.waits ≡ o → waiting_of m (close (Connection n) w).waits ≡ waiting_of m w.waits
    by None e = ap (λ o. waiting_of m (close_of w o).waits) e
    by (Some x) e =
        let counts : waiting_of m (close (Connection n) w).waits + (if n == m then 1 else 0) ≡ waiting_of m w.waits =
        ap (λ o. waiting_of m (close (Connection n) w).waits + (if is_some o then (if n == m then 1 else 0) else 0)) (sym e) ∙ closed_counts n m w tied in
        let none_left : waiting_of m (close (Connection n) w).waits + 0 ≡ waiting_of m w.waits =
        ap (λ b. waiting_of m (close (Connection n) w).waits + (if b then 1 else 0)) (sym f) ∙ counts in
        omega (arith, none_left)

-- ---- a request of a connection is made

abbrev unanswered : Option Answer → ℕ
unanswered None = 1
unanswered (Some a) = 0

no_more : (x : ℕ) (b : Bool) → x ≡ x + (if b then 0 else 0)
no_more x true = omega arith
no_more x false = omega arith

get-map : (cs : List Channel) (i : ℕ) (c : Configuration) → slice_get (map (λ (c : Channel). c.settings) cs) i ≡ Some c → is_some (slice_get cs i) ≡ true
get-map [] i c h = absurd (none_some c h)
get-map (d ∷ cs) zero c h = refl
get-map (d ∷ cs) (suc i) c h = get-map cs i c h

module _ (n m : ℕ) (want : WantValue) (w : World) (found : Bool) where
  abbrev Adds : World → Option Answer → Type 0
  Adds v a = waiting_of m v.waits ≡ waiting_of m w.waits + (if n == m then unanswered a else 0)

  asked_by : (i : ℕ) (c : Channel) (o : Option Reply)
      → Adds (world.asked (silent w) (Connection n) i c want o) (first_spoken (world.asked (silent w) (Connection n) i c want o).answers)
  asked_by i c (Some r) = no_more (waiting_of m w.waits) (n == m)
  asked_by i c None = count-more m w.waits (record { owner = Connection n; place = i; ticket = asks c.events + 1 })

  asked_full : (i : ℕ) (c : Channel) (full : Bool)
      → Adds (asked_if full (silent w) (Connection n) i c want) (first_spoken (asked_if full (silent w) (Connection n) i c want).answers)
  asked_full i c true = no_more (waiting_of m w.waits) (n == m)
  asked_full i c false = asked_by i c (at_once c.settings (held c.settings c.events) c.events want)

  asked_at : (i : ℕ) (o : Option Channel) → is_some o ≡ true
      → Adds (ask_at (silent w) (Connection n) i want o) (first_spoken (ask_at (silent w) (Connection n) i want o).answers)
  asked_at i None h = cc
  asked_at i (Some c) h = asked_full i c (is_full (length c.events))

  found_or : (i : ℕ) (found : Bool) → is_some (slice_get w.channels i) ≡ true → Adds (visit.ask_at found n i want w).rooms (visit.ask_at found n i want w).answer
  found_or i true h = asked_at i (slice_get w.channels i) h
  found_or i false h = no_more (waiting_of m w.waits) (n == m)

  asked_in : (o : Option (ℕ × Configuration)) → channel_of_name (all_settings w) 0 want.channel ≡ o → Adds (ask_in found n want w o).rooms (ask_in found n want w o).answer
  asked_in None e = no_more (waiting_of m w.waits) (n == m)
  asked_in (Some c) e =
      let at = named-within (all_settings w) 0 c.0 want.channel c.1 e in
      let same : at.0 ≡ c.0 = omega (arith, at.1) in
      found_or c.0 found (get-map w.channels c.0 c.1 (ap (slice_get (all_settings w)) (sym same) ∙ at.2))

  asked_counts : Adds (asked found n want w).rooms (asked found n want w).answer
  asked_counts = asked_in (channel_of_name (all_settings w) 0 want.channel) refl

-- ---- sessions

pub few_out : (o : Option Bool) → outs o ≤ 1
few_out None = omega arith
few_out (Some keep) = omega arith

-- one that has shut has no want out
abbrev pub IsSound : SessionValue → Type 0
IsSound s = s.shut ≡ true → s.out ≡ None

over_out : (s : SessionValue) (piece : List ℕ) → overflows s piece ≡ true → (fed s piece).out ≡ None
over_out s piece e = grind (arith, nat_tests, e)

under_out : (s : SessionValue) (piece : List ℕ) → overflows s piece ≡ false → (fed s piece).out ≡ s.out
under_out s piece e = grind (arith, nat_tests, e)

fed_sound : (s : SessionValue) (piece : List ℕ) → IsSound s → IsSound (fed s piece)
fed_sound s piece h e = grind (arith, nat_tests, h, e)

pub pulled_none : (s : SessionValue) → next_want s ≡ None → (pulled s).out ≡ s.out
pulled_none s e = grind (arith, e)

pub given_none : (s : SessionValue) (want : WantValue) → next_want s ≡ Some want → s.out ≡ None
given_none s want e = grind (arith, e)

pub given_out : (s : SessionValue) (want : WantValue) → next_want s ≡ Some want → outs (pulled s).out ≡ 1
given_out s want e = grind (arith, e)

pulled_sound : (s : SessionValue) → IsSound s → IsSound (pulled s)
pulled_sound s h e = let right = (taking-right s.unread).1 in grind (arith, h, e, right)

pub replied_out : (found : Bool) (s : SessionValue) (a : Answer) → (put_out found s a).out ≡ None
replied_out found s a = grind arith

muted_sound : (es : List Entry) (s : SessionValue) → IsSound s → IsSound (muted_if es s)
muted_sound [] s h = h
muted_sound (e ∷ es) s h = λ shut. refl

-- if anything can be taken, no want is out
muted_out : (es : List Entry) (s : SessionValue) → (es ≢ [] → s.out ≡ None) → (muted_if es s).out ≡ s.out
muted_out [] s h = refl
muted_out (e ∷ es) s h = sym (h (λ q. cc))

pub taken_none : (s : SessionValue) → next_entries s ≢ [] → s.out ≡ None
taken_none s some = by s.shut s.out some
  where
    by : (shut : Bool) (out : Option Bool) → next_by shut out s.unread ≢ [] → out ≡ None
    by true out some = absurd (some refl)
    by false None some = refl
    by false (Some keep) some = absurd (some refl)

-- ---- visits

-- a connection and the rooms, in which `others m` requests of each other connection `m` wait
pub record IsMet (n : ℕ) (others : ℕ → ℕ) (v : Visit) : Type 0 where
  pub rooms : IsOpen v.rooms
  pub own : waiting_of n v.rooms.waits ≡ outs v.session.out
  pub other : (m : ℕ) → (n == m) ≡ false → waiting_of m v.rooms.waits ≡ others m
  pub sound : IsSound v.session

ask_keeps : (w : World) (o : Owner) (place : ℕ) (want : WantValue) → IsOpen w → IsOpen (silent (world.ask o place want (silent w)))
ask_keeps w o place want tied = ask-open (silent w) o place want tied

close_keeps : (w : World) (o : Owner) → IsOpen w → IsOpen (close o w)
close_keeps w o tied = close-open w o tied

module _ (n : ℕ) (others : ℕ → ℕ) where
  came_by : (piece : List ℕ) (v : Visit) (b : Bool) → overflows v.session piece ≡ b → IsMet n others v
      → IsMet n others (record { session = fed v.session piece; rooms = close_if b n v.rooms })
  came_by piece v true e h = record {
    rooms = close_keeps v.rooms (Connection n) h.rooms;
    own = closed_own n v.rooms h.rooms (subst (λ k. k ≤ 1) (sym h.own) (few_out v.session.out)) ∙ ap outs (sym (over_out v.session piece e));
    other = λ m f. closed_other n m v.rooms h.rooms f ∙ h.other m f;
    sound = fed_sound v.session piece h.sound;
  }
  came_by piece v false e h = record {
    rooms = h.rooms;
    own = h.own ∙ ap outs (sym (under_out v.session piece e));
    other = h.other;
    sound = fed_sound v.session piece h.sound;
  }

  pub came-met : (piece : List ℕ) (v : Visit) → IsMet n others v → IsMet n others (came n piece v)
  came-met piece v h = came_by piece v (overflows v.session piece) refl h

  abbrev rooms_after : Bool → WantValue → Visit → World
  rooms_after asks want v = (asked asks n want v.rooms).rooms

  answered_by-met : (asks found : Bool) (want : WantValue) (v : Visit) (a : Option Answer) → next_want v.session ≡ Some want → (asked asks n want v.rooms).answer ≡ a → IsMet n others v
      → IsMet n others (answered_by found n (pulled v.session) (asked asks n want v.rooms).rooms a)
  answered_by-met asks found want v a e is h = by a is
    where
      nothing : waiting_of n v.rooms.waits ≡ 0
      nothing = h.own ∙ ap outs (given_none v.session want e)

      so_many : (a : Option Answer) → (asked asks n want v.rooms).answer ≡ a → waiting_of n (rooms_after asks want v).waits ≡ unanswered a
      so_many a is =
          let counts : waiting_of n (rooms_after asks want v).waits ≡ waiting_of n v.rooms.waits + (if n == n then unanswered a else 0) =
          asked_counts n n want v.rooms asks ∙ ap (λ a. waiting_of n v.rooms.waits + (if n == n then unanswered a else 0)) is in
          let mine : waiting_of n (rooms_after asks want v).waits ≡ waiting_of n v.rooms.waits + unanswered a =
          counts ∙ ap (λ b. waiting_of n v.rooms.waits + (if b then unanswered a else 0)) (same_test n) in
          omega (arith, mine, nothing)

      others_same : (m : ℕ) → (n == m) ≡ false → waiting_of m (rooms_after asks want v).waits ≡ others m
      others_same m f =
          let counts : waiting_of m (rooms_after asks want v).waits ≡ waiting_of m v.rooms.waits + 0 =
          asked_counts n m want v.rooms asks ∙ ap (λ b. waiting_of m v.rooms.waits + (if b then unanswered (asked asks n want v.rooms).answer else 0)) f in
          omega (arith, counts, h.other m f)

      tied : IsOpen (rooms_after asks want v)
      tied = asked-keeps IsOpen ask_keeps close_keeps asks n want v.rooms h.rooms

      by : (a : Option Answer) → (asked asks n want v.rooms).answer ≡ a → IsMet n others (answered_by found n (pulled v.session) (rooms_after asks want v) a)
      by (Some x) is = record {
        rooms = tied;
        own = so_many (Some x) is ∙ ap outs (sym (replied_out found (pulled v.session) x));
        other = others_same;
        sound = λ shut. replied_out found (pulled v.session) x;
      }
      by None is =
          came-met [] (record { session = pulled v.session; rooms = rooms_after asks want v })
          (record { rooms = tied; own = so_many None is ∙ sym (given_out v.session want e); other = others_same; sound = pulled_sound v.session h.sound })

  step_by-met : (luck : Luck) (v : Visit) (o : Option WantValue) → next_want v.session ≡ o → IsMet n others v
      → IsMet n others (step_by luck n (record v { session = pulled v.session }) o)
  step_by-met luck v None e h = record {
    rooms = h.rooms;
    own = h.own ∙ ap outs (sym (pulled_none v.session e));
    other = h.other;
    sound = pulled_sound v.session h.sound;
  }
  step_by-met luck v (Some want) e h = answered_by-met luck.asks luck.answers want v (asked luck.asks n want v.rooms).answer e refl h

  step_if-met : (takes : Bool) (luck : Luck) (v : Visit) → IsMet n others v → IsMet n others (step_if takes luck n v)
  step_if-met true luck v h = step_by-met luck v (next_want v.session) refl h
  step_if-met false luck v h = record {
    rooms = h.rooms;
    own = h.own ∙ ap outs (sym (muted_out (next_entries v.session) v.session (taken_none v.session)));
    other = h.other;
    sound = muted_sound (next_entries v.session) v.session h.sound;
  }

  pub step-met : (luck : Luck) (v : Visit) → IsMet n others v → IsMet n others (step luck n v)
  step-met luck v h = step_if-met luck.takes luck v h

  steps-met : (k : ℕ) (v : Visit) → IsMet n others v → IsMet n others (repeat (step enough n) k v)
  steps-met zero v h = h
  steps-met (suc k) v h = step-met enough (repeat (step enough n) k v) (steps-met k v h)

  hand_all-met : (v : Visit) → IsMet n others v → IsMet n others (hand_all n v)
  unfolding hand_all
  hand_all-met v h = steps-met (length v.session.unread) v h

  pub submit-met : (lucks : List Luck) (v : Visit) → IsMet n others v → IsMet n others (submit lucks n v)
  submit-met [] v h = hand_all-met v h
  submit-met (luck ∷ lucks) v h = submit-met lucks (step luck n v) (step-met luck v h)

  pub arrived-met : (lucks : List Luck) (piece : List ℕ) (v : Visit) → IsMet n others v → IsMet n others (arrived lucks n piece v)
  arrived-met lucks piece v h = submit-met lucks (came n piece v) (came-met piece v h)

-- ---- all connections

-- what holds at every moment
pub record AreMet (w : World) (all : Connections) : Type 0 where
  pub rooms : IsOpen w
  pub matched : AreMatched w.waits all
  pub going : (n : ℕ) (s : SessionValue) → session_of n all ≡ Some (Some s) → s.shut ≡ false

left_out : (s : SessionValue) → IsSound s → wants_out (Some (left s)) ≡ outs s.out
left_out s h = by s.shut refl
  where
    by : (b : Bool) → s.shut ≡ b → wants_out (Some (if b then None else Some (record s { answers = [] }))) ≡ outs s.out
    by true e = ap outs (sym (h e))
    by false e = refl

left_going : (s t : SessionValue) → left s ≡ Some t → t.shut ≡ false
left_going s t e = grind (arith, e)

turn-met : (n : ℕ) (all : Connections) (v : Visit) (w : World) → AreMet w all → IsMet n (λ m. wants_out (session_of m all)) v
    → AreMet v.rooms (with_session n (left v.session) all)
turn-met n all v w before h = record {
  rooms = h.rooms;
  matched = λ m. counts m (n == m) refl;
  going = λ m t e. goes m t (n == m) refl e;
}
  where
    counts : (m : ℕ) (b : Bool) → (n == m) ≡ b → waiting_of m v.rooms.waits ≡ wants_out (session_of m (with_session n (left v.session) all))
    counts m true f =
        subst (λ k. waiting_of k v.rooms.waits ≡ wants_out (session_of k (with_session n (left v.session) all))) (equal n m f)
        (h.own ∙ sym (left_out v.session h.sound) ∙ ap wants_out (sym (found n (left v.session) all)))
    counts m false f = h.other m f ∙ ap wants_out (sym (kept_other n m (left v.session) all f))

    goes : (m : ℕ) (t : SessionValue) (b : Bool) → (n == m) ≡ b → session_of m (with_session n (left v.session) all) ≡ Some (Some t) → t.shut ≡ false
    goes m t true f e =
        let here : Some (left v.session) ≡ Some (Some t) =
        sym (found n (left v.session) all) ∙ ap (λ k. session_of k (with_session n (left v.session) all)) (equal n m f) ∙ e in
        left_going v.session t (some_is (left v.session) (Some t) here)
    goes m t false f e = before.going m t (sym (kept_other n m (left v.session) all f) ∙ e)

-- bytes came
pub bytes-met : (lucks : List Luck) (n : ℕ) (piece : List ℕ) (all : Connections) (w : World) → AreMet w all → AreMet (bytes lucks n piece all w).rooms (bytes lucks n piece all w).connections
bytes-met lucks n piece all w h = by (session_of n all) refl
  where
    by : (o : Option (Option SessionValue)) → session_of n all ≡ o → AreMet (bytes_to lucks n piece all w o).rooms (bytes_to lucks n piece all w o).connections
    by None e =
        let v : Visit = record { session = fresh; rooms = w } in
        turn-met n all (arrived lucks n piece v) w h
        (arrived-met n (λ m. wants_out (session_of m all)) lucks piece v
        (record { rooms = h.rooms; own = h.matched n ∙ ap wants_out e; other = λ m f. h.matched m; sound = λ shut. refl }))
    by (Some None) e = h
    by (Some (Some s)) e =
        let v : Visit = record { session = s; rooms = w } in
        turn-met n all (arrived lucks n piece v) w h
        (arrived-met n (λ m. wants_out (session_of m all)) lucks piece v
        (record { rooms = h.rooms; own = h.matched n ∙ ap wants_out e; other = λ m f. h.matched m; sound = λ shut. absurd (true≢false (sym shut ∙ h.going n s e)) }))

-- a connection ended
pub end-met : (n : ℕ) (all : Connections) (w : World) → AreMet w all → AreMet (end n all w).rooms (end n all w).connections
end-met n all w h = by (session_of n all) refl
  where
    by : (o : Option (Option SessionValue)) → session_of n all ≡ o → AreMet (end_of n all w o).rooms (end_of n all w o).connections
    by None e = h
    by (Some None) e = h
    by (Some (Some s)) e = record {
      rooms = close-open w (Connection n) h.rooms;
      matched = λ m. counts m (n == m) refl;
      going = λ m t is. goes m t (n == m) refl is;
    }
      where
        few : waiting_of n w.waits ≤ 1
        few = subst (λ k. k ≤ 1) (sym (h.matched n ∙ ap wants_out e)) (few_out s.out)

        counts : (m : ℕ) (b : Bool) → (n == m) ≡ b → waiting_of m (close (Connection n) w).waits ≡ wants_out (session_of m (with_session n None all))
        counts m true f =
            subst (λ k. waiting_of k (close (Connection n) w).waits ≡ wants_out (session_of k (with_session n None all))) (equal n m f)
            (closed_own n w h.rooms few ∙ ap wants_out (sym (found n None all)))
        counts m false f = closed_other n m w h.rooms f ∙ h.matched m ∙ ap wants_out (sym (kept_other n m None all f))

        goes : (m : ℕ) (t : SessionValue) (b : Bool) → (n == m) ≡ b → session_of m (with_session n None all) ≡ Some (Some t) → t.shut ≡ false
        goes m t true f is =
            let here : Some None ≡ Some (Some t) = sym (found n None all) ∙ ap (λ k. session_of k (with_session n None all)) (equal n m f) ∙ is in
            absurd (none_some t (some_is None (Some t) here))
        goes m t false f is = h.going m t (sym (kept_other n m None all f) ∙ is)

-- the session of a connection of which a request waits
pub record HasOut (n : ℕ) (all : Connections) : Type 0 where
  pub session : SessionValue
  pub there : session_of n all ≡ Some (Some session)
  pub is_out : is_some session.out ≡ true

pub has_out : (n : ℕ) (all : Connections) (k : ℕ) → k + 1 ≡ wants_out (session_of n all) → HasOut n all
has_out n all k h = by (session_of n all) refl h
  where
    out : (o : Option Bool) → k + 1 ≡ outs o → is_some o ≡ true
    out None h = absurd (omega (arith, h))
    out (Some keep) h = refl

    by : (o : Option (Option SessionValue)) → session_of n all ≡ o → k + 1 ≡ wants_out o → HasOut n all
    by None e h = absurd (omega (arith, h))
    by (Some None) e h = absurd (omega (arith, h))
    by (Some (Some s)) e h = record { session = s; there = e; is_out = out s.out h }

-- the reply is put out, or is out of memory; then the next requests are handed in
released-met : (lucks : List Luck) (n : ℕ) (others : ℕ → ℕ) (a : Reply) (s : SessionValue) (v : World) → ((found : Bool) → IsMet n others (record { session = put_out found s (player.Reply a); rooms = v }))
    → IsMet n others (released lucks n a (record { session = s; rooms = v }))
released-met [] n others a s v h = submit-met n others [] (record { session = put_out true s (player.Reply a); rooms = v }) (h true)
released-met (luck ∷ lucks) n others a s v h = submit-met n others lucks (record { session = put_out luck.answers s (player.Reply a); rooms = v }) (h luck.answers)

-- A request's reply goes to its connection, of which then no request waits in these rooms.
pub reply-met : (lucks : List Luck) (n : ℕ) (a : Reply) (all : Connections) (w v : World) → AreMet w all → IsOpen v → waiting_of n v.waits ≡ 0
    → ((m : ℕ) → (n == m) ≡ false → waiting_of m v.waits ≡ waiting_of m w.waits) → HasOut n all
    → AreMet (reply lucks n a all v).rooms (reply lucks n a all v).connections
reply-met lucks n a all w v h tied none same has =
    subst (λ o. AreMet (reply_to lucks n a all v o).rooms (reply_to lucks n a all v o).connections) (sym has.there)
    (turn-met n all (released lucks n a (record { session = has.session; rooms = v })) w h
    (released-met lucks n (λ m. wants_out (session_of m all)) a has.session v (λ found. record {
      rooms = tied;
      own = none ∙ ap outs (sym (replied_out found has.session (player.Reply a)));
      other = λ m f. same m f ∙ h.matched m;
      sound = λ shut. replied_out found has.session (player.Reply a);
    })))
