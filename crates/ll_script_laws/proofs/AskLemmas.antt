-- A request of a connection has the right answer at once, or it waits; and a reply that is due is right for the request that waits for it.
use Rattle.std.proofs.Common.{◌≡◌, ℕ, ◌+◌, ◌≤◌, ◌==◌, ◌&&◌, List, [], ◌∷◌, ◌++◌, Bool, true, false, cond, Option, Some, None, refl, ap, ap₂, sym, ◌∙◌, subst, find, fold, length, option_map, slice_get, slice_set, append-nil, append_assoc, filter, arith}
use Rattle.std.specs.Option.{option_or}
use Rattle.std.proofs.lemmas.Option.{slice_get-map}
use Rattle.ll_settings.specs.Channels.{channel_of_name}
use Rattle.ll_settings.proofs.ChannelLemmas.{named-within}
use Rattle.ll_connection.specs.Met.{waiting_of}
use Rattle.ll_connection.specs.Visit as visit
use Rattle.ll_connection.specs.Visit.{ask_in, asked, first_spoken}
use Rattle.ll_directive.specs.Targets.{WantValue}
use Rattle.ll_script_rooms.specs.Waits.{is_of, is_same, is_under, under, wait_of, without}
use Rattle.ll_script_rooms.specs.declared.owner.Owner.{Owner}
use Rattle.ll_script_rooms.specs.declared.owner.Owner.TheVariants.{Get, Connection}
use Rattle.ll_script_rooms.specs.declared.wait.Wait.{Wait}
use Rattle.ll_settings.specs.Settings.{Configuration}
use Rattle.ll_verdict.specs.Full.{is_full}
use Rattle.ll_verdict.specs.Events.{Event, Publish, Ask, Collect, Close, Clock, asks, counted}
use Rattle.ll_verdict.specs.Verdict.{Pending, at_once, held, reply, reply_of, wanted_of}
use Rattle.ll_verdict.specs.declared.reply.Reply.{Reply}
use Rattle.ll_verdict.specs.declared.reply.Settled.{Settled}
use Rattle.ll_verdict.proofs.ListLemmas.{Each, each-append, each-map}
use Rattle.ll_wire.specs.declared.answer.Answer.{Answer}
use Rattle.ll_wire.specs.declared.answer.Answer.TheVariants as player
use Rattle.ll_verdict.specs.declared.fault.AskFault.TheVariants as out
use Rattle.ll_script_rooms.specs.World.{Channel, World, all_settings, ask_at, asked_if, close, close_at, close_of, first_due, silent, with_event}
use Rattle.ll_script_rooms.specs.World as rooms
use Rattle.ll_script_rooms.proofs.SettingsLaws.{set_keeps}
use Rattle.ll_script_rooms.proofs.TieLemmas.{equal, get_set, none_some, some_is, turn}
use Rattle.ll_script_laws.proofs.GrowLemmas.{Grows, event-grows, since}
use Rattle.ll_script_laws.proofs.ReplyLemmas.{IsAsked, held_asked}
use Rattle.ll_script_laws.specs.Verdicts.{Full, IsAnswer, IsNamed, Memory, Replied, Unknown, later_by, verdict}

-- ---- requests that wait

-- the request that waits at this place under this ticket is one of the channel's events
pub record IsMade (cs : List Channel) (want : WantValue) (place ticket : ℕ) : Type 0 where
  pub channel : Channel
  pub before : List Event
  pub later : List Event
  pub named : IsNamed cs want place channel
  pub is : channel.events ≡ before ++ Ask want ∷ later
  pub ticket_is : ticket ≡ asks before + 1
  pub waits : at_once channel.settings (held channel.settings before) before want ≡ None

-- of a connection it is the one that has no answer yet
abbrev pub AskedBy : (ℕ → List WantValue) → List Channel → ℕ → ℕ → Owner → Type 0
AskedBy outs cs place ticket (Get id) = Unit
AskedBy outs cs place ticket (Connection n) = (want : WantValue) × IsMade cs want place ticket × (outs n ≡ want ∷ [])

abbrev pub AreAsked : (ℕ → List WantValue) → List Channel → List Wait → Type 0
AreAsked outs cs waits = Each (λ (x : Wait). AskedBy outs cs x.place x.ticket x.owner) waits

module _ (outs : ℕ → List WantValue) where
  pub asked-stays : (cs ds : List Channel) (waits : List Wait) → Grows cs ds → AreAsked outs cs waits → AreAsked outs ds waits
  asked-stays cs ds waits g h =
      each-map (λ (x : Wait). AskedBy outs cs x.place x.ticket x.owner) (λ (x : Wait). AskedBy outs ds x.place x.ticket x.owner)
      (λ x a. by x.place x.ticket x.owner a) waits h
    where
      by : (place ticket : ℕ) (o : Owner) → AskedBy outs cs place ticket o → AskedBy outs ds place ticket o
      by place ticket (Get id) a = tt
      by place ticket (Connection n) a =
          let m = a.1 in
          let s = since cs ds g a.0 place m.channel m.named in (
            a.0,
            record {
              channel = record { settings = m.channel.settings; events = m.channel.events ++ s.0 };
              before = m.before;
              later = m.later ++ s.0;
              named = s.1;
              is = ap (λ l. l ++ s.0) m.is ∙ append_assoc m.before (Ask a.0 ∷ m.later) s.0;
              ticket_is = m.ticket_is;
              waits = m.waits;
            },
            a.2,
          )

  pub asked-less : (cs : List Channel) (place t : ℕ) (waits : List Wait) → AreAsked outs cs waits → AreAsked outs cs (without place t waits)
  asked-less cs place t [] h = tt
  asked-less cs place t (x ∷ waits) h = by (is_under place t x) (asked-less cs place t waits h.1)
    where
      by : (b : Bool) → AreAsked outs cs (without place t waits) → AreAsked outs cs (cond b waits (x ∷ without place t waits))
      by true ih = h.1
      by false ih = (h.0, ih)

  pub asked-closes : (w : World) (o : Owner) → AreAsked outs w.channels w.waits → AreAsked outs (close o w).channels (close o w).waits
  asked-closes w o h = by (wait_of o w.waits)
    where
      at : (x : Wait) (c : Option Channel) → slice_get w.channels x.place ≡ c → AreAsked outs (close_at w x c).channels (close_at w x c).waits
      at x None e = h
      at x (Some c) e =
          let cs = slice_set w.channels x.place (with_event (Close x.ticket) c) in
          asked-less cs x.place x.ticket w.waits (asked-stays w.channels cs w.waits (event-grows w.channels x.place c (Close x.ticket) e) h)

      by : (x : Option Wait) → AreAsked outs (close_of w x).channels (close_of w x).waits
      by None = h
      by (Some x) = at x (slice_get w.channels x.place) refl

  -- who is found waiting
  pub asked-at : (cs : List Channel) (place t : ℕ) (waits : List Wait) (x : Wait) → AreAsked outs cs waits → under place t waits ≡ Some x → AskedBy outs cs place t x.owner
  asked-at cs place t [] x h e = absurd (none_some x e)
  asked-at cs place t (y ∷ waits) x h e = by (y.place == place) (y.ticket == t) refl refl (asked-at cs place t waits x h.1) e
    where
      by : (a b : Bool) → (y.place == place) ≡ a → (y.ticket == t) ≡ b → (under place t waits ≡ Some x → AskedBy outs cs place t x.owner)
          → cond (a && b) (Some y) (under place t waits) ≡ Some x → AskedBy outs cs place t x.owner
      by true true f g ih e =
          subst (λ (z : Wait). AskedBy outs cs place t z.owner) (some_is y x e)
          (subst (λ i. AskedBy outs cs i t y.owner) (equal y.place place f) (subst (λ k. AskedBy outs cs y.place k y.owner) (equal y.ticket t g) h.0))
      by true false f g ih e = ih e
      by false b f g ih e = ih e

-- the request of a `get` line is no connection's
pub ask-asked : (un : ℕ → List WantValue) (w : World) (id i : ℕ) (want : WantValue) → AreAsked un w.channels w.waits
    → AreAsked un (rooms.ask (Get id) i want w).channels (rooms.ask (Get id) i want w).waits
ask-asked un w id i want h = at (slice_get w.channels i) refl
  where
    by : (c : Channel) (o : Option Reply) → slice_get w.channels i ≡ Some c
        → AreAsked un (rooms.asked w (Get id) i c want o).channels (rooms.asked w (Get id) i c want o).waits
    by c (Some r) e = asked-stays un w.channels (slice_set w.channels i (with_event (Ask want) c)) w.waits (event-grows w.channels i c (Ask want) e) h
    by c None e =
        let cs = slice_set w.channels i (with_event (Ask want) c) in
        each-append (λ (x : Wait). AskedBy un cs x.place x.ticket x.owner) w.waits ((record { owner = Get id; place = i; ticket = asks c.events + 1 }) ∷ [])
        (asked-stays un w.channels cs w.waits (event-grows w.channels i c (Ask want) e) h) (tt, tt)

    if-full : (c : Channel) (full : Bool) → slice_get w.channels i ≡ Some c
        → AreAsked un (rooms.asked_if full w (Get id) i c want).channels (rooms.asked_if full w (Get id) i c want).waits
    if-full c true e = h
    if-full c false e = by c (at_once c.settings (held c.settings c.events) c.events want) e

    at : (o : Option Channel) → slice_get w.channels i ≡ o → AreAsked un (rooms.ask_at w (Get id) i want o).channels (rooms.ask_at w (Get id) i want o).waits
    at None e = h
    at (Some c) e = if-full c (is_full (length c.events)) e

-- where none of a connection waits, it may have any request out
pub asked-others : (n : ℕ) (outs other : ℕ → List WantValue) (cs : List Channel) (waits : List Wait) → waiting_of n waits ≡ 0
    → ((m : ℕ) → (n == m) ≡ false → other m ≡ outs m) → AreAsked outs cs waits → AreAsked other cs waits
asked-others n outs other cs [] none same h = tt
asked-others n outs other cs (x ∷ waits) none same h = by x.owner (is_of (Connection n) x) refl refl (λ none. asked-others n outs other cs waits none same h.1) none
  where
    by : (o : Owner) (b : Bool) → x.owner ≡ o → is_of (Connection n) x ≡ b → (waiting_of n waits ≡ 0 → AreAsked other cs waits)
        → length (cond b (x ∷ filter (is_of (Connection n)) waits) (filter (is_of (Connection n)) waits)) ≡ 0 → AreAsked other cs (x ∷ waits)
    by o true e f ih none = absurd (omega (arith, none))
    by (Get id) false e f ih none = (subst (AskedBy other cs x.place x.ticket) (sym e) tt, ih none)
    by (Connection m) false e f ih none =
        let a = subst (AskedBy outs cs x.place x.ticket) e h.0 in
        let apart : (m == n) ≡ false = sym (ap (λ o. is_same o (Connection n)) e) ∙ f in (
          subst (AskedBy other cs x.place x.ticket) (sym e) (a.0, a.1, same m (turn n m apart) ∙ a.2),
          ih none,
        )

-- ---- a request is made

module _ (n : ℕ) (want : WantValue) (w : World) where
  -- it has its answer, or it waits
  abbrev pub IsRight : World → Option Answer → Type 0
  IsRight v (Some a) = (v.waits ≡ w.waits) × IsAnswer v.channels want a
  IsRight v None =
      (place : ℕ) × (ticket : ℕ) × (v.waits ≡ w.waits ++ (record { owner = Connection n; place = place; ticket = ticket }) ∷ []) × IsMade v.channels want place ticket

  abbrev Heard : World → Type 0
  Heard v = IsRight (silent v) (first_spoken v.answers)

  module _ (i : ℕ) (c : Channel) (named : IsNamed w.channels want i c) where
    named_now : IsNamed (slice_set w.channels i (with_event (Ask want) c)) want i (with_event (Ask want) c)
    named_now = record {
      there = get_set w.channels i c (with_event (Ask want) c) named.there;
      named = ap (λ l. channel_of_name l 0 want.channel) (set_keeps w.channels i c (Ask want) named.there) ∙ named.named;
    }

    right_by : (o : Option Reply) → at_once c.settings (held c.settings c.events) c.events want ≡ o → Heard (rooms.asked (silent w) (Connection n) i c want o)
    right_by (Some r) e = (
      refl,
      Replied i (with_event (Ask want) c) c.events [] r named_now refl
          (ap (λ o. option_or o (later_by c.settings (c.events ++ Ask want ∷ []) c.events (wanted_of c.settings want))) e) refl,
    )
    right_by None e = (
      i,
      asks c.events + 1,
      refl,
      record { channel = with_event (Ask want) c; before = c.events; later = []; named = named_now; is = refl; ticket_is = refl; waits = e },
    )

    right_if : (full : Bool) → is_full (length c.events) ≡ full → Heard (asked_if full (silent w) (Connection n) i c want)
    right_if true e = (refl, Full i c c.events [] named (sym (append-nil c.events)) e refl)
    right_if false e = right_by (at_once c.settings (held c.settings c.events) c.events want) refl

  named_at : (f : ℕ × Configuration) (c : Channel) → channel_of_name (all_settings w) 0 want.channel ≡ Some f → slice_get w.channels f.0 ≡ Some c
      → Some c.settings ≡ Some f.1 → IsNamed w.channels want f.0 c
  named_at f c e at same = record { there = at; named = e ∙ ap (λ (d : Configuration). Some (f.0, d)) (sym (some_is c.settings f.1 same)) }

  right_at : (f : ℕ × Configuration) (o : Option Channel) → channel_of_name (all_settings w) 0 want.channel ≡ Some f → slice_get w.channels f.0 ≡ o
      → option_map (λ (c : Channel). c.settings) o ≡ Some f.1 → Heard (ask_at (silent w) (Connection n) f.0 want o)
  right_at f None e at same = absurd (none_some f.1 same)
  right_at f (Some c) e at same = right_if f.0 c (named_at f c e at same) (is_full (length c.events)) refl

  -- it is out of memory
  lost_at : (f : ℕ × Configuration) (o : Option Channel) → channel_of_name (all_settings w) 0 want.channel ≡ Some f → slice_get w.channels f.0 ≡ o
      → option_map (λ (c : Channel). c.settings) o ≡ Some f.1 → IsAnswer w.channels want (player.Unavailable out.Memory)
  lost_at f None e at same = absurd (none_some f.1 same)
  lost_at f (Some c) e at same = Memory f.0 c (named_at f c e at same) refl

  right_found : (found : Bool) (f : ℕ × Configuration) → channel_of_name (all_settings w) 0 want.channel ≡ Some f
      → option_map (λ (c : Channel). c.settings) (slice_get w.channels f.0) ≡ Some f.1 → IsRight (visit.ask_at found n f.0 want w).rooms (visit.ask_at found n f.0 want w).answer
  right_found true f e same = right_at f (slice_get w.channels f.0) e refl same
  right_found false f e same = (refl, lost_at f (slice_get w.channels f.0) e refl same)

  right_in : (found : Bool) (o : Option (ℕ × Configuration)) → channel_of_name (all_settings w) 0 want.channel ≡ o
      → IsRight (ask_in found n want w o).rooms (ask_in found n want w o).answer
  right_in found None e = (refl, Unknown (all_settings w) [] (sym (append-nil (all_settings w))) e refl)
  right_in found (Some f) e =
      let at = named-within (all_settings w) 0 f.0 want.channel f.1 e in
      let same : at.0 ≡ f.0 = omega (arith, at.1) in
      right_found found f e (sym (slice_get-map (λ (c : Channel). c.settings) w.channels f.0) ∙ ap (slice_get (all_settings w)) (sym same) ∙ at.2)

  pub asked-right : (found : Bool) → IsRight (asked found n want w).rooms (asked found n want w).answer
  asked-right found = right_in found (channel_of_name (all_settings w) 0 want.channel) refl

-- ---- a reply is due

counted-more : (n : ℕ) (e : Event) → n ≤ counted n e
counted-more n (Publish item) = omega arith
counted-more n (Ask want) = omega arith
counted-more n (Collect t) = omega arith
counted-more n (Close t) = omega arith
counted-more n (Clock ms) = omega arith

asks-more : (n : ℕ) (es : List Event) → n ≤ fold counted n es
asks-more n [] = omega arith
asks-more n (e ∷ es) = omega (arith, counted-more n e, asks-more (counted n e) es)

-- of one number there is one request
same_ask : (n : ℕ) (b d l m : List Event) (x y : WantValue) → b ++ Ask x ∷ l ≡ d ++ Ask y ∷ m → fold counted n b ≡ fold counted n d → (b ≡ d) × (x ≡ y)
same_ask n [] [] l m x y h e = let same : x ≡ y = cc in (refl, same)
same_ask n [] (f ∷ d) l m x y h e =
    let is : f ≡ Ask x = cc in
    absurd (omega (arith, e ∙ ap (λ f. fold counted (counted n f) d) is, asks-more (n + 1) d))
same_ask n (f ∷ b) [] l m x y h e =
    let is : f ≡ Ask y = cc in
    absurd (omega (arith, sym e ∙ ap (λ f. fold counted (counted n f) b) is, asks-more (n + 1) b))
same_ask n (f ∷ b) (g ∷ d) l m x y h e =
    let is : f ≡ g = cc in
    let tails : b ++ Ask x ∷ l ≡ d ++ Ask y ∷ m = cc in
    let r = same_ask (counted n f) b d l m x y tails (e ∙ ap (λ g. fold counted (counted n g) d) (sym is)) in
    (ap₂ (λ f b. f ∷ b) is r.0, r.1)

each-find : {X : Type 0} (P : X → Type 0) (p : X → Bool) (x : X) (xs : List X) → Each P xs → find p xs ≡ Some x → P x
each-find P p x [] h e = absurd (none_some x e)
each-find P p x (y ∷ xs) h e = by (p y) (each-find P p x xs h.1) e
  where
    by : (b : Bool) → (find p xs ≡ Some x → P x) → cond b (Some y) (find p xs) ≡ Some x → P x
    by true ih e = subst P (some_is y x e) h.0
    by false ih e = ih e

-- a reply that is due is right for the request that waits under its ticket
pub due-right : (cs : List Channel) (place : ℕ) (c : Channel) (want : WantValue) (r : Pending) (s : Settled) → slice_get cs place ≡ Some c
    → first_due c.settings c.events ≡ Some r → reply c.settings c.events r ≡ Some s → IsMade cs want place r.ticket → IsAnswer cs want (player.Reply (reply_of s))
due-right cs place c want r s at due told made =
    let here : made.channel ≡ c = some_is made.channel c (sym made.named.there ∙ at) in
    let events : c.events ≡ made.before ++ Ask want ∷ made.later = ap (λ (c : Channel). c.events) (sym here) ∙ made.is in
    let a : IsAsked c.settings c.events r = each-find (IsAsked c.settings c.events) _ r (held c.settings c.events) (held_asked c.settings c.events) due in
    let counts : asks r.before ≡ asks made.before = omega (arith, made.ticket_is, a.4) in
    let same = same_ask 0 made.before r.before made.later a.1 want a.0 (sym events ∙ a.2) (sym counts) in
    let wanted : wanted_of c.settings want ≡ Some r.wanted = ap (wanted_of c.settings) same.1 ∙ a.3 in
    let is : verdict c.settings c.events made.before want ≡ Some (reply_of s) =
    ap₂ (λ o w. option_or o (later_by c.settings c.events made.before w))
    (ap (λ (c : Channel). at_once c.settings (held c.settings made.before) made.before want) (sym here) ∙ made.waits) wanted
    ∙ ap₂ (λ t b. option_map reply_of (reply c.settings c.events (record { ticket = t; wanted = r.wanted; before = b }))) (sym made.ticket_is) same.0
    ∙ ap (option_map reply_of) told in
    Replied place c made.before made.later (reply_of s) (subst (IsNamed cs want place) here made.named) events is refl
