-- What happened stays, whatever happens later: an answer that was right is right, and a request that waits was made.
use Rattle.std.proofs.Common.{◌≡◌, ℕ, zero, suc, ◌+◌, ◌==◌, List, [], ◌∷◌, ◌++◌, Bool, true, false, Option, Some, None, refl, ap, sym, ◌∙◌, subst, bytes_eq, if◌then◌else◌, option_map, option_and_then, slice_get, slice_set, append-nil, append_assoc}
use Rattle.std.specs.Option.{option_or}
use Rattle.ll_settings.specs.Settings.{Configuration}
use Rattle.ll_settings.specs.Channels.{channel_of_name}
use Rattle.ll_directive.specs.Targets.{WantValue}
use Rattle.ll_verdict.specs.Events.{Event, Ask, Step, asks}
use Rattle.ll_verdict.specs.Verdict.{Pending, at_once, decided, held, reply, reply_at_step, reply_of, wanted_of}
use Rattle.ll_verdict.specs.declared.reply.Reply.{Reply}
use Rattle.ll_verdict.specs.declared.reply.Settled.{Settled}
use Rattle.ll_verdict.specs.declared.wanted.Wanted.{Wanted}
use Rattle.ll_verdict.proofs.LawProofs.{one_verdict}
use Rattle.ll_wire.specs.declared.answer.Answer.{Answer}
use Rattle.ll_script_rooms.specs.World.{Channel, with_event}
use Rattle.ll_script_rooms.proofs.SettingsLaws.{set_keeps}
use Rattle.ll_script_rooms.proofs.TieLemmas.{equal, get_other, get_set, none_some, some_is}
use Rattle.ll_script_laws.specs.Verdicts.{AreAnswered, Full, IsAnswer, IsNamed, Memory, Replied, Unknown, later_by, settings_of, verdict}

abbrev pub grown : Channel → List Event → Channel
grown c more = record { settings = c.settings; events = c.events ++ more }

-- channels may be added, and events in each
pub record Grows (cs ds : List Channel) : Type 0 where
  pub settings : (more : List Configuration) × (settings_of ds ≡ settings_of cs ++ more)
  pub events : (place : ℕ) (c : Channel) → slice_get cs place ≡ Some c → (more : List Event) × (slice_get ds place ≡ Some (grown c more))

still : (cs ds : List Channel) (place : ℕ) (c : Channel) → slice_get ds place ≡ slice_get cs place → slice_get cs place ≡ Some c
    → (more : List Event) × (slice_get ds place ≡ Some (grown c more))
still cs ds place c same h = ([], same ∙ h ∙ ap (λ es. Some (record { settings = c.settings; events = es })) (sym (append-nil c.events)))

pub grows-same : (cs : List Channel) → Grows cs cs
grows-same cs = record { settings = ([], sym (append-nil (settings_of cs))); events = λ place c h. still cs cs place c refl h }

pub grows-on : (cs ds es : List Channel) → Grows cs ds → Grows ds es → Grows cs es
grows-on cs ds es g k = record {
  settings = (
    g.settings.0 ++ k.settings.0,
    k.settings.1 ∙ ap (λ l. l ++ k.settings.0) g.settings.1 ∙ append_assoc (settings_of cs) g.settings.0 k.settings.0,
  );
  events = λ place c h.
      let a = g.events place c h in
      let b = k.events place (grown c a.0) a.1 in
      (a.0 ++ b.0, b.1 ∙ ap (λ l. Some (record { settings = c.settings; events = l })) (append_assoc c.events a.0 b.0));
}

-- an event happens
pub event-grows : (cs : List Channel) (i : ℕ) (c : Channel) (e : Event) → slice_get cs i ≡ Some c → Grows cs (slice_set cs i (with_event e c))
event-grows cs i c e at = record {
  settings = ([], set_keeps cs i c e at ∙ sym (append-nil (settings_of cs)));
  events = λ place d h. by place d (place == i) refl h;
}
  where
    by : (place : ℕ) (d : Channel) (b : Bool) → (place == i) ≡ b → slice_get cs place ≡ Some d
        → (more : List Event) × (slice_get (slice_set cs i (with_event e c)) place ≡ Some (grown d more))
    by place d true f h =
        let same : c ≡ d = some_is c d (sym at ∙ ap (slice_get cs) (sym (equal place i f)) ∙ h) in (
          e ∷ [],
          ap (slice_get (slice_set cs i (with_event e c))) (equal place i f) ∙ get_set cs i c (with_event e c) at
              ∙ ap (λ (x : Channel). Some (with_event e x)) same,
        )
    by place d false f h = still cs (slice_set cs i (with_event e c)) place d (get_other cs i place (with_event e c) f) h

-- a channel is declared
pub declare-grows : (cs : List Channel) (d : Channel) → Grows cs (cs ++ d ∷ [])
declare-grows cs d = record {
  settings = (d.settings ∷ [], all cs);
  events = λ place c h. still cs (cs ++ d ∷ []) place c (front cs place c h ∙ sym h) h;
}
  where
    all : (cs : List Channel) → settings_of (cs ++ d ∷ []) ≡ settings_of cs ++ d.settings ∷ []
    all [] = refl
    all (c ∷ cs) = ap (λ l. c.settings ∷ l) (all cs)

    front : (cs : List Channel) (place : ℕ) (c : Channel) → slice_get cs place ≡ Some c → slice_get (cs ++ d ∷ []) place ≡ Some c
    front [] place c h = absurd (none_some c h)
    front (x ∷ cs) zero c h = h
    front (x ∷ cs) (suc place) c h = front cs place c h

-- ---- a verdict stays

reply-stays : (c : Configuration) (events more : List Event) (r : Pending) (s : Settled) → reply c events r ≡ Some s → reply c (events ++ more) r ≡ Some s
reply-stays c events more r s h = by (decided c events r) refl h
  where
    by : (o : Option Step) → decided c events r ≡ o → option_and_then (reply_at_step c r) o ≡ Some s → reply c (events ++ more) r ≡ Some s
    by None e h = absurd (none_some s h)
    by (Some t) e h = ap (option_and_then (reply_at_step c r)) (one_verdict c events more r t e) ∙ h

pub verdict-stays : (c : Configuration) (events more before : List Event) (want : WantValue) (a : Reply) → verdict c events before want ≡ Some a
    → verdict c (events ++ more) before want ≡ Some a
verdict-stays c events more before want a h = at (at_once c (held c before) before want) (wanted_of c want) h
  where
    by : (r : Pending) (o : Option Settled) → reply c events r ≡ o → option_map reply_of o ≡ Some a → option_map reply_of (reply c (events ++ more) r) ≡ Some a
    by r None e h = absurd (none_some a h)
    by r (Some s) e h = ap (option_map reply_of) (reply-stays c events more r s e) ∙ h

    at : (o : Option Reply) (w : Option Wanted) → option_or o (later_by c events before w) ≡ Some a → option_or o (later_by c (events ++ more) before w) ≡ Some a
    at (Some x) w h = h
    at None None h = h
    at None (Some w) h =
        let r : Pending = record { ticket = asks before + 1; wanted = w; before = before } in
        by r (reply c events r) refl h

-- ---- answers

named-stays : (cs more : List Configuration) (first : ℕ) (name : List ℕ) (f : ℕ × Configuration) → channel_of_name cs first name ≡ Some f
    → channel_of_name (cs ++ more) first name ≡ Some f
named-stays [] more first name f h = absurd (none_some f h)
named-stays (c ∷ cs) more first name f h = by (bytes_eq name c.channel) (named-stays cs more (first + 1) name f) h
  where
    by : (b : Bool) → (channel_of_name cs (first + 1) name ≡ Some f → channel_of_name (cs ++ more) (first + 1) name ≡ Some f)
        → (if b then Some (first, c) else channel_of_name cs (first + 1) name) ≡ Some f → (if b then Some (first, c) else channel_of_name (cs ++ more) (first + 1) name) ≡ Some f
    by true ih h = h
    by false ih h = ih h

module _ (cs ds : List Channel) (g : Grows cs ds) where
  -- so much happened since in this channel
  pub since : (want : WantValue) (place : ℕ) (c : Channel) → IsNamed cs want place c → (more : List Event) × IsNamed ds want place (grown c more)
  since want place c w =
      let m = g.events place c w.there in (
        m.0,
        record {
          there = m.1;
          named =
              ap (λ l. channel_of_name l 0 want.channel) g.settings.1
              ∙ named-stays (settings_of cs) g.settings.0 0 want.channel (place, c.settings) w.named;
        },
      )

  pub answer-stays : (want : WantValue) (a : Answer) → IsAnswer cs want a → IsAnswer ds want a
  answer-stays want a (Replied place c before later r w e v is) =
      let m = since want place c w in
      Replied place (grown c m.0) before (later ++ m.0) r m.1 (ap (λ l. l ++ m.0) e ∙ append_assoc before (Ask want ∷ later) m.0)
      (verdict-stays c.settings c.events m.0 before want r v) is
  answer-stays want a (Full place c before later w e full is) =
      let m = since want place c w in
      Full place (grown c m.0) before (later ++ m.0) m.1 (ap (λ l. l ++ m.0) e ∙ append_assoc before later m.0) full is
  answer-stays want a (Memory place c w is) =
      let m = since want place c w in
      Memory place (grown c m.0) m.1 is
  answer-stays want a (Unknown declared later e none is) =
      Unknown declared (later ++ g.settings.0) (g.settings.1 ∙ ap (λ l. l ++ g.settings.0) e ∙ append_assoc declared later g.settings.0) none is

  pub answers-stay : (wants : List WantValue) (answers : List Answer) (un : List WantValue) → AreAnswered cs wants answers un → AreAnswered ds wants answers un
  answers-stay wants [] un h = h
  answers-stay [] (a ∷ answers) un h = h
  answers-stay (want ∷ wants) (a ∷ answers) un h = (answer-stays want a h.0, answers-stay wants answers un h.1)

-- ---- one more request, or one more answer

pub wants-more : (cs : List Channel) (wants : List WantValue) (answers : List Answer) (un more : List WantValue) → AreAnswered cs wants answers un
    → AreAnswered cs (wants ++ more) answers (un ++ more)
wants-more cs wants [] un more h = ap (λ l. l ++ more) h
wants-more cs [] (a ∷ answers) un more h = absurd h
wants-more cs (want ∷ wants) (a ∷ answers) un more h = (h.0, wants-more cs wants answers un more h.1)

pub answers-more : (cs : List Channel) (wants : List WantValue) (answers : List Answer) (want : WantValue) (a : Answer) → AreAnswered cs wants answers (want ∷ [])
    → IsAnswer cs want a → AreAnswered cs wants (answers ++ a ∷ []) []
answers-more cs wants [] want a h right = subst (λ l. AreAnswered cs l (a ∷ []) []) (sym h) (right, refl)
answers-more cs [] (b ∷ answers) want a h right = absurd h
answers-more cs (w ∷ wants) (b ∷ answers) want a h right = (h.0, answers-more cs wants answers want a h.1 right)
