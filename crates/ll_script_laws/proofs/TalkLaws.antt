-- Each act keeps what holds of the connections of a script, and so they hold after all its lines.
use Rattle.std.proofs.Common.{◌≡◌, ℕ, List, [], ◌∷◌, ◌++◌, Option, None, Some, refl, ap, ap₂, sym, ◌∙◌, subst, map, append-nil, arith}
use Rattle.std.specs.Prelude.{flat_map}
use Rattle.std.specs.List.{concat}
use Rattle.std.proofs.lemmas.Grind.{flat_map-append}
use Rattle.ll_connection.specs.Visit.{Luck}
use Rattle.ll_directive.specs.Targets.{WantValue}
use Rattle.ll_script_rooms.specs.declared.owner.Owner.TheVariants.{Get}
use Rattle.ll_script.specs.Lines.{starved}
use Rattle.ll_script.specs.declared.act.Act.{Act}
use Rattle.ll_script.specs.declared.act.Act.TheVariants.{Declare, Offer, At, Refuse, Ask, Answer, Close, Clock, RefuseClock, Bytes, Drop}
use Rattle.ll_session.proofs.PastLemmas.{is_talk}
use Rattle.ll_session.specs.Past.{conversation, past}
use Rattle.ll_verdict.specs.declared.standing.Standing.{Standing}
use Rattle.ll_script_rooms.specs.World as rooms
use Rattle.ll_script_rooms.specs.World.{World}
use Rattle.ll_replay.specs.Script.{Ending, Script, act, heard, standing_text, start, next_reply}
use Rattle.ll_script_laws.proofs.AskLemmas.{AreAsked, ask-asked, asked-closes, asked-stays}
use Rattle.ll_script_laws.proofs.DueLemmas as due
use Rattle.ll_script_laws.proofs.GrowLemmas.{Grows, declare-grows, grows-same}
use Rattle.ll_script_laws.proofs.PartLemmas.{said-sent, said-text}
use Rattle.ll_script_laws.proofs.ScriptLemmas.{done-keeps, lines-keep}
use Rattle.ll_script_laws.proofs.ServeLemmas.{ask-grows, close-grows, clock-grows, offer-grows}
use Rattle.ll_script_laws.proofs.TalkLemmas.{Holds, HoldsSome, adds, bytes-holds, end-holds, heard-holds, nothing_more, says-holds, next_reply-holds}
use Rattle.ll_script_laws.specs.Talks.{AnswersLaw, Late, Faulty, Refused, Said, Stands, TalksLaw, brought_by, sent_by}

-- ---- acts

abbrev after_act : Act → (ℕ → List ℕ) → ℕ → List ℕ
after_act a came m = came m ++ brought_by m a

module _ (came : ℕ → List ℕ) (un : ℕ → List WantValue) (lucks : List Luck) (w : Script) (met : due.Holds w) (h : Holds came un w) where
  quiet : (a : Act) (v : Script) → ((m : ℕ) → brought_by m a ≡ []) → Holds came un v → HoldsSome (after_act a came) v
  quiet a v none k = (un, nothing_more came (after_act a came) un v (λ m. ap (λ l. came m ++ l) (none m) ∙ append-nil (came m)) k)

  same_waits : (v : World) → v.waits ≡ w.rooms.waits → Grows w.rooms.channels v.channels → AreAsked un v.channels v.waits
  same_waits v same g = subst (AreAsked un v.channels) (sym same) (asked-stays un w.rooms.channels v.channels w.rooms.waits g h.asked)

  -- the answer that says where a rendition stands, if it was found
  told : (o : Option Standing) (v : Script) → v.connections ≡ w.connections → v.rooms ≡ w.rooms → v.text ≡ w.text ++ standing_text o → Holds came un v
  told None v same rooms text =
      adds came un w v [] h same text (λ m. refl) (subst (λ (r : World). Grows w.rooms.channels r.channels) (sym rooms) (grows-same w.rooms.channels))
      (subst (λ (r : World). AreAsked un r.channels r.waits) (sym rooms) h.asked)
  told (Some s) v same rooms text = says-holds came un w v (Stands s) h same rooms text (λ m. refl)

  act-holds : (a : Act) → HoldsSome (after_act a came) (act lucks w a)
  act-holds (Declare c) =
      let v = rooms.declare c w.rooms in
      let g = declare-grows w.rooms.channels (record { settings = c; events = [] }) in
      quiet (Declare c) (heard w v) (λ m. refl) (heard-holds came un w v h g (same_waits v refl g))
  act-holds (Offer i item) =
      let v = rooms.offer i item w.rooms in
      let g = offer-grows w.rooms.channels w.rooms i item (grows-same w.rooms.channels) in
      quiet (Offer i item) (heard w v) (λ m. refl) (heard-holds came un w v h g (same_waits v (due.offer-same w.rooms i item) g))
  act-holds (At i r) = quiet (At i r) (act lucks w (At i r)) (λ m. refl) (told (rooms.standing i r w.rooms) (act lucks w (At i r)) refl refl refl)
  act-holds (Refuse reason) = quiet (Refuse reason) (act lucks w (Refuse reason)) (λ m. refl) (says-holds came un w (act lucks w (Refuse reason)) (Refused reason) h refl refl refl (λ m. refl))
  act-holds (Ask id i want) =
      let v = rooms.ask (Get id) i want w.rooms in
      quiet (Ask id i want) (act lucks w (Ask id i want)) (λ m. refl)
      (adds came un w (act lucks w (Ask id i want)) (map (λ a. Said a) v.answers) h refl (ap (λ t. w.text ++ t) (sym (said-text v.answers))) (λ m. said-sent m v.answers)
      (ask-grows w.rooms.channels w.rooms (Get id) i want (grows-same w.rooms.channels)) (ask-asked un w.rooms id i want h.asked))
  act-holds (Answer id reason) =
      quiet (Answer id reason) (act lucks w (Answer id reason)) (λ m. refl) (says-holds came un w (act lucks w (Answer id reason)) (Faulty id reason) h refl refl refl (λ m. refl))
  act-holds (Close id) =
      let v = rooms.close (Get id) w.rooms in
      quiet (Close id) (heard w v) (λ m. refl)
      (heard-holds came un w v h (close-grows w.rooms.channels w.rooms (Get id) (grows-same w.rooms.channels)) (asked-closes un w.rooms (Get id) h.asked))
  act-holds (Clock i ms) =
      let v = rooms.clock i ms w.rooms in
      let g = clock-grows w.rooms.channels w.rooms i ms (grows-same w.rooms.channels) in
      quiet (Clock i ms) (heard w v) (λ m. refl) (heard-holds came un w v h g (same_waits v (due.clock-same w.rooms i ms) g))
  act-holds RefuseClock = quiet RefuseClock (act lucks w RefuseClock) (λ m. refl) (says-holds came un w (act lucks w RefuseClock) Late h refl refl refl (λ m. refl))
  act-holds (Bytes n piece) = bytes-holds lucks n piece came un w met h
  act-holds (Drop n) = quiet (Drop n) (act lucks w (Drop n)) (λ m. refl) (end-holds n came un w h)

-- ---- all lines

abbrev so_far : List Act → ℕ → List ℕ
so_far list n = flat_map (brought_by n) list

abbrev Always : List Act → Script → Type 0
Always list w = due.Holds w × HoldsSome (so_far list) w

-- the bytes that came on each connection with one more act
with_one : (list : List Act) (a : Act) (n : ℕ) → so_far (list ++ a ∷ []) n ≡ after_act a (so_far list) n
with_one list a n = flat_map-append (brought_by n) list (a ∷ []) ∙ ap (λ l. so_far list n ++ l) (append-nil (brought_by n a))

one_more : (list : List Act) (lucks : List Luck) (w : Script) (a : Act) → Always list w → Always (list ++ a ∷ []) (act lucks w a)
one_more list lucks w a h =
    let k = act-holds (so_far list) h.1.0 lucks w h.0 h.1.1 a in
    (due.act-holds lucks w a h.0, (k.0, nothing_more (after_act a (so_far list)) (so_far (list ++ a ∷ [])) k.0 (act lucks w a) (with_one list a) k.1))

-- if an act is out of memory, the same bytes came
brings_same : (n : ℕ) (a : Act) → brought_by n a ≡ brought_by n (starved a)
brings_same n (Declare settings) = refl
brings_same n (Offer place item) = refl
brings_same n (At place rendition) = refl
brings_same n (Refuse reason) = refl
brings_same n (Ask id place want) = refl
brings_same n (Answer id reason) = refl
brings_same n (Close id) = refl
brings_same n (Clock place ms) = refl
brings_same n RefuseClock = refl
brings_same n (Bytes m piece) = refl
brings_same n (Drop m) = refl

one_starved : (list : List Act) (w : Script) (a : Act) → Always (list ++ starved a ∷ []) w → Always (list ++ a ∷ []) w
one_starved list w a h =
    let alike = λ (n : ℕ). with_one list a n ∙ ap (λ l. so_far list n ++ l) (brings_same n a) ∙ sym (with_one list (starved a) n) in
    (h.0, (h.1.0, nothing_more (so_far (list ++ starved a ∷ [])) (so_far (list ++ a ∷ [])) h.1.0 w alike h.1.1))

same : (list : List Act) (w : Script) (lines : ℕ) (ending : Option Ending) → Always list w → Always list (record w { lines = lines; ending = ending })
same list w lines ending h = (
  due.same-holds w lines ending h.0,
  (
    h.1.0,
    adds (so_far list) h.1.0 w (record w { lines = lines; ending = ending }) [] h.1.1 refl (sym (append-nil w.text)) (λ m. refl) (grows-same w.rooms.channels) h.1.1.asked,
  ),
)

start-holds : Holds (λ n. []) (λ n. []) start
start-holds = record {
  parts = [];
  text = refl;
  served = λ n.
      record { calls = []; untaken = []; fed = refl; gone = refl; all_sent = refl; stands = (refl, refl); answered = refl; few = omega arith; is_out = λ going. refl };
  asked = tt;
}

one_reply : (list : List Act) (place : ℕ) (w : Script) (lucks : List Luck) → Always list w → Always list (next_reply place w lucks)
one_reply list place w lucks h = (due.next_reply-holds place w lucks h.0, next_reply-holds (so_far list) h.1.0 place w lucks h.0 h.1.1)

pub talks : TalksLaw
talks ls =
    let h = lines-keep Always (done-keeps Always one_more one_reply one_starved) same [] start ls (due.start-holds, ((λ n. []), start-holds)) in
    (h.1.1.parts, h.1.1.text, λ n. (h.1.0 n, h.1.1.served n))

-- the same without the calls
pub answers : AnswersLaw
answers ls =
    let t = talks ls in (
      t.0,
      t.1,
      λ n.
          let s = t.2 n in
          let talk = is_talk s.1.calls in
          let sent : flat_map (sent_by n) t.0 ++ [] ≡ concat (conversation (past s.1.calls).overflowed (past s.1.calls).entries (past s.1.calls).replies) =
          ap₂ (λ x y. x ++ y) s.1.gone (ap concat (sym s.1.all_sent)) ∙ talk.answers in
          record {
            taken = (past s.1.calls).fed;
            untaken = s.1.untaken;
            came_is = s.1.fed;
            entries = (past s.1.calls).entries;
            later = talk.first.0;
            requests_are = talk.first.1;
            answers = (past s.1.calls).replies;
            unanswered = s.0;
            right = s.1.answered;
            few = s.1.few;
            overflowed = (past s.1.calls).overflowed;
            sent_is = sym (append-nil (flat_map (sent_by n) t.0)) ∙ sent;
          },
    )
