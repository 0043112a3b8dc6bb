-- What comes and what is sent on each connection of a script, and that its requests are answered right: what bytes, an end and a reply keep.
use Rattle.std.proofs.Common.{◌≡◌, ℕ, ◌==◌, List, [], ◌∷◌, ◌++◌, Bool, true, false, Option, Some, None, is_some, refl, ap, ap₂, sym, ◌∙◌, subst, true≢false, fold, length, map, slice_get, append-nil, append_assoc}
use Rattle.std.specs.Prelude.{flat_map, if◌then◌else◌}
use Rattle.std.specs.List.{concat}
use Rattle.std.proofs.lemmas.Grind.{flat_map-append}
use Rattle.std.proofs.lemmas.List.Sums.{fold-append}
use Rattle.ll_connection.specs.Met.{outs, waiting_of, wants_out}
use Rattle.ll_connection.specs.Turn as connection
use Rattle.ll_connection.specs.Turn.{Connections, left, session_of, turn, with_session}
use Rattle.ll_connection.specs.Visit.{Luck, Visit, arrived, came, put_out, released}
use Rattle.ll_connection.proofs.MetLemmas.{HasOut, IsMet, came-met, replied_out}
use Rattle.ll_connection.proofs.TalkLemmas.{Talked, answer_call, bytes-talked, put, reply-talked}
use Rattle.ll_connection.proofs.TurnLemmas.{found, kept_other}
use Rattle.ll_directive.specs.Targets.{WantValue}
use Rattle.ll_script_rooms.specs.Waits.{is_same, under}
use Rattle.ll_script_rooms.specs.declared.owner.Owner.{Owner}
use Rattle.ll_script_rooms.specs.declared.owner.Owner.TheVariants.{Get, Connection}
use Rattle.ll_script_rooms.specs.declared.wait.Wait.{Wait}
use Rattle.ll_session.specs.Past.{Past, Send, before_any, called, past}
use Rattle.ll_session.specs.Talk.{SessionValue, fresh}
use Rattle.ll_verdict.specs.Events.{Collect}
use Rattle.ll_verdict.specs.Verdict.{Pending, reply, reply_of}
use Rattle.ll_verdict.specs.declared.reply.Reply as verdict
use Rattle.ll_verdict.specs.declared.reply.Settled.{Settled}
use Rattle.ll_wire.specs.declared.answer.Answer.{Answer}
use Rattle.ll_wire.specs.declared.answer.Answer.TheVariants as player
use Rattle.ll_script_rooms.specs.World as rooms
use Rattle.ll_script_rooms.specs.World.{Channel, World, first_due}
use Rattle.ll_script_rooms.specs.declared.answer.ActAnswer as answer
use Rattle.ll_script_rooms.specs.declared.answer.ActAnswer.TheVariants as said
use Rattle.ll_script_rooms.proofs.TieLemmas.{equal, same_test}
use Rattle.ll_script_rooms.proofs.WaitLemmas.{IsOpen, next_reply-open}
use Rattle.ll_replay.specs.Script.{Script, heard, passed_on, passed_to, next_reply, turned}
use Rattle.ll_script_laws.proofs.AskLemmas.{AreAsked, AskedBy, asked-at, asked-closes, asked-less, asked-stays, due-right}
use Rattle.ll_script_laws.proofs.DueLemmas as due
use Rattle.ll_script_laws.proofs.GrowLemmas.{Grows, answer-stays, answers-stay, event-grows, grows-same}
use Rattle.ll_script_laws.proofs.PartLemmas.{said-sent, said-text, turn-sent, turn-text, turn_parts}
use Rattle.ll_script_laws.proofs.ServeLemmas.{Serves, Keeps, asks-keep, came-serves, close-grows, mute-serves, mutes-keep, none-keeps, reply-serves, same-asked, unanswered-same, unanswered_at}
use Rattle.ll_script_laws.specs.Talks.{IsServed, Part, Said, StandsAt, part_text, sent_by}
use Rattle.ll_script_laws.specs.Verdicts.{AreAnswered, IsAnswer, wants_of}

-- ---- what holds after each act

-- so much came on each connection, and these requests of it have no answer
pub record Holds (came : ℕ → List ℕ) (un : ℕ → List WantValue) (w : Script) : Type 0 where
  pub parts : List Part
  pub text : w.text ≡ flat_map part_text parts
  pub served : (n : ℕ) → IsServed w (came n) (flat_map (sent_by n) parts) n (un n)
  pub asked : AreAsked un w.rooms.channels w.rooms.waits

-- what changes nothing of a connection
stays : (w v : Script) (came more sent text : List ℕ) (n : ℕ) (un : List WantValue) → more ≡ came → text ≡ sent → session_of n v.connections ≡ session_of n w.connections
    → Grows w.rooms.channels v.rooms.channels → IsServed w came sent n un → IsServed v more text n un
stays w v came more sent text n un is out at g t = record {
  calls = t.calls;
  untaken = t.untaken;
  fed = is ∙ t.fed;
  gone = out ∙ t.gone;
  all_sent = t.all_sent;
  stands = subst (λ o. StandsAt o (past t.calls) t.untaken) (sym at) t.stands;
  answered = answers-stay w.rooms.channels v.rooms.channels g (wants_of (past t.calls).entries) (past t.calls).replies un t.answered;
  few = t.few;
  is_out = t.is_out;
}

module _ (came : ℕ → List ℕ) (un : ℕ → List WantValue) (w v : Script) where
  -- nothing comes to a connection, and this is written besides
  pub adds : (more : List Part) → Holds came un w → v.connections ≡ w.connections → v.text ≡ w.text ++ flat_map part_text more
      → ((m : ℕ) → flat_map (sent_by m) more ≡ []) → Grows w.rooms.channels v.rooms.channels → AreAsked un v.rooms.channels v.rooms.waits → Holds came un v
  adds more h same text none g asked = record {
    parts = h.parts ++ more;
    text = text ∙ ap (λ t. t ++ flat_map part_text more) h.text ∙ sym (flat_map-append part_text h.parts more);
    served = λ m.
        let sent : flat_map (sent_by m) (h.parts ++ more) ≡ flat_map (sent_by m) h.parts =
        flat_map-append (sent_by m) h.parts more ∙ ap (λ l. flat_map (sent_by m) h.parts ++ l) (none m) ∙ append-nil (flat_map (sent_by m) h.parts) in
        stays w v (came m) (came m) (flat_map (sent_by m) h.parts) (flat_map (sent_by m) (h.parts ++ more)) m (un m) refl sent (ap (session_of m) same) g (h.served m);
    asked = asked;
  }

pub heard-holds : (came : ℕ → List ℕ) (un : ℕ → List WantValue) (w : Script) (v : World) → Holds came un w → Grows w.rooms.channels v.channels
    → AreAsked un v.channels v.waits → Holds came un (heard w v)
heard-holds came un w v h g asked =
    adds came un w (heard w v) (map (λ a. Said a) v.answers) h refl (ap (λ t. w.text ++ t) (sym (said-text v.answers))) (λ m. said-sent m v.answers) g asked

pub says-holds : (came : ℕ → List ℕ) (un : ℕ → List WantValue) (w v : Script) (p : Part) → Holds came un w → v.connections ≡ w.connections → v.rooms ≡ w.rooms
    → v.text ≡ w.text ++ part_text p → ((m : ℕ) → sent_by m p ≡ []) → Holds came un v
says-holds came un w v p h same rooms text none =
    adds came un w v (p ∷ []) h same (text ∙ ap (λ t. w.text ++ t) (sym (append-nil (part_text p)))) (λ m. append-nil (sent_by m p) ∙ none m)
    (subst (λ (r : World). Grows w.rooms.channels r.channels) (sym rooms) (grows-same w.rooms.channels))
    (subst (λ (r : World). AreAsked un r.channels r.waits) (sym rooms) h.asked)

-- nothing more came
pub nothing_more : (came other : ℕ → List ℕ) (un : ℕ → List WantValue) (w : Script) → ((n : ℕ) → other n ≡ came n) → Holds came un w → Holds other un w
nothing_more came other un w same h = record {
  parts = h.parts;
  text = h.text;
  served = λ n. stays w w (came n) (other n) (flat_map (sent_by n) h.parts) (flat_map (sent_by n) h.parts) n (un n) (same n) refl refl (grows-same w.rooms.channels) (h.served n);
  asked = h.asked;
}

-- ---- turns

abbrev and_on : ℕ → List ℕ → (ℕ → List ℕ) → ℕ → List ℕ
and_on n piece came m = came m ++ (if n == m then piece else [])

-- where a turn leaves a connection
left_at : (b : Bool) (s : SessionValue) (p : Past) → p.session ≡ s → s.shut ≡ b → StandsAt (Some (if b then None else Some s)) p []
left_at true s p e shut = tt
left_at false s p e going = (e, going, refl)

-- what a turn of a connection does, with what it keeps
abbrev Visited : ℕ → (ℕ → List WantValue) → (ℕ → ℕ) → Script → Past → List ℕ → Visit → Type 0
Visited n un counts w p piece v =
    Talked n (Keeps n un w.rooms.channels counts) (none-keeps n un w.rooms.channels counts) (asks-keep n un w.rooms.channels counts)
    (mutes-keep n un w.rooms.channels counts) p piece w.connections v

module _ (n : ℕ) (piece : List ℕ) (came : ℕ → List ℕ) (un : ℕ → List WantValue) (counts : ℕ → ℕ) (w : Script) (h : Holds came un w) (none : (h.served n).untaken ≡ []) (v : Visit)
    (d : Visited n un counts w (past (h.served n).calls) piece v) where
  abbrev after : Script
  after = turned w (turn n w.connections v)

  abbrev last : Past
  last = fold called (past (h.served n).calls) d.talk.calls

  abbrev more : List Part
  more = turn_parts n d.talk.answers last.session.shut

  abbrev own : List WantValue
  own = d.kept.0.unanswered

  all_parts : (m : ℕ) (b : Bool) → (n == m) ≡ b → flat_map (sent_by m) (h.parts ++ more) ≡ flat_map (sent_by m) h.parts ++ (if b then concat d.talk.answers else [])
  all_parts m b e = flat_map-append (sent_by m) h.parts more ∙ ap (λ l. flat_map (sent_by m) h.parts ++ l) (turn-sent m n b d.talk.answers last.session.shut e)

  own_served : IsServed after (and_on n piece came n) (flat_map (sent_by n) (h.parts ++ more)) n own
  own_served =
      let p = h.served n in
      let all : past (p.calls ++ d.talk.calls) ≡ last = fold-append called before_any p.calls d.talk.calls in
      let told : past (p.calls ++ d.talk.calls) ≡ called d.before (Send d.sent.0) = all ∙ d.sent.1 in
      record {
        calls = p.calls ++ d.talk.calls;
        untaken = [];
        fed =
            ap (λ b. came n ++ (if b then piece else [])) (same_test n)
            ∙ ap (λ l. l ++ piece) (p.fed ∙ ap (λ l. (past p.calls).fed ++ l) none ∙ append-nil (past p.calls).fed)
            ∙ sym d.talk.fed ∙ sym (append-nil last.fed) ∙ ap (λ (q : Past). q.fed ++ []) (sym all);
        gone = all_parts n true (same_test n) ∙ ap (λ l. l ++ concat d.talk.answers) p.gone ∙ sym d.talk.gone ∙ ap (λ (q : Past). q.gone) (sym all);
        all_sent = ap (λ (q : Past). q.session.answers) all ∙ d.talk.sent;
        stands =
            subst (λ (c : Connections). StandsAt (session_of n c) (past (p.calls ++ d.talk.calls)) []) (sym d.talk.kept)
            (subst (λ o. StandsAt o (past (p.calls ++ d.talk.calls)) []) (sym (found n (if last.session.shut then None else Some last.session) w.connections))
            (left_at last.session.shut last.session (past (p.calls ++ d.talk.calls)) (ap (λ (q : Past). q.session) all) refl));
        answered = subst (λ (q : Past). AreAnswered v.rooms.channels (wants_of q.entries) q.replies own) (sym told) d.kept.0.answered;
        few = d.kept.0.few;
        is_out = subst (λ (q : Past). q.session.shut ≡ false → length own ≡ outs q.session.out) (sym told) d.kept.0.count;
      }

  other_served : (m : ℕ) → (n == m) ≡ false → IsServed after (and_on n piece came m) (flat_map (sent_by m) (h.parts ++ more)) m (un m)
  other_served m f =
      stays w after (came m) (and_on n piece came m) (flat_map (sent_by m) h.parts) (flat_map (sent_by m) (h.parts ++ more)) m (un m)
      (ap (λ b. came m ++ (if b then piece else [])) f ∙ append-nil (came m)) (all_parts m false f ∙ append-nil (flat_map (sent_by m) h.parts))
      (kept_other n m (left v.session) w.connections f) d.kept.0.grows (h.served m)

  served_by : (m : ℕ) (b : Bool) → (n == m) ≡ b → IsServed after (and_on n piece came m) (flat_map (sent_by m) (h.parts ++ more)) m (if b then own else un m)
  served_by m true e = subst (λ k. IsServed after (and_on n piece came k) (flat_map (sent_by k) (h.parts ++ more)) k own) (equal n m e) own_served
  served_by m false e = other_served m e

  turned-holds : Holds (and_on n piece came) (unanswered_at n own un) after
  turned-holds = record {
    parts = h.parts ++ more;
    text = ap₂ (λ x y. x ++ y) h.text (d.talk.text ∙ sym (turn-text n d.talk.answers last.session.shut)) ∙ sym (flat_map-append part_text h.parts more);
    served = λ m. served_by m (n == m) refl;
    asked = d.kept.0.asked;
  }

abbrev pub HoldsSome : (ℕ → List ℕ) → Script → Type 0
HoldsSome came w = (un : ℕ → List WantValue) × Holds came un w

-- ---- bytes come

pub bytes-holds : (lucks : List Luck) (n : ℕ) (piece : List ℕ) (came : ℕ → List ℕ) (un : ℕ → List WantValue) (w : Script) → due.Holds w → Holds came un w
    → HoldsSome (and_on n piece came) (turned w (connection.bytes lucks n piece w.connections w.rooms))
bytes-holds lucks n piece came un w met h = by (session_of n w.connections) refl (h.served n).stands
  where
    goes : (s : SessionValue) → (past (h.served n).calls).session ≡ s → s.shut ≡ false → (h.served n).untaken ≡ [] → waiting_of n w.rooms.waits ≡ outs s.out
        → HoldsSome (and_on n piece came) (turned w (turn n w.connections (arrived lucks n piece (record { session = s; rooms = w.rooms }))))
    goes s e going none own =
        let counts = λ (m : ℕ). wants_out (session_of m w.connections) in
        let v : Visit = record { session = s; rooms = w.rooms } in
        let q = past (h.served n).calls in
        let is_met : IsMet n counts v =
        record { rooms = met.met.rooms; own = own; other = λ m f. met.met.matched m; sound = λ shut. absurd (true≢false (sym shut ∙ going)) } in
        let serves : Serves n un w.rooms.channels w.rooms q = record {
          unanswered = un n;
          grows = grows-same w.rooms.channels;
          answered = (h.served n).answered;
          asked = same-asked un (unanswered_at n (un n) un) w.rooms.channels w.rooms.waits (λ m. unanswered-same n m (n == m) refl un) h.asked;
          few = (h.served n).few;
          count = (h.served n).is_out;
        } in
        let cs = w.rooms.channels in
        let d =
        bytes-talked n (Keeps n un cs counts) (none-keeps n un cs counts) (asks-keep n un cs counts) (mutes-keep n un cs counts)
        lucks q s piece w.connections w.rooms e going
        (came-serves n un w.rooms.channels piece v q serves, came-met n counts piece v is_met) in (
          unanswered_at n d.kept.0.unanswered un,
          turned-holds n piece came un counts w h none (arrived lucks n piece v) d,
        )

    by : (o : Option (Option SessionValue)) → session_of n w.connections ≡ o → StandsAt o (past (h.served n).calls) (h.served n).untaken
        → HoldsSome (and_on n piece came) (turned w (connection.bytes_to lucks n piece w.connections w.rooms o))
    by None e s = goes fresh s.0 refl s.1 (met.met.matched n ∙ ap wants_out e)
    by (Some (Some x)) e s = goes x s.0 s.1 s.2 (met.met.matched n ∙ ap wants_out e)
    by (Some None) e s = (
      un,
      record {
        parts = h.parts;
        text = append-nil w.text ∙ h.text;
        served = λ m. untaken m (n == m) refl (h.served m);
        asked = h.asked;
      },
    )
      where
        untaken : (m : ℕ) (b : Bool) → (n == m) ≡ b → IsServed w (came m) (flat_map (sent_by m) h.parts) m (un m)
            → IsServed (turned w (connection.nothing w.connections w.rooms)) (came m ++ (if b then piece else [])) (flat_map (sent_by m) h.parts) m (un m)
        untaken m true f t = record {
          calls = t.calls;
          untaken = t.untaken ++ piece;
          fed = ap (λ l. l ++ piece) t.fed ∙ append_assoc (past t.calls).fed t.untaken piece;
          gone = t.gone;
          all_sent = t.all_sent;
          stands = subst (λ o. StandsAt o (past t.calls) (t.untaken ++ piece)) (sym (ap (λ k. session_of k w.connections) (sym (equal n m f)) ∙ e)) tt;
          answered = t.answered;
          few = t.few;
          is_out = t.is_out;
        }
        untaken m false f t =
            stays w (turned w (connection.nothing w.connections w.rooms)) (came m) (came m ++ []) (flat_map (sent_by m) h.parts) (flat_map (sent_by m) h.parts) m (un m)
            (append-nil (came m)) refl refl (grows-same w.rooms.channels) t

-- ---- a connection ends

pub end-holds : (n : ℕ) (came : ℕ → List ℕ) (un : ℕ → List WantValue) (w : Script) → Holds came un w → Holds came un (turned w (connection.end n w.connections w.rooms))
end-holds n came un w h = by (session_of n w.connections)
  where
    nothing : Holds came un (turned w (connection.nothing w.connections w.rooms))
    nothing = adds came un w (turned w (connection.nothing w.connections w.rooms)) [] h refl refl (λ m. refl) (grows-same w.rooms.channels) h.asked

    by : (o : Option (Option SessionValue)) → Holds came un (turned w (connection.end_of n w.connections w.rooms o))
    by None = nothing
    by (Some None) = nothing
    by (Some (Some s)) = record {
      parts = h.parts;
      text = append-nil w.text ∙ h.text;
      served = λ m. ended m (n == m) refl (h.served m);
      asked = asked-closes un w.rooms (Connection n) h.asked;
    }
      where
        ended : (m : ℕ) (b : Bool) → (n == m) ≡ b → IsServed w (came m) (flat_map (sent_by m) h.parts) m (un m)
            → IsServed (turned w (connection.end_of n w.connections w.rooms (Some (Some s)))) (came m) (flat_map (sent_by m) h.parts) m (un m)
        ended m true f t = record {
          calls = t.calls;
          untaken = t.untaken;
          fed = t.fed;
          gone = t.gone;
          all_sent = t.all_sent;
          stands =
              subst (λ o. StandsAt o (past t.calls) t.untaken)
              (sym (ap (λ k. session_of k (with_session n None w.connections)) (sym (equal n m f)) ∙ found n None w.connections)) tt;
          answered =
              answers-stay w.rooms.channels (rooms.close (Connection n) w.rooms).channels (close-grows w.rooms.channels w.rooms (Connection n) (grows-same w.rooms.channels))
              (wants_of (past t.calls).entries) (past t.calls).replies (un m) t.answered;
          few = t.few;
          is_out = t.is_out;
        }
        ended m false f t =
            stays w (turned w (connection.end_of n w.connections w.rooms (Some (Some s)))) (came m) (came m) (flat_map (sent_by m) h.parts) (flat_map (sent_by m) h.parts) m
            (un m) refl refl
            (kept_other n m None w.connections f) (close-grows w.rooms.channels w.rooms (Connection n) (grows-same w.rooms.channels)) t

-- ---- a reply is due

-- a reply was handed out to a connection, which still has out the request that it answers
record Told (n : ℕ) (un : ℕ → List WantValue) (w : Script) (a : verdict.Reply) : Type 0 where
  want : WantValue
  out : un n ≡ want ∷ []
  right : IsAnswer w.rooms.channels want (player.Reply a)
  has : HasOut n w.connections
  rooms : IsOpen w.rooms
  none : waiting_of n w.rooms.waits ≡ 0
  others : (m : ℕ) → (n == m) ≡ false → waiting_of m w.rooms.waits ≡ wants_out (session_of m w.connections)

none_on : (n m : ℕ) (came : ℕ → List ℕ) (b : Bool) → came m ≡ came m ++ (if b then [] else [])
none_on n m came true = sym (append-nil (came m))
none_on n m came false = sym (append-nil (came m))

reply-holds : (lucks : List Luck) (n : ℕ) (a : verdict.Reply) (came : ℕ → List ℕ) (un : ℕ → List WantValue) (w : Script) → Holds came un w → Told n un w a
    → HoldsSome came (turned w (connection.reply lucks n a w.connections w.rooms))
reply-holds lucks n a came un w h t =
    subst (λ o. HoldsSome came (turned w (connection.reply_to lucks n a w.connections w.rooms o))) (sym t.has.there) (
      unanswered_at n talked.kept.0.unanswered un,
      nothing_more (and_on n [] came) came (unanswered_at n talked.kept.0.unanswered un) (turned w (turn n w.connections v)) (λ m. none_on n m came (n == m))
          (turned-holds n [] came un counts w h stands.2 v talked),
    )
  where
    s : SessionValue
    s = t.has.session

    answer : Answer
    answer = player.Reply a

    q : Past
    q = past (h.served n).calls

    cs : List Channel
    cs = w.rooms.channels

    counts : ℕ → ℕ
    counts = λ m. wants_out (session_of m w.connections)

    v : Visit
    v = released lucks n a (record { session = s; rooms = w.rooms })

    stands : StandsAt (Some (Some s)) q (h.served n).untaken
    stands = subst (λ o. StandsAt o q (h.served n).untaken) t.has.there (h.served n).stands

    asked : AreAsked (unanswered_at n (un n) un) cs w.rooms.waits
    asked = same-asked un (unanswered_at n (un n) un) cs w.rooms.waits (λ m. unanswered-same n m (n == m) refl un) h.asked

    serves : (found : Bool) → Serves n un cs w.rooms (called q (answer_call found answer))
    serves true =
        let answered : AreAnswered cs (wants_of q.entries) q.replies (t.want ∷ []) =
        subst (AreAnswered cs (wants_of q.entries) q.replies) t.out (h.served n).answered in
        let out : outs q.session.out ≡ 1 =
        sym ((h.served n).is_out (ap (λ (s : SessionValue). s.shut) stands.0 ∙ stands.1)) ∙ ap length t.out in
        reply-serves n un cs w.rooms q t.want answer (grows-same cs) answered t.right (un n) asked t.none out
    serves false = mute-serves n un cs w.rooms q (record {
      unanswered = un n;
      grows = grows-same cs;
      answered = (h.served n).answered;
      asked = asked;
      few = (h.served n).few;
      count = (h.served n).is_out;
    })

    keeps : (found : Bool) (o : Option Bool) → is_some o ≡ true
        → Keeps n un cs counts (record { session = put_out found s answer; rooms = w.rooms }) (put o found q answer)
    keeps found None e = absurd (true≢false (sym e))
    keeps found (Some keep) e = (
      serves found,
      record {
        rooms = t.rooms;
        own = t.none ∙ ap outs (sym (replied_out found s answer));
        other = t.others;
        sound = λ shut. replied_out found s answer;
      },
    )

    talked : Visited n un counts w q [] v
    talked =
        reply-talked n (Keeps n un cs counts) (none-keeps n un cs counts) (asks-keep n un cs counts) (mutes-keep n un cs counts)
        lucks q s a w.connections w.rooms stands.0 (λ found. keeps found s.out t.has.is_out)

pub next_reply-holds : (came : ℕ → List ℕ) (un : ℕ → List WantValue) (place : ℕ) (w : Script) (lucks : List Luck) → due.Holds w → Holds came un w
    → HoldsSome came (next_reply place w lucks)
next_reply-holds came un place w lucks met h = by (rooms.next_reply place w.rooms) (due.ticks w.rooms place met.met.rooms) (next_reply-open w.rooms place met.met.rooms)
  where
    told_by : (c : Channel) (r : Pending) (x : Wait) (s : Settled) (o : Owner) → slice_get w.rooms.channels place ≡ Some c → first_due c.settings c.events ≡ Some r
        → under place r.ticket w.rooms.waits ≡ Some x → reply c.settings c.events r ≡ Some s → x.owner ≡ o → IsOpen (due.told_in w.rooms place c r x s)
        → HoldsSome came (passed_to lucks o (reply_of s) (heard w (due.told_in w.rooms place c r x s)))
    told_by c r x s o at is found told e tied = by o e
      where
        grows : Grows w.rooms.channels (due.told_in w.rooms place c r x s).channels
        grows = event-grows w.rooms.channels place c (Collect r.ticket) at

        hear : Holds came un (heard w (due.told_in w.rooms place c r x s))
        hear =
            heard-holds came un w (due.told_in w.rooms place c r x s) h grows
            (asked-less un (due.told_in w.rooms place c r x s).channels place r.ticket w.rooms.waits
            (asked-stays un w.rooms.channels (due.told_in w.rooms place c r x s).channels w.rooms.waits grows h.asked))

        by : (o : Owner) → x.owner ≡ o → HoldsSome came (passed_to lucks o (reply_of s) (heard w (due.told_in w.rooms place c r x s)))
        by (Get id) e = (un, hear)
        by (Connection n) e =
            let a = subst (AskedBy un w.rooms.channels place r.ticket) e (asked-at un w.rooms.channels place r.ticket w.rooms.waits x h.asked found) in
            reply-holds lucks n (reply_of s) came un (heard w (due.told_in w.rooms place c r x s)) hear (record {
              want = a.0;
              out = a.2;
              right =
                  answer-stays w.rooms.channels (due.told_in w.rooms place c r x s).channels grows a.0 (player.Reply (reply_of s))
                  (due-right w.rooms.channels place c a.0 r s at is told a.1);
              has = due.asker n w.connections w.rooms place r.ticket x met.met found e;
              rooms = tied;
              none = due.own_gone n w.connections w.rooms place r.ticket x met.met found e;
              others = λ m f. due.of_other m w.rooms place r.ticket x found (ap (λ o. is_same o (Connection m)) e ∙ f) ∙ met.met.matched m;
            })

    by : (v : World) → due.Ticks w.rooms place v → IsOpen v → HoldsSome came (fold (passed_on lucks) (heard w v) v.answers)
    by v (due.Nothing none e) tied =
        subst (λ (v : World). HoldsSome came (fold (passed_on lucks) (heard w v) v.answers)) (sym e)
        (subst (λ answers. HoldsSome came (fold (passed_on lucks) (heard w w.rooms) answers)) (sym met.quiet)
        (un, heard-holds came un w w.rooms h (grows-same w.rooms.channels) h.asked))
    by v (due.Tells c r x s at is found told e) tied =
        subst (λ (v : World). HoldsSome came (fold (passed_on lucks) (heard w v) v.answers)) (sym e)
        (subst
        (λ (answers : List answer.ActAnswer). HoldsSome came (fold (passed_on lucks) (heard w (due.told_in w.rooms place c r x s)) (answers ++ said.Replied x.owner (reply_of s) ∷ [])))
        (sym met.quiet)
        (told_by c r x s x.owner at is found told refl (subst IsOpen e tied)))
