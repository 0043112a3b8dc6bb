-- All that comes to a connection results in calls on its session, and what each of these preserves holds after them.
use Rattle.std.proofs.Common.{◌≡◌, ◌≢◌, ℕ, zero, suc, ◌+◌, ◌-◌, List, [], ◌∷◌, ◌++◌, Bool, true, false, Option, Some, None, refl, ap, ap₂, ◌∙◌, sym, subst, arith, fold, length, length-append, drop, append-nil}
use Rattle.std.specs.Prelude.{flat_map, if◌then◌else◌, nat_le}
use Rattle.std.specs.List.{concat}
use Rattle.std.proofs.Math.Seq.{take-length}
use Rattle.std.proofs.lemmas.Bool.Decides.{nat_tests}
use Rattle.std.proofs.lemmas.List.Sums.{fold-append}
use Rattle.ll_directive.specs.Targets.{WantValue}
use Rattle.ll_script.specs.Answers.{sent_line}
use Rattle.ll_session.specs.Output.{unsent}
use Rattle.ll_session.specs.Past.{Call, Feed, Mute, Next, Reply, Send, Past, called, next_entries, reply_by, taken_by}
use Rattle.ll_session.specs.Requests.{Entry}
use Rattle.ll_session.specs.Talk.{SessionValue, fed, fresh, muted, next_want, pulled, replied}
use Rattle.ll_verdict.specs.declared.reply.Reply as verdict
use Rattle.ll_wire.specs.declared.answer.Answer.{Answer}
use Rattle.ll_wire.specs.declared.answer.Answer.TheVariants as player
use Rattle.ll_script_rooms.specs.World.{World, repeat}
use Rattle.ll_script_rooms.proofs.TieLemmas.{some_is}
use Rattle.ll_connection.specs.Met.{outs}
use Rattle.ll_connection.specs.Stands.{opened}
use Rattle.ll_connection.specs.Talks.{IsTalked, TalkLaw}
use Rattle.ll_connection.specs.Turn.{Connections, bytes_to, reply_to, session_of, shut_text, turn, with_session}
use Rattle.ll_connection.specs.Visit.{Luck, Visit, answered_by, arrived, asked, came, enough, hand_all, submit, muted_if, put_out, put_out_by, released, step, step_by, step_if}
use Rattle.ll_connection.proofs.MetLemmas.{given_out, taken_none}

none_taken : (b : Bool) (xs : List ℕ) → taken_by b xs [] ≡ xs
none_taken true xs = refl
none_taken false xs = append-nil xs

replies_by : (p : Past) (a : Answer) (o : Option Bool) → p.session.out ≡ o
    → ((reply_by o p a).session ≡ replied p.session a) × ((reply_by o p a).fed ≡ p.fed) × ((reply_by o p a).gone ≡ p.gone)
replies_by p a None e = let same : replied p.session a ≡ p.session = rw e in (sym same, refl, refl)
replies_by p a (Some keep) e = (refl, refl, refl)

some_not_none : (x : Entry) (entries : List Entry) → x ∷ entries ≢ []
some_not_none x entries e = cc

none_left : (xs : List (List ℕ)) → unsent (length (concat xs)) xs ≡ []
none_left [] = refl
none_left (a ∷ xs) =
    let k = length (concat xs) in
    let whole : length (a ++ concat xs) ≡ length a + k = length-append a (concat xs) in
    let fits : nat_le (length a) (length (a ++ concat xs)) ≡ true = grind (arith, nat_tests, whole) in
    let rest : length (a ++ concat xs) - length a ≡ k = omega (arith, whole) in
    ap (λ b. if b then unsent (length (a ++ concat xs) - length a) xs else drop (length (a ++ concat xs)) a ∷ xs) fits ∙ ap (λ m. unsent m xs) rest ∙ none_left xs

-- the call that puts out an answer, or shuts the session if that is out of memory
abbrev pub answer_call : Bool → Answer → Call
answer_call true a = Reply a
answer_call false a = Mute

-- the call after a request is answered, or has to wait
abbrev pub ends : Bool → Past → Option Answer → Past
ends found q (Some a) = called q (answer_call found a)
ends found q None = called q (Feed [])

-- the call for an answer if a want is out; none if no want is
abbrev pub put : Option Bool → Bool → Past → Answer → Past
put None found q a = q
put (Some keep) found q a = called q (answer_call found a)

-- an answer puts out what its call does
put_is : (found : Bool) (q : Past) (s : SessionValue) (a : Answer) (o : Option Bool) → q.session ≡ s → s.out ≡ o → outs o ≡ 1
    → ((called q (answer_call found a)).session ≡ put_out found s a) × ((called q (answer_call found a)).fed ≡ q.fed) × ((called q (answer_call found a)).gone ≡ q.gone)
put_is found q s a None e is one = absurd (omega (arith, one))
put_is true q s a (Some keep) e is one =
    let r = replies_by q a q.session.out refl in
    (r.0 ∙ ap (λ t. replied t a) e ∙ sym (ap (λ o. put_out_by o true s a) is), r.1, r.2)
put_is false q s a (Some keep) e is one = (ap muted e ∙ sym (ap (λ o. put_out_by o false s a) is), refl, refl)

-- A session's past stands beside a visit. Each call is to keep what holds of the two.
module _ (n : ℕ) (K : Visit → Past → Type 0)
    (none-keeps : (v : Visit) (q : Past) → q.session ≡ v.session → next_want v.session ≡ None → K v q → K (record v { session = pulled v.session }) (called q Next))
    (ask-keeps : (asks found : Bool) (v : Visit) (q : Past) (want : WantValue) (a : Option Answer) → q.session ≡ v.session → next_want v.session ≡ Some want
    → (asked asks n want v.rooms).answer ≡ a → K v q → K (answered_by found n (pulled v.session) (asked asks n want v.rooms).rooms a) (ends found (called q Next) a))
    (mute-keeps : (v : Visit) (q : Past) → q.session ≡ v.session → v.session.out ≡ None → K v q → K (record v { session = muted v.session }) (called q Mute)) where
  -- after these calls the session is that of visit `v`; the bytes `more` were taken, and nothing was sent
  record Calls (p : Past) (more : List ℕ) (v : Visit) : Type 0 where
    calls : List Call
    session : (fold called p calls).session ≡ v.session
    fed : (fold called p calls).fed ≡ p.fed ++ more
    gone : (fold called p calls).gone ≡ p.gone
    kept : K v (fold called p calls)

  module _ (p : Past) (more : List ℕ) where
    goes_on : (v u : Visit) (c : Calls p more v) (next : List Call) → (fold called (fold called p c.calls) next).session ≡ u.session
        → (fold called (fold called p c.calls) next).fed ≡ (fold called p c.calls).fed → (fold called (fold called p c.calls) next).gone ≡ (fold called p c.calls).gone
        → K u (fold called (fold called p c.calls) next) → Calls p more u
    goes_on v u c next session fed gone kept =
        let all = fold-append called p c.calls next in
        record {
          calls = c.calls ++ next;
          session = ap (λ (q : Past). q.session) all ∙ session;
          fed = ap (λ (q : Past). q.fed) all ∙ fed ∙ c.fed;
          gone = ap (λ (q : Past). q.gone) all ∙ gone ∙ c.gone;
          kept = subst (K u) (sym all) kept;
        }

    answers_by : (asks found : Bool) (v : Visit) (want : WantValue) (a : Option Answer) → next_want v.session ≡ Some want → (asked asks n want v.rooms).answer ≡ a
        → Calls p more v → Calls p more (answered_by found n (pulled v.session) (asked asks n want v.rooms).rooms a)
    answers_by asks found v want (Some a) e is c =
        let q = fold called p c.calls in
        let r = put_is found (called q Next) (pulled v.session) a (pulled v.session).out (ap pulled c.session) refl (given_out v.session want e) in
        goes_on v (answered_by found n (pulled v.session) (asked asks n want v.rooms).rooms (Some a)) c (Next ∷ answer_call found a ∷ [])
        r.0 r.1 r.2 (ask-keeps asks found v q want (Some a) c.session e is c.kept)
    answers_by asks found v want None e is c =
        let q = fold called p c.calls in
        goes_on v (answered_by found n (pulled v.session) (asked asks n want v.rooms).rooms None) c (Next ∷ Feed [] ∷ [])
        (ap (λ s. fed (pulled s) []) c.session) (none_taken (pulled q.session).shut q.fed) refl (ask-keeps asks found v q want None c.session e is c.kept)

    steps_by : (luck : Luck) (v : Visit) (o : Option WantValue) → next_want v.session ≡ o → Calls p more v
        → Calls p more (step_by luck n (record v { session = pulled v.session }) o)
    steps_by luck v None e c =
        goes_on v (record v { session = pulled v.session }) c (Next ∷ []) (ap pulled c.session) refl refl (none-keeps v (fold called p c.calls) c.session e c.kept)
    steps_by luck v (Some want) e c = answers_by luck.asks luck.answers v want (asked luck.asks n want v.rooms).answer e refl c

    mutes_if : (v : Visit) (entries : List Entry) → next_entries v.session ≡ entries → Calls p more v → Calls p more (record v { session = muted_if entries v.session })
    mutes_if v [] e c = c
    mutes_if v (x ∷ entries) e c =
        let none : v.session.out ≡ None = taken_none v.session (λ nil. some_not_none x entries (sym e ∙ nil)) in
        goes_on v (record v { session = muted v.session }) c (Mute ∷ []) (ap muted c.session) refl refl (mute-keeps v (fold called p c.calls) c.session none c.kept)

    one_step : (takes : Bool) (luck : Luck) (v : Visit) → Calls p more v → Calls p more (step_if takes luck n v)
    one_step true luck v c = steps_by luck v (next_want v.session) refl c
    one_step false luck v c = mutes_if v (next_entries v.session) refl c

    steps : (k : ℕ) (v : Visit) → Calls p more v → Calls p more (repeat (step enough n) k v)
    steps zero v c = c
    steps (suc k) v c = one_step true enough (repeat (step enough n) k v) (steps k v c)

    hands_all : (v : Visit) → Calls p more v → Calls p more (hand_all n v)
    unfolding hand_all
    hands_all v c = steps (length v.session.unread) v c

    hands_in : (lucks : List Luck) (v : Visit) → Calls p more v → Calls p more (submit lucks n v)
    hands_in [] v c = hands_all v c
    hands_in (luck ∷ lucks) v c = hands_in lucks (step luck n v) (one_step luck.takes luck v c)

  arrives : (lucks : List Luck) (p : Past) (piece : List ℕ) (v : Visit) → p.session ≡ v.session → v.session.shut ≡ false
      → K (came n piece v) (called p (Feed piece)) → Calls p piece (arrived lucks n piece v)
  arrives lucks p piece v e going kept = hands_in p piece lucks (came n piece v) (record {
    calls = Feed piece ∷ [];
    session = ap (λ s. fed s piece) e;
    fed = ap (λ b. taken_by b p.fed piece) (ap (λ (s : SessionValue). s.shut) e ∙ going);
    gone = refl;
    kept = kept;
  })

  puts : (found : Bool) (p : Past) (a : Answer) (v : Visit) (o : Option Bool) → v.session.out ≡ o → p.session ≡ v.session
      → K (record v { session = put_out found v.session a }) (put o found p a) → Calls p [] (record v { session = put_out found v.session a })
  puts found p a v None is e kept = record {
    calls = [];
    session = e ∙ sym (ap (λ o. put_out_by o found v.session a) is);
    fed = sym (append-nil p.fed);
    gone = refl;
    kept = kept;
  }
  puts found p a v (Some keep) is e kept =
      let r = put_is found p v.session a v.session.out e refl (ap outs is) in
      record { calls = answer_call found a ∷ []; session = r.0; fed = r.1 ∙ sym (append-nil p.fed); gone = r.2; kept = kept }

  -- the reply is put out, or is out of memory
  abbrev pub IsKept : Past → Answer → Visit → Type 0
  IsKept p a v = (found : Bool) → K (record v { session = put_out found v.session a }) (put v.session.out found p a)

  releases : (lucks : List Luck) (p : Past) (a : verdict.Reply) (v : Visit) → p.session ≡ v.session → IsKept p (player.Reply a) v
      → Calls p [] (released lucks n a v)
  releases [] p a v e kept =
      hands_in p [] [] (record v { session = put_out true v.session (player.Reply a) }) (puts true p (player.Reply a) v v.session.out refl e (kept true))
  releases (luck ∷ lucks) p a v e kept =
      hands_in p [] lucks (record v { session = put_out luck.answers v.session (player.Reply a) })
      (puts luck.answers p (player.Reply a) v v.session.out refl e (kept luck.answers))

  -- ---- turns

  -- and what holds of the visit and of the past before all was sent
  pub record Talked (p : Past) (more : List ℕ) (all : Connections) (v : Visit) : Type 0 where
    pub talk : IsTalked n p more all (turn n all v)
    pub before : Past
    pub kept : K v before
    pub session : before.session ≡ v.session
    pub sent : (k : ℕ) × (fold called p talk.calls ≡ called before (Send k))

  talked : (p : Past) (more : List ℕ) (all : Connections) (v : Visit) → Calls p more v → Talked p more all v
  talked p more all v c =
      let q = fold called p c.calls in
      let k = length (concat q.session.answers) in
      let all_calls = fold-append called p c.calls (Send k ∷ []) in
      let none : (called q (Send k)).session ≡ record v.session { answers = [] } =
      ap (λ (l : List (List ℕ)). record q.session { answers = l }) (none_left q.session.answers) ∙ ap (λ (s : SessionValue). record s { answers = [] }) c.session in
      let last : (fold called p (c.calls ++ Send k ∷ [])).session ≡ record v.session { answers = [] } = ap (λ (r : Past). r.session) all_calls ∙ none in
      let shut : (fold called p (c.calls ++ Send k ∷ [])).session.shut ≡ v.session.shut = ap (λ (s : SessionValue). s.shut) last in
      record {
        talk = record {
          calls = c.calls ++ Send k ∷ [];
          answers = v.session.answers;
          fed = ap (λ (r : Past). r.fed) all_calls ∙ c.fed;
          gone =
              ap (λ (r : Past). r.gone) all_calls
              ∙ ap₂ (λ (x y : List ℕ). x ++ y) c.gone (take-length (concat q.session.answers) ∙ ap (λ (s : SessionValue). concat s.answers) c.session);
          sent = ap (λ (s : SessionValue). s.answers) last;
          kept = ap (λ (s : SessionValue). with_session n (if s.shut then None else Some s) all) (sym last);
          text = ap (λ b. flat_map (sent_line n) v.session.answers ++ shut_text b n) (sym shut);
        };
        before = q;
        kept = c.kept;
        session = c.session;
        sent = (k, all_calls);
      }

  pub bytes-talked : (lucks : List Luck) (p : Past) (s : SessionValue) (piece : List ℕ) (all : Connections) (w : World) → p.session ≡ s → s.shut ≡ false
      → K (came n piece (record { session = s; rooms = w })) (called p (Feed piece))
      → Talked p piece all (arrived lucks n piece (record { session = s; rooms = w }))
  bytes-talked lucks p s piece all w e going kept =
      let v : Visit = record { session = s; rooms = w } in
      talked p piece all (arrived lucks n piece v) (arrives lucks p piece v e going kept)

  pub reply-talked : (lucks : List Luck) (p : Past) (s : SessionValue) (a : verdict.Reply) (all : Connections) (w : World) → p.session ≡ s
      → IsKept p (player.Reply a) (record { session = s; rooms = w }) → Talked p [] all (released lucks n a (record { session = s; rooms = w }))
  reply-talked lucks p s a all w e kept =
      let v : Visit = record { session = s; rooms = w } in
      talked p [] all (released lucks n a v) (releases lucks p a v e kept)

-- ---- the law

abbrev Any : Visit → Past → Type 0
Any v q = Unit {0}

-- of nothing that is to be kept
module _ (n : ℕ) (lucks : List Luck) (p : Past) (s : SessionValue) (all : Connections) (w : World) (e : p.session ≡ s) where
  bytes-any : (piece : List ℕ) → s.shut ≡ false → IsTalked n p piece all (turn n all (arrived lucks n piece (record { session = s; rooms = w })))
  bytes-any piece going =
      (bytes-talked n Any (λ v q s e k. tt) (λ asks found v q want a s e is k. tt) (λ v q s none k. tt) lucks p s piece all w e going tt).talk

  reply-any : (a : verdict.Reply) → IsTalked n p [] all (turn n all (released lucks n a (record { session = s; rooms = w })))
  reply-any a =
      (reply-talked n Any (λ v q s e k. tt) (λ asks found v q want a s e is k. tt) (λ v q s none k. tt) lucks p s a all w e (λ found. tt)).talk

bytes-talk : (n : ℕ) (lucks : List Luck) (piece : List ℕ) (all : Connections) (w : World) (p : Past) (o : Option (Option SessionValue))
    → opened o ≡ Some p.session → p.session.shut ≡ false → IsTalked n p piece all (bytes_to lucks n piece all w o)
bytes-talk n lucks piece all w p None e going = bytes-any n lucks p fresh all w (sym (some_is fresh p.session e)) piece refl
bytes-talk n lucks piece all w p (Some None) e going = cc
bytes-talk n lucks piece all w p (Some (Some s)) e going =
    let same = some_is s p.session e in
    bytes-any n lucks p s all w (sym same) piece (ap (λ (t : SessionValue). t.shut) same ∙ going)

pub talk : TalkLaw
talk n all w p t = (
  λ piece lucks. bytes-talk n lucks piece all w p (session_of n all) t.session t.going,
  λ a lucks e. subst (λ o. IsTalked n p [] all (reply_to lucks n a all w o)) (sym e) (reply-any n lucks p p.session all w refl a),
)
