-- Whatever comes to a connection, each of its requests has the right answer, or it is the one that waits.
use Rattle.std.proofs.Common.{◌≡◌, ℕ, ◌≤◌, ◌==◌, List, [], ◌∷◌, ◌++◌, Bool, true, false, Option, Some, None, refl, ap, sym, ◌∙◌, subst, true≢false, length, slice_get, slice_set, append-nil, arith, if◌then◌else◌}
use Rattle.std.proofs.lemmas.Bool.Decides.{nat_tests}
use Rattle.std.proofs.lemmas.Grind.{flat_map-append}
use Rattle.ll_connection.specs.Met.{outs, waiting_of}
use Rattle.ll_connection.specs.Visit.{Luck, Visit, answered_by, asked, came, close_if, enough, step_by}
use Rattle.ll_connection.proofs.MetLemmas.{IsMet, given_none, given_out, pulled_none, step-met}
use Rattle.ll_connection.proofs.RoomsLaws.{asked-keeps}
use Rattle.ll_connection.proofs.TalkLemmas.{ends}
use Rattle.ll_directive.specs.Targets.{WantValue}
use Rattle.ll_script_rooms.specs.declared.owner.Owner.{Owner}
use Rattle.ll_script_rooms.specs.declared.owner.Owner.TheVariants.{Get, Connection}
use Rattle.ll_script_rooms.specs.declared.wait.Wait.{Wait}
use Rattle.ll_item.specs.declared.item.Item.{Item}
use Rattle.ll_session.specs.Past.{Feed, Mute, Next, Past, Reply, called, next_by, next_entries, overflows, reply_by}
use Rattle.ll_session.specs.Requests.{Entry, Faulty, Refused, Wanted}
use Rattle.ll_session.specs.Talk.{SessionValue, fed, first_of, given, muted, next_want, pulled, replied, taking, want_by}
use Rattle.ll_session.proofs.SplitLemmas.{taking-right, wants}
use Rattle.ll_verdict.specs.Events.{Event}
use Rattle.ll_verdict.proofs.ListLemmas.{each-append, each-map}
use Rattle.ll_wire.specs.declared.answer.Answer.{Answer}
use Rattle.ll_script_rooms.specs.World.{Channel, World, ask, clock, close, offer, silent, with_event}
use Rattle.ll_script_rooms.proofs.EventLaws as events
use Rattle.ll_script_rooms.proofs.TieLemmas.{equal, same_test}
use Rattle.ll_script_laws.proofs.AskLemmas.{AreAsked, AskedBy, IsRight, asked-closes, asked-others, asked-right, asked-stays}
use Rattle.ll_script_laws.proofs.GrowLemmas.{Grows, answers-more, answers-stay, event-grows, grows-on, grows-same, wants-more}
use Rattle.ll_script_laws.specs.Verdicts.{AreAnswered, IsAnswer, want_of, wants_of}

-- ---- the channels grow

abbrev Any : Event → Type 0
Any e = Unit {0}

module _ (cs : List Channel) where
  pub one_event : (ds : List Channel) (i : ℕ) (c : Channel) (e : Event) → Any e → slice_get ds i ≡ Some c → Grows cs ds → Grows cs (slice_set ds i (with_event e c))
  one_event ds i c e any at g = grows-on cs ds (slice_set ds i (with_event e c)) g (event-grows ds i c e at)

  pub ask-grows : (w : World) (o : Owner) (place : ℕ) (want : WantValue) → Grows cs w.channels → Grows cs (ask o place want w).channels
  ask-grows w o place want g = events.ask-keeps (Grows cs) Any one_event w o place want tt g

  pub close-grows : (w : World) (o : Owner) → Grows cs w.channels → Grows cs (close o w).channels
  close-grows w o g = events.close-keeps (Grows cs) Any one_event w o (λ t. tt) g

  pub offer-grows : (w : World) (i : ℕ) (item : Item) → Grows cs w.channels → Grows cs (offer i item w).channels
  offer-grows w i item g = events.offer-keeps (Grows cs) Any one_event w i item tt g

  pub clock-grows : (w : World) (i ms : ℕ) → Grows cs w.channels → Grows cs (clock i ms w).channels
  clock-grows w i ms g = events.clock-keeps (Grows cs) Any one_event w i ms tt g

-- ---- what a session gives

none_in : (es : List Entry) → wants es ≡ 0 → wants_of es ≡ []
none_in [] e = refl
none_in (Wanted want keep ∷ es) e = absurd (omega (arith, e))
none_in (Refused fault keep ∷ es) e = none_in es e
none_in (Faulty fault ∷ es) e = none_in es e

abbrev listed : Option WantValue → List WantValue
listed None = []
listed (Some want) = want ∷ []

given_is : (o : Option (WantValue × Bool)) → wants_of (given o) ≡ listed (first_of o)
given_is None = refl
given_is (Some want) = refl

next_is : (shut : Bool) (out : Option Bool) (bytes : List ℕ) → wants_of (next_by shut out bytes) ≡ listed (want_by shut out bytes)
next_is true out bytes = refl
next_is false (Some keep) bytes = refl
next_is false None bytes =
    let t = taking bytes in
    flat_map-append want_of t.passed (given t.want) ∙ ap (λ l. l ++ wants_of (given t.want)) (none_in t.passed (taking-right bytes).0) ∙ given_is t.want

wants-next : (q : Past) (o : Option WantValue) → next_want q.session ≡ o → wants_of (called q Next).entries ≡ wants_of q.entries ++ listed o
wants-next q o e =
    flat_map-append want_of q.entries (next_entries q.session)
    ∙ ap (λ l. wants_of q.entries ++ l) (next_is q.session.shut q.session.out q.session.unread ∙ ap listed e)

fed_on : (s : SessionValue) (piece : List ℕ) → (fed s piece).shut ≡ false → s.shut ≡ false
fed_on s piece e = grind (arith, nat_tests, e)

fed_out : (s : SessionValue) (piece : List ℕ) → (fed s piece).shut ≡ false → (fed s piece).out ≡ s.out
fed_out s piece e = grind (arith, nat_tests, e)

pub pulled_on : (s : SessionValue) → (pulled s).shut ≡ false → s.shut ≡ false
pulled_on s e = grind (arith, e)

given_on : (s : SessionValue) (want : WantValue) → next_want s ≡ Some want → s.shut ≡ false
given_on s want e = grind (arith, e)

replied_none : (s : SessionValue) (a : Answer) → (replied s a).out ≡ None
replied_none s a = grind arith

taken : (q : Past) (a : Answer) (o : Option Bool) → outs o ≡ 1
    → ((reply_by o q a).session ≡ replied q.session a) × ((reply_by o q a).entries ≡ q.entries) × ((reply_by o q a).replies ≡ q.replies ++ a ∷ [])
taken q a None e = absurd (omega (arith, e))
taken q a (Some keep) e = (refl, refl, refl)

nil : (un : List WantValue) → length un ≡ 0 → un ≡ []
nil [] e = refl
nil (x ∷ un) e = absurd (omega (arith, e))

-- ---- a connection and the channels

-- the requests without an answer: of one connection these, of the others as before
abbrev pub unanswered_at : ℕ → List WantValue → (ℕ → List WantValue) → ℕ → List WantValue
unanswered_at n own others m = if n == m then own else others m

pub unanswered-same : (n m : ℕ) (b : Bool) → (n == m) ≡ b → (un : ℕ → List WantValue) → unanswered_at n (un n) un m ≡ un m
unanswered-same n m true e un = ap (λ b. if b then un n else un m) e ∙ ap un (equal n m e)
unanswered-same n m false e un = ap (λ b. if b then un n else un m) e

pub same-asked : (outs other : ℕ → List WantValue) (cs : List Channel) (waits : List Wait) → ((m : ℕ) → other m ≡ outs m) → AreAsked outs cs waits → AreAsked other cs waits
same-asked outs other cs waits same h =
    each-map (λ (x : Wait). AskedBy outs cs x.place x.ticket x.owner) (λ (x : Wait). AskedBy other cs x.place x.ticket x.owner) (λ x a. by x.place x.ticket x.owner a) waits h
  where
    by : (place ticket : ℕ) (o : Owner) → AskedBy outs cs place ticket o → AskedBy other cs place ticket o
    by place ticket (Get id) a = tt
    by place ticket (Connection n) a = (a.0, a.1, same n ∙ a.2)

-- all that was done with a connection beside the channels, which were these before
pub record Serves (n : ℕ) (others : ℕ → List WantValue) (old : List Channel) (w : World) (q : Past) : Type 0 where
  pub unanswered : List WantValue
  pub grows : Grows old w.channels
  pub answered : AreAnswered w.channels (wants_of q.entries) q.replies unanswered
  pub asked : AreAsked (unanswered_at n unanswered others) w.channels w.waits
  pub few : length unanswered ≤ 1
  pub count : q.session.shut ≡ false → length unanswered ≡ outs q.session.out

module _ (n : ℕ) (others : ℕ → List WantValue) (old : List Channel) where
  abbrev Serving : World → Past → Type 0
  Serving w q = Serves n others old w q

  others_same : (own other : List WantValue) (m : ℕ) → (n == m) ≡ false → unanswered_at n own others m ≡ unanswered_at n other others m
  others_same own other m f = ap (λ b. if b then own else others m) f ∙ sym (ap (λ b. if b then other else others m) f)

  -- where none of it waits, another request may be out
  anew : (own other : List WantValue) (w : World) → waiting_of n w.waits ≡ 0 → AreAsked (unanswered_at n own others) w.channels w.waits
      → AreAsked (unanswered_at n other others) w.channels w.waits
  anew own other w none h = asked-others n (unanswered_at n own others) (unanswered_at n other others) w.channels w.waits none (λ m f. others_same other own m f) h

  closes : (w : World) (q : Past) (b : Bool) → Serving w q → Serving (close_if b n w) q
  closes w q true s =
      let g = close-grows w.channels w (Connection n) (grows-same w.channels) in
      record {
        unanswered = s.unanswered;
        grows = close-grows old w (Connection n) s.grows;
        answered = answers-stay w.channels (close (Connection n) w).channels g (wants_of q.entries) q.replies s.unanswered s.answered;
        asked = asked-closes (unanswered_at n s.unanswered others) w (Connection n) s.asked;
        few = s.few;
        count = s.count;
      }
  closes w q false s = s

  pub came-serves : (piece : List ℕ) (v : Visit) (q : Past) → Serving v.rooms q → Serving (came n piece v).rooms (called q (Feed piece))
  came-serves piece v q s =
      let t = closes v.rooms q (overflows v.session piece) s in
      record {
        unanswered = t.unanswered;
        grows = t.grows;
        answered = t.answered;
        asked = t.asked;
        few = t.few;
        count = λ on. t.count (fed_on q.session piece on) ∙ ap outs (sym (fed_out q.session piece on));
      }

  -- its request gets an answer that is right
  pub reply-serves : (w : World) (q : Past) (want : WantValue) (a : Answer) → Grows old w.channels → AreAnswered w.channels (wants_of q.entries) q.replies (want ∷ [])
      → IsAnswer w.channels want a → (own : List WantValue) → AreAsked (unanswered_at n own others) w.channels w.waits → waiting_of n w.waits ≡ 0 → outs q.session.out ≡ 1
      → Serving w (called q (Reply a))
  reply-serves w q want a g answered right own asked none out =
      let t = taken q a q.session.out out in
      record {
        unanswered = [];
        grows = g;
        answered =
            subst (λ es. AreAnswered w.channels (wants_of es) (called q (Reply a)).replies []) (sym t.1)
            (subst (λ rs. AreAnswered w.channels (wants_of q.entries) rs []) (sym t.2) (answers-more w.channels (wants_of q.entries) q.replies want a answered right));
        asked = anew own [] w none asked;
        few = omega arith;
        count = λ on. ap outs (sym (replied_none q.session a)) ∙ ap (λ (s : SessionValue). outs s.out) (sym t.0);
      }

  -- the session shuts if it is out of memory, and nothing more of it is answered
  pub mute-serves : (w : World) (q : Past) → Serving w q → Serving w (called q Mute)
  mute-serves w q s =
      record { unanswered = s.unanswered; grows = s.grows; answered = s.answered; asked = s.asked; few = s.few; count = λ on. absurd (true≢false on) }

  module _ (v : Visit) (q : Past) (same : q.session ≡ v.session) (s : Serving v.rooms q) where
    pub none-serves : next_want v.session ≡ None → Serving v.rooms (called q Next)
    none-serves none =
        let gives : next_want q.session ≡ None = ap next_want same ∙ none in
        record {
          unanswered = s.unanswered;
          grows = s.grows;
          answered =
              subst (λ l. AreAnswered v.rooms.channels l q.replies s.unanswered)
              (sym (wants-next q None gives ∙ append-nil (wants_of q.entries))) s.answered;
          asked = s.asked;
          few = s.few;
          count = λ on. s.count (pulled_on q.session on) ∙ ap outs (sym (pulled_none q.session gives));
        }

    pub ask-serves : (asks found : Bool) (want : WantValue) (a : Option Answer) → next_want v.session ≡ Some want → (asked asks n want v.rooms).answer ≡ a
        → waiting_of n v.rooms.waits ≡ 0 → Serving (answered_by found n (pulled v.session) (asked asks n want v.rooms).rooms a).rooms (ends found (called q Next) a)
    ask-serves asks found want a e is none = by found a (subst (IsRight n want v.rooms rooms) is (asked-right n want v.rooms asks))
      where
        rooms : World
        rooms = (asked asks n want v.rooms).rooms

        gives : next_want q.session ≡ Some want
        gives = ap next_want same ∙ e

        grow : (cs : List Channel) → Grows cs v.rooms.channels → Grows cs rooms.channels
        grow cs g =
            asked-keeps (λ w. Grows cs w.channels) (λ w o place want g. ask-grows cs (silent w) o place want g) (λ w o g. close-grows cs w o g) asks n want v.rooms g

        now : Grows v.rooms.channels rooms.channels
        now = grow v.rooms.channels (grows-same v.rooms.channels)

        first : s.unanswered ≡ []
        first = nil s.unanswered (s.count (given_on q.session want gives) ∙ ap outs (given_none q.session want gives))

        more : AreAnswered rooms.channels (wants_of (called q Next).entries) q.replies (want ∷ [])
        more =
            answers-stay v.rooms.channels rooms.channels now (wants_of (called q Next).entries) q.replies (want ∷ [])
            (subst (λ l. AreAnswered v.rooms.channels l q.replies (want ∷ [])) (sym (wants-next q (Some want) gives))
            (wants-more v.rooms.channels (wants_of q.entries) q.replies [] (want ∷ []) (subst (AreAnswered v.rooms.channels (wants_of q.entries) q.replies) first s.answered)))

        asked_on : (own : List WantValue) → AreAsked (unanswered_at n own others) rooms.channels v.rooms.waits
        asked_on own = asked-stays (unanswered_at n own others) v.rooms.channels rooms.channels v.rooms.waits now (anew s.unanswered own v.rooms none s.asked)

        -- it has no answer yet
        made : AreAsked (unanswered_at n (want ∷ []) others) rooms.channels rooms.waits → Serving rooms (called q Next)
        made asked = record {
          unanswered = want ∷ [];
          grows = grow old s.grows;
          answered = more;
          asked = asked;
          few = omega arith;
          count = λ on. sym (given_out q.session want gives);
        }

        by : (found : Bool) (a : Option Answer) → IsRight n want v.rooms rooms a
            → Serving (answered_by found n (pulled v.session) rooms a).rooms (ends found (called q Next) a)
        by true (Some a) r =
            reply-serves rooms (called q Next) want a (grow old s.grows) more r.1 [] (subst (AreAsked (unanswered_at n [] others) rooms.channels) (sym r.0) (asked_on []))
            (ap (waiting_of n) r.0 ∙ none) (given_out q.session want gives)
        by false (Some a) r =
            mute-serves rooms (called q Next) (made (subst (AreAsked (unanswered_at n (want ∷ []) others) rooms.channels) (sym r.0) (asked_on (want ∷ []))))
        by found None r =
            let x : Wait = record { owner = Connection n; place = r.0; ticket = r.1 } in
            let mine : unanswered_at n (want ∷ []) others n ≡ want ∷ [] = ap (λ b. if b then want ∷ [] else others n) (same_test n) in
            came-serves [] (record { session = pulled v.session; rooms = rooms }) (called q Next)
            (made (subst (AreAsked (unanswered_at n (want ∷ []) others) rooms.channels) (sym r.2)
            (each-append (λ (x : Wait). AskedBy (unanswered_at n (want ∷ []) others) rooms.channels x.place x.ticket x.owner) v.rooms.waits (x ∷ []) (asked_on (want ∷ []))
            ((want, r.3, mine), tt))))

-- ---- each call keeps it

abbrev pub Keeps : ℕ → (ℕ → List WantValue) → List Channel → (ℕ → ℕ) → Visit → Past → Type 0
Keeps n others old counts v q = Serves n others old v.rooms q × IsMet n counts v

module _ (n : ℕ) (others : ℕ → List WantValue) (old : List Channel) (counts : ℕ → ℕ) where
  pub none-keeps : (v : Visit) (q : Past) → q.session ≡ v.session → next_want v.session ≡ None → Keeps n others old counts v q
      → Keeps n others old counts (record v { session = pulled v.session }) (called q Next)
  none-keeps v q same none k = (
    none-serves n others old v q same k.0 none,
    subst (λ o. IsMet n counts (step_by enough n (record v { session = pulled v.session }) o)) none (step-met n counts enough v k.1),
  )

  pub asks-keep : (asks found : Bool) (v : Visit) (q : Past) (want : WantValue) (a : Option Answer) → q.session ≡ v.session → next_want v.session ≡ Some want
      → (asked asks n want v.rooms).answer ≡ a → Keeps n others old counts v q
      → Keeps n others old counts (answered_by found n (pulled v.session) (asked asks n want v.rooms).rooms a) (ends found (called q Next) a)
  asks-keep asks found v q want a same e is k =
      let luck : Luck = record { takes = true; asks = asks; answers = found } in (
        ask-serves n others old v q same k.0 asks found want a e is (k.1.own ∙ ap outs (given_none v.session want e)),
        subst (λ a. IsMet n counts (answered_by found n (pulled v.session) (asked asks n want v.rooms).rooms a)) is
            (subst (λ o. IsMet n counts (step_by luck n (record v { session = pulled v.session }) o)) e (step-met n counts luck v k.1)),
      )

  pub mutes-keep : (v : Visit) (q : Past) → q.session ≡ v.session → v.session.out ≡ None → Keeps n others old counts v q
      → Keeps n others old counts (record v { session = muted v.session }) (called q Mute)
  mutes-keep v q same none k = (
    mute-serves n others old v.rooms q k.0,
    record { rooms = k.1.rooms; own = k.1.own ∙ ap outs none; other = k.1.other; sound = λ shut. refl },
  )
