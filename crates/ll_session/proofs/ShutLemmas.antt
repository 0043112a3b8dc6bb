-- Why a session has shut that was never muted.
use Rattle.std.proofs.Common.{◌≡◌, ℕ, zero, suc, List, [], ◌∷◌, ◌++◌, Bool, true, false, Option, Some, None, Result, Ok, Err, inl, inr, refl, ap, ◌∙◌, sym, subst, append_assoc, append-nil, fold, drop, length, arith}
use Rattle.std.specs.Prelude.{◌≢◌, if◌then◌else◌, nat_lt}
use Rattle.std.proofs.lemmas.List.Elements.{All-head, All-tail}
use Rattle.ll_directive.specs.Targets.{WantValue}
use Rattle.ll_directive.specs.declared.fault.TargetFault.{TargetFault}
use Rattle.ll_wire.specs.Heads.{HeadValue, Unfinished, Whole, Fault, head_of}
use Rattle.ll_wire.specs.declared.answer.Answer.{Answer}
use Rattle.ll_session.specs.Requests.{Entry, Wanted, Refused, Faulty, keeps, requests, wanted}
use Rattle.ll_session.specs.Talk.{Taking, entries_of, fed_to, given, kept_of, most_waiting, take_request, taking, taking_by, taking_in}
use Rattle.ll_session.specs.Past.{AreUnmuted, Call, Feed, HasShut, IsLastOf, Mute, Next, Past, Reply, Send, before_any, called, past}
use Rattle.ll_session.proofs.PastLemmas.{Holds, at, call_holds, holds_first, next_at}
use Rattle.ll_session.proofs.SplitLemmas.{goes_on, taking-right, taking-splits}

-- ---- a refusal that ends the connection is the last that is taken

-- the connection isn't kept after the last of some entries
record HasLast (entries : List Entry) : Type 0 where
  first : List Entry
  last : Entry
  is : entries ≡ first ++ last ∷ []
  ends : keeps last ≡ false

after : (e : Entry) (entries : List Entry) → HasLast entries → HasLast (e ∷ entries)
after e entries h = record { first = e ∷ h.first; last = h.last; is = ap (λ (l : List Entry). e ∷ l) h.is; ends = h.ends }

abbrev EndsRight : Taking → Type 0
EndsRight t = t.ends ≡ true → HasLast t.passed

right_request : (w : Result WantValue TargetFault) (keep : Bool) (later : List ℕ → Taking) (rest : List ℕ) → EndsRight (later rest)
    → EndsRight (take_request w keep later rest)
right_request (Ok want) keep later rest ih ends = absurd (cc (ends))
right_request (Err fault) true later rest ih ends = after (Refused fault true) (later rest).passed (ih ends)
right_request (Err fault) false later rest ih ends = record { first = []; last = Refused fault false; is = refl; ends = refl }

right_by : (later : List ℕ → Taking) (bytes : List ℕ) (f : HeadValue) → ((rest : List ℕ) → EndsRight (later rest)) → EndsRight (taking_by later bytes f)
right_by later bytes Unfinished ih ends = absurd (cc (ends))
right_by later bytes (Fault fault) ih ends = record { first = []; last = Faulty fault; is = refl; ends = refl }
right_by later bytes (Whole r) ih ends = right_request (wanted r.target) r.keep later (drop r.len bytes) (ih (drop r.len bytes)) ends

right_in : (n : ℕ) (bytes : List ℕ) → EndsRight (taking_in n bytes)
right_in zero bytes ends = absurd (cc (ends))
right_in (suc n) bytes ends = right_by (taking_in n) bytes (head_of bytes) (right_in n) ends

taking-ends : (bytes : List ℕ) → EndsRight (taking bytes)
unfolding taking
taking-ends bytes = right_in (length bytes) bytes

-- ---- at every moment

-- why it has shut, if it has
abbrev Explains : Past → Type 0
Explains p = p.session.shut ≡ true → HasShut p

module _ (unread : List ℕ) (answers : List (List ℕ)) (bytes : List ℕ) (entries : List Entry) (replies : List Answer) (gone : List ℕ) where
  abbrev now : Bool → Option Bool → Bool → Past
  now = at unread answers bytes entries replies gone

  feed_out : (b keep : Bool) (piece : List ℕ)
      → Explains (record (now false (Some keep) false) {
        session = fed_to b (now false (Some keep) false).session (unread ++ piece);
        fed = bytes ++ piece;
        overflowed = b;
      })
  feed_out true keep piece shut = inl refl
  feed_out false keep piece shut = absurd (cc (shut))

  feed_explains : (shut : Bool) (out : Option Bool) (overflowed : Bool) (piece : List ℕ) → Holds (now shut out overflowed) → Explains (now shut out overflowed)
      → Explains (called (now shut out overflowed) (Feed piece))
  feed_explains true out true piece h e = λ shut. inl refl
  feed_explains true out false piece h e = e
  feed_explains false out true piece h e = let is : false ≡ true = h.shut refl in absurd (cc (is))
  feed_explains false None false piece h e = λ shut. absurd (cc (shut))
  feed_explains false (Some keep) false piece h e = feed_out (nat_lt most_waiting (length (unread ++ piece))) keep piece

  -- all that was taken by then and now are the requests in the bytes, if a refusal ends the connection
  all_taken : (t : Taking) → Holds (now false None false) → t.ends ≡ true
      → ((more : List ℕ) → requests (unread ++ more) ≡ entries_of t ++ (if goes_on t.ends (kept_of t.want) then requests (t.rest ++ more) else []))
      → requests bytes ≡ entries ++ entries_of t
  all_taken t h ends splits =
      ap requests (sym (append-nil bytes)) ∙ h.reads []
      ∙ ap (λ l. entries ++ l) (splits [] ∙ ap (λ (b : Bool). entries_of t ++ (if goes_on b (kept_of t.want) then requests (t.rest ++ []) else [])) ends ∙ append-nil (entries_of t))

  next_taken : (t : Taking) → (t.ends ≡ true → t.want ≡ None) → EndsRight t
      → ((more : List ℕ) → requests (unread ++ more) ≡ entries_of t ++ (if goes_on t.ends (kept_of t.want) then requests (t.rest ++ more) else []))
      → Holds (now false None false) → Explains (next_at unread answers bytes entries replies gone t.passed t.rest t.want t.ends)
  next_taken t none right splits h = λ ends.
      let last = right ends in
      inr (record {
        first = entries ++ last.first;
        last = last.last;
        is = ap (λ (w : Option (WantValue × Bool)). entries ++ (t.passed ++ given w)) (none ends) ∙ ap (λ (l : List Entry). entries ++ l) (append-nil t.passed ∙ last.is)
            ∙ sym (append_assoc entries last.first (last.last ∷ []));
        ends = last.ends;
        all = all_taken t h ends splits;
      })

  next_explains : (shut : Bool) (out : Option Bool) (overflowed : Bool) → Holds (now shut out overflowed) → Explains (now shut out overflowed)
      → Explains (called (now shut out overflowed) Next)
  next_explains true out overflowed h e =
      subst (λ (es : List Entry). Explains (record (now true out overflowed) { entries = es })) (sym (append-nil entries)) e
  next_explains false (Some keep) overflowed h e = λ shut. absurd (cc (shut))
  next_explains false None true h e = let is : false ≡ true = h.shut refl in absurd (cc (is))
  next_explains false None false h e = next_taken (taking unread) (taking-right unread).1 (taking-ends unread) (taking-splits unread) h

  reply_explains : (shut : Bool) (out : Option Bool) (overflowed : Bool) (a : Answer) → Holds (now shut out overflowed) → Explains (now shut out overflowed)
      → Explains (called (now shut out overflowed) (Reply a))
  reply_explains shut None overflowed a h e = e
  reply_explains true (Some keep) overflowed a h e = let is : Some keep ≡ None = h.none refl in absurd (cc (is))
  reply_explains false (Some keep) true a h e = let is : false ≡ true = h.shut refl in absurd (cc (is))
  reply_explains false (Some true) false a h e = λ shut. absurd (cc (shut))
  reply_explains false (Some false) false a h e = λ shut. inr (record {
    first = h.balanced.0;
    last = Wanted h.balanced.1 false;
    is = h.balanced.2;
    ends = refl;
    all = ap requests (sym (append-nil bytes)) ∙ h.reads [] ∙ append-nil entries;
  })

explains : (p : Past) (c : Call) → c ≢ Mute → Holds p → Explains p → Explains (called p c)
explains p (Feed piece) unmuted h e =
    feed_explains p.session.unread p.session.answers p.fed p.entries p.replies p.gone p.session.shut p.session.out p.overflowed piece h e
explains p Next unmuted h e = next_explains p.session.unread p.session.answers p.fed p.entries p.replies p.gone p.session.shut p.session.out p.overflowed h e
explains p (Reply a) unmuted h e = reply_explains p.session.unread p.session.answers p.fed p.entries p.replies p.gone p.session.shut p.session.out p.overflowed a h e
explains p Mute unmuted h e = absurd (unmuted refl)
explains p (Send n) unmuted h e = e

all_explain : (p : Past) (calls : List Call) → AreUnmuted calls → Holds p → Explains p → Explains (fold called p calls)
all_explain p [] unmuted h e = e
all_explain p (c ∷ calls) unmuted h e =
    all_explain (called p c) calls (All-tail (λ (d : Call). d ≢ Mute) c calls unmuted) (call_holds p c h)
    (explains p c (All-head (λ (d : Call). d ≢ Mute) c calls unmuted) h e)

pub has_shut : (calls : List Call) → AreUnmuted calls → (past calls).session.shut ≡ true → HasShut (past calls)
has_shut calls unmuted = all_explain before_any calls unmuted holds_first (λ shut. absurd (cc (shut)))
