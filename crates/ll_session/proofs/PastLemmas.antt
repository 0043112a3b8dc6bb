-- Whatever is done with a session, it answers the requests in its bytes.
use Rattle.std.proofs.Common.{◌≡◌, ℕ, ◌+◌, ◌<◌, ◌≤◌, List, [], ◌∷◌, ◌++◌, Bool, true, false, Option, Some, None, refl, ap, ◌∙◌, sym, subst, arith, length, length-append, append_assoc, append-nil, fold}
use Rattle.std.proofs.lemmas.Bool.{ltb-true}
use Rattle.std.specs.Prelude.{◌||◌, if◌then◌else◌, nat_lt}
use Rattle.ll_directive.specs.Targets.{WantValue}
use Rattle.ll_wire.proofs.ResponseLemmas.{responds}
use Rattle.ll_wire.specs.Response.{response_bytes}
use Rattle.ll_wire.specs.declared.fault.HeadFault.TheVariants.{HeadTooLarge}
use Rattle.ll_wire.specs.declared.answer.Answer.{Answer}
use Rattle.ll_wire.specs.declared.answer.Answer.TheVariants as answer
use Rattle.ll_session.specs.Requests.{Entry, Wanted, Refused, Faulty, requests}
use Rattle.ll_session.specs.Talk.{Taking, taking, entries_of, given, kept_of, fed_to, refusals, overflow, most_waiting}
use Rattle.ll_session.specs.Past.{Call, Feed, Mute, Next, Reply, Send, Past, before_any, called, past, conversation, IsTalk}
use Rattle.ll_session.proofs.SplitLemmas.{goes_on, wants, taking-shortens, taking-splits, taking-right}
use Rattle.ll_session.proofs.SentLemmas.{HasFirst, Put, put_more, put_sent}

-- ---- answers

wants-append : (es fs : List Entry) → wants (es ++ fs) ≡ wants es + wants fs
wants-append [] fs = omega arith
wants-append (Wanted want keep ∷ es) fs = let e = wants-append es fs in omega arith
wants-append (Refused fault keep ∷ es) fs = wants-append es fs
wants-append (Faulty fault ∷ es) fs = wants-append es fs

-- each want among the first has its answer
conversation-append : (o p : Bool) (es fs : List Entry) (rs qs : List Answer) → wants es ≡ length rs
    → conversation o (es ++ fs) (rs ++ qs) ≡ conversation p es rs ++ conversation o fs qs
conversation-append o p [] fs [] qs e = refl
conversation-append o p [] fs (r ∷ rs) qs e = absurd (omega arith)
conversation-append o p (Faulty fault ∷ es) fs rs qs e = ap (λ t. response_bytes (answer.Head fault) false ∷ t) (conversation-append o p es fs rs qs e)
conversation-append o p (Refused fault keep ∷ es) fs rs qs e = ap (λ t. response_bytes (answer.Target fault) keep ∷ t) (conversation-append o p es fs rs qs e)
conversation-append o p (Wanted want keep ∷ es) fs [] qs e = absurd (omega arith)
conversation-append o p (Wanted want keep ∷ es) fs (r ∷ rs) qs e = ap (λ t. response_bytes r keep ∷ t) (conversation-append o p es fs rs qs (omega arith))

-- what is refused takes no answer from outside
refused_answers : (o : Bool) (es : List Entry) → wants es ≡ 0 → conversation o es [] ≡ refusals es
refused_answers o [] e = refl
refused_answers o (Faulty fault ∷ es) e = ap (λ t. response_bytes (answer.Head fault) false ∷ t) (refused_answers o es e)
refused_answers o (Refused fault keep ∷ es) e = ap (λ t. response_bytes (answer.Target fault) keep ∷ t) (refused_answers o es e)
refused_answers o (Wanted want keep ∷ es) e = absurd (omega arith)

refusals_have_first : (es : List Entry) → HasFirst (refusals es)
refusals_have_first [] = tt
refusals_have_first (Faulty fault ∷ es) = responds (answer.Head fault) false
refusals_have_first (Refused fault keep ∷ es) = responds (answer.Target fault) keep
refusals_have_first (Wanted want keep ∷ es) = refusals_have_first es

given_answers : (want : Option (WantValue × Bool)) → conversation false (given want) [] ≡ []
given_answers None = refl
given_answers (Some want) = refl

-- ---- what holds at every moment

-- the requests in the bytes, with whatever follows, are those that were taken and those that are still unread
abbrev pub ReadsOn : Bool → Option Bool → List ℕ → List Entry → List ℕ → Type 0
ReadsOn true out bytes entries unread = (later : List Entry) × (requests bytes ≡ entries ++ later)
ReadsOn false out bytes entries unread = (more : List ℕ) → requests (bytes ++ more) ≡ entries ++ (if goes_on false out then requests (unread ++ more) else [])

-- each want but the one that is out has its answer
abbrev pub Balanced : Bool → Option Bool → List Entry → List Answer → Type 0
Balanced true out entries replies = Unit {0}
Balanced false None entries replies = wants entries ≡ length replies
Balanced false (Some keep) entries replies =
    (front : List Entry) × (want : WantValue) × (entries ≡ front ++ Wanted want keep ∷ []) × (wants front ≡ length replies)

-- no more bytes wait than came, and too many of them only if so many came
pub record FewWait (bytes unread : List ℕ) (overflowed : Bool) : Type 0 where
  pub within : length unread ≤ length bytes
  pub many : overflowed ≡ true → most_waiting < length bytes

none-wait : (bytes unread : List ℕ) (overflowed : Bool) → FewWait bytes unread overflowed → FewWait bytes [] overflowed
none-wait bytes unread overflowed f = record { within = omega arith; many = f.many }

less-waits : (bytes unread rest : List ℕ) (overflowed : Bool) → length rest ≤ length unread → FewWait bytes unread overflowed → FewWait bytes rest overflowed
less-waits bytes unread rest overflowed less f = record { within = omega (arith, less, f.within); many = f.many }

more-waits : (bytes unread piece : List ℕ) → FewWait bytes unread false → FewWait (bytes ++ piece) (unread ++ piece) false
more-waits bytes unread piece f = record {
  within = omega (arith, length-append bytes piece, length-append unread piece, f.within);
  many = λ e. absurd (cc (e));
}

longer : (most : ℕ) (bytes unread piece : List ℕ) → length unread ≤ length bytes → most < length (unread ++ piece) → most < length (bytes ++ piece)
longer most bytes unread piece within over = omega (arith, length-append bytes piece, length-append unread piece, within, over)

too-many : (bytes unread piece : List ℕ) → FewWait bytes unread false → nat_lt most_waiting (length (unread ++ piece)) ≡ true → FewWait (bytes ++ piece) [] true
too-many bytes unread piece f over = record {
  within = omega arith;
  many = λ e. longer most_waiting bytes unread piece f.within (ltb-true most_waiting (length (unread ++ piece)) over);
}

pub record Holds (p : Past) : Type 0 where
  pub reads : ReadsOn p.session.shut p.session.out p.fed p.entries p.session.unread
  pub balanced : Balanced (p.overflowed || p.session.shut) p.session.out p.entries p.replies
  pub put : Put p.gone p.session.answers (conversation p.overflowed p.entries p.replies)
  pub shut : p.overflowed ≡ true → p.session.shut ≡ true
  pub none : p.session.shut ≡ true → p.session.out ≡ None
  pub few : FewWait p.fed p.session.unread p.overflowed

pub holds_first : Holds before_any
holds_first = record {
  reads = λ more. refl;
  balanced = refl;
  put = record { joined = refl; left = refl };
  shut = λ e. cc;
  none = λ e. refl;
  few = record { within = omega arith; many = λ e. absurd (cc (e)) };
}

-- the want that is out, with an overflow in place of its answer, and with one
out_answers : (o : Bool) (entries front : List Entry) (want : WantValue) (keep : Bool) (replies qs : List Answer)
    → entries ≡ front ++ Wanted want keep ∷ [] → wants front ≡ length replies
    → conversation o entries (replies ++ qs) ≡ conversation false front replies ++ conversation o (Wanted want keep ∷ []) qs
out_answers o entries front want keep replies qs is balanced =
    ap (λ (es : List Entry). conversation o es (replies ++ qs)) is ∙ conversation-append o false front (Wanted want keep ∷ []) replies qs balanced

still_out : (o : Bool) (entries front : List Entry) (want : WantValue) (keep : Bool) (replies : List Answer)
    → entries ≡ front ++ Wanted want keep ∷ [] → wants front ≡ length replies
    → conversation o entries replies ≡ conversation false front replies ++ conversation o (Wanted want keep ∷ []) []
still_out o entries front want keep replies is balanced =
    ap (conversation o entries) (sym (append-nil replies)) ∙ out_answers o entries front want keep replies [] is balanced

none_out : (entries front : List Entry) (want : WantValue) (keep : Bool) (replies : List Answer)
    → entries ≡ front ++ Wanted want keep ∷ [] → wants front ≡ length replies
    → conversation false front replies ≡ conversation false entries replies
none_out entries front want keep replies is balanced =
    sym (append-nil (conversation false front replies)) ∙ sym (still_out false entries front want keep replies is balanced)

overflow_answers : (entries front : List Entry) (want : WantValue) (keep : Bool) (replies : List Answer)
    → entries ≡ front ++ Wanted want keep ∷ [] → wants front ≡ length replies
    → conversation true entries replies ≡ conversation false entries replies ++ overflow ∷ []
overflow_answers entries front want keep replies is balanced =
    still_out true entries front want keep replies is balanced
    ∙ ap (λ (t : List (List ℕ)). t ++ overflow ∷ []) (none_out entries front want keep replies is balanced)

reply_answers : (entries front : List Entry) (want : WantValue) (keep : Bool) (replies : List Answer) (a : Answer)
    → entries ≡ front ++ Wanted want keep ∷ [] → wants front ≡ length replies
    → conversation false entries (replies ++ a ∷ []) ≡ conversation false entries replies ++ response_bytes a keep ∷ []
reply_answers entries front want keep replies a is balanced =
    out_answers false entries front want keep replies (a ∷ []) is balanced
    ∙ ap (λ (t : List (List ℕ)). t ++ response_bytes a keep ∷ []) (none_out entries front want keep replies is balanced)

next_answers : (entries passed : List Entry) (want : Option (WantValue × Bool)) (replies : List Answer) → wants entries ≡ length replies → wants passed ≡ 0
    → conversation false (entries ++ (passed ++ given want)) replies ≡ conversation false entries replies ++ refusals passed
next_answers entries passed want replies balanced none =
    ap (conversation false (entries ++ (passed ++ given want))) (sym (append-nil replies))
    ∙ conversation-append false false entries (passed ++ given want) replies [] balanced
    ∙ ap (λ (t : List (List ℕ)). conversation false entries replies ++ t)
    (conversation-append false false passed (given want) [] [] none
    ∙ ap (λ (t : List (List ℕ)). conversation false passed [] ++ t) (given_answers want) ∙ append-nil (conversation false passed []) ∙ refused_answers false passed none)

module _ (unread : List ℕ) (answers : List (List ℕ)) (bytes : List ℕ) (entries : List Entry) (replies : List Answer) (gone : List ℕ) where
  abbrev pub at : Bool → Option Bool → Bool → Past
  at shut out overflowed = record {
    session = record { unread = unread; answers = answers; out = out; shut = shut };
    fed = bytes;
    entries = entries;
    replies = replies;
    gone = gone;
    overflowed = overflowed;
  }

  -- ---- bytes come

  feed_out : (b keep : Bool) (piece : List ℕ) → nat_lt most_waiting (length (unread ++ piece)) ≡ b → Holds (at false (Some keep) false)
      → Holds (record (at false (Some keep) false) {
        session = fed_to b (at false (Some keep) false).session (unread ++ piece);
        fed = bytes ++ piece;
        overflowed = b;
      })
  feed_out true keep piece over h = record {
    reads = (_, h.reads piece);
    balanced = tt;
    put =
        put_more gone answers (overflow ∷ []) (conversation false entries replies) (conversation true entries replies) (responds (answer.Head HeadTooLarge) false)
        (overflow_answers entries h.balanced.0 h.balanced.1 keep replies h.balanced.2 h.balanced.3) h.put;
    shut = λ e. refl;
    none = λ e. refl;
    few = too-many bytes unread piece h.few over;
  }
  feed_out false keep piece over h = record {
    reads = λ more.
        ap requests (append_assoc bytes piece more) ∙ h.reads (piece ++ more)
        ∙ ap (λ l. entries ++ (if keep then requests l else [])) (sym (append_assoc unread piece more));
    balanced = h.balanced;
    put = h.put;
    shut = h.shut;
    none = h.none;
    few = more-waits bytes unread piece h.few;
  }

  feed_holds : (shut : Bool) (out : Option Bool) (overflowed : Bool) (piece : List ℕ) → Holds (at shut out overflowed) → Holds (called (at shut out overflowed) (Feed piece))
  feed_holds true out true piece h = record { reads = h.reads; balanced = h.balanced; put = h.put; shut = h.shut; none = h.none; few = h.few }
  feed_holds true out false piece h = record { reads = h.reads; balanced = h.balanced; put = h.put; shut = h.shut; none = h.none; few = h.few }
  feed_holds false out true piece h = let e : false ≡ true = h.shut refl in absurd (cc)
  feed_holds false None false piece h = record {
    reads = λ more.
        ap requests (append_assoc bytes piece more) ∙ h.reads (piece ++ more)
        ∙ ap (λ l. entries ++ requests l) (sym (append_assoc unread piece more));
    balanced = h.balanced;
    put = h.put;
    shut = h.shut;
    none = h.none;
    few = more-waits bytes unread piece h.few;
  }
  feed_holds false (Some keep) false piece h = feed_out (nat_lt most_waiting (length (unread ++ piece))) keep piece refl h

  -- ---- the next want

  abbrev pub next_at : List Entry → List ℕ → Option (WantValue × Bool) → Bool → Past
  next_at passed rest want ends = record {
    session = record { unread = rest; answers = answers ++ refusals passed; out = kept_of want; shut = ends };
    fed = bytes;
    entries = entries ++ (passed ++ given want);
    replies = replies;
    gone = gone;
    overflowed = false;
  }

  next_balanced : (passed : List Entry) (want : Option (WantValue × Bool)) → wants entries ≡ length replies → wants passed ≡ 0
      → Balanced false (kept_of want) (entries ++ (passed ++ given want)) replies
  next_balanced passed None balanced none =
      omega (arith, wants-append entries (passed ++ []), wants-append passed [], balanced, none)
  next_balanced passed (Some want) balanced none =
      (entries ++ passed, want.0, sym (append_assoc entries passed (Wanted want.0 want.1 ∷ [])), omega (arith, wants-append entries passed, balanced, none))

  -- one that has shut needs no balance
  next_balanced_if : (ends : Bool) (passed : List Entry) (want : Option (WantValue × Bool)) → wants entries ≡ length replies → wants passed ≡ 0
      → Balanced ends (kept_of want) (entries ++ (passed ++ given want)) replies
  next_balanced_if true passed want balanced none = tt
  next_balanced_if false passed want balanced none = next_balanced passed want balanced none

  next_reads : (passed : List Entry) (rest : List ℕ) (want : Option (WantValue × Bool)) (ends : Bool) → Holds (at false None false)
      → ((more : List ℕ) → requests (unread ++ more) ≡ (passed ++ given want) ++ (if goes_on ends (kept_of want) then requests (rest ++ more) else []))
      → ReadsOn ends (kept_of want) bytes (entries ++ (passed ++ given want)) rest
  next_reads passed rest want true h splits = (
    [],
    ap requests (sym (append-nil bytes)) ∙ h.reads [] ∙ ap (λ l. entries ++ l) (splits []) ∙ sym (append_assoc entries (passed ++ given want) []),
  )
  next_reads passed rest want false h splits =
      λ more. h.reads more ∙ ap (λ l. entries ++ l) (splits more)
      ∙ sym (append_assoc entries (passed ++ given want) (if goes_on false (kept_of want) then requests (rest ++ more) else []))

  next_taken : (t : Taking) → wants t.passed ≡ 0 → (t.ends ≡ true → t.want ≡ None)
      → ((more : List ℕ) → requests (unread ++ more) ≡ entries_of t ++ (if goes_on t.ends (kept_of t.want) then requests (t.rest ++ more) else []))
      → length t.rest ≤ length unread → Holds (at false None false) → Holds (next_at t.passed t.rest t.want t.ends)
  next_taken t passes none splits less h = record {
    reads = next_reads t.passed t.rest t.want t.ends h splits;
    balanced = next_balanced_if t.ends t.passed t.want h.balanced passes;
    put =
        put_more gone answers (refusals t.passed) (conversation false entries replies) (conversation false (entries ++ entries_of t) replies) (refusals_have_first t.passed)
        (next_answers entries t.passed t.want replies h.balanced passes) h.put;
    shut = λ e. cc;
    none = λ e. ap kept_of (none e);
    few = less-waits bytes unread t.rest false less h.few;
  }

  unchanged : (shut : Bool) (out : Option Bool) (overflowed : Bool) → Holds (at shut out overflowed) → Holds (record (at shut out overflowed) { entries = entries ++ [] })
  unchanged shut out overflowed h = subst (λ (es : List Entry). Holds (record (at shut out overflowed) { entries = es })) (sym (append-nil entries)) h

  next_holds : (shut : Bool) (out : Option Bool) (overflowed : Bool) → Holds (at shut out overflowed) → Holds (called (at shut out overflowed) Next)
  next_holds true out overflowed h = unchanged true out overflowed h
  next_holds false (Some keep) overflowed h = unchanged false (Some keep) overflowed h
  next_holds false None true h = let e : false ≡ true = h.shut refl in absurd (cc)
  next_holds false None false h = let right = taking-right unread in next_taken (taking unread) right.0 right.1 (taking-splits unread) (taking-shortens unread) h

  -- ---- an answer

  replied_balanced : (keep : Bool) (a : Answer) → Balanced false (Some keep) entries replies → wants entries ≡ length (replies ++ a ∷ [])
  replied_balanced keep a b =
      omega (arith, ap wants b.2, wants-append b.0 (Wanted b.1 keep ∷ []), b.3, length-append replies (a ∷ []))

  reply_put : (keep : Bool) (a : Answer) → Balanced false (Some keep) entries replies → Put gone answers (conversation false entries replies)
      → Put gone (answers ++ response_bytes a keep ∷ []) (conversation false entries (replies ++ a ∷ []))
  reply_put keep a b p =
      put_more gone answers (response_bytes a keep ∷ []) (conversation false entries replies) (conversation false entries (replies ++ a ∷ [])) (responds a keep)
      (reply_answers entries b.0 b.1 keep replies a b.2 b.3) p

  reply_holds : (shut : Bool) (out : Option Bool) (overflowed : Bool) (a : Answer) → Holds (at shut out overflowed) → Holds (called (at shut out overflowed) (Reply a))
  reply_holds shut None overflowed a h = h
  reply_holds true (Some keep) overflowed a h = let e : Some keep ≡ None = h.none refl in absurd (cc)
  reply_holds false (Some keep) true a h = let e : false ≡ true = h.shut refl in absurd (cc)
  reply_holds false (Some true) false a h = record {
    reads = h.reads;
    balanced = replied_balanced true a h.balanced;
    put = reply_put true a h.balanced h.put;
    shut = λ e. cc;
    none = λ e. refl;
    few = h.few;
  }
  reply_holds false (Some false) false a h = record {
    reads = ([], ap requests (sym (append-nil bytes)) ∙ h.reads []);
    balanced = tt;
    put = reply_put false a h.balanced h.put;
    shut = λ e. cc;
    none = λ e. refl;
    few = none-wait bytes unread false h.few;
  }

  -- ---- the caller is out of memory

  mute_reads : (shut : Bool) (out : Option Bool) → ReadsOn shut out bytes entries unread → (later : List Entry) × (requests bytes ≡ entries ++ later)
  mute_reads true out r = r
  mute_reads false out r = (_, ap requests (sym (append-nil bytes)) ∙ r [])

  mute_balanced : (overflowed : Bool) → Balanced (overflowed || true) None entries replies
  mute_balanced true = tt
  mute_balanced false = tt

  mute_holds : (shut : Bool) (out : Option Bool) (overflowed : Bool) → Holds (at shut out overflowed) → Holds (called (at shut out overflowed) Mute)
  mute_holds shut out overflowed h = record {
    reads = mute_reads shut out h.reads;
    balanced = mute_balanced overflowed;
    put = h.put;
    shut = λ e. refl;
    none = λ e. refl;
    few = none-wait bytes unread overflowed h.few;
  }

  -- ---- bytes are sent

  send_holds : (shut : Bool) (out : Option Bool) (overflowed : Bool) (n : ℕ) → Holds (at shut out overflowed) → Holds (called (at shut out overflowed) (Send n))
  send_holds shut out overflowed n h = record {
    reads = h.reads;
    balanced = h.balanced;
    put = put_sent n gone answers (conversation overflowed entries replies) h.put;
    shut = h.shut;
    none = h.none;
    few = h.few;
  }

pub call_holds : (p : Past) (c : Call) → Holds p → Holds (called p c)
call_holds p (Feed piece) h =
    feed_holds p.session.unread p.session.answers p.fed p.entries p.replies p.gone p.session.shut p.session.out p.overflowed piece h
call_holds p Next h = next_holds p.session.unread p.session.answers p.fed p.entries p.replies p.gone p.session.shut p.session.out p.overflowed h
call_holds p (Reply a) h =
    reply_holds p.session.unread p.session.answers p.fed p.entries p.replies p.gone p.session.shut p.session.out p.overflowed a h
call_holds p Mute h = mute_holds p.session.unread p.session.answers p.fed p.entries p.replies p.gone p.session.shut p.session.out p.overflowed h
call_holds p (Send n) h =
    send_holds p.session.unread p.session.answers p.fed p.entries p.replies p.gone p.session.shut p.session.out p.overflowed n h

all_hold : (p : Past) (calls : List Call) → Holds p → Holds (fold called p calls)
all_hold p [] h = h
all_hold p (c ∷ calls) h = all_hold (called p c) calls (call_holds p c h)

-- the requests in the bytes begin with those that were taken
reads_first : (shut : Bool) (out : Option Bool) (bytes : List ℕ) (entries : List Entry) (unread : List ℕ) → ReadsOn shut out bytes entries unread
    → (later : List Entry) × (requests bytes ≡ entries ++ later)
reads_first true out bytes entries unread r = r
reads_first false out bytes entries unread r = (_, ap requests (sym (append-nil bytes)) ∙ r [])

-- and those after them are in the bytes that weren't taken
reads_rest : (shut : Bool) (out : Option Bool) (bytes : List ℕ) (entries : List Entry) (unread : List ℕ) → ReadsOn shut out bytes entries unread → shut ≡ false → out ≡ None
    → requests bytes ≡ entries ++ requests unread
reads_rest true out bytes entries unread r unshut free = absurd (cc (unshut))
reads_rest false (Some keep) bytes entries unread r unshut free = absurd (cc (free))
reads_rest false None bytes entries unread r unshut free =
    ap requests (sym (append-nil bytes)) ∙ r [] ∙ ap (λ l. entries ++ requests l) (append-nil unread)

pub is_talk : (calls : List Call) → IsTalk (past calls)
is_talk calls =
    let h = all_hold before_any calls holds_first in
    let p = past calls in
    record {
      first = reads_first p.session.shut p.session.out p.fed p.entries p.session.unread h.reads;
      answers = h.put.joined;
      unsent = h.put.left;
      many = h.few.many;
      rest = reads_rest p.session.shut p.session.out p.fed p.entries p.session.unread h.reads;
    }
