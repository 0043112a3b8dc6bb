-- What the calls of a session do to the request that is out, and to the requests that were taken.
use Rattle.std.proofs.Common.{◌≡◌, ℕ, List, [], ◌∷◌, ◌++◌, Bool, true, false, Option, Some, None, refl, ap, arith, sym, ◌∙◌}
use Rattle.std.proofs.lemmas.Option.{none-some, same_Some}
use Rattle.std.proofs.lemmas.List.Concat.{flat_map-append}
use Rattle.std.proofs.lemmas.List.Sums.{fold-append}
use Rattle.std.proofs.lemmas.List.Elements.{All-append, All-cons, All-nil, All-push}
use Rattle.std.specs.Prelude.{◌≢◌, nat_lt, length}
use Rattle.ll_directive.specs.Targets.{WantValue}
use Rattle.ll_player.specs.Playing.{want_of, wants_of}
use Rattle.ll_session.proofs.SplitLemmas.{taking-right, wants}
use Rattle.ll_session.specs.Past.{AreUnmuted, Call, Mute, before_any, called, next_by, next_entries, overflows, overflows_by, past}
use Rattle.ll_session.specs.Requests.{Entry, Wanted, Refused, Faulty}
use Rattle.ll_session.specs.Talk.{SessionValue, fed, fed_by, fed_to, first_of, given, kept_of, most_waiting, next_want, pulled, pulled_by, replied, replied_by, taking, want_by}
use Rattle.ll_wire.specs.declared.answer.Answer.{Answer}

pub past-one : (calls : List Call) (call : Call) → past (calls ++ call ∷ []) ≡ called (past calls) call
past-one calls call = fold-append called before_any calls (call ∷ [])

pub past-two : (calls : List Call) (call then : Call) → past (calls ++ call ∷ then ∷ []) ≡ called (called (past calls) call) then
past-two calls call then = fold-append called before_any calls (call ∷ then ∷ [])

-- ---- calls that don't mute it

pub unmuted-none : AreUnmuted []
unmuted-none = All-nil (λ (c : Call). c ≢ Mute)

pub unmuted-one : (calls : List Call) (call : Call) → AreUnmuted calls → call ≢ Mute → AreUnmuted (calls ++ call ∷ [])
unmuted-one calls call unmuted n = All-push (λ (c : Call). c ≢ Mute) calls call unmuted n

pub unmuted-two : (calls : List Call) (call then : Call) → AreUnmuted calls → call ≢ Mute → then ≢ Mute → AreUnmuted (calls ++ call ∷ then ∷ [])
unmuted-two calls call then unmuted n m =
    All-append (λ (c : Call). c ≢ Mute) calls (call ∷ then ∷ []) unmuted
    (All-cons (λ (c : Call). c ≢ Mute) call (then ∷ []) n (All-cons (λ (c : Call). c ≢ Mute) then [] m unmuted-none))

-- ---- requests that ask a channel for something

pub wants-append : (es fs : List Entry) → wants_of (es ++ fs) ≡ wants_of es ++ wants_of fs
wants-append es fs = flat_map-append want_of es fs

none-wanted : (es : List Entry) → wants es ≡ 0 → wants_of es ≡ []
none-wanted [] e = refl
none-wanted (Wanted want keep ∷ es) e = absurd (omega arith)
none-wanted (Refused fault keep ∷ es) e = none-wanted es e
none-wanted (Faulty fault ∷ es) e = none-wanted es e

none-given : (w : Option (WantValue × Bool)) → first_of w ≡ None → wants_of (given w) ≡ []
none-given None e = refl
none-given (Some x) e = absurd (cc (e))

none-kept : (w : Option (WantValue × Bool)) → first_of w ≡ None → kept_of w ≡ None
none-kept None e = refl
none-kept (Some x) e = absurd (cc (e))

some-given : (w : Option (WantValue × Bool)) (want : WantValue) → first_of w ≡ Some want → (keep : Bool) × (w ≡ Some (want, keep))
some-given None want e = absurd (cc (e))
some-given (Some x) want e = (x.1, ap (λ (v : WantValue). Some (v, x.1)) (same_Some x.0 want e))

-- ---- no request is taken

no-wants-by : (shut : Bool) (out : Option Bool) (unread : List ℕ) → want_by shut out unread ≡ None → wants_of (next_by shut out unread) ≡ []
no-wants-by true out unread e = refl
no-wants-by false (Some keep) unread e = refl
no-wants-by false None unread e =
    let t = taking unread in
    wants-append t.passed (given t.want) ∙ ap (λ ws. ws ++ wants_of (given t.want)) (none-wanted t.passed (taking-right unread).0) ∙ none-given t.want e

pub no-wants : (s : SessionValue) → next_want s ≡ None → wants_of (next_entries s) ≡ []
no-wants s e = no-wants-by s.shut s.out s.unread e

stays-free-by : (shut : Bool) (out : Option Bool) (s : SessionValue) → s.out ≡ None → want_by shut out s.unread ≡ None → (pulled_by shut out s).out ≡ None
stays-free-by true out s free e = free
stays-free-by false (Some keep) s free e = free
stays-free-by false None s free e = none-kept (taking s.unread).want e

pub stays-free : (s : SessionValue) → s.out ≡ None → next_want s ≡ None → (pulled s).out ≡ None
stays-free s free e = stays-free-by s.shut s.out s free e

pulled-out-by : (shut : Bool) (keep : Bool) (s : SessionValue) → pulled_by shut (Some keep) s ≡ s
pulled-out-by true keep s = refl
pulled-out-by false keep s = refl

-- nothing is taken while a request is out, nor once the session has shut
pub pulled-out : (s : SessionValue) (keep : Bool) → s.out ≡ Some keep → pulled s ≡ s
pulled-out s keep e = ap (λ (o : Option Bool). pulled_by s.shut o s) e ∙ pulled-out-by s.shut keep s

pub pulled-shut : (s : SessionValue) → s.shut ≡ true → pulled s ≡ s
pulled-shut s e = ap (λ (b : Bool). pulled_by b s.out s) e

-- ---- one is taken

-- the request `want` was taken from the session `s`
pub record Taken (s : SessionValue) (want : WantValue) : Type 0 where
  pub free : s.out ≡ None
  pub unshut : s.shut ≡ false
  pub keep : Bool
  pub out : (pulled s).out ≡ Some keep
  pub stays : (pulled s).shut ≡ false
  pub one : wants_of (next_entries s) ≡ want ∷ []

record TakenBy (shut : Bool) (out : Option Bool) (s : SessionValue) (want : WantValue) : Type 0 where
  free : out ≡ None
  unshut : shut ≡ false
  keep : Bool
  is_out : (pulled_by shut out s).out ≡ Some keep
  stays : (pulled_by shut out s).shut ≡ false
  one : wants_of (next_by shut out s.unread) ≡ want ∷ []

not-ended : (ends : Bool) (w : Option (WantValue × Bool)) (x : WantValue × Bool) → (ends ≡ true → w ≡ None) → w ≡ Some x → ends ≡ false
not-ended true w x none some = absurd (none-some x (sym (none refl) ∙ some))
not-ended false w x none some = refl

taken-by : (shut : Bool) (out : Option Bool) (s : SessionValue) (want : WantValue) → want_by shut out s.unread ≡ Some want → TakenBy shut out s want
taken-by true out s want e = absurd (none-some want e)
taken-by false (Some keep) s want e = absurd (none-some want e)
taken-by false None s want e =
    let t = taking s.unread in
    let g = some-given t.want want e in
    let right = taking-right s.unread in
    record {
      free = refl;
      unshut = refl;
      keep = g.0;
      is_out = ap kept_of g.1;
      stays = not-ended t.ends t.want (want, g.0) right.1 g.1;
      one =
          wants-append t.passed (given t.want) ∙ ap (λ ws. ws ++ wants_of (given t.want)) (none-wanted t.passed right.0)
          ∙ ap (λ (w : Option (WantValue × Bool)). wants_of (given w)) g.1;
    }

pub taken : (s : SessionValue) (want : WantValue) → next_want s ≡ Some want → Taken s want
taken s want e =
    let t = taken-by s.shut s.out s want e in
    record { free = t.free; unshut = t.unshut; keep = t.keep; out = t.is_out; stays = t.stays; one = t.one }

-- ---- one is answered

replied-free-by : (keep : Bool) (s : SessionValue) (a : Answer) → (replied_by (Some keep) s a).out ≡ None
replied-free-by true s a = refl
replied-free-by false s a = refl

pub replied-free : (s : SessionValue) (keep : Bool) (a : Answer) → s.out ≡ Some keep → (replied s a).out ≡ None
replied-free s keep a e = ap (λ (o : Option Bool). (replied_by o s a).out) e ∙ replied-free-by keep s a

-- ---- bytes come

pub fed-free : (s : SessionValue) (piece : List ℕ) → s.shut ≡ false → s.out ≡ None → (fed s piece).out ≡ None
fed-free s piece unshut free = ap (λ (b : Bool). (fed_by b s.out s piece).out) unshut ∙ ap (λ (o : Option Bool). (fed_by false o s piece).out) free ∙ free

pub fed-out : (s : SessionValue) (keep : Bool) (piece : List ℕ) → s.shut ≡ false → s.out ≡ Some keep
    → fed s piece ≡ fed_to (nat_lt most_waiting (length (s.unread ++ piece))) s (s.unread ++ piece)
fed-out s keep piece unshut out = ap (λ (b : Bool). fed_by b s.out s piece) unshut ∙ ap (λ (o : Option Bool). fed_by false o s piece) out

waits-by : (over : Bool) (s : SessionValue) (bytes : List ℕ) (keep : Bool) → (fed_to over s bytes).shut ≡ false → s.out ≡ Some keep → (fed_to over s bytes).out ≡ Some keep
waits-by true s bytes keep unshut out = absurd (cc (unshut))
waits-by false s bytes keep unshut out = out

-- a request that is out stays so, unless too many bytes have come
pub fed-waits : (s : SessionValue) (keep : Bool) (piece : List ℕ) → s.shut ≡ false → s.out ≡ Some keep → (fed s piece).shut ≡ false → (fed s piece).out ≡ Some keep
fed-waits s keep piece unshut out stays =
    let is = fed-out s keep piece unshut out in
    ap (λ (v : SessionValue). v.out) is
    ∙ waits-by (nat_lt most_waiting (length (s.unread ++ piece))) s (s.unread ++ piece) keep (sym (ap (λ (v : SessionValue). v.shut) is) ∙ stays) out

-- ---- too many bytes come

pub overflows-out : (s : SessionValue) (keep : Bool) (piece : List ℕ) → s.shut ≡ false → s.out ≡ Some keep
    → overflows s piece ≡ nat_lt most_waiting (length (s.unread ++ piece))
overflows-out s keep piece unshut out =
    ap (λ (b : Bool). overflows_by b s.out (s.unread ++ piece)) unshut ∙ ap (λ (o : Option Bool). overflows_by false o (s.unread ++ piece)) out

over-by : (over : Bool) (s : SessionValue) (bytes : List ℕ) → s.shut ≡ false → (fed_to over s bytes).shut ≡ true → over ≡ true
over-by true s bytes unshut shut = refl
over-by false s bytes unshut shut = absurd (cc (sym unshut ∙ shut))

-- if a request is out, too many of them alone shut it
pub fed-over : (s : SessionValue) (keep : Bool) (piece : List ℕ) → s.shut ≡ false → s.out ≡ Some keep → (fed s piece).shut ≡ true → overflows s piece ≡ true
fed-over s keep piece unshut out shut =
    overflows-out s keep piece unshut out
    ∙ over-by (nat_lt most_waiting (length (s.unread ++ piece))) s (s.unread ++ piece) unshut
    (sym (ap (λ (v : SessionValue). v.shut) (fed-out s keep piece unshut out)) ∙ shut)
