-- What is taken from the front of some bytes, among their requests.
use Rattle.std.proofs.Common.{◌≡◌, ℕ, zero, suc, ◌+◌, ◌<◌, ◌≤◌, List, [], ◌∷◌, ◌++◌, Bool, true, false, Option, Some, None, refl, ap, ◌∙◌, sym, arith, drop, length, length-drop}
use Rattle.std.specs.Prelude.{Result, Ok, Err, if◌then◌else◌}
use Rattle.std.proofs.lemmas.List.{nil_from_length}
use Rattle.ll_directive.specs.Targets.{WantValue}
use Rattle.ll_directive.specs.declared.fault.TargetFault.{TargetFault}
use Rattle.ll_wire.specs.Heads.{HeadValue, Unfinished, Whole, Fault, head_of}
use Rattle.ll_wire.proofs.HeadLemmas.{nothing_there}
use Rattle.ll_session.specs.Requests.{Entry, Wanted, Refused, Faulty, entry_by, wanted, requests}
use Rattle.ll_session.specs.Talk.{Taking, taking, taking_in, taking_by, take_request, entries_of, kept_of, first_of, pulled, pulled_to, next_want, SessionValue}
use Rattle.ll_session.proofs.RequestLemmas.{less_after, requests_at, faulty_with, request_with}

-- whether requests follow: nothing has ended the connection, nor does the want that is out
abbrev pub goes_on : Bool → Option Bool → Bool
goes_on true out = false
goes_on false None = true
goes_on false (Some keep) = keep

-- how many entries are wants
abbrev pub wants : List Entry → ℕ
wants [] = 0
wants (Wanted want keep ∷ entries) = wants entries + 1
wants (Refused fault keep ∷ entries) = wants entries
wants (Faulty fault ∷ entries) = wants entries

-- ---- what is taken, and the requests that follow it

abbrev following : Taking → List ℕ → List Entry
following t more = if goes_on t.ends (kept_of t.want) then requests (t.rest ++ more) else []

abbrev Splits : Taking → List ℕ → List Entry → Type 0
Splits t more all = all ≡ entries_of t ++ following t more

splits_request : (w : Result WantValue TargetFault) (keep : Bool) (later : List ℕ → Taking) (rest more : List ℕ)
    → Splits (later rest) more (requests (rest ++ more))
    → Splits (take_request w keep later rest) more (entry_by w keep ∷ (if keep then requests (rest ++ more) else []))
splits_request (Ok want) keep later rest more ih = refl
splits_request (Err fault) true later rest more ih = ap (λ (l : List Entry). Refused fault true ∷ l) ih
splits_request (Err fault) false later rest more ih = refl

splits_by : (later : List ℕ → Taking) (bytes more : List ℕ) (f : HeadValue) → head_of bytes ≡ f
    → ((rest : List ℕ) → length rest < length bytes → Splits (later rest) more (requests (rest ++ more)))
    → Splits (taking_by later bytes f) more (requests (bytes ++ more))
splits_by later bytes more Unfinished e ih = refl
splits_by later bytes more (Fault fault) e ih = faulty_with bytes more (Fault fault) e (λ u. cc)
splits_by later bytes more (Whole r) e ih =
    request_with bytes more r e
    ∙ splits_request (wanted r.target) r.keep later (drop r.len bytes) more (ih (drop r.len bytes) (less_after bytes r e))

splits_in : (n : ℕ) (bytes more : List ℕ) → length bytes ≤ n → Splits (taking_in n bytes) more (requests (bytes ++ more))
splits_in zero bytes more le = refl
splits_in (suc n) bytes more le =
    splits_by (taking_in n) bytes more (head_of bytes) refl (λ rest lt. splits_in n rest more (omega arith))

-- the requests in some bytes and more: what is taken from the first, and what follows it
pub taking-splits : (bytes more : List ℕ) → Splits (taking bytes) more (requests (bytes ++ more))
unfolding taking
taking-splits bytes more = splits_in (length bytes) bytes more (omega arith)

-- ---- if no want is returned, no request is left

abbrev Rests : Taking → Type 0
Rests t = t.ends ≡ false → t.want ≡ None → requests t.rest ≡ []

rests_request : (w : Result WantValue TargetFault) (keep : Bool) (later : List ℕ → Taking) (rest : List ℕ) → Rests (later rest)
    → Rests (take_request w keep later rest)
rests_request (Ok want) keep later rest ih ends none = cc
rests_request (Err fault) true later rest ih ends none = ih ends none
rests_request (Err fault) false later rest ih ends none = cc

rests_by : (later : List ℕ → Taking) (bytes : List ℕ) (f : HeadValue) → head_of bytes ≡ f
    → ((rest : List ℕ) → length rest < length bytes → Rests (later rest)) → Rests (taking_by later bytes f)
rests_by later bytes Unfinished e ih ends want = requests_at bytes Unfinished e
rests_by later bytes (Fault fault) e ih ends want = cc
rests_by later bytes (Whole r) e ih ends want =
    rests_request (wanted r.target) r.keep later (drop r.len bytes) (ih (drop r.len bytes) (less_after bytes r e)) ends want

rests_in : (n : ℕ) (bytes : List ℕ) → length bytes ≤ n → Rests (taking_in n bytes)
rests_in zero bytes le ends want =
    let none : bytes ≡ [] = nil_from_length bytes (omega arith) in
    ap requests none ∙ requests_at [] Unfinished nothing_there
rests_in (suc n) bytes le ends want = rests_by (taking_in n) bytes (head_of bytes) refl (λ rest lt. rests_in n rest (omega arith)) ends want

taking-rests : (bytes : List ℕ) → Rests (taking bytes)
unfolding taking
taking-rests bytes = rests_in (length bytes) bytes (omega arith)

pulled_is : (s : SessionValue) → s.shut ≡ false → s.out ≡ None → pulled s ≡ pulled_to s (taking s.unread)
pulled_is s a b = rw (a, b)

want_is : (s : SessionValue) → s.shut ≡ false → s.out ≡ None → next_want s ≡ first_of (taking s.unread).want
want_is s a b = rw (a, b)

none_given : (want : Option (WantValue × Bool)) → first_of want ≡ None → want ≡ None
none_given None e = refl
none_given (Some want) e = cc

pub none_is_left : (s : SessionValue) → s.shut ≡ false → s.out ≡ None → next_want s ≡ None → (pulled s).shut ≡ false → requests (pulled s).unread ≡ []
none_is_left s a b want on =
    ap (λ (q : SessionValue). requests q.unread) (pulled_is s a b)
    ∙ taking-rests s.unread (ap (λ (q : SessionValue). q.shut) (sym (pulled_is s a b)) ∙ on)
    (none_given (taking s.unread).want (sym (want_is s a b) ∙ want))

-- ---- what is refused is no want, and if a refusal ends the connection, no want is returned

abbrev IsRight : Taking → Type 0
IsRight t = (wants t.passed ≡ 0) × (t.ends ≡ true → t.want ≡ None)

right_request : (w : Result WantValue TargetFault) (keep : Bool) (later : List ℕ → Taking) (rest : List ℕ) → IsRight (later rest)
    → IsRight (take_request w keep later rest)
right_request (Ok want) keep later rest ih = (refl, λ ends. cc)
right_request (Err fault) true later rest ih = ih
right_request (Err fault) false later rest ih = (refl, λ ends. refl)

right_by : (later : List ℕ → Taking) (bytes : List ℕ) (f : HeadValue) → ((rest : List ℕ) → IsRight (later rest)) → IsRight (taking_by later bytes f)
right_by later bytes Unfinished ih = (refl, λ ends. refl)
right_by later bytes (Fault fault) ih = (refl, λ ends. refl)
right_by later bytes (Whole r) ih = right_request (wanted r.target) r.keep later (drop r.len bytes) (ih (drop r.len bytes))

right_in : (n : ℕ) (bytes : List ℕ) → IsRight (taking_in n bytes)
right_in zero bytes = (refl, λ ends. refl)
right_in (suc n) bytes = right_by (taking_in n) bytes (head_of bytes) (right_in n)

pub taking-right : (bytes : List ℕ) → IsRight (taking bytes)
unfolding taking
taking-right bytes = right_in (length bytes) bytes

-- ---- what is left is no longer

abbrev Shortens : Taking → List ℕ → Type 0
Shortens t bytes = length t.rest ≤ length bytes

shortens_request : (w : Result WantValue TargetFault) (keep : Bool) (later : List ℕ → Taking) (rest bytes : List ℕ) → length rest ≤ length bytes
    → Shortens (later rest) rest → Shortens (take_request w keep later rest) bytes
shortens_request (Ok want) keep later rest bytes less ih = less
shortens_request (Err fault) true later rest bytes less ih = omega (arith, less, ih)
shortens_request (Err fault) false later rest bytes less ih = omega arith

shortens_by : (later : List ℕ → Taking) (bytes : List ℕ) (f : HeadValue) → ((rest : List ℕ) → Shortens (later rest) rest) → Shortens (taking_by later bytes f) bytes
shortens_by later bytes Unfinished ih = omega arith
shortens_by later bytes (Fault fault) ih = omega arith
shortens_by later bytes (Whole r) ih =
    shortens_request (wanted r.target) r.keep later (drop r.len bytes) bytes (omega (arith, length-drop r.len bytes)) (ih (drop r.len bytes))

shortens_in : (n : ℕ) (bytes : List ℕ) → Shortens (taking_in n bytes) bytes
shortens_in zero bytes = omega arith
shortens_in (suc n) bytes = shortens_by (taking_in n) bytes (head_of bytes) (shortens_in n)

pub taking-shortens : (bytes : List ℕ) → Shortens (taking bytes) bytes
unfolding taking
taking-shortens bytes = shortens_in (length bytes) bytes
