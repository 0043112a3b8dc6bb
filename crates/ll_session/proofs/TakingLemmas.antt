-- What is taken from the front of some bytes, one head after another.
use Rattle.std.proofs.Common.{◌≡◌, ◌≢◌, ℕ, zero, suc, ◌<◌, ◌≤◌, List, [], ◌∷◌, ◌++◌, Bool, true, false, Some, refl, ap, ◌∙◌, sym, subst, arith, append_assoc, drop, length}
use Rattle.std.specs.Prelude.{Result, Ok, Err}
use Rattle.std.proofs.lemmas.List.{nil_from_length}
use Rattle.ll_directive.specs.Targets.{WantValue}
use Rattle.ll_directive.specs.declared.fault.TargetFault.{TargetFault}
use Rattle.ll_wire.specs.Heads.{HeadValue, Unfinished, Whole, Fault, RequestValue, head_of}
use Rattle.ll_wire.specs.declared.fault.HeadFault.{HeadFault}
use Rattle.ll_wire.proofs.HeadLemmas.{nothing_there}
use Rattle.ll_session.specs.Requests.{Entry, Refused, Faulty, wanted}
use Rattle.ll_session.specs.Talk.{Taking, entries_of, taking, taking_in, taking_by, take_request, nothing_in, passing, ending, refusal, refusals}
use Rattle.ll_session.specs.Told.{AddsUp}
use Rattle.ll_session.proofs.RequestLemmas.{less_after}

-- ---- the first head

same_request : (w : Result WantValue TargetFault) (keep : Bool) (f g : List ℕ → Taking) (rest : List ℕ) → f rest ≡ g rest
    → take_request w keep f rest ≡ take_request w keep g rest
same_request (Ok want) keep f g rest e = refl
same_request (Err fault) true f g rest e = ap (passing (Refused fault true)) e
same_request (Err fault) false f g rest e = refl

same_by : (f g : List ℕ → Taking) (bytes : List ℕ) (front : HeadValue) → head_of bytes ≡ front
    → ((rest : List ℕ) → length rest < length bytes → f rest ≡ g rest) → taking_by f bytes front ≡ taking_by g bytes front
same_by f g bytes Unfinished e same = refl
same_by f g bytes (Fault fault) e same = refl
same_by f g bytes (Whole r) e same = same_request (wanted r.target) r.keep f g (drop r.len bytes) (same (drop r.len bytes) (less_after bytes r e))

none_in : (n : ℕ) → taking_in n [] ≡ nothing_in []
none_in zero = refl
none_in (suc n) = ap (taking_by (taking_in n) []) nothing_there

-- as many heads as there are bytes are enough
enough : (n m : ℕ) (bytes : List ℕ) → length bytes ≤ n → length bytes ≤ m → taking_in n bytes ≡ taking_in m bytes
enough zero m bytes le less =
    let none : bytes ≡ [] = nil_from_length bytes (omega arith) in
    rw none (sym (none_in m))
enough (suc n) zero bytes le less =
    let none : bytes ≡ [] = nil_from_length bytes (omega arith) in
    rw none (none_in (suc n))
enough (suc n) (suc m) bytes le less =
    same_by (taking_in n) (taking_in m) bytes (head_of bytes) refl (λ rest lt. enough n m rest (omega arith) (omega arith))

taking-front : (bytes : List ℕ) → taking bytes ≡ taking_by taking bytes (head_of bytes)
unfolding taking
taking-front [] = ap (taking_by taking []) (sym nothing_there)
taking-front (b ∷ bytes) =
    same_by (taking_in (length bytes)) taking (b ∷ bytes) (head_of (b ∷ bytes)) refl
    (λ rest lt. enough (length bytes) (length rest) rest (omega arith) (omega arith))

pub taking_at : (bytes : List ℕ) (f : HeadValue) → f ≡ head_of bytes → taking bytes ≡ taking_by taking bytes f
taking_at bytes f e = taking-front bytes ∙ ap (taking_by taking bytes) (sym e)

-- ---- one head after another

-- a request that is refused was answered
adds_passing : (all : Taking) (told text : List (List ℕ)) (e : Entry) (t : Taking) → refusal e ≡ text → AddsUp all told (passing e t) → AddsUp all (told ++ text) t
adds_passing all told text e t is a = record {
  said = ap (λ x. (told ++ x) ++ refusals t.passed) (sym is) ∙ append_assoc told (refusal e) (refusals t.passed) ∙ a.said;
  rest = a.rest;
  want = a.want;
  ends = a.ends;
}

module _ (all : Taking) (told : List (List ℕ)) (bytes rest : List ℕ) (same : rest ≡ bytes) (so_far : AddsUp all told (taking bytes)) where
  here : (f : HeadValue) → f ≡ head_of rest → AddsUp all told (taking_by taking bytes f)
  here f is = subst (AddsUp all told) (taking_at bytes f (is ∙ ap head_of same)) so_far

  pub at_part : Unfinished ≡ head_of rest → AddsUp all told (nothing_in bytes)
  at_part is = here Unfinished is

  pub at_fault : (fault : HeadFault) → Fault fault ≡ head_of rest → AddsUp all (told ++ refusal (Faulty fault)) ending
  at_fault fault is = adds_passing all told (refusal (Faulty fault)) (Faulty fault) ending refl (here (Fault fault) is)

  at_request : (r : RequestValue) (w : Result WantValue TargetFault) (keep : Bool) → Whole r ≡ head_of rest → wanted r.target ≡ w → r.keep ≡ keep
      → AddsUp all told (take_request w keep taking (drop r.len bytes))
  at_request r w keep is reads keeps =
      subst (λ (k : Bool). AddsUp all told (take_request w k taking (drop r.len bytes))) keeps
      (subst (λ (v : Result WantValue TargetFault). AddsUp all told (take_request v r.keep taking (drop r.len bytes))) reads (here (Whole r) is))

  pub at_want : (r : RequestValue) (want : WantValue) → Whole r ≡ head_of rest → Ok want ≡ wanted r.target
      → AddsUp all told (record { passed = []; rest = drop r.len bytes; want = Some (want, r.keep); ends = false })
  at_want r want is reads = at_request r (Ok want) r.keep is (sym reads) refl

  -- a request is refused, and is the last
  pub at_last : (r : RequestValue) (fault : TargetFault) → Whole r ≡ head_of rest → Err fault ≡ wanted r.target → r.keep ≡ false
      → AddsUp all (told ++ refusal (Refused fault false)) ending
  at_last r fault is reads last =
      adds_passing all told (refusal (Refused fault false)) (Refused fault false) ending refl (at_request r (Err fault) false is (sym reads) last)

  -- a request is refused, and more follow
  pub at_refused : (r : RequestValue) (fault : TargetFault) → Whole r ≡ head_of rest → Err fault ≡ wanted r.target → r.keep ≡ true
      → AddsUp all (told ++ refusal (Refused fault true)) (taking (drop r.len bytes))
  at_refused r fault is reads kept =
      adds_passing all told (refusal (Refused fault true)) (Refused fault true) (taking (drop r.len bytes)) refl (at_request r (Err fault) true is (sym reads) kept)

-- ---- whether anything is taken

pub none_taken : (bytes : List ℕ) → Unfinished ≡ head_of bytes → taking bytes ≡ nothing_in bytes
none_taken bytes e = taking_at bytes Unfinished e

some_request : (w : Result WantValue TargetFault) (keep : Bool) (later : List ℕ → Taking) (rest : List ℕ) → entries_of (take_request w keep later rest) ≢ []
some_request (Ok want) keep later rest e = cc
some_request (Err fault) true later rest e = cc
some_request (Err fault) false later rest e = cc

pub some_taken : (bytes : List ℕ) (f : HeadValue) → f ≡ head_of bytes → f ≢ Unfinished → entries_of (taking bytes) ≢ []
some_taken bytes Unfinished e not none = not refl
some_taken bytes (Fault fault) e not none = let is = taking_at bytes (Fault fault) e in cc
some_taken bytes (Whole r) e not none =
    some_request (wanted r.target) r.keep taking (drop r.len bytes) (ap entries_of (sym (taking_at bytes (Whole r) e)) ∙ none)
