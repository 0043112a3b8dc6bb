-- The requests in some bytes, and in more bytes.
use Rattle.std.proofs.Common.{◌≡◌, ℕ, zero, suc, ◌<◌, ◌≤◌, inl, inr, List, [], ◌∷◌, ◌++◌, Bool, true, false, refl, ap, ◌∙◌, sym, arith, length, length-drop, drop}
use Rattle.std.specs.Prelude.{if◌then◌else◌}
use Rattle.std.proofs.lemmas.List.{drop-append-le, nil_from_length}
use Rattle.ll_wire.specs.Heads.{HeadValue, Unfinished, Whole, Fault, RequestValue, head_of}
use Rattle.ll_wire.proofs.HeadLemmas.{head-stays, nothing_there, whole-within}
use Rattle.ll_session.specs.Requests.{Entry, entry_of, requests, requests_in, requests_by}

none_in : (n : ℕ) → requests_in n [] ≡ []
none_in zero = refl
none_in (suc n) = ap (requests_by (requests_in n) []) nothing_there

pub less_after : (bytes : List ℕ) (r : RequestValue) → head_of bytes ≡ Whole r → length (drop r.len bytes) < length bytes
less_after bytes r e = let within = whole-within bytes r e in omega (arith, length-drop r.len bytes, within.0, within.1)

same_by : (f g : List ℕ → List Entry) (bytes : List ℕ) (front : HeadValue) → head_of bytes ≡ front
    → ((rest : List ℕ) → length rest < length bytes → f rest ≡ g rest) → requests_by f bytes front ≡ requests_by g bytes front
same_by f g bytes Unfinished e same = refl
same_by f g bytes (Fault fault) e same = refl
same_by f g bytes (Whole r) e same = ap (λ (l : List Entry). entry_of r ∷ (if r.keep then l else [])) (same (drop r.len bytes) (less_after bytes r e))

-- as many heads as there are bytes are enough
enough : (n m : ℕ) (bytes : List ℕ) → length bytes ≤ n → length bytes ≤ m → requests_in n bytes ≡ requests_in m bytes
enough zero m bytes le less =
    let none : bytes ≡ [] = nil_from_length bytes (omega arith) in
    rw none (sym (none_in m))
enough (suc n) zero bytes le less =
    let none : bytes ≡ [] = nil_from_length bytes (omega arith) in
    rw none (none_in (suc n))
enough (suc n) (suc m) bytes le less =
    same_by (requests_in n) (requests_in m) bytes (head_of bytes) refl (λ rest lt. enough n m rest (omega arith) (omega arith))

-- the first head, and the requests after it
pub requests-front : (bytes : List ℕ) → requests bytes ≡ requests_by requests bytes (head_of bytes)
unfolding requests
requests-front [] = ap (requests_by requests []) (sym nothing_there)
requests-front (b ∷ bytes) =
    same_by (requests_in (length bytes)) requests (b ∷ bytes) (head_of (b ∷ bytes)) refl
    (λ rest lt. enough (length bytes) (length rest) rest (omega arith) (omega arith))

pub requests_at : (bytes : List ℕ) (f : HeadValue) → head_of bytes ≡ f → requests bytes ≡ requests_by requests bytes f
requests_at bytes f e = requests-front bytes ∙ ap (requests_by requests bytes) e

-- what is no longer unfinished stays, whatever follows
pub stays_at : (bytes more : List ℕ) (f : HeadValue) → head_of bytes ≡ f → (f ≡ Unfinished → ⊥) → head_of (bytes ++ more) ≡ f
stays_at bytes more f e definite =
    elim (head-stays bytes more) [
      | inl waits ↦ absurd (definite (sym e ∙ waits))
      | inr same ↦ same ∙ e
    ]

-- the requests in these bytes and more, at a fault and at a request
pub faulty_with : (bytes more : List ℕ) (f : HeadValue) → head_of bytes ≡ f → (f ≡ Unfinished → ⊥)
    → requests (bytes ++ more) ≡ requests_by requests (bytes ++ more) f
faulty_with bytes more f e definite = requests_at (bytes ++ more) f (stays_at bytes more f e definite)

pub request_with : (bytes more : List ℕ) (r : RequestValue) → head_of bytes ≡ Whole r
    → requests (bytes ++ more) ≡ entry_of r ∷ (if r.keep then requests (drop r.len bytes ++ more) else [])
request_with bytes more r e =
    let within = whole-within bytes r e in
    faulty_with bytes more (Whole r) e (λ u. cc)
    ∙ ap (λ (l : List ℕ). entry_of r ∷ (if r.keep then requests l else [])) (drop-append-le r.len bytes more within.1)

-- ---- what was read stays

abbrev Extends : List ℕ → List ℕ → Type 0
Extends bytes more = (later : List Entry) × (requests (bytes ++ more) ≡ requests bytes ++ later)

extends_keep : (keep : Bool) (e : Entry) (rest more : List ℕ) → Extends rest more
    → (later : List Entry) × (e ∷ (if keep then requests (rest ++ more) else []) ≡ (e ∷ (if keep then requests rest else [])) ++ later)
extends_keep true e rest more ih = (ih.0, ap (λ (l : List Entry). e ∷ l) ih.1)
extends_keep false e rest more ih = ([], refl)

extends_by : (bytes more : List ℕ) (f : HeadValue) → head_of bytes ≡ f → ((rest : List ℕ) → length rest < length bytes → Extends rest more) → Extends bytes more
extends_by bytes more Unfinished e ih = (requests (bytes ++ more), ap (λ (l : List Entry). l ++ requests (bytes ++ more)) (sym (requests_at bytes Unfinished e)))
extends_by bytes more (Fault fault) e ih =
    ([], faulty_with bytes more (Fault fault) e (λ u. cc) ∙ ap (λ (l : List Entry). l ++ []) (sym (requests_at bytes (Fault fault) e)))
extends_by bytes more (Whole r) e ih =
    let tail = extends_keep r.keep (entry_of r) (drop r.len bytes) more (ih (drop r.len bytes) (less_after bytes r e)) in (
      tail.0,
      request_with bytes more r e ∙ tail.1 ∙ ap (λ (l : List Entry). l ++ tail.0) (sym (requests_at bytes (Whole r) e)),
    )

extends_in : (n : ℕ) (bytes more : List ℕ) → length bytes ≤ n → Extends bytes more
extends_in zero bytes more le =
    extends_by bytes more (head_of bytes) refl (λ rest lt. absurd (omega arith))
extends_in (suc n) bytes more le =
    extends_by bytes more (head_of bytes) refl (λ rest lt. extends_in n rest more (omega arith))

pub requests-extend : (bytes more : List ℕ) → (later : List Entry) × (requests (bytes ++ more) ≡ requests bytes ++ later)
requests-extend bytes more = extends_in (length bytes) bytes more (omega arith)
