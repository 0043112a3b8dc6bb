-- How a step changes a visit, and that as many steps as there are bytes are enough. The facts for other files:
--   is_taken                            what is taken from some bytes and from more, and what is left
--   prefixed; came-, hand_all-prefixed   answers that were there before stay in front
--   still-shut, still                   if no want is given, a further step changes nothing
--   fewer                               if a want is given, fewer bytes are left
--   hand_all-is, -step, -still           steps that are made before all others, or that change nothing
use Rattle.std.proofs.Common.{◌≡◌, ℕ, zero, suc, ◌+◌, ◌<◌, ◌≤◌, ◌⊎◌, inl, inr, List, [], ◌∷◌, ◌++◌, Bool, true, false, Option, Some, None, refl, ap, ◌∙◌, sym, subst, arith, length, drop, append_assoc, append-nil, fold}
use Rattle.std.proofs.lemmas.List.{drop-append-le, nil_from_length}
use Rattle.ll_directive.specs.Targets.{WantValue}
use Rattle.ll_session.specs.Requests.{wanted}
use Rattle.ll_session.specs.Talk.{SessionValue, Taking, next_want, nothing_in, pulled, replied, take_request, taking, taking_by}
use Rattle.ll_session.proofs.RequestLemmas.{less_after, stays_at}
use Rattle.ll_session.proofs.TakingLemmas.{taking_at}
use Rattle.ll_wire.specs.Heads.{HeadValue, Unfinished, Whole, Fault, head_of}
use Rattle.ll_wire.specs.declared.answer.Answer.{Answer}
use Rattle.ll_wire.proofs.HeadLemmas.{nothing_there, whole-within}
use Rattle.ll_script_rooms.specs.World.{World, repeat}
use Rattle.ll_connection.specs.Visit.{Luck, Visit, answered_by, asked, came, enough, hand_all, submit, put_out, step}

-- ---- what is taken

-- the taking if more bytes follow
abbrev pub with_more_by : Bool → Option (WantValue × Bool) → Taking → List ℕ → Taking
with_more_by true want t more = t
with_more_by false (Some want) t more = record t { rest = t.rest ++ more }
with_more_by false None t more = record (taking (t.rest ++ more)) { passed = t.passed ++ (taking (t.rest ++ more)).passed }

abbrev pub with_more : Taking → List ℕ → Taking
with_more t more = with_more_by t.ends t.want t more

-- `t` was taken from these bytes: if more bytes follow, `with_more` is taken; if no want is given and no refusal ends it, nothing more
-- is taken from what is left; a want takes at least one byte
pub record IsTaken (bytes : List ℕ) (t : Taking) : Type 0 where
  pub more : (more : List ℕ) → taking (bytes ++ more) ≡ with_more t more
  pub rests : t.ends ≡ false → t.want ≡ None → taking t.rest ≡ nothing_in t.rest
  pub shortens : (want : WantValue × Bool) → t.want ≡ Some want → length t.rest < length bytes

taken_by : (bytes : List ℕ) (f : HeadValue) → head_of bytes ≡ f → ((rest : List ℕ) → length rest < length bytes → IsTaken rest (taking rest))
    → IsTaken bytes (taking_by taking bytes f)
taken_by bytes Unfinished e ih = record { more = λ more. refl; rests = λ ends none. taking_at bytes Unfinished (sym e); shortens = λ want is. cc }
taken_by bytes (Fault fault) e ih = record {
  more = λ more. taking_at (bytes ++ more) (Fault fault) (sym (stays_at bytes more (Fault fault) e (λ u. cc)));
  rests = λ ends none. cc;
  shortens = λ want is. cc;
}
taken_by bytes (Whole r) e ih =
    let lt = less_after bytes r e in
    let after = ih (drop r.len bytes) lt in
    record {
      more = λ more.
          taking_at (bytes ++ more) (Whole r) (sym (stays_at bytes more (Whole r) e (λ u. cc)))
          ∙ ap (take_request (wanted r.target) r.keep taking) (drop-append-le r.len bytes more (whole-within bytes r e).1)
          ∙ grind (arith, after.more more);
      rests = λ ends none. grind (arith, after.rests);
      shortens = λ want is. grind (arith, after.shortens);
    }

taken_in : (n : ℕ) (bytes : List ℕ) → length bytes < n → IsTaken bytes (taking bytes)
taken_in zero bytes lt = absurd (omega arith)
taken_in (suc n) bytes lt =
    subst (IsTaken bytes) (sym (taking_at bytes (head_of bytes) refl)) (taken_by bytes (head_of bytes) refl (λ rest less. taken_in n rest (omega arith)))

pub is_taken : (bytes : List ℕ) → IsTaken bytes (taking bytes)
is_taken bytes = taken_in (length bytes + 1) bytes (omega arith)

-- if a want is given and answered, fewer bytes are left
pub fewer : (s : SessionValue) (want : WantValue) (a : Answer) → next_want s ≡ Some want → length (replied (pulled s) a).unread < length s.unread
fewer s want a e = grind (arith, (is_taken s.unread).shortens)

pub fewer_out : (s : SessionValue) (want : WantValue) (found : Bool) (a : Answer) → next_want s ≡ Some want → length (put_out found (pulled s) a).unread < length s.unread
fewer_out s want found a e = grind (arith, (is_taken s.unread).shortens)

-- these answers before those of a visit's session
abbrev pub prefixed : List (List ℕ) → Visit → Visit
prefixed before v = record v { session = record v.session { answers = before ++ v.session.answers } }

module _ (n : ℕ) where
  -- ---- answers that were there before

  pub came-prefixed : (before : List (List ℕ)) (piece : List ℕ) (v : Visit) → came n piece (prefixed before v) ≡ prefixed before (came n piece v)
  came-prefixed before piece v = grind (arith, append_assoc {A = List ℕ})

  pub step-prefixed : (luck : Luck) (before : List (List ℕ)) (v : Visit) → step luck n (prefixed before v) ≡ prefixed before (step luck n v)
  step-prefixed luck before v = grind (arith, append_assoc {A = List ℕ})

  pub all-prefixed : (lucks : List Luck) (before : List (List ℕ)) (v : Visit)
      → fold (λ u luck. step luck n u) (prefixed before v) lucks ≡ prefixed before (fold (λ u luck. step luck n u) v lucks)
  all-prefixed [] before v = refl
  all-prefixed (luck ∷ lucks) before v = ap (λ (u : Visit). fold (λ u luck. step luck n u) u lucks) (step-prefixed luck before v) ∙ all-prefixed lucks before (step luck n v)

  steps-prefixed : (before : List (List ℕ)) (k : ℕ) (v : Visit) → repeat (step enough n) k (prefixed before v) ≡ prefixed before (repeat (step enough n) k v)
  steps-prefixed before zero v = refl
  steps-prefixed before (suc k) v = ap (step enough n) (steps-prefixed before k v) ∙ step-prefixed enough before (repeat (step enough n) k v)

  -- ---- a step after which none is given

  pub still-shut : (v : Visit) → v.session.shut ≡ true → step enough n v ≡ v
  still-shut v is = rw is

  pub still : (v : Visit) → next_want v.session ≡ None → step enough n (step enough n v) ≡ step enough n v
  still v e = grind (arith, append-nil {A = List ℕ}, (is_taken v.session.unread).rests)

  pub still_any : (luck : Luck) (v : Visit) → next_want v.session ≡ None → step luck n (step enough n v) ≡ step enough n v
  still_any luck v e = grind (arith, append-nil {A = List ℕ}, (is_taken v.session.unread).rests)

  pub still_shut : (luck : Luck) (v : Visit) → v.session.shut ≡ true → step luck n v ≡ v
  still_shut luck v e = grind (arith, e)

  -- ---- a step after which fewer bytes are left

  answered_short : (a : Option Answer) (s : SessionValue) (w : World) → length (answered_by true n s w a).session.unread ≤ length s.unread
  answered_short a s w = grind (arith, append-nil {A = ℕ})

  pub shrinks : (v : Visit) (want : WantValue) → next_want v.session ≡ Some want → length (step enough n v).session.unread < length v.session.unread
  shrinks v want e =
      let a = asked true n want v.rooms in
      let less : length (pulled v.session).unread < length v.session.unread = grind (arith, (is_taken v.session.unread).shortens) in
      rw e (omega (arith, answered_short a.answer (pulled v.session) a.rooms, less))

  -- ---- as many steps as there are bytes are enough

  either : (v : Visit) → (step enough n (step enough n v) ≡ step enough n v) ⊎ (length (step enough n v).session.unread < length v.session.unread)
  either v = by (next_want v.session) refl
    where
      by : (want : Option WantValue) → next_want v.session ≡ want → (step enough n (step enough n v) ≡ step enough n v) ⊎ (length (step enough n v).session.unread < length v.session.unread)
      by None e = inl (still v e)
      by (Some want) e = inr (shrinks v want e)

  no_bytes : (v : Visit) → length v.session.unread ≤ 0 → step enough n v ≡ v
  no_bytes v le =
      let e = nil_from_length v.session.unread (omega arith) in
      let nothing : taking v.session.unread ≡ nothing_in v.session.unread = ap taking e ∙ taking_at [] Unfinished (sym nothing_there) ∙ ap nothing_in (sym e) in
      grind (arith, append-nil {A = List ℕ})

  abbrev steps : ℕ → Visit → Visit
  steps k v = repeat (step enough n) k v

  first_step : (k : ℕ) (v : Visit) → steps (suc k) v ≡ steps k (step enough n v)
  first_step zero v = refl
  first_step (suc k) v = ap (step enough n) (first_step k v)

  steps_still : (k : ℕ) (v : Visit) → step enough n v ≡ v → steps k v ≡ v
  steps_still zero v e = refl
  steps_still (suc k) v e = ap (step enough n) (steps_still k v e) ∙ e

  -- if one step is all
  one_step : (k : ℕ) (v : Visit) → step enough n (step enough n v) ≡ step enough n v → steps (suc k) v ≡ step enough n v
  one_step k v e = first_step k v ∙ steps_still k (step enough n v) e

  suffices : (k m : ℕ) (v : Visit) → length v.session.unread ≤ k → length v.session.unread ≤ m → steps k v ≡ steps m v
  suffices zero m v le less = sym (steps_still m v (no_bytes v le))
  suffices (suc k) zero v le less = steps_still (suc k) v (no_bytes v less)
  suffices (suc k) (suc m) v le less =
      elim (either v) [
        | inl e ↦ one_step k v e ∙ sym (one_step m v e)
        | inr lt ↦ first_step k v ∙ suffices k m (step enough n v) (omega (arith, lt)) (omega (arith, lt)) ∙ sym (first_step m v)
      ]

  after_step : (k : ℕ) (v : Visit) → length v.session.unread ≤ k → steps (suc k) v ≡ steps (length (step enough n v).session.unread) (step enough n v)
  after_step k v le =
      elim (either v) [
        | inl once ↦ one_step k v once ∙ sym (steps_still (length (step enough n v).session.unread) (step enough n v) once)
        | inr lt ↦ first_step k v ∙ suffices k (length (step enough n v).session.unread) (step enough n v) (omega (arith, lt)) (omega arith)
      ]

pub hand_all-prefixed : (n : ℕ) (before : List (List ℕ)) (v : Visit) → hand_all n (prefixed before v) ≡ prefixed before (hand_all n v)
unfolding hand_all
hand_all-prefixed n before v = steps-prefixed n before (length v.session.unread) v

pub hand_all-is : (n : ℕ) (v : Visit) → hand_all n v ≡ repeat (step enough n) (length v.session.unread) v
unfolding hand_all
hand_all-is n v = refl

pub hand_all-step : (n : ℕ) (v : Visit) → hand_all n v ≡ hand_all n (step enough n v)
unfolding hand_all
hand_all-step n v =
    let k = length v.session.unread in
    suffices n k (suc k) v (omega arith) (omega arith) ∙ after_step n k v (omega arith)

pub hand_all-still : (n : ℕ) (v : Visit) → step enough n v ≡ v → hand_all n v ≡ v
unfolding hand_all
hand_all-still n v e = steps_still n (length v.session.unread) v e

pub submit-prefixed : (n : ℕ) (lucks : List Luck) (before : List (List ℕ)) (v : Visit) → submit lucks n (prefixed before v) ≡ prefixed before (submit lucks n v)
submit-prefixed n lucks before v = ap (hand_all n) (all-prefixed n lucks before v) ∙ hand_all-prefixed n before (fold (λ u luck. step luck n u) v lucks)
