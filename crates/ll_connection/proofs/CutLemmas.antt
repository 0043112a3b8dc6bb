-- Wherever the bytes of a connection are cut, they have the same effect, and the same is written.
use Rattle.std.proofs.Common.{◌≡◌, ℕ, zero, suc, ◌⊎◌, inl, inr, List, [], ◌++◌, true, Option, Some, None, refl, ap, ◌∙◌, sym, arith, length, length-append, append_assoc, append-nil, flat_map}
use Rattle.std.proofs.lemmas.Bool.Decides.{nat_tests}
use Rattle.std.proofs.lemmas.Grind.{flat_map-append}
use Rattle.ll_script.specs.Answers.{sent_line}
use Rattle.ll_session.specs.Talk.{SessionValue, fresh, refusal}
use Rattle.ll_session.proofs.SplitLemmas.{taking-right}
use Rattle.ll_script_rooms.specs.World.{World, repeat}
use Rattle.ll_connection.specs.Laws.{both}
use Rattle.ll_connection.specs.Turn.{Connections, bytes, bytes_to, left, session_of, turn, with_session}
use Rattle.ll_connection.specs.Visit.{Visit, arrived, came, enough, hand_all, step}
use Rattle.ll_connection.proofs.StepLemmas.{came-prefixed, hand_all-is, hand_all-prefixed, hand_all-step, hand_all-still, is_taken, prefixed, still-shut}
use Rattle.ll_connection.proofs.TurnLemmas.{found, twice}

module _ (n : ℕ) where
  -- two pieces come without a step between them
  came_twice : (v : Visit) (first second : List ℕ) → came n second (came n first v) ≡ came n (first ++ second) v
  came_twice v first second = grind (arith, nat_tests, append_assoc {A = ℕ}, length-append {A = ℕ})

  -- a step, and then more bytes
  step_then : (v : Visit) (more : List ℕ)
      → (step enough n (came n more v) ≡ came n more (step enough n v)) ⊎ (step enough n (came n more v) ≡ step enough n (came n more (step enough n v)))
  step_then v more =
      let longer = (is_taken v.session.unread).more more in
      let right = (taking-right v.session.unread).1 in
      grind (arith, nat_tests, longer, right, append-nil {A = ℕ}, append_assoc {A = List ℕ}, length-append {A = ℕ}, flat_map-append refusal)

  -- a step before more bytes come doesn't change the result
  step_first : (v : Visit) (more : List ℕ) → hand_all n (came n more (step enough n v)) ≡ hand_all n (came n more v)
  step_first v more =
      elim (step_then v more) [
        | inl e ↦ ap (hand_all n) (sym e) ∙ sym (hand_all-step n (came n more v))
        | inr e ↦ hand_all-step n (came n more (step enough n v)) ∙ ap (hand_all n) (sym e) ∙ sym (hand_all-step n (came n more v))
      ]

  steps_first : (k : ℕ) (v : Visit) (more : List ℕ) → hand_all n (came n more (repeat (step enough n) k v)) ≡ hand_all n (came n more v)
  steps_first zero v more = refl
  steps_first (suc k) v more = step_first (repeat (step enough n) k v) more ∙ steps_first k v more

-- bytes that come in two pieces have the same effect as in one
pub pieces : (n : ℕ) (v : Visit) (first second : List ℕ) → arrived [] n second (arrived [] n first v) ≡ arrived [] n (first ++ second) v
pieces n v first second =
    let c = came n first v in
    ap (λ (x : Visit). hand_all n (came n second x)) (hand_all-is n c)
    ∙ steps_first n (length c.session.unread) c second
    ∙ ap (hand_all n) (came_twice n v first second)

-- one that has shut takes no bytes
shut_arrived : (n : ℕ) (piece : List ℕ) (v : Visit) → v.session.shut ≡ true → arrived [] n piece v ≡ v
shut_arrived n piece v e =
    let same : came n piece v ≡ v = rw e in
    ap (hand_all n) same ∙ hand_all-still n v (still-shut n v e)

-- answers that were sent before stay in front of those of the next bytes
arrived-prefixed : (n : ℕ) (piece : List ℕ) (before : List (List ℕ)) (v : Visit) → arrived [] n piece (prefixed before v) ≡ prefixed before (arrived [] n piece v)
arrived-prefixed n piece before v = ap (hand_all n) (came-prefixed n before piece v) ∙ hand_all-prefixed n before (came n piece v)

module _ (n : ℕ) (all : Connections) where
  -- answers are sent, and then those of another visit
  open_then : (x : Visit) (answers : List (List ℕ)) (s : Option SessionValue) (w : World)
      → both (record { connections = with_session n s all; rooms = w; text = flat_map (sent_line n) answers ++ []; replies = length answers })
      (turn n (with_session n s all) x)
      ≡ turn n all (prefixed answers x)
  open_then x answers s w =
      grind (arith, append-nil {A = ℕ}, append_assoc {A = ℕ}, length-append {A = List ℕ}, flat_map-append (sent_line n) answers, twice n s (left x.session) all)

  -- a turn, and then more bytes
  turn_then : (v : Visit) (second : List ℕ) → both (turn n all v) (bytes [] n second (turn n all v).connections v.rooms) ≡ turn n all (arrived [] n second v)
  turn_then v second =
      let u : Visit = record { session = record v.session { answers = [] }; rooms = v.rooms } in
      let later = open_then (arrived [] n second u) v.session.answers (left v.session) v.rooms in
      rw (found n (left v.session) all)
      (grind (arith, append-nil {A = ℕ}, append-nil {A = List ℕ}, shut_arrived n second v, arrived-prefixed n second v.session.answers u, later))

  turns_by : (w : World) (first second : List ℕ) (o : Option (Option SessionValue)) → session_of n all ≡ o
      → both (bytes_to [] n first all w o) (bytes [] n second (bytes_to [] n first all w o).connections (bytes_to [] n first all w o).rooms)
      ≡ bytes_to [] n (first ++ second) all w o
  turns_by w first second None e =
      let v : Visit = record { session = fresh; rooms = w } in
      turn_then (arrived [] n first v) second ∙ ap (turn n all) (pieces n v first second)
  turns_by w first second (Some None) e = rw e
  turns_by w first second (Some (Some s)) e =
      let v : Visit = record { session = s; rooms = w } in
      turn_then (arrived [] n first v) second ∙ ap (turn n all) (pieces n v first second)

-- the same of all connections, with what is written and the number of answers
pub turns : (n : ℕ) (all : Connections) (w : World) (first second : List ℕ)
    → both (bytes [] n first all w) (bytes [] n second (bytes [] n first all w).connections (bytes [] n first all w).rooms) ≡ bytes [] n (first ++ second) all w
turns n all w first second = turns_by n all w first second (session_of n all) refl
