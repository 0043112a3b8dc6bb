-- No request of a connection is left over: if its session is open and has no want out, its unread bytes hold none.
use Rattle.std.proofs.Common.{◌≡◌, ◌⊎◌, inl, inr, ℕ, zero, suc, ◌+◌, ◌≤◌, ◌==◌, List, [], ◌∷◌, Bool, true, false, Option, Some, None, refl, ap, sym, ◌∙◌, subst, fold, length, arith, if◌then◌else◌}
use Rattle.ll_connection.specs.Turn as connection
use Rattle.ll_connection.specs.Turn.{Connections, left, session_of, with_session}
use Rattle.ll_connection.specs.Visit.{Luck, Visit, arrived, came, enough, hand_all, submit, put_out, released, step, step_by}
use Rattle.ll_connection.proofs.MetLemmas.{pulled_none}
use Rattle.ll_connection.proofs.StepLemmas.{hand_all-is, shrinks, still}
use Rattle.ll_connection.proofs.TurnLemmas.{found, kept_other}
use Rattle.ll_directive.specs.Targets.{WantValue}
use Rattle.ll_script_rooms.specs.declared.owner.Owner.TheVariants.{Get, Connection}
use Rattle.ll_script.specs.declared.act.Act.{Act}
use Rattle.ll_script.specs.declared.act.Act.TheVariants.{Bytes, Drop}
use Rattle.ll_session.specs.Requests.{requests}
use Rattle.ll_session.specs.Talk.{SessionValue, fresh, next_want, pulled}
use Rattle.ll_session.proofs.SplitLemmas.{none_is_left}
use Rattle.ll_verdict.specs.declared.reply.Reply.{Reply}
use Rattle.ll_wire.specs.declared.answer.Answer.TheVariants as player
use Rattle.ll_script_rooms.specs.World as rooms
use Rattle.ll_script_rooms.specs.World.{World, repeat}
use Rattle.ll_script_rooms.specs.declared.answer.ActAnswer as answer
use Rattle.ll_script_rooms.specs.declared.answer.ActAnswer.TheVariants as said
use Rattle.ll_script_rooms.proofs.TieLemmas.{equal, none_some, some_is}
use Rattle.ll_replay.specs.Script.{Script, act, heard, passed_on, start, turned}
use Rattle.ll_script_laws.proofs.ScriptLemmas.{done-keeps, lines-keep}
use Rattle.ll_script_laws.proofs.ServeLemmas.{pulled_on}
use Rattle.ll_script_laws.specs.Talks.{IdleLaw, IsIdle}

-- ---- all requests are handed in

no_bytes : (bytes : List ℕ) → length bytes ≤ 0 → requests bytes ≡ []
unfolding requests
no_bytes [] h = refl
no_bytes (b ∷ bytes) h = absurd (omega (arith, h))

module _ (n : ℕ) where
  -- a further step changes nothing
  record IsDone (v : Visit) : Type 0 where
    still : step enough n v ≡ v
    idle : IsIdle v.session

  last_step : (v : Visit) → next_want v.session ≡ None → IsDone (step enough n v)
  last_step v e = record {
    still = still n v e;
    idle = subst (λ o. IsIdle (step_by enough n (record v { session = pulled v.session }) o).session) (sym e) (λ on out.
        none_is_left v.session (pulled_on v.session on) (sym (pulled_none v.session e) ∙ out) e on);
  }

  handed : (v : Visit) (k : ℕ) → IsDone (repeat (step enough n) k v) ⊎ (length (repeat (step enough n) k v).session.unread + k ≤ length v.session.unread)
  handed v zero = inr (omega arith)
  handed v (suc k) = by (handed v k)
    where
      at : (o : Option WantValue) → next_want (repeat (step enough n) k v).session ≡ o → length (repeat (step enough n) k v).session.unread + k ≤ length v.session.unread
          → IsDone (step enough n (repeat (step enough n) k v)) ⊎ (length (step enough n (repeat (step enough n) k v)).session.unread + suc k ≤ length v.session.unread)
      at None e h = inl (last_step (repeat (step enough n) k v) e)
      at (Some want) e h = inr (omega (arith, shrinks n (repeat (step enough n) k v) want e, h))

      by : IsDone (repeat (step enough n) k v) ⊎ (length (repeat (step enough n) k v).session.unread + k ≤ length v.session.unread)
          → IsDone (step enough n (repeat (step enough n) k v)) ⊎ (length (step enough n (repeat (step enough n) k v)).session.unread + suc k ≤ length v.session.unread)
      by (inl d) = inl (subst IsDone (sym d.still) d)
      by (inr h) = at (next_want (repeat (step enough n) k v).session) refl h

  handed-idle : (v : Visit) → IsIdle (hand_all n v).session
  handed-idle v = subst (λ (u : Visit). IsIdle u.session) (sym (hand_all-is n v)) (by (handed v (length v.session.unread)))
    where
      by : IsDone (repeat (step enough n) (length v.session.unread) v)
          ⊎ (length (repeat (step enough n) (length v.session.unread) v).session.unread + length v.session.unread ≤ length v.session.unread)
          → IsIdle (repeat (step enough n) (length v.session.unread) v).session
      by (inl d) = d.idle
      by (inr h) = λ on out. no_bytes (repeat (step enough n) (length v.session.unread) v).session.unread (omega (arith, h))

  -- with any lucks at first, as the last steps have memory for everything
  pub in-idle : (lucks : List Luck) (v : Visit) → IsIdle (submit lucks n v).session
  in-idle lucks v = handed-idle (fold (λ u luck. step luck n u) v lucks)

  released-idle : (lucks : List Luck) (a : Reply) (v : Visit) → IsIdle (released lucks n a v).session
  released-idle [] a v = in-idle [] (record v { session = put_out true v.session (player.Reply a) })
  released-idle (luck ∷ lucks) a v = in-idle lucks (record v { session = put_out luck.answers v.session (player.Reply a) })

-- ---- all connections

abbrev AreIdle : Connections → Type 0
AreIdle all = (n : ℕ) (s : SessionValue) → session_of n all ≡ Some (Some s) → IsIdle s

with-idle : (n : ℕ) (o : Option SessionValue) (all : Connections) → ((s : SessionValue) → o ≡ Some s → IsIdle s) → AreIdle all → AreIdle (with_session n o all)
with-idle n o all own h m s e = by (n == m) refl
  where
    by : (b : Bool) → (n == m) ≡ b → IsIdle s
    by true f = own s (some_is o (Some s) (sym (found n o all) ∙ ap (λ k. session_of k (with_session n o all)) (equal n m f) ∙ e))
    by false f = h m s (sym (kept_other n m o all f) ∙ e)

left-idle : (s t : SessionValue) → IsIdle s → left s ≡ Some t → IsIdle t
left-idle s t h e = by s.shut e
  where
    by : (b : Bool) → (if b then None else Some (record s { answers = [] })) ≡ Some t → IsIdle t
    by true e = absurd (none_some t e)
    by false e = subst IsIdle (some_is (record s { answers = [] }) t e) h

turn-idle : (n : ℕ) (all : Connections) (v : Visit) → AreIdle all → IsIdle v.session → AreIdle (with_session n (left v.session) all)
turn-idle n all v h idle = with-idle n (left v.session) all (λ t e. left-idle v.session t idle e) h

bytes-idle : (lucks : List Luck) (n : ℕ) (piece : List ℕ) (all : Connections) (w : World) (o : Option (Option SessionValue)) → AreIdle all
    → AreIdle (connection.bytes_to lucks n piece all w o).connections
bytes-idle lucks n piece all w None h =
    let v : Visit = record { session = fresh; rooms = w } in
    turn-idle n all (arrived lucks n piece v) h (in-idle n lucks (came n piece v))
bytes-idle lucks n piece all w (Some None) h = h
bytes-idle lucks n piece all w (Some (Some s)) h =
    let v : Visit = record { session = s; rooms = w } in
    turn-idle n all (arrived lucks n piece v) h (in-idle n lucks (came n piece v))

end-idle : (n : ℕ) (all : Connections) (w : World) (o : Option (Option SessionValue)) → AreIdle all → AreIdle (connection.end_of n all w o).connections
end-idle n all w None h = h
end-idle n all w (Some None) h = h
end-idle n all w (Some (Some s)) h = with-idle n None all (λ t e. absurd (none_some t e)) h

reply-idle : (lucks : List Luck) (n : ℕ) (a : Reply) (all : Connections) (w : World) (o : Option (Option SessionValue)) → AreIdle all
    → AreIdle (connection.reply_to lucks n a all w o).connections
reply-idle lucks n a all w None h = h
reply-idle lucks n a all w (Some None) h = h
reply-idle lucks n a all w (Some (Some s)) h =
    let v : Visit = record { session = s; rooms = w } in
    turn-idle n all (released lucks n a v) h (released-idle n lucks a v)

act-idle : (lucks : List Luck) (w : Script) (a : Act) → AreIdle w.connections → AreIdle (act lucks w a).connections
act-idle lucks w (Bytes n piece) h = bytes-idle lucks n piece w.connections w.rooms (session_of n w.connections) h
act-idle lucks w (Drop n) h = end-idle n w.connections w.rooms (session_of n w.connections) h
act-idle lucks w other h = h

passed-idle : (lucks : List Luck) (w : Script) (list : List answer.ActAnswer) → AreIdle w.connections → AreIdle (fold (passed_on lucks) w list).connections
passed-idle lucks w [] h = h
passed-idle lucks w (said.Replied (Connection n) a ∷ list) h =
    passed-idle lucks (turned w (connection.reply lucks n a w.connections w.rooms)) list (reply-idle lucks n a w.connections w.rooms (session_of n w.connections) h)
passed-idle lucks w (said.Replied (Get id) a ∷ list) h = passed-idle lucks w list h
passed-idle lucks w (said.Accepted count ∷ list) h = passed-idle lucks w list h
passed-idle lucks w (said.Refused reason ∷ list) h = passed-idle lucks w list h
passed-idle lucks w (said.ClockRefused reason ∷ list) h = passed-idle lucks w list h
passed-idle lucks w (said.Unavailable owner ∷ list) h = passed-idle lucks w list h

abbrev Always : List Act → Script → Type 0
Always list w = AreIdle w.connections

pub idle : IdleLaw
idle ls n s e =
    let h =
    lines-keep Always
    (done-keeps Always (λ list lucks w a h. act-idle lucks w a h)
    (λ list place w lucks h. passed-idle lucks (heard w (rooms.next_reply place w.rooms)) (rooms.next_reply place w.rooms).answers h) (λ list w a h. h))
    (λ list w lines ending h. h) [] start ls (λ n s e. absurd (none_some (Some s) e)) in
    h n s e
