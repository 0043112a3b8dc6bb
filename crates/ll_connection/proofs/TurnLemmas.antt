-- The connections with one session taken out and put back, and the result of a turn.
use Rattle.std.proofs.Common.{◌≡◌, ℕ, ◌++◌, List, [], ◌∷◌, Bool, false, Option, Some, None, refl, ap, ◌∙◌, subst, arith, is_some}
use Rattle.std.specs.Prelude.{◌==◌, if◌then◌else◌, nat_eq}
use Rattle.std.specs.Map.{set_value}
use Rattle.std.proofs.lemmas.Bool.Decides.{nat_tests}
use Rattle.indexmap.specs.IndexMap.{IndexMap, insert_entry}
use Rattle.ll_session.specs.Talk.{SessionValue}
use Rattle.ll_verdict.specs.declared.reply.Reply.{Reply}
use Rattle.ll_script_rooms.specs.Kept.{Kept, kept_world}
use Rattle.ll_script_rooms.specs.World.{World}
use Rattle.ll_connection.specs.Stands.{IsToldVisit, IsTurn, open_in, opened}
use Rattle.ll_connection.specs.Turn.{Connections, Turn, bytes_to, end_of, left, nothing, reply_to, session_of, shut_text, turn, with_session}
use Rattle.ll_connection.specs.Visit.{Luck, Visit, arrived}
use Rattle.ll_connection.specs.declared.sent.Sent.{Sent}

abbrev pub Slot : Type 0
Slot = Option SessionValue

-- the connections without the session of this number
abbrev pub taken_out : ℕ → Connections → Connections
taken_out n all = set_value (λ m. n == m) all None

pub put_is : (n : ℕ) (s : Slot) (all : Connections) → insert_entry nat_eq all n s ≡ with_session n s all
put_is n s [] = refl
put_is n s (c ∷ all) = ap (λ (l : Connections). if n == c.0 then (c.0, s) ∷ all else c ∷ l) (put_is n s all)

pub same_entries : {K X S : Type 0} (m n : IndexMap K X S) → m ≡ n → m.entries ≡ n.entries
same_entries {K} {X} {S} m n e = ap (λ (x : IndexMap K X S). x.entries) e

-- ---- the session of a number

module _ (n : ℕ) where
  -- what was put there is there
  pub found : (s : Slot) (all : Connections) → session_of n (with_session n s all) ≡ Some s
  found s [] = grind (arith, nat_tests)
  found s (c ∷ all) = grind (arith, nat_tests, found s all)

  -- and nothing else changes
  pub kept_other : (m : ℕ) (s : Slot) (all : Connections) → (n == m) ≡ false → session_of m (with_session n s all) ≡ session_of m all
  kept_other m s [] f = grind (arith, nat_tests, f)
  kept_other m s (c ∷ all) f = grind (arith, nat_tests, f, kept_other m s all f)

  -- of two sessions the later one stays
  pub twice : (s t : Slot) (all : Connections) → with_session n t (with_session n s all) ≡ with_session n t all
  twice s t [] = grind (arith, nat_tests)
  twice s t (c ∷ all) = grind (arith, nat_tests, twice s t all)

  -- it is taken out, and another is put back
  put_back : (s : Slot) (all : Connections) → with_session n s (taken_out n all) ≡ with_session n s all
  put_back s [] = refl
  put_back s (c ∷ all) = grind (arith, nat_tests, put_back s all)

  -- where the number stands, it has no session
  pub there : (x : Slot) (all : Connections) → session_of n all ≡ Some x → taken_out n all ≡ with_session n None all
  there x [] e = cc
  there x (c ∷ all) e = grind (arith, nat_tests, there x all)

  -- if none is open, nothing changes
  pub stays : (all : Connections) → open_in (session_of n all) ≡ None → taken_out n all ≡ all
  stays [] e = refl
  stays (c ∷ all) e = grind (arith, nat_tests, stays all)

-- ---- what stands under a number

pub open_is : (o : Option Slot) (s : SessionValue) → open_in o ≡ Some s → o ≡ Some (Some s)
open_is o s e = grind arith

pub none_opened : (o : Option Slot) → opened o ≡ None → o ≡ Some None
none_opened o e = grind arith

pub is_opened : (lucks : List Luck) (n : ℕ) (piece : List ℕ) (all : Connections) (w : World) (o : Option Slot) (s : SessionValue) → opened o ≡ Some s
    → turn n all (arrived lucks n piece (record { session = s; rooms = w })) ≡ bytes_to lucks n piece all w o
is_opened lucks n piece all w o s e = grind arith

pub none_ends : (n : ℕ) (all : Connections) (w : World) (o : Option Slot) → open_in o ≡ None → nothing all w ≡ end_of n all w o
none_ends n all w o e = grind arith

pub none_replied : (lucks : List Luck) (n : ℕ) (reply : Reply) (all : Connections) (w : World) (o : Option Slot) → open_in o ≡ None → nothing all w ≡ reply_to lucks n reply all w o
none_replied lucks n reply all w o e = grind arith

-- ---- the result of a turn

-- if no session is open, nothing changes
pub still_turn : (n : ℕ) (all new : Connections) (k : Kept) (sent : Sent) (w : World) (t : Turn) → new ≡ taken_out n all → open_in (session_of n all) ≡ None
    → k ≡ kept_world w → sent.text.items ≡ [] → sent.replies ≡ 0 → nothing all w ≡ t → IsTurn new k sent t
still_turn n all new k sent w t out none rooms text replies is =
    subst (IsTurn new k sent) is (record { connections = out ∙ stays n all none; rooms = rooms; text = text; replies = replies })

-- a connection came to a visit, and its session was put back
pub turned : (n m : ℕ) (all out new : Connections) (v : Visit) (s : SessionValue) (k : Kept) (none sent last : Sent) (t : Turn) → m ≡ n → out ≡ taken_out n all
    → none.text.items ≡ [] → none.replies ≡ 0 → IsToldVisit n none sent s k v → new ≡ with_session m (if s.shut then None else Some s) out
    → last.text.items ≡ sent.text.items ++ shut_text s.shut m → last.replies ≡ sent.replies → turn n all v ≡ t → IsTurn new k last t
turned n m all out new v s k none sent last t same is text replies told put texts counts ends = subst (IsTurn new k last) ends (record {
  connections = rw (put, same, is, told.session) (put_back n (left v.session) all);
  rooms = told.rooms;
  text = rw (texts, same, told.told.text, text, told.session);
  replies = omega (arith, counts, replies, told.told.replies (omega (arith, replies)));
})

pub none_found : {X : Type 0} (o : Option X) (b : Bool) → b ≡ is_some o → b ≡ false → o ≡ None
none_found o b e f = grind arith
