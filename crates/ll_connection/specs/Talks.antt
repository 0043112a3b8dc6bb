-- The calls on a connection's session in one turn, and what is sent on the connection.
use Rattle.std.specs.Prelude.{◌≡◌, ℕ, List, [], ◌++◌, false, Some, None, flat_map, fold, if◌then◌else◌}
use Rattle.std.specs.List.{concat}
use Rattle.ll_script.specs.Answers.{sent_line}
use Rattle.ll_session.specs.Past.{Call, Past, called}
use Rattle.ll_verdict.specs.declared.reply.Reply.{Reply}
use Rattle.ll_script_rooms.specs.World.{World}
use Rattle.ll_connection.specs.Stands.{opened}
use Rattle.ll_connection.specs.Turn.{Connections, Turn, bytes, reply, session_of, shut_text, with_session}
use Rattle.ll_connection.specs.Visit.{Luck}

-- connection `n` is open or new: its session is that of its past `p`, and all its answers are sent
pub record IsTalking (n : ℕ) (all : Connections) (p : Past) : Type 0 where
  pub session : opened (session_of n all) ≡ Some p.session
  pub sent : p.session.answers ≡ []
  pub going : p.session.shut ≡ false

-- A turn results in calls on the session of connection `n`. The bytes `more` were taken; the answers that were put out are sent and
-- written; if the session has shut, that is written too.
pub record IsTalked (n : ℕ) (p : Past) (more : List ℕ) (all : Connections) (t : Turn) : Type 0 where
  pub calls : List Call
  pub answers : List (List ℕ)
  pub fed : (fold called p calls).fed ≡ p.fed ++ more
  pub gone : (fold called p calls).gone ≡ p.gone ++ concat answers
  pub sent : (fold called p calls).session.answers ≡ []
  pub kept : t.connections ≡ with_session n (if (fold called p calls).session.shut then None else Some (fold called p calls).session) all
  pub text : t.text ≡ flat_map (sent_line n) answers ++ shut_text (fold called p calls).session.shut n

-- bytes, and a reply, that come to a connection that hasn't ended, with any luck
abbrev pub TalkLaw : Type 0
TalkLaw = (n : ℕ) (all : Connections) (w : World) (p : Past) → IsTalking n all p
    → ((piece : List ℕ) (lucks : List Luck) → IsTalked n p piece all (bytes lucks n piece all w))
    × ((a : Reply) (lucks : List Luck) → session_of n all ≡ Some (Some p.session) → IsTalked n p [] all (reply lucks n a all w))
