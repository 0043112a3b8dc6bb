-- The numbers of requests of a connection that wait, and of wants of its session that are out.
use Rattle.std.specs.Prelude.{◌≡◌, ℕ, List, Option, Some, None, Bool, filter, length}
use Rattle.ll_script_rooms.specs.Waits.{is_of}
use Rattle.ll_script_rooms.specs.declared.owner.Owner.TheVariants.{Connection}
use Rattle.ll_script_rooms.specs.declared.wait.Wait.{Wait}
use Rattle.ll_session.specs.Talk.{SessionValue}
use Rattle.ll_connection.specs.Turn.{Connections, session_of}

-- the number of requests of connection `n` that wait
abbrev pub waiting_of : ℕ → List Wait → ℕ
waiting_of n waits = length (filter (is_of (Connection n)) waits)

abbrev pub outs : Option Bool → ℕ
outs None = 0
outs (Some keep) = 1

-- the number of wants of a session that are out: one or none
abbrev pub wants_out : Option (Option SessionValue) → ℕ
wants_out None = 0
wants_out (Some None) = 0
wants_out (Some (Some s)) = outs s.out

-- each connection has as many requests that wait as its session has wants out
abbrev pub AreMatched : List Wait → Connections → Type 0
AreMatched waits all = (n : ℕ) → waiting_of n waits ≡ wants_out (session_of n all)
