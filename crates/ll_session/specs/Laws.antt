-- The laws of connections.
use Rattle.std.specs.Prelude.{◌≡◌, ℕ, List, [], ◌++◌, true, false, None}
use Rattle.ll_session.specs.Requests.{Entry, requests}
use Rattle.ll_session.specs.Talk.{SessionValue, next_want, pulled}
use Rattle.ll_session.specs.Past.{AreUnmuted, Call, HasShut, IsTalk, past}

-- more bytes only add requests
abbrev pub RequestsExtend : Type 0
RequestsExtend = (bytes more : List ℕ) → (later : List Entry) × (requests (bytes ++ more) ≡ requests bytes ++ later)

-- what holds after any calls, in any order
abbrev pub WholeConnections : Type 0
WholeConnections = (calls : List Call) → IsTalk (past calls)

-- if no want is out and none is returned, no request is left, or the session has shut
abbrev pub NoneIsLeft : Type 0
NoneIsLeft = (s : SessionValue) → s.shut ≡ false → s.out ≡ None → next_want s ≡ None → (pulled s).shut ≡ false → requests (pulled s).unread ≡ []

-- why a session that was never muted has shut
abbrev pub UnmutedConnections : Type 0
UnmutedConnections = (calls : List Call) → AreUnmuted calls → (past calls).session.shut ≡ true → HasShut (past calls)
