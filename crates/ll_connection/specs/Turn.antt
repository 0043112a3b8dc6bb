-- All connections of a script: what changes if bytes, a reply or the end comes to one of them, and what is written for it.
use Rattle.std.specs.Prelude.{ℕ, ◌==◌, List, [], ◌∷◌, ◌++◌, Bool, true, false, Option, Some, None, flat_map, if◌then◌else◌, length}
use Rattle.std.specs.Map.{lookup}
use Rattle.ll_script_rooms.specs.declared.owner.Owner.TheVariants.{Connection}
use Rattle.ll_script.specs.Answers.{sent_line, shut_line}
use Rattle.ll_session.specs.Talk.{SessionValue, fresh}
use Rattle.ll_verdict.specs.declared.reply.Reply.{Reply}
use Rattle.ll_script_rooms.specs.World.{World, close}
use Rattle.ll_connection.specs.Visit.{Luck, Visit, arrived, released}

-- the connections by number, in order of opening; one that has ended has no session
abbrev pub Connections : Type 0
Connections = List (ℕ × Option SessionValue)

-- the session of number `n`, if it was opened; inside that, `None` if it has ended
abbrev pub session_of : ℕ → Connections → Option (Option SessionValue)
session_of n all = lookup (λ m. n == m) all

-- with session `s` in place of the one of number `n`, or after the others if there is none
abbrev pub with_session : ℕ → Option SessionValue → Connections → Connections
with_session n s [] = (n, s) ∷ []
with_session n s (c ∷ all) = if n == c.0 then (c.0, s) ∷ all else c ∷ with_session n s all

-- the connections and the channels after something came to a connection, what is written for it, and the number of answers in that
pub record Turn : Type 0 where
  pub connections : Connections
  pub rooms : World
  pub text : List ℕ
  pub replies : ℕ

abbrev pub nothing : Connections → World → Turn
nothing all w = record { connections = all; rooms = w; text = []; replies = 0 }

abbrev pub shut_text : Bool → ℕ → List ℕ
shut_text true n = shut_line n
shut_text false n = []

-- each answer, and then whether the session has shut
abbrev pub told : ℕ → SessionValue → List ℕ
told n s = flat_map (sent_line n) s.answers ++ shut_text s.shut n

-- the session once its answers were sent; one that has shut has ended
abbrev pub left : SessionValue → Option SessionValue
left s = if s.shut then None else Some (record s { answers = [] })

abbrev pub turn : ℕ → Connections → Visit → Turn
turn n all v = record {
  connections = with_session n (left v.session) all;
  rooms = v.rooms;
  text = told n v.session;
  replies = length v.session.answers;
}

-- a new number opens a connection; one that has ended takes no bytes
abbrev pub bytes_to : List Luck → ℕ → List ℕ → Connections → World → Option (Option SessionValue) → Turn
bytes_to lucks n piece all w None = turn n all (arrived lucks n piece (record { session = fresh; rooms = w }))
bytes_to lucks n piece all w (Some None) = nothing all w
bytes_to lucks n piece all w (Some (Some s)) = turn n all (arrived lucks n piece (record { session = s; rooms = w }))

-- the bytes `piece` came on connection `n`
abbrev pub bytes : List Luck → ℕ → List ℕ → Connections → World → Turn
bytes lucks n piece all w = bytes_to lucks n piece all w (session_of n all)

abbrev pub end_of : ℕ → Connections → World → Option (Option SessionValue) → Turn
end_of n all w None = nothing all w
end_of n all w (Some None) = nothing all w
end_of n all w (Some (Some s)) = nothing (with_session n None all) (close (Connection n) w)

-- connection `n` ended: its request is closed if one waits, and nothing is written
abbrev pub end : ℕ → Connections → World → Turn
end n all w = end_of n all w (session_of n all)

abbrev pub reply_to : List Luck → ℕ → Reply → Connections → World → Option (Option SessionValue) → Turn
reply_to lucks n reply all w None = nothing all w
reply_to lucks n reply all w (Some None) = nothing all w
reply_to lucks n reply all w (Some (Some s)) = turn n all (released lucks n reply (record { session = s; rooms = w }))

-- the request of connection `n` that waited gets its reply
abbrev pub reply : List Luck → ℕ → Reply → Connections → World → Turn
reply lucks n answer all w = reply_to lucks n answer all w (session_of n all)
