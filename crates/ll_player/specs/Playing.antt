-- A player's connection: the requests that came on it, and the answer to each.
use Rattle.std.specs.Prelude.{◌≡◌, ◌⊎◌, ◌≤◌, ℕ, ⊤, Bool, true, false, List, [], ◌∷◌, ◌++◌, Option, Some, None, fold, length, map}
use Rattle.std.specs.Io.KnownBytes.{Appends}
use Rattle.std.specs.List.{flat_map}
use mathlib.Core.List.{IsPrefix}
use Rattle.ll_device.specs.Inward.{Inward, looked_at}
use Rattle.ll_directive.specs.Targets.{WantValue}
use Rattle.ll_hub.specs.Calls.{HasSeen}
use Rattle.ll_hub.specs.Claim.{ClaimValue}
use Rattle.ll_hub.specs.Passes.{PassValue}
use Rattle.ll_player.specs.Asking.{IsHeldNow, IsReplyTo, IsToldNow}
use Rattle.ll_session.specs.Past.{AreUnmuted, Call, HasShut, past}
use Rattle.ll_session.specs.Requests.{Entry, Wanted, Refused, Faulty}
use Rattle.ll_player.specs.Reading.{IsDrained}
use Rattle.ll_service.specs.Reads.{HasEnded}
use Rattle.ll_session.specs.Talk.{SessionValue}
use Rattle.ll_settings.specs.Settings.{Configuration}
use Rattle.ll_wire.specs.declared.answer.Answer.{Answer}

-- ---- the answers

-- What happened to a pass between two of a connection's requests. If the pass is the connection's alone, it has at most seen more of the hub's
-- history; if others use it too, they have also counted and noted what they got, and the history has only grown.
abbrev pub Follows : (alone : Bool) → (before after : PassValue) → Type 0
Follows true before after = HasSeen before after
Follows false before after = IsPrefix before.history after.history

-- a request that was made, its answer, and the pass before the one and after the other
pub record Play : Type 0 where
  pub want : WantValue
  pub told : Answer
  pub before : PassValue
  pub after : PassValue

-- The answer is right for a request: NotFound if the hub has no channel of its name; the reply that its channel gives at once, after all that the
-- caller had seen; why that takes no request; or the reply by which the channel decides a request that had to wait, later in the same history.
pub data IsAnswerTo (shows : ℕ → Type 0) (hub : List Configuration) (alone : Bool) (want : WantValue) (before after : PassValue) (told : Answer) : Type 0 where
  Now : IsToldNow shows hub want before after told → IsAnswerTo shows hub alone want before after told
  Later : (claim : ClaimValue) (asked since : PassValue) → IsHeldNow shows hub want before asked claim → Follows alone asked since
      → IsReplyTo hub claim since after told → IsAnswerTo shows hub alone want before after told

-- each request got a right answer, after those before it
abbrev pub AreRight : (ℕ → Type 0) → List Configuration → Bool → PassValue → List Play → Type 0
AreRight shows hub alone pass [] = ⊤
AreRight shows hub alone pass (p ∷ more) =
    Follows alone pass p.before × IsAnswerTo shows hub alone p.want p.before p.after p.told × AreRight shows hub alone p.after more

-- the pass after all of them
abbrev pub last_pass : PassValue → List Play → PassValue
last_pass pass plays = fold (λ (before : PassValue) (p : Play). p.after) pass plays

abbrev pub wants_in : List Play → List WantValue
wants_in plays = map (λ (p : Play). p.want) plays

abbrev pub answers_in : List Play → List Answer
answers_in plays = map (λ (p : Play). p.told) plays

abbrev pub want_of : Entry → List WantValue
want_of (Wanted want keep) = want ∷ []
want_of (Refused fault keep) = []
want_of (Faulty fault) = []

-- the requests among the entries that ask a channel for something
abbrev pub wants_of : List Entry → List WantValue
wants_of entries = flat_map want_of entries

-- ---- a connection while it is served

-- a connection's pass, and how its link was, before its first request
pub record Opening : Type 0 where
  pub pass : PassValue
  pub inward : Inward
  pub written : Option (List ℕ)

-- a connection between two of its steps: its link, its session, the claim to the reply of its request that is held, and its pass
pub record Moment : Type 0 where
  pub inward : Inward
  pub written : Option (List ℕ)
  pub session : SessionValue
  pub claim : Option ClaimValue
  pub pass : PassValue

abbrev pub moment : Inward → Option (List ℕ) → SessionValue → Option ClaimValue → PassValue → Moment
moment inward written session claim pass = record { inward = inward; written = written; session = session; claim = claim; pass = pass }

-- Of the requests `asked`, the first are `answered`, and at most one is left, the last: it is held; or it gets no answer, because the player has hung
-- up (`ends` counts that), or because too many bytes came after it (`over`), and the session has shut (rules 29 and 30).
pub data IsLeft (shows : ℕ → Type 0) (hub : List Configuration) (alone : Bool) (last pass : PassValue) (ends : ℕ) (out : Option Bool) (shut over : Bool)
    (claim : Option ClaimValue) (asked answered : List WantValue) : Type 0 where
  All : claim ≡ None → out ≡ None → asked ≡ answered → Follows alone last pass → IsLeft shows hub alone last pass ends out shut over claim asked answered
  Held : (want : WantValue) (keep : Bool) (c : ClaimValue) (before after : PassValue) → claim ≡ Some c → out ≡ Some keep → asked ≡ answered ++ want ∷ []
      → Follows alone last before → IsHeldNow shows hub want before after c → Follows alone after pass
      → IsLeft shows hub alone last pass ends out shut over claim asked answered
  Gone : (want : WantValue) (keep : Bool) → claim ≡ None → out ≡ Some keep → 1 ≤ ends → asked ≡ answered ++ want ∷ [] → IsPrefix last.history pass.history
      → IsLeft shows hub alone last pass ends out shut over claim asked answered
  Shut : (want : WantValue) → claim ≡ None → shut ≡ true → over ≡ true → asked ≡ answered ++ want ∷ [] → IsPrefix last.history pass.history
      → IsLeft shows hub alone last pass ends out shut over claim asked answered

-- All bytes that came were fed to the session. The requests in them that it gave were answered in their order, each by one answer that is right for
-- it, but for the last, if that is left. What was written is what the session has sent, and nothing else. The session was never muted: nothing was
-- dropped of what came or was put out.
pub record IsPlaying (shows : ℕ → Type 0) (hub : List Configuration) (alone : Bool) (o : Opening) (m : Moment) : Type 0 where
  -- the calls on the session
  pub calls : List Call
  pub unmuted : AreUnmuted calls
  pub session : (past calls).session ≡ m.session
  pub reads : ℕ
  pub ends : ℕ
  pub read : m.inward ≡ looked_at reads ends (past calls).fed o.inward
  pub plays : List Play
  pub told : (past calls).replies ≡ answers_in plays
  pub right : AreRight shows hub alone o.pass plays
  pub left : IsLeft shows hub alone (last_pass o.pass plays) m.pass ends m.session.out m.session.shut (past calls).overflowed m.claim (wants_of (past calls).entries)
      (wants_in plays)
  pub sent : Appends o.written m.written (past calls).gone

-- ---- to its end

-- The connection was ended by its player, or by its session, which has shut: after too many bytes, or after a head that is refused or the answer to a
-- request that doesn't keep it. All that was put out was sent, and no request is left, unless the session has shut; but if the player has hung up
-- while its last request was held, that has no answer.
pub record IsPlayed (shows : ℕ → Type 0) (hub : List Configuration) (start pass : PassValue) (before after : Inward) (base written : Option (List ℕ)) : Type 0 where
  pub session : SessionValue
  pub playing : IsPlaying shows hub true (record { pass = start; inward = before; written = base }) (moment after written session None pass)
  pub over : ((session.shut ≡ true) × HasShut (past playing.calls)) ⊎ HasEnded before after
  pub drained : IsDrained session

-- The connection was cut off. A prefix of the bytes that came was fed to the session; the first requests in it were answered, each by one answer that
-- is right for it; at most one more was taken, and has no answer. What was written is what the session has sent, and nothing else.
pub record IsCutShort (shows : ℕ → Type 0) (hub : List Configuration) (alone : Bool) (o : Opening) (inward : Inward) (written : Option (List ℕ)) (pass : PassValue) : Type 0 where
  pub calls : List Call
  pub unmuted : AreUnmuted calls
  pub reads : ℕ
  pub ends : ℕ
  pub untaken : List ℕ
  pub read : inward ≡ looked_at reads ends ((past calls).fed ++ untaken) o.inward
  pub plays : List Play
  pub told : (past calls).replies ≡ answers_in plays
  pub right : AreRight shows hub alone o.pass plays
  pub unanswered : List WantValue
  pub asked : wants_of (past calls).entries ≡ wants_in plays ++ unanswered
  pub few : length unanswered ≤ 1
  pub passed : IsPrefix (last_pass o.pass plays).history pass.history
  pub sent : Appends o.written written (past calls).gone
