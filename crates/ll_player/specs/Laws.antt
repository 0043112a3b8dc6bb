-- What the laws of players' connections state.
use Rattle.std.specs.Prelude.{◌≡◌, ◌<◌, ◌≤◌, ◌++◌, ℕ, Bool, true, false, List, [], Option, Some, None, length}
use Rattle.std.specs.Io.KnownBytes.{Appends}
use Rattle.std.specs.List.{concat}
use Rattle.ll_device.specs.Inward.{Inward, looked_at}
use Rattle.ll_device.specs.Written.{AppendsPrefix}
use Rattle.ll_directive.specs.Targets.{WantValue}
use Rattle.ll_hub.specs.Claim.{ClaimValue}
use Rattle.ll_hub.specs.Passes.{PassValue}
use Rattle.ll_player.specs.Playing.{Follows, IsCutShort, IsPlayed, IsPlaying, Moment, Opening, Play, answers_in, moment, wants_in, wants_of}
use Rattle.ll_session.specs.Past.{HasShut, conversation, past}
use Rattle.ll_session.specs.Requests.{Entry, requests}
use Rattle.ll_session.specs.Talk.{fresh, most_waiting}
use Rattle.ll_settings.specs.Settings.{Configuration}

-- a new connection plays
abbrev pub Opens : (ℕ → Type 0) → List Configuration → Type 0
Opens shows hub = (alone : Bool) (o : Opening) → IsPlaying shows hub alone o (moment o.inward o.written fresh None o.pass)

-- if others use its pass between two steps, it still plays
abbrev pub Shares : (ℕ → Type 0) → List Configuration → Type 0
Shares shows hub = (alone : Bool) (o : Opening) (m : Moment) (later : PassValue) → Follows alone m.pass later → IsPlaying shows hub alone o m
    → IsPlaying shows hub alone o (moment m.inward m.written m.session m.claim later)

-- if its player hangs up while a request is held, which is closed then, it still plays
abbrev pub HangsUp : (ℕ → Type 0) → List Configuration → Type 0
HangsUp shows hub = (alone : Bool) (o : Opening) (m : Moment) (claim : ClaimValue) → m.claim ≡ Some claim → IsPlaying shows hub alone o m
    → IsPlaying shows hub alone o (moment (looked_at 0 1 [] m.inward) m.written m.session None m.pass)

-- wherever it is left off, it is cut short
abbrev pub Stops : (ℕ → Type 0) → List Configuration → Type 0
Stops shows hub = (alone : Bool) (o : Opening) (m : Moment) → IsPlaying shows hub alone o m → IsCutShort shows hub alone o m.inward m.written m.pass

-- if its session has shut, this is why
abbrev pub Shuts : (ℕ → Type 0) → List Configuration → Type 0
Shuts shows hub = (alone : Bool) (o : Opening) (m : Moment) → (p : IsPlaying shows hub alone o m) → m.session.shut ≡ true → HasShut (past p.calls)

-- The conversation of a connection: `came` are all bytes that came, `text` what its player gets for them. The first requests in `came` are `entries`;
-- those among them that ask a channel for something were answered as `plays` say, but for at most the last.
pub record IsConversation (came : List ℕ) (plays : List Play) (text : List ℕ) : Type 0 where
  pub entries : List Entry
  pub later : List Entry
  pub first : requests came ≡ entries ++ later
  pub unanswered : List WantValue
  pub asked : wants_of entries ≡ wants_in plays ++ unanswered
  pub few : length unanswered ≤ 1
  pub overflowed : Bool
  pub many : overflowed ≡ true → most_waiting < length came
  pub said : text ≡ concat (conversation overflowed entries (answers_in plays))

-- the conversation was sent, and nothing else: all requests in the bytes that came have their answers, unless too many bytes came after the last one
pub record HasConversed (before after : Inward) (base written : Option (List ℕ)) (plays : List Play) : Type 0 where
  pub reads : ℕ
  pub ends : ℕ
  pub came : List ℕ
  pub read : after ≡ looked_at reads ends came before
  pub text : List ℕ
  pub right : IsConversation came plays text
  pub all : right.overflowed ≡ false → (right.later ≡ []) × (right.unanswered ≡ [])
  pub sent : Appends base written text

-- a prefix of it was sent
pub record HasBegunToConverse (before after : Inward) (base written : Option (List ℕ)) (plays : List Play) : Type 0 where
  pub reads : ℕ
  pub ends : ℕ
  pub came : List ℕ
  pub read : after ≡ looked_at reads ends came before
  pub text : List ℕ
  pub right : IsConversation came plays text
  pub sent : AppendsPrefix base written text

abbrev pub Converses : (ℕ → Type 0) → List Configuration → Type 0
Converses shows hub = (start pass : PassValue) (before after : Inward) (base written : Option (List ℕ)) → (p : IsPlayed shows hub start pass before after base written)
    → p.session.out ≡ None → HasConversed before after base written p.playing.plays

-- so it was on a connection in steps that waits for no reply and has sent all, if it has no whole request left or its session has shut
abbrev pub ConversesInSteps : (ℕ → Type 0) → List Configuration → Type 0
ConversesInSteps shows hub = (alone : Bool) (o : Opening) (m : Moment) → (p : IsPlaying shows hub alone o m) → m.claim ≡ None → m.session.out ≡ None
    → m.session.answers ≡ [] → (m.session.shut ≡ false → requests m.session.unread ≡ []) → HasConversed o.inward m.inward o.written m.written p.plays

abbrev pub BeginsToConverse : (ℕ → Type 0) → List Configuration → Type 0
BeginsToConverse shows hub = (alone : Bool) (o : Opening) (inward : Inward) (written : Option (List ℕ)) (pass : PassValue)
    → (c : IsCutShort shows hub alone o inward written pass) → HasBegunToConverse o.inward inward o.written written c.plays
