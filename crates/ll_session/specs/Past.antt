-- All calls of a session, and what they result in.
use Rattle.std.specs.Prelude.{◌≡◌, ◌≢◌, ◌⊎◌, ℕ, List, [], ◌∷◌, ◌++◌, Bool, true, false, ◌||◌, Option, Some, None, ◌<◌, nat_lt, length, take, fold, if◌then◌else◌}
use Rattle.std.specs.List.{All, concat}
use Rattle.ll_wire.specs.Response.{response_bytes}
use Rattle.ll_wire.specs.declared.answer.Answer.{Answer}
use Rattle.ll_wire.specs.declared.answer.Answer.TheVariants as answer
use Rattle.ll_session.specs.Requests.{Entry, Wanted, Refused, Faulty, keeps, requests}
use Rattle.ll_session.specs.Output.{unsent}
use Rattle.ll_session.specs.Talk.{SessionValue, fresh, fed, muted, pulled, replied, sent, taking, entries_of, overflow, most_waiting}

-- a call that changes a session: `feed`, `next_want`, `answered`, `mute`, `sent`. One that fails changes nothing, and is left out
pub data Call : Type 0 where
  Feed : List ℕ → Call
  Next : Call
  Reply : Answer → Call
  Mute : Call
  Send : ℕ → Call

-- the session; the bytes that it took in; the wants that it returned and the requests that it refused; the answers that it was given;
-- the bytes that were sent; whether too many bytes came while a want was out
pub record Past : Type 0 where
  pub session : SessionValue
  pub fed : List ℕ
  pub entries : List Entry
  pub replies : List Answer
  pub gone : List ℕ
  pub overflowed : Bool

abbrev pub before_any : Past
before_any = record { session = fresh; fed = []; entries = []; replies = []; gone = []; overflowed = false }

-- a session that has shut takes no bytes
abbrev pub taken_by : Bool → List ℕ → List ℕ → List ℕ
taken_by true before piece = before
taken_by false before piece = before ++ piece

abbrev pub overflows_by : Bool → Option Bool → List ℕ → Bool
overflows_by true out bytes = false
overflows_by false None bytes = false
overflows_by false (Some keep) bytes = nat_lt most_waiting (length bytes)

abbrev pub overflows : SessionValue → List ℕ → Bool
overflows s piece = overflows_by s.shut s.out (s.unread ++ piece)

abbrev pub next_by : Bool → Option Bool → List ℕ → List Entry
next_by true out bytes = []
next_by false (Some keep) bytes = []
next_by false None bytes = entries_of (taking bytes)

abbrev pub next_entries : SessionValue → List Entry
next_entries s = next_by s.shut s.out s.unread

-- an answer can't be given if no want is out
abbrev pub reply_by : Option Bool → Past → Answer → Past
reply_by None p a = p
reply_by (Some keep) p a = record p { session = replied p.session a; replies = p.replies ++ a ∷ [] }

abbrev pub called : Past → Call → Past
called p (Feed piece) = record p {
  session = fed p.session piece;
  fed = taken_by p.session.shut p.fed piece;
  overflowed = p.overflowed || overflows p.session piece;
}
called p Next = record p { session = pulled p.session; entries = p.entries ++ next_entries p.session }
called p (Reply a) = reply_by p.session.out p a
called p Mute = record p { session = muted p.session }
called p (Send n) = record p { session = sent p.session n; gone = p.gone ++ take n (concat p.session.answers) }

abbrev pub past : List Call → Past
past calls = fold called before_any calls

-- what is put out for the entries, in their order, with the answers that were given to the wants. If too many bytes came while a want
-- was out, HeadTooLarge is put out in place of its answer
abbrev pub conversation : Bool → List Entry → List Answer → List (List ℕ)
conversation overflowed [] replies = []
conversation overflowed (Faulty fault ∷ entries) replies = response_bytes (answer.Head fault) false ∷ conversation overflowed entries replies
conversation overflowed (Refused fault keep ∷ entries) replies = response_bytes (answer.Target fault) keep ∷ conversation overflowed entries replies
conversation overflowed (Wanted want keep ∷ entries) (a ∷ replies) = response_bytes a keep ∷ conversation overflowed entries replies
conversation overflowed (Wanted want keep ∷ entries) [] = if overflowed then overflow ∷ [] else []

-- what holds after any calls (rule 29)
pub record IsTalk (p : Past) : Type 0 where
  -- the wants that were returned and the requests that were refused are the first of the requests in the bytes
  pub first : (later : List Entry) × (requests p.fed ≡ p.entries ++ later)
  -- what was sent, and after it what wasn't, is the answers to them
  pub answers : p.gone ++ concat p.session.answers ≡ concat (conversation p.overflowed p.entries p.replies)
  -- the answers that aren't sent are the last of these
  pub unsent : p.session.answers ≡ unsent (length p.gone) (conversation p.overflowed p.entries p.replies)
  -- more bytes came than may wait, if too many did
  pub many : p.overflowed ≡ true → most_waiting < length p.fed
  -- the requests after these are those in the bytes that weren't taken, if no want is out and the session hasn't shut
  pub rest : p.session.shut ≡ false → p.session.out ≡ None → requests p.fed ≡ p.entries ++ requests p.session.unread

-- ---- a session that is never muted

abbrev pub AreUnmuted : List Call → Type 0
AreUnmuted calls = All (λ c. c ≢ Mute) calls

-- the connection isn't kept after the last of the entries, which are all requests in the bytes
pub record IsLastOf (bytes : List ℕ) (entries : List Entry) : Type 0 where
  pub first : List Entry
  pub last : Entry
  pub is : entries ≡ first ++ last ∷ []
  pub ends : keeps last ≡ false
  pub all : requests bytes ≡ entries

-- why it has shut: too many bytes came while a want was out; or a head was refused, or a request was answered that doesn't keep the connection, and
-- nothing after it is a request (rule 29)
abbrev pub HasShut : Past → Type 0
HasShut p = (p.overflowed ≡ true) ⊎ IsLastOf p.fed p.entries
