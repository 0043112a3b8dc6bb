-- The state of a session, and how each call changes it.
use Rattle.std.specs.Prelude.{ℕ, zero, suc, List, [], ◌∷◌, ◌++◌, Bool, true, false, Option, Some, None, Result, Ok, Err, nat_lt, length, drop, if◌then◌else◌}
use Rattle.std.specs.List.{flat_map}
use Rattle.ll_directive.specs.Targets.{WantValue}
use Rattle.ll_directive.specs.declared.fault.TargetFault.{TargetFault}
use Rattle.ll_wire.specs.Heads.{HeadValue, Unfinished, Whole, Fault, head_of}
use Rattle.ll_wire.specs.Response.{response_bytes}
use Rattle.ll_wire.specs.declared.fault.HeadFault.TheVariants.{HeadTooLarge}
use Rattle.ll_wire.specs.declared.answer.Answer.{Answer}
use Rattle.ll_wire.specs.declared.answer.Answer.TheVariants as answer
use Rattle.ll_session.specs.Requests.{Entry, Wanted, Refused, Faulty, wanted}
use Rattle.ll_session.specs.Output.{unsent}

-- the bytes that weren't taken yet; the answers that weren't sent yet, of which the first may have lost its first bytes; whether the
-- connection is kept after the want that is out, if one is; whether the session has shut
pub record SessionValue : Type 0 where
  pub unread : List ℕ
  pub answers : List (List ℕ)
  pub out : Option Bool
  pub shut : Bool

abbrev pub fresh : SessionValue
fresh = record { unread = []; answers = []; out = None; shut = false }

-- the last answer is put out
abbrev pub shuts : SessionValue → List ℕ → SessionValue
shuts s text = record { unread = []; answers = s.answers ++ text ∷ []; out = None; shut = true }

-- ---- bytes come

-- the most bytes that wait while a want is out
abbrev pub most_waiting : ℕ
most_waiting = 16384

abbrev pub overflow : List ℕ
overflow = response_bytes (answer.Head HeadTooLarge) false

abbrev pub fed_to : Bool → SessionValue → List ℕ → SessionValue
fed_to true s bytes = shuts s overflow
fed_to false s bytes = record s { unread = bytes }

abbrev pub fed_by : Bool → Option Bool → SessionValue → List ℕ → SessionValue
fed_by true out s piece = s
fed_by false None s piece = record s { unread = s.unread ++ piece }
fed_by false (Some keep) s piece = fed_to (nat_lt most_waiting (length (s.unread ++ piece))) s (s.unread ++ piece)

-- after bytes came. If a want is out and too many bytes wait, HeadTooLarge is put out in place of its answer, and the session shuts (rule 29)
abbrev pub fed : SessionValue → List ℕ → SessionValue
fed s piece = fed_by s.shut s.out s piece

-- ---- requests are taken

-- what is taken from the front of some bytes: entries that are refused, and then at most one want; the bytes that follow; whether a
-- refusal ended the connection
pub record Taking : Type 0 where
  pub passed : List Entry
  pub rest : List ℕ
  pub want : Option (WantValue × Bool)
  pub ends : Bool

abbrev pub nothing_in : List ℕ → Taking
nothing_in bytes = record { passed = []; rest = bytes; want = None; ends = false }

abbrev pub passing : Entry → Taking → Taking
passing e t = record t { passed = e ∷ t.passed }

abbrev pub ending : Taking
ending = record { passed = []; rest = []; want = None; ends = true }

abbrev pub take_request : Result WantValue TargetFault → Bool → (List ℕ → Taking) → List ℕ → Taking
take_request (Ok want) keep later rest = record { passed = []; rest = rest; want = Some (want, keep); ends = false }
take_request (Err fault) keep later rest = passing (Refused fault keep) (if keep then later rest else ending)

abbrev pub taking_by : (List ℕ → Taking) → List ℕ → HeadValue → Taking
taking_by later bytes Unfinished = nothing_in bytes
taking_by later bytes (Fault fault) = passing (Faulty fault) ending
taking_by later bytes (Whole r) = take_request (wanted r.target) r.keep later (drop r.len bytes)

-- what is taken of at most `n` heads
abbrev pub taking_in : ℕ → List ℕ → Taking
taking_in zero bytes = nothing_in bytes
taking_in (suc n) bytes = taking_by (taking_in n) bytes (head_of bytes)

unfoldable pub taking : List ℕ → Taking
taking bytes = taking_in (length bytes) bytes

abbrev pub given : Option (WantValue × Bool) → List Entry
given None = []
given (Some want) = Wanted want.0 want.1 ∷ []

-- all that was taken, in order
abbrev pub entries_of : Taking → List Entry
entries_of t = t.passed ++ given t.want

-- the answer to an entry, if it is refused
abbrev pub refusal : Entry → List (List ℕ)
refusal (Wanted want keep) = []
refusal (Refused fault keep) = response_bytes (answer.Target fault) keep ∷ []
refusal (Faulty fault) = response_bytes (answer.Head fault) false ∷ []

abbrev pub refusals : List Entry → List (List ℕ)
refusals entries = flat_map refusal entries

abbrev pub kept_of : Option (WantValue × Bool) → Option Bool
kept_of None = None
kept_of (Some want) = Some want.1

abbrev pub pulled_to : SessionValue → Taking → SessionValue
pulled_to s t = record { unread = t.rest; answers = s.answers ++ refusals t.passed; out = kept_of t.want; shut = t.ends }

abbrev pub pulled_by : Bool → Option Bool → SessionValue → SessionValue
pulled_by true out s = s
pulled_by false (Some keep) s = s
pulled_by false None s = pulled_to s (taking s.unread)

-- after the next want was taken, and the requests before it that are refused were answered
abbrev pub pulled : SessionValue → SessionValue
pulled s = pulled_by s.shut s.out s

abbrev pub first_of : Option (WantValue × Bool) → Option WantValue
first_of None = None
first_of (Some want) = Some want.0

abbrev pub want_by : Bool → Option Bool → List ℕ → Option WantValue
want_by true out bytes = None
want_by false (Some keep) bytes = None
want_by false None bytes = first_of (taking bytes).want

-- the want that is returned
abbrev pub next_want : SessionValue → Option WantValue
next_want s = want_by s.shut s.out s.unread

-- ---- answers

abbrev pub replied_by : Option Bool → SessionValue → Answer → SessionValue
replied_by None s a = s
replied_by (Some true) s a = record s { answers = s.answers ++ response_bytes a true ∷ []; out = None }
replied_by (Some false) s a = shuts s (response_bytes a false)

-- after the want that is out was answered; the session shuts if the connection isn't kept (rule 29)
abbrev pub replied : SessionValue → Answer → SessionValue
replied s a = replied_by s.out s a

-- after the caller was out of memory: nothing more is taken or put out, and the session shuts
abbrev pub muted : SessionValue → SessionValue
muted s = record s { unread = []; out = None; shut = true }

-- after `n` bytes were sent
abbrev pub sent : SessionValue → ℕ → SessionValue
sent s n = record s { answers = unsent n s.answers }
