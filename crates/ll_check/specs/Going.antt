-- How a record that is read in pieces is gone over, to its end or to an entry.
use Rattle.std.specs.Prelude.{◌≡◌, ◌+◌, ◌<◌, ◌≤◌, ◌⊎◌, ℕ, List, [], ◌∷◌, ◌++◌, Option, None, Ok, Some, false, length}
use Rattle.ll_attr.specs.Words.{pieces_at}
use Rattle.ll_check.specs.EntryReplies.{Brings, brought}
use Rattle.ll_check.specs.Found.{ChainValue, so_far}
use Rattle.ll_check.specs.Steps.{has_entry, reached}
use Rattle.ll_check.specs.declared.going.Reached.{Reached}
use Rattle.ll_check.specs.declared.going.Reached.TheVariants.{End, Entry}
use Rattle.ll_check.specs.declared.replies.EntryReply.{EntryReply}
use Rattle.ll_check.specs.declared.source.RecordFault.{RecordFault}
use Rattle.ll_check.specs.declared.source.RecordFault.TheVariants.{Wrong, Unread}
use Rattle.ll_entry.specs.Chain.{Between, Chain, Inside, Position, checked, entries, with_line}

-- the entry with this number comes after the first `n`, or there is none with that number
abbrev pub IsAhead : ℕ → ℕ → Type 0
IsAhead entry n = (entry ≡ 0) ⊎ (n < entry)

-- A line is that of the entry with the number `entry`. The lines before it are right and lead to a chain, after which this holds; it is right
-- after them, and has this reply.
pub record IsFound (holds : Position → List (List ℕ) → Type 0) (entry : ℕ) (lines : List (List ℕ)) (found : EntryReply) : Type 0 where
  pub passed : List (List ℕ)
  pub rest : List ℕ
  pub stands : lines ≡ passed ++ found.line ∷ pieces_at 10 rest
  pub before : Chain
  pub leads : reached (Between None) passed ≡ Some (Inside before)
  pub place : entries (Some before) + 1 ≡ entry
  pub now : Chain
  pub right : with_line before found.line ≡ Ok now
  pub brings : found.reply ≡ brought before found.line
  pub held : holds (Inside before) (found.line ∷ pieces_at 10 rest)

-- a record is right and has no entry with this number, and this holds after its last line; or the entry is found
abbrev pub HasGone : (Position → List (List ℕ) → Type 0) → ℕ → List ℕ → Reached → Type 0
HasGone holds entry bytes (End n) = (checked bytes ≡ Ok n) × IsAhead entry n × ((before : Option Chain) × holds (Between before) (pieces_at 10 []))
HasGone holds entry bytes (Entry found) = IsFound holds entry (pieces_at 10 bytes) found

-- an entry is found only if there is one to look for
abbrev pub IsSought : ℕ → Reached → Type 0
IsSought entry (End n) = Unit
IsSought entry (Entry found) = 1 ≤ entry

-- nothing is found wrong after the entry that is looked for
abbrev pub IsEarly : ℕ → RecordFault → Type 0
IsEarly entry (Wrong f) = (entry ≡ 0) ⊎ (f.entry ≤ entry)
IsEarly entry (Unread f) = Unit

-- ---- for private contracts

-- the entry with this number isn't the one that comes next, if the text that was read has a line with its end; and nothing changes
pub record IsElsewhere (old new : Option ChainValue) (p : Position) (entry : ℕ) (text more : List ℕ) : Type 0 where
  pub none : 1 < length (pieces_at 10 text) → entries (so_far p) + 1 ≡ entry → has_entry p (pieces_at 10 (text ++ more)) ≡ false
  pub same : new ≡ old

-- it is, and has this reply
pub record IsHere (p : Position) (entry : ℕ) (found : EntryReply) (text more : List ℕ) : Type 0 where
  pub place : entries (so_far p) + 1 ≡ entry
  pub brings : Brings p found.line found.reply (pieces_at 10 (text ++ more))
