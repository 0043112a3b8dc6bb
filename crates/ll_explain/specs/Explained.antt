-- What a record says of one of its entries.
use Rattle.std.specs.Prelude.{◌≡◌, ◌+◌, ◌<◌, ◌⊎◌, ℕ, List, ◌∷◌, ◌++◌, Option, None, Ok, Some}
use Rattle.ll_attr.specs.Words.{pieces_at}
use Rattle.ll_check.specs.EntryReplies.{brought}
use Rattle.ll_check.specs.Steps.{reached}
use Rattle.ll_entry.specs.Chain.{Between, Chain, Inside, checked, entries, with_line}
use Rattle.ll_verdict.specs.Events.{time}
use Rattle.ll_verdict.specs.declared.reply.Reply.{Reply}

-- A line is that of the entry with the number `entry`. The lines before it are right and lead to a chain, and it is right after them. The
-- channel's time before it is `ms` milliseconds; and it has this reply, which is the definition's for the events before it.
pub record IsExplained (bytes : List ℕ) (entry ms : ℕ) (line : List ℕ) (reply : Option Reply) : Type 0 where
  pub passed : List (List ℕ)
  pub rest : List ℕ
  pub stands : pieces_at 10 bytes ≡ passed ++ line ∷ pieces_at 10 rest
  pub before : Chain
  pub leads : reached (Between None) passed ≡ Some (Inside before)
  pub place : entries (Some before) + 1 ≡ entry
  pub clock : ms ≡ time before.events
  pub now : Chain
  pub right : with_line before line ≡ Ok now
  pub brings : reply ≡ brought before line

-- a record is right, and has no entry with this number
abbrev pub HasNoEntry : List ℕ → ℕ → Type 0
HasNoEntry bytes entry = (n : ℕ) × (checked bytes ≡ Ok n) × ((entry ≡ 0) ⊎ (n < entry))
