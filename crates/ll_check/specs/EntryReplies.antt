-- The replies of a record's entries.
use Rattle.std.specs.Prelude.{◌≡◌, ◌<◌, List, ◌∷◌, ◌++◌, Option, None, Result, Ok, Err, ℕ, bytes_eq, false, length, true}
use Rattle.ll_attr.specs.Words.{pieces_at}
use Rattle.ll_check.specs.Found.{ChainValue}
use Rattle.ll_check.specs.Steps.{has_entry}
use Rattle.ll_entry_check.specs.Brought.{brought_by}
use Rattle.ll_entry.specs.Chain.{Between, Chain, Inside, Position, entry_at, text_in, with_line}
use Rattle.ll_entry.specs.Entered.{event_of}
use Rattle.ll_entry.specs.Frame.{last_line}
use Rattle.ll_entry.specs.declared.entry.EntryFault.{EntryFault}
use Rattle.ll_entry.specs.declared.entry.Recorded.{Recorded}
use Rattle.ll_verdict.specs.declared.reply.Reply.{Reply}

abbrev pub brought_in : Chain → Result Recorded EntryFault → Option Reply
brought_in ch (Ok entry) = brought_by ch.settings ch.events (event_of entry)
brought_in ch (Err fault) = None

-- the reply of a line's entry after a chain
abbrev pub brought : Chain → List ℕ → Option Reply
brought ch line = brought_in ch (entry_at ch.version ch.settings (text_in line))

-- the first of these lines is that of an entry which is right after a chain, and has this reply
pub record IsBrought (ch : Chain) (line : List ℕ) (reply : Option Reply) (lines : List (List ℕ)) : Type 0 where
  pub rest : List ℕ
  pub are : lines ≡ line ∷ pieces_at 10 rest
  pub other : bytes_eq line last_line ≡ false
  pub now : Chain
  pub right : with_line ch line ≡ Ok now
  pub brings : reply ≡ brought ch line

-- the same at a position
abbrev pub Brings : Position → List ℕ → Option Reply → List (List ℕ) → Type 0
Brings (Inside ch) line reply lines = IsBrought ch line reply lines
Brings (Between before) line reply lines = ⊥

-- no entry comes next, if the text that was read has a line with its end; and what is kept stays as it is
pub record BringsNone (old new : Option ChainValue) (p : Position) (text more : List ℕ) : Type 0 where
  pub none : 1 < length (pieces_at 10 text) → has_entry p (pieces_at 10 (text ++ more)) ≡ false
  pub same : new ≡ old

-- a line is the last one of its chunk, and what is kept stays as it is
pub record IsLastOf (old new : ChainValue) (line : List ℕ) : Type 0 where
  pub last : bytes_eq line last_line ≡ true
  pub same : new ≡ old
