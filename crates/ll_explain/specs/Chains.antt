-- The chains of a record, each as the list of its entries.
use Rattle.std.specs.Prelude.{ℕ, zero, suc, List, [], ◌∷◌, Option, Some, None, Result, Ok, Err, bytes_eq, if◌then◌else◌, length, option_map}
use Rattle.ll_attr.specs.Words.{pieces_at}
use Rattle.ll_check.specs.Steps.{full_entry}
use Rattle.ll_entry_check.specs.Full.{without_item}
use Rattle.ll_entry_check.specs.declared.full.FullEntry.{FullEntry}
use Rattle.ll_entry.specs.Chain.{Between, Chain, Inside, Position, begun, text_in, with_line}
use Rattle.ll_entry.specs.Frame.{last_line}
use Rattle.ll_entry.specs.declared.fault.CheckKind.{CheckKind}

-- what lines say from a position on
pub record Coming : Type 0 where
  -- the further entries of the chain so far
  pub entries : List FullEntry
  -- the entries of each chain that begins there
  pub chains : List (List FullEntry)

abbrev pub nothing : Coming
nothing = record { entries = []; chains = [] }

abbrev pub coming_by : Result Chain CheckKind → (Chain → Coming) → Coming
coming_by (Ok ch) from = from ch
coming_by (Err kind) from = nothing

-- A chunk comes before this. A chain begins with one that has none of its entries before it.
abbrev pub after_chunk : ℕ → Coming → Coming
after_chunk zero later = record { entries = []; chains = later.entries ∷ later.chains }
after_chunk (suc at) later = later

-- an entry comes before this
abbrev pub after_entry : Option FullEntry → Coming → Coming
after_entry None later = later
after_entry (Some entry) later = record later { entries = entry ∷ later.entries }

-- what these lines say, as far as they are right
abbrev pub coming : Position → List (List ℕ) → Coming
coming (Between before) [] = nothing
coming (Between before) (rest ∷ []) = nothing
coming (Between before) (first ∷ settings ∷ []) = nothing
coming (Between before) (first ∷ settings ∷ at ∷ more) =
    coming_by (begun before (text_in first) (text_in settings) (text_in at)) (λ ch. after_chunk (length ch.events) (coming (Inside ch) more))
coming (Inside ch) [] = nothing
coming (Inside ch) (line ∷ more) =
    if bytes_eq line last_line then coming (Between (Some ch)) more
    else after_entry (option_map without_item (full_entry ch line)) (coming_by (with_line ch line) (λ now. coming (Inside now) more))

-- the entries of each chain of a record, in full
abbrev pub chains_in : List ℕ → List (List FullEntry)
chains_in bytes = (coming (Between None) (pieces_at 10 bytes)).chains
