-- For private contracts: what one more entry adds to a summary, and to the chains so far.
use Rattle.std.specs.Prelude.{◌≡◌, ◌≤◌, ℕ, zero, suc, ◌+◌, ◌-◌, ◌^◌, List, [], ◌∷◌, ◌++◌, Bool, Option, Some, None, if◌then◌else◌, length, map, min}
use Rattle.std.specs.Option.{option_or}
use Rattle.ll_check.specs.Found.{so_far}
use Rattle.ll_check.specs.declared.told.Told.{Told}
use Rattle.ll_check.specs.declared.told.Told.TheVariants as told
use Rattle.ll_entry_check.specs.declared.full.FullEntry.{FullEntry}
use Rattle.ll_entry.specs.Chain.{Between, Position, entries}
use Rattle.ll_explain.specs.Chains.{Coming, coming}
use Rattle.ll_explain.specs.Summary.{is_answered, is_at_once, is_busy, is_given_up, is_held, is_item, is_not_found, is_timed_out, is_too_far, reading_of, summary_of}
use Rattle.ll_explain.specs.declared.summary.Summary.{Summary}

-- one more, as far as 64 bits go
abbrev pub one_more : ℕ → ℕ
one_more n = min (n + 1) (2 ^ 64 - 1)

-- one more of a kind, if an entry is of it
abbrev pub counted : Bool → ℕ → ℕ
counted is n = if is then one_more n else n

-- the first reading and the last one, with that of an entry
abbrev pub first_with : Option ℕ → Option ℕ → Option ℕ
first_with first None = first
first_with first (Some ms) = option_or first (Some ms)

abbrev pub last_with : Option ℕ → Option ℕ → Option ℕ
last_with last None = last
last_with last (Some ms) = Some ms

-- a summary with the kind of one more entry
abbrev pub with_kind : Summary → FullEntry → Summary
with_kind s e = record {
  entries = s.entries;
  items = counted (is_item e) s.items;
  at_once = counted (is_at_once e) s.at_once;
  held = counted (is_held e) s.held;
  answered = counted (is_answered e) s.answered;
  timed_out = counted (is_timed_out e) s.timed_out;
  given_up = counted (is_given_up e) s.given_up;
  too_far = counted (is_too_far e) s.too_far;
  not_found = counted (is_not_found e) s.not_found;
  busy = counted (is_busy e) s.busy;
  most_held = s.most_held;
  first = first_with s.first (reading_of e);
  last = last_with s.last (reading_of e);
}

-- ---- the chains so far

-- the last of them has one more entry
abbrev pub with_entry : List (List FullEntry) → FullEntry → List (List FullEntry)
with_entry [] entry = []
with_entry (es ∷ []) entry = (es ++ entry ∷ []) ∷ []
with_entry (es ∷ fs ∷ more) entry = es ∷ with_entry (fs ∷ more) entry

-- the chains after lines that say this
abbrev pub with_told : List (List FullEntry) → Told → List (List FullEntry)
with_told chains (told.Begun settings zero) = chains ++ [] ∷ []
with_told chains (told.Begun settings (suc at)) = chains
with_told chains (told.Entry version line entry) = with_entry chains entry
with_told chains told.Ended = chains

-- the entries of the last of them
abbrev pub last_chain : List (List FullEntry) → List FullEntry
last_chain [] = []
last_chain (es ∷ []) = es
last_chain (es ∷ fs ∷ more) = last_chain (fs ∷ more)

-- the entries of each chain, with what comes after those so far
abbrev pub joined : List (List FullEntry) → Coming → List (List FullEntry)
joined [] later = later.chains
joined (es ∷ []) later = (es ++ later.entries) ∷ later.chains
joined (es ∷ fs ∷ more) later = es ∷ joined (fs ∷ more) later

-- after lines the summaries are those of the chains so far, the last of which is no longer than all of them
pub record AreCounted (summaries : List Summary) (p : Position) (lines rest : List (List ℕ)) : Type 0 where
  pub chains : List (List FullEntry)
  pub few : length (last_chain chains) ≤ entries (so_far p)
  pub told : (coming (Between None) lines).chains ≡ joined chains (coming p rest)
  pub are : summaries ≡ map summary_of chains
