-- The summary of a chain, over the list of all its entries.
use Rattle.std.specs.Prelude.{ℕ, ◌+◌, ◌-◌, List, [], ◌∷◌, Bool, true, false, Option, Some, None, count_by, length, map, max}
use Rattle.std.specs.List.{filter_map, last_or, slice_get}
use Rattle.ll_entry_check.specs.declared.full.FullEntry.{FullEntry}
use Rattle.ll_entry_check.specs.declared.full.FullEntry.TheVariants as full
use Rattle.ll_explain.specs.declared.summary.Summary.{Summary}
use Rattle.ll_verdict.specs.declared.reply.Outcome.TheVariants.{NotFound, TooFar, Busy, Timeout}

-- ---- one entry

-- an item was accepted
abbrev pub is_item : FullEntry → Bool
is_item full.Publish = true
is_item other = false

-- a request was refused at once, for this
abbrev pub is_not_found : FullEntry → Bool
is_not_found (full.Ask ask want (Some NotFound)) = true
is_not_found other = false

abbrev pub is_too_far : FullEntry → Bool
is_too_far (full.Ask ask want (Some TooFar)) = true
is_too_far other = false

abbrev pub is_busy : FullEntry → Bool
is_busy (full.Ask ask want (Some Busy)) = true
is_busy other = false

-- a request got something else at once
abbrev pub is_at_once : FullEntry → Bool
is_at_once (full.Ask ask want (Some NotFound)) = false
is_at_once (full.Ask ask want (Some TooFar)) = false
is_at_once (full.Ask ask want (Some Busy)) = false
is_at_once (full.Ask ask want (Some other)) = true
is_at_once other = false

-- a request was held
abbrev pub is_held : FullEntry → Bool
is_held (full.Ask ask want None) = true
is_held other = false

-- a request that was held got this
abbrev pub is_timed_out : FullEntry → Bool
is_timed_out (full.Collect ask Timeout) = true
is_timed_out other = false

-- or something else
abbrev pub is_answered : FullEntry → Bool
is_answered (full.Collect ask Timeout) = false
is_answered (full.Collect ask other) = true
is_answered other = false

-- or was closed
abbrev pub is_given_up : FullEntry → Bool
is_given_up (full.Close ask) = true
is_given_up other = false

-- a request that was held is held no longer
abbrev pub is_ended : FullEntry → Bool
is_ended (full.Collect ask reply) = true
is_ended (full.Close ask) = true
is_ended other = false

-- what the clock showed, in milliseconds
abbrev pub reading_of : FullEntry → Option ℕ
reading_of (full.Clock ms) = Some ms
reading_of other = None

-- ---- all of them

-- the readings of the clock, in their order
abbrev pub readings : List FullEntry → List ℕ
readings entries = filter_map reading_of entries

-- the number of requests that are held after these entries: those that were held, without those that are held no longer
abbrev pub still_held : List FullEntry → ℕ
still_held entries = count_by is_held entries - count_by is_ended entries

-- the prefixes of a list, from the empty one to itself
abbrev pub beginnings : {A : Type 0} → List A → List (List A)
beginnings [] = [] ∷ []
beginnings (x ∷ xs) = [] ∷ map (λ ys. x ∷ ys) (beginnings xs)

-- the largest of these numbers, or 0
abbrev pub largest : List ℕ → ℕ
largest [] = 0
largest (n ∷ more) = max n (largest more)

-- the most requests that were held at one time
abbrev pub most_held : List FullEntry → ℕ
most_held entries = largest (map still_held (beginnings entries))

-- the summary of a chain of these entries
abbrev pub summary_of : List FullEntry → Summary
summary_of entries = record {
  entries = length entries;
  items = count_by is_item entries;
  at_once = count_by is_at_once entries;
  held = count_by is_held entries;
  answered = count_by is_answered entries;
  timed_out = count_by is_timed_out entries;
  given_up = count_by is_given_up entries;
  too_far = count_by is_too_far entries;
  not_found = count_by is_not_found entries;
  busy = count_by is_busy entries;
  most_held = most_held entries;
  first = slice_get (readings entries) 0;
  last = last_or None (readings entries);
}

-- the number of requests that are held at the end of a summary's chain
abbrev pub held_now : Summary → ℕ
held_now s = s.held - (s.answered + s.timed_out + s.given_up)
