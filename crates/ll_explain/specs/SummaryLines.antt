-- The lines of the summary of each chain.
use Rattle.std.specs.Prelude.{ℕ, ◌+◌, List, [], ◌∷◌, ◌++◌, codes, decimal, unwrap_or}
use Rattle.ll_explain.specs.declared.summary.Summary.{Summary}
use Rattle.ll_explain.specs.Summary.{held_now}

-- the number of a chain, its entries, items and readings
unfoldable pub events_text : ℕ → Summary → List ℕ
events_text number s =
    codes "chain " ++ (decimal number ++ (codes "\nentries " ++ (decimal s.entries ++ (codes "\nitems " ++ (decimal s.items
    ++ (codes "\nfirst reading " ++ (decimal (unwrap_or s.first 0) ++ (codes "\nlast reading " ++ (decimal (unwrap_or s.last 0) ++ codes "\n")))))))))

-- the requests that were answered, timed out or closed
unfoldable pub answered_text : Summary → List ℕ
answered_text s =
    codes "answered at once " ++ (decimal s.at_once ++ (codes "\nheld and answered " ++ (decimal s.answered ++ (codes "\ntimed out " ++ (decimal s.timed_out
    ++ (codes "\ngiven up " ++ (decimal s.given_up ++ codes "\n")))))))

-- the requests that are held, and the most that were
unfoldable pub held_text : Summary → List ℕ
held_text s = codes "still held " ++ (decimal (held_now s) ++ (codes "\nmost held " ++ (decimal s.most_held ++ codes "\n")))

-- the requests that were refused
unfoldable pub refused_text : Summary → List ℕ
refused_text s =
    codes "too far " ++ (decimal s.too_far ++ (codes "\nnot found " ++ (decimal s.not_found ++ (codes "\nbusy " ++ (decimal s.busy ++ codes "\n")))))

-- the chain with this number
abbrev pub chain_text : ℕ → Summary → List ℕ
chain_text number s = events_text number s ++ (answered_text s ++ (held_text s ++ refused_text s))

-- chains, after `before` others
abbrev pub chains_text : ℕ → List Summary → List ℕ
chains_text before [] = []
chains_text before (s ∷ more) = chain_text (before + 1) s ++ chains_text (before + 1) more
