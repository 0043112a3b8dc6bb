-- All calls of a feed, and what they result in.
use Rattle.std.specs.Prelude.{ℕ, List, [], ◌∷◌, ◌++◌, Option, Some, None, fold}
use Rattle.ll_publish.specs.Lines.{FeedValue, fresh, front, with_bytes}
use Rattle.ll_publish.specs.Line.{Line}

-- a call that changes a feed: `take`, `next`. A `take` that fails changes nothing, and is left out
pub data Call : Type 0 where
  Take : List ℕ → Call
  Next : Call

-- the feed, the bytes that it took in, and the lines that it returned
pub record Past : Type 0 where
  pub feed : FeedValue
  pub taken : List ℕ
  pub given : List Line

abbrev pub before_any : Past
before_any = record { feed = fresh; taken = []; given = [] }

abbrev pub and_line : List Line → Option Line → List Line
and_line lines None = lines
and_line lines (Some line) = lines ++ line ∷ []

abbrev pub called : Past → Call → Past
called p (Take bytes) = record p { feed = with_bytes p.feed bytes; taken = p.taken ++ bytes }
called p Next = record p { feed = (front p.feed).1; given = and_line p.given (front p.feed).0 }

abbrev pub past : List Call → Past
past calls = fold called before_any calls
