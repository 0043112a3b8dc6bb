-- The laws of feeds.
use Rattle.std.specs.Prelude.{◌≡◌, ◌≤◌, ℕ, ◌+◌, List, [], ◌++◌, None, length}
use Rattle.ll_item.specs.Media.{media_limit}
use Rattle.ll_publish.specs.Lines.{FeedValue, front, line_limit, lines, lines_in, with_bytes}
use Rattle.ll_publish.specs.Past.{Call, past}

-- After any calls, in any order, and whatever bytes are still to come: the lines of all bytes together are those that were
-- returned and then those that the feed has still to return.
abbrev pub WholeStreams : Type 0
WholeStreams = (calls : List Call) (more : List ℕ)
    → lines ((past calls).taken ++ more) ≡ (past calls).given ++ lines_in (with_bytes (past calls).feed more)

-- if no line is returned, none is left
abbrev pub NoneIsLeft : Type 0
NoneIsLeft = (f : FeedValue) → (front f).0 ≡ None → lines_in (front f).1 ≡ []

-- if no line is returned, few bytes are kept: a line that isn't too long yet, with its end, and those of its item's bytes that have come
abbrev pub FewAreKept : Type 0
FewAreKept = (f : FeedValue) → (front f).0 ≡ None → length (front f).1.unread ≤ line_limit + 2 + media_limit
