-- For private contracts: what a feed returns and keeps, by what was found at the front of its bytes.
use Rattle.std.specs.Prelude.{ℕ, List, Option, Some, None, drop}
use Rattle.ll_publish.specs.Line.{Line}
use Rattle.ll_publish.specs.Lines.{FeedValue, at_line}
use Rattle.ll_publish.specs.Meaning.{meant}
use Rattle.ll_publish.specs.declared.look.Seen.{Seen}

-- the line that was found and what is then kept of `rest`, the bytes from which its own are taken; if none was found, all bytes are kept
abbrev pub found_after : Option Seen → List ℕ → List ℕ → Option Line × FeedValue
found_after None rest bytes = (None, at_line bytes)
found_after (Some s) rest bytes = (Some (meant s.line), record { unread = drop s.taken rest; passing = s.passing })

abbrev pub found : Option Seen → List ℕ → Option Line × FeedValue
found seen bytes = found_after seen bytes bytes
