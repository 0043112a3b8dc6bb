-- A line of a publisher.
use Rattle.std.specs.Prelude.{ℕ, List}

pub data Line : Type 0 where
  -- the name of a channel, the line of an item for it, and the item's bytes
  Item : List ℕ → List ℕ → List ℕ → Line
  -- the question where a rendition stands: the names of its channel and of the rendition
  At : List ℕ → List ℕ → Line
  -- a line that isn't UTF-8, has no space, is that of an initialization section without its length, or whose item's bytes no LF follows
  Bad : Line
  -- a line of more than 4,096 bytes
  TooLong : Line
  -- a line whose item has more than 1,048,576 bytes
  MediaTooLong : Line
