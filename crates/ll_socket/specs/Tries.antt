-- What a read or a write of a nonblocking stream does.
use Rattle.std.specs.Prelude.{◌≡◌, ℕ, ◌<◌, List, length, take, Option, Some, None}
use Rattle.std.specs.Io.KnownBytes.{Appends, Consumes, IsAtEnd, Keeps}

-- a write of `text`: the bytes that it took were appended, and none if it would have to wait
abbrev pub TryAppends : Option (List ℕ) → Option (List ℕ) → Option ℕ → List ℕ → Type 0
TryAppends old new (Some n) text = Appends old new (take n text)
TryAppends old new None text = Keeps old new

-- a read into `buf`: the bytes that it returned were consumed, none only at the end or if `buf` is empty; and none if it would have to wait
abbrev pub TryConsumes : Option (List ℕ) → Option (List ℕ) → Option ℕ → List ℕ → Type 0
TryConsumes old new (Some n) buf = Consumes old new (take n buf) × (n ≡ 0 → 0 < length buf → IsAtEnd new)
TryConsumes old new None buf = Keeps old new
