-- For private contracts: places in an order of elements whose key has two parts.
use Rattle.std.specs.Prelude.{ℕ}
use Rattle.ll_book.specs.declared.place.OrderKey.{OrderKey}

-- the place of element `number` among those with the key (`group`, `rank`)
abbrev pub spot : ℕ → ℕ → ℕ → OrderKey
spot group rank number = record { group = group; kind = 0; rank = rank; subrank = 0; number = number }
