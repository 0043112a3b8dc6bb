-- The ledgers in which a hub counts published items and requests: for each, the channels' shares and the passes' shares.
use Rattle.std.specs.Prelude.{◌≡◌, ℕ, ◌+◌}

-- the number of parts into which each ledger's shares are cut: more than a hub has channels, and one more than the passes that it gives
abbrev pub all_parts : ℕ
all_parts = 65537

-- the value of some shares: a number of parts of each quantity's ledger, and their amounts
pub record Amounts : Type 0 where
  pub parts : ℕ
  pub publishes : ℕ
  pub asks : ℕ

-- `parts` parts, on which nothing was counted
abbrev pub blank : ℕ → Amounts
blank parts = record { parts = parts; publishes = 0; asks = 0 }

-- shares that have given `given` of all parts away, and on which nothing was counted
abbrev pub IsRest : Amounts → ℕ → Type 0
IsRest c given = (c.parts + given ≡ all_parts) × (c.publishes ≡ 0) × (c.asks ≡ 0)

-- these with one more
abbrev pub with_publish : Amounts → Amounts
with_publish c = record c { publishes = c.publishes + 1 }

abbrev pub with_ask : Amounts → Amounts
with_ask c = record c { asks = c.asks + 1 }

-- both shares together
abbrev pub both : Amounts → Amounts → Amounts
both a b = record { parts = a.parts + b.parts; publishes = a.publishes + b.publishes; asks = a.asks + b.asks }
