-- What a command that failed has written.
use Rattle.std.specs.Prelude.{◌≡◌, ◌⊎◌, ℕ, List, Option}
use Rattle.ll_device.specs.Written.{AppendsPrefix}

-- nothing, or a prefix of a text of which this holds
abbrev pub IsCutShort : (List ℕ → Type 0) → Option (List ℕ) → Option (List ℕ) → Type 0
IsCutShort holds before after = (after ≡ before) ⊎ ((text : List ℕ) × holds text × AppendsPrefix before after text)
