-- Channels by their names.
use Rattle.std.specs.Prelude.{ℕ, ◌+◌, List, [], ◌∷◌, Option, Some, None, bytes_eq, if◌then◌else◌}
use Rattle.ll_settings.specs.Settings.{Configuration}

-- the place and the settings of the first channel with this name; the places of the channels count from `place`
abbrev pub channel_of_name : List Configuration → ℕ → List ℕ → Option (ℕ × Configuration)
channel_of_name [] place name = None
channel_of_name (c ∷ more) place name = if bytes_eq name c.channel then Some (place, c) else channel_of_name more (place + 1) name
