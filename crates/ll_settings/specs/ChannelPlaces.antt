-- For private contracts: the map of the names of channels to their places.
use Rattle.std.specs.Prelude.{◌≡◌, ℕ, List, Option, String, bytes_eq, option_map, string_bytes}
use Rattle.std.specs.declared.alloc.Global.{Global}
use Rattle.std.specs.Map.{lookup}
use Rattle.ll_settings.specs.Settings.{Configuration}
use Rattle.ll_settings.specs.Channels.{channel_of_name}

-- the place that a map gives to a name
abbrev pub place_in : List (String Global × ℕ) → List ℕ → Option ℕ
place_in entries name = lookup (λ key. bytes_eq name (string_bytes key)) entries

-- a map gives to each name the place of the first channel of that name
abbrev pub FindsPlaces : List (String Global × ℕ) → List Configuration → Type 0
FindsPlaces entries channels = (name : List ℕ) → place_in entries name ≡ option_map (λ f. f.0) (channel_of_name channels 0 name)
