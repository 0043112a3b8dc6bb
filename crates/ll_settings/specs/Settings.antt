-- The settings of a channel, their limits, and the line that spells them.
use Rattle.std.specs.Prelude.{◌≡◌, ◌≤◌, ℕ, ◌+◌, ◌*◌, ◌^◌, List, [], ◌∷◌, true, not, ◌&&◌, ◌||◌, ◌==◌, Option, Some, None, Result, Ok, Err, if◌then◌else◌, length, drop, position, nat_eq, nat_lt, bytes_eq, codes, option_and_then}
use Rattle.std.specs.List.{starts_with}
use Rattle.ll_attr.specs.Numbers.{number_in}
use Rattle.ll_attr.specs.Words.{words, pieces_at}
use Rattle.ll_attr.specs.YearEnd.{last_milli}
use Rattle.ll_settings.specs.Names.{is_name, are_names}
use Rattle.ll_settings.specs.declared.settings.SettingsFault.{SettingsFault}
use Rattle.ll_settings.specs.declared.settings.SettingsFault.TheVariants.{BadTarget, BadPartTarget, SkipTooSmall, WindowTooSmall, BadName, NoRendition, BadStart, BadLine}

pub record Configuration : Type 0 where
  pub channel : List ℕ
  -- seconds
  pub target : ℕ
  -- microseconds
  pub part_target : ℕ
  -- seconds
  pub skip : ℕ
  -- seconds
  pub window : ℕ
  pub renditions : List (List ℕ)
  -- the Media Sequence Number of the first segment
  pub first : ℕ
  -- milliseconds since 1970-01-01T00:00:00Z
  pub start : ℕ

-- the largest Media Sequence Number
abbrev pub number_end : ℕ
number_end = 2 ^ 60

-- the Skip Boundary in microseconds (section 4.4.3.8) (rule 20)
abbrev pub skip_limit : Configuration → ℕ
skip_limit c = c.skip * 1000000

-- the index of the rendition with this name
abbrev pub rendition_named : Configuration → List ℕ → Option ℕ
rendition_named c name = position (bytes_eq name) c.renditions

-- the first limit that a configuration breaks
abbrev pub limit_broken : Configuration → Option SettingsFault
limit_broken c =
    if nat_lt c.target 1 || nat_lt 60 c.target then Some BadTarget
    else if nat_lt c.part_target 10000 || nat_lt (c.target * 1000000) c.part_target then Some BadPartTarget
    else if nat_lt c.skip (6 * c.target) then Some SkipTooSmall
    else if nat_lt c.window (c.skip + 3 * c.target) || nat_lt 86400 c.window then Some WindowTooSmall
    else if not (is_name c.channel && are_names c.renditions) then Some BadName
    else if length c.renditions == 0 || nat_lt 8 (length c.renditions) then Some NoRendition
    else if nat_lt number_end c.first || nat_lt last_milli c.start then Some BadStart
    else None

-- the limits, one by one
pub record IsWithin (c : Configuration) : Type 0 where
  pub target_low : 1 ≤ c.target
  pub target_high : c.target ≤ 60
  pub part_target_low : 10000 ≤ c.part_target
  pub part_target_high : c.part_target ≤ c.target * 1000000
  -- section 4.4.3.8
  pub skip_low : 6 * c.target ≤ c.skip
  -- the Skip Boundary and three target durations
  pub window_low : c.skip + 3 * c.target ≤ c.window
  pub window_high : c.window ≤ 86400
  pub channel_named : is_name c.channel ≡ true
  pub channel_short : length c.channel ≤ 32
  pub renditions_named : are_names c.renditions ≡ true
  pub some_rendition : 1 ≤ length c.renditions
  pub few_renditions : length c.renditions ≤ 8
  -- 2^60
  pub first_high : c.first ≤ 1152921504606846976
  -- the last millisecond of the year 9999
  pub start_high : c.start ≤ 253402300799999

-- a configuration breaks no limit exactly if each of these facts holds
abbrev pub LimitsLaw : Type 0
LimitsLaw = (c : Configuration) → (limit_broken c ≡ None → IsWithin c) × (IsWithin c → limit_broken c ≡ None)

abbrev pub unless_broken : Option SettingsFault → Configuration → Result Configuration SettingsFault
unless_broken None c = Ok c
unless_broken (Some fault) c = Err fault

-- the settings, or the first limit that they break
abbrev pub settings_of : Configuration → Result Configuration SettingsFault
settings_of c = unless_broken (limit_broken c) c

-- what follows a key and its equals sign; none if the word doesn't begin with them
abbrev pub value_of : List ℕ → List ℕ → Option (List ℕ)
value_of key word = if starts_with nat_eq word key then Some (drop (length key) word) else None

-- the number after a key: 1 to 20 digits, below 2^64
abbrev pub number_of : List ℕ → List ℕ → Option ℕ
number_of key word = option_and_then (number_in 20) (value_of key word)

-- the texts between the commas of a text
abbrev pub names_in : List ℕ → List (List ℕ)
names_in text = pieces_at 44 text

infixl 10 ◌>>=◌
abbrev pub ◌>>=◌ : {A B : Type 0} → Option A → (A → Option B) → Option B
o >>= f = option_and_then f o

-- `channel NAME target=N part=N skip=N window=N renditions=NAMES first=N start=N`
unfoldable pub configuration_of : List (List ℕ) → Option Configuration
configuration_of (kind ∷ channel ∷ target ∷ part ∷ skip ∷ window ∷ renditions ∷ first ∷ start ∷ []) = do
  named ← (if bytes_eq kind (codes "channel") && is_name channel then Some channel else None)
  target ← number_of (codes "target=") target
  part ← number_of (codes "part=") part
  skip ← number_of (codes "skip=") skip
  window ← number_of (codes "window=") window
  renditions ← value_of (codes "renditions=") renditions
  first ← number_of (codes "first=") first
  start ← number_of (codes "start=") start
  Some (record { channel = named; target = target; part_target = part; skip = skip; window = window; renditions = names_in renditions; first = first; start = start })
configuration_of other = None

abbrev pub settings_by : Option Configuration → Result Configuration SettingsFault
settings_by None = Err BadLine
settings_by (Some c) = settings_of c

-- the settings that a line spells, or the fault of the line
abbrev pub settings_in : List ℕ → Result Configuration SettingsFault
settings_in line = settings_by (configuration_of (words line))
