-- Channels with a secret: what becomes of a publisher's line, by what the lines before it on its connection have opened.
use Rattle.std.specs.Prelude.{ℕ, ◌==◌, Bool, List, Option, Some, None, if◌then◌else◌, option_and_then, slice_get}
use Rattle.std.specs.List.{list_any}
use Rattle.ll_door.specs.Doors.{opens, secret_in}
use Rattle.ll_publish.specs.Line as says
use Rattle.ll_settings.specs.Channels.{channel_of_name}
use Rattle.ll_settings.specs.Settings.{Configuration}

-- channels, and the digest of each one's secret, if it has one, in the same order; further ones have none
pub record Origin : Type 0 where
  pub channels : List Configuration
  pub secrets : List (Option (List ℕ))

abbrev pub origin : List Configuration → List (Option (List ℕ)) → Origin
origin channels secrets = record { channels = channels; secrets = secrets }

-- the digest of the secret of the channel at `place`, if it has one
abbrev pub secret_at : List (Option (List ℕ)) → ℕ → Option (List ℕ)
secret_at secrets place = option_and_then (λ secret. secret) (slice_get secrets place)

-- what becomes of a line
pub data Passage : Type 0 where
  -- it is read
  Passes : Passage
  -- it gives the secret of the channel at this place
  Opens : ℕ → Passage
  -- the channel at this place has a secret, which was not given before the line nor is by it
  Stays : ℕ → Passage

-- of a line that gives the word `word`, or none, for the channel at `place` with this secret, which is open or not
abbrev pub passage_by : (secret : Option (List ℕ)) → (word : Option (List ℕ)) → (is_open : Bool) → (place : ℕ) → Passage
passage_by None word is_open place = Passes
passage_by (Some digest) (Some word) is_open place = if opens digest word then Opens place else Stays place
passage_by (Some digest) None is_open place = if is_open then Passes else Stays place

-- the channel at `place` is among those that are open
abbrev pub is_open : List ℕ → ℕ → Bool
is_open opened place = list_any (λ each. each == place) opened

-- of a line for the channel that was found, if one was
abbrev pub passage_at : List (Option (List ℕ)) → (opened : List ℕ) → (word : Option (List ℕ)) → Option (ℕ × Configuration) → Passage
passage_at secrets opened word None = Passes
passage_at secrets opened word (Some found) = passage_by (secret_at secrets found.0) word (is_open opened found.0) found.0

-- of a line on a connection that has opened the channels at the places `opened`
abbrev pub passage : Origin → (opened : List ℕ) → says.Line → Passage
passage o opened (says.Item name text media) = passage_at o.secrets opened (secret_in text) (channel_of_name o.channels 0 name)
passage o opened (says.At name rendition) = passage_at o.secrets opened None (channel_of_name o.channels 0 name)
passage o opened says.Bad = Passes
passage o opened says.TooLong = Passes
passage o opened says.MediaTooLong = Passes
