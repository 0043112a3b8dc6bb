-- For private contracts: the channel that a publisher's line is for.
use Rattle.std.specs.Prelude.{ℕ, List, Option, None, option_map}
use Rattle.ll_publish.specs.Line as says
use Rattle.ll_settings.specs.Channels.{channel_of_name}
use Rattle.ll_settings.specs.Settings.{Configuration}

-- the channel of a line's name, if there is one
abbrev pub channel_in : List Configuration → says.Line → Option (ℕ × Configuration)
channel_in channels (says.Item name text media) = channel_of_name channels 0 name
channel_in channels (says.At name rendition) = channel_of_name channels 0 name
channel_in channels says.Bad = None
channel_in channels says.TooLong = None
channel_in channels says.MediaTooLong = None

-- its place
abbrev pub place_in : List Configuration → says.Line → Option ℕ
place_in channels line = option_map (λ (found : ℕ × Configuration). found.0) (channel_in channels line)
