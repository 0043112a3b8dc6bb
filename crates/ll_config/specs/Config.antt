-- The settings of a server, as its settings file spells them.
use Rattle.std.specs.Prelude.{ℕ, ◌+◌, ◌-◌, ◌==◌, ◌&&◌, List, [], ◌∷◌, ◌++◌, Bool, false, not, Option, Some, None, Result, Ok, Err, bytes_eq, codes, if◌then◌else◌, length, nat_eq, nat_le, nat_lt, option_and_then, option_map, slice_get, slice_set}
use Rattle.std.specs.List.{list_any, starts_with}
use Rattle.std.specs.Net.Reader.{read_socket_v4, read_socket_v6, whole_value}
use Rattle.std.specs.Result.{result_ok}
use Rattle.std.specs.Str.{is_utf8}
use Rattle.std.specs.Str.Lines.{strip_carriage_return}
use Rattle.std.specs.declared.net.socket_addr.SocketAddr.{SocketAddr}
use Rattle.std.specs.declared.net.socket_addr.SocketAddr.TheVariants as ip
use Rattle.std.specs.declared.net.socket_addr.SocketAddrV4.{SocketAddrV4}
use Rattle.std.specs.declared.net.socket_addr.SocketAddrV6.{SocketAddrV6}
use Rattle.ll_attr.specs.Numbers.{number_in}
use Rattle.ll_attr.specs.Words.{after, pieces_at}
use Rattle.ll_config.specs.declared.config.Files.{Files}
use Rattle.ll_config.specs.declared.door.Door.{Door}
use Rattle.ll_config.specs.declared.door.Door.TheVariants.{Ip, Unix}
use Rattle.ll_door.specs.Doors.{digest_in}
use Rattle.ll_settings.specs.Settings.{Configuration, settings_in}

-- channels, and the digest of each one's secret, if it has one
pub record Hosted : Type 0 where
  pub channels : List Configuration
  pub secrets : List (Option (List ℕ))

-- the settings of a server
pub record ConfigValue : Type 0 where
  -- where players connect
  pub players : SocketAddr
  -- where publishers connect
  pub publishers : Door
  pub workers : ℕ
  -- the paths of what the server writes
  pub files : Files
  -- where those connect who watch the server
  pub status : Option SocketAddr
  -- after how many seconds without a byte a publisher is ended
  pub idle : Option ℕ
  pub hosted : Hosted

-- ---- the lines of a file

-- The lines, given the pieces between line feeds: an empty piece after the last line feed isn't a line. One CR at a line's end is dropped.
abbrev pub lines_of : List (List ℕ) → List (List ℕ)
lines_of [] = []
lines_of (piece ∷ []) = if length piece == 0 then [] else strip_carriage_return piece ∷ []
lines_of (piece ∷ next ∷ more) = strip_carriage_return piece ∷ lines_of (next ∷ more)

abbrev pub file_lines : List ℕ → List (List ℕ)
file_lines bytes = lines_of (pieces_at 10 bytes)

-- the lines that are left, and the number of the next one
pub record Left : Type 0 where
  pub lines : List (List ℕ)
  pub number : ℕ

-- all lines, which count from 1
abbrev pub all_left : List ℕ → Left
all_left bytes = record { lines = file_lines bytes; number = 1 }

-- ---- the value of one line

-- one byte or more
abbrev pub some_path : List ℕ → Option (List ℕ)
some_path text = if length text == 0 then None else Some text

-- an address and a port, as std's `parse` reads them: four numbers of 0 to 255, or an IPv6 address in brackets; and one of 16 bits
abbrev pub v4_of : List ℕ × ℕ → SocketAddrV4
v4_of parts = record { ip = record { octets = parts.0 }; port = parts.1 }

abbrev pub v4_in : List ℕ → Option SocketAddrV4
v4_in text = option_map v4_of (whole_value (read_socket_v4 text))

abbrev pub v6_of : List ℕ × ℕ × ℕ × ℕ → SocketAddrV6
v6_of parts = record { ip = record { segments = parts.0 }; port = parts.1; flowinfo = parts.2; scope_id = parts.3 }

abbrev pub v6_in : List ℕ → Option SocketAddrV6
v6_in text = option_map v6_of (whole_value (read_socket_v6 text))

abbrev pub either_of : Option SocketAddrV4 → Option SocketAddrV6 → Option SocketAddr
either_of (Some a) b = Some (ip.V4 a)
either_of None b = option_map ip.V6 b

abbrev pub address_in : List ℕ → Option SocketAddr
address_in text = either_of (v4_in text) (v6_in text)

-- the address after `key`
abbrev pub address_line : List ℕ → List ℕ → Option SocketAddr
address_line key line = option_and_then address_in (after key line)

-- `unix:` and a path of one byte or more, or else an address and a port
abbrev pub door_by : Option (List ℕ) → List ℕ → Option Door
door_by (Some path) text = option_map Unix (some_path path)
door_by None text = option_map Ip (address_in text)

abbrev pub door_in : List ℕ → Option Door
door_in text = door_by (after (codes "unix:") text) text

-- `publish` and where publishers connect
abbrev pub door_line : List ℕ → Option Door
door_line line = option_and_then door_in (after (codes "publish ") line)

-- a number from 1 to `most`, of 1 to 20 digits, after `key`
abbrev pub up_to : ℕ → ℕ → Option ℕ
up_to most n = if nat_le 1 n && nat_le n most then Some n else None

abbrev pub count_line : List ℕ → ℕ → List ℕ → Option ℕ
count_line key most line = option_and_then (up_to most) (option_and_then (number_in 20) (after key line))

-- `workers N`, up to 4,096
abbrev pub workers_line : List ℕ → Option ℕ
workers_line line = count_line (codes "workers ") 4096 line

-- the path after `key`
abbrev pub path_line : List ℕ → List ℕ → Option (List ℕ)
path_line key line = option_and_then some_path (after key line)

-- one of the channels has the name `name`
abbrev pub has_name : List Configuration → List ℕ → Bool
has_name channels name = list_any (λ (c : Configuration). bytes_eq c.channel name) channels

-- a channel more, if it is allowed after those before it: there are at most 1,024, of distinct names. It has no secret yet.
abbrev pub with_channel : Hosted → Configuration → Option Hosted
with_channel before c =
    if nat_lt (length before.channels) 1024 && not (has_name before.channels c.channel)
    then Some (record { channels = before.channels ++ c ∷ []; secrets = before.secrets ++ None ∷ [] }) else None

-- the last channel gets a secret with this digest, if it has none yet
abbrev pub secret_by : Option (Option (List ℕ)) → Hosted → List ℕ → Option Hosted
secret_by (Some None) before digest = Some (record before { secrets = slice_set before.secrets (length before.secrets - 1) (Some digest) })
secret_by (Some (Some other)) before digest = None
secret_by None before digest = None

abbrev pub with_secret : Hosted → List ℕ → Option Hosted
with_secret before digest = secret_by (slice_get before.secrets (length before.secrets - 1)) before digest

-- the line `secret` and 64 hexadecimal digits, or a settings line, if it is allowed after the lines before
abbrev pub line_by : Option (List ℕ) → Hosted → List ℕ → Option Hosted
line_by (Some digits) before line = option_and_then (with_secret before) (digest_in digits)
line_by None before line = option_and_then (with_channel before) (result_ok (settings_in line))

abbrev pub with_line : Hosted → List ℕ → Option Hosted
with_line before line = line_by (after (codes "secret ") line) before line

-- ---- line after line

abbrev pub and_then : {A B : Type 0} → Result A ℕ → (A → Result B ℕ) → Result B ℕ
and_then (Ok value) f = f value
and_then (Err number) f = Err number

infixl 10 ◌>>=◌
abbrev pub ◌>>=◌ : {A B : Type 0} → Result A ℕ → (A → Result B ℕ) → Result B ℕ
r >>= f = and_then r f

-- the next line and what is left after it; or its number, if there is none or it isn't UTF-8
abbrev pub text_of : List (List ℕ) → ℕ → Result (List ℕ × Left) ℕ
text_of [] number = Err number
text_of (line ∷ rest) number = if is_utf8 line then Ok (line, record { lines = rest; number = number + 1 }) else Err number

abbrev pub next_text : Left → Result (List ℕ × Left) ℕ
next_text left = text_of left.lines left.number

-- the value of a line, and what is left after it; or the line's number, if it has no value
abbrev pub told : {A : Type 0} → ℕ → Option A → Left → Result (A × Left) ℕ
told number None left = Err number
told number (Some value) left = Ok (value, left)

-- the same of the next line, whose value `read` gives
abbrev pub next : {A : Type 0} → (List ℕ → Option A) → Left → Result (A × Left) ℕ
next read left = next_text left >>= λ t. told left.number (read t.0) t.1

-- the next line begins with `key`
abbrev pub begins : List ℕ → List (List ℕ) → Bool
begins key [] = false
begins key (line ∷ rest) = starts_with nat_eq line key

-- the value of the next line, if that begins with `key`; another line is left for later
abbrev pub next_if : {A : Type 0} → List ℕ → (List ℕ → Option A) → Left → Result (Option A × Left) ℕ
next_if key read left = if begins key left.lines then (next read left >>= λ t. Ok (Some t.0, t.1)) else Ok (None, left)

abbrev pub next_path : List ℕ → Left → Result (Option (List ℕ) × Left) ℕ
next_path key left = next_if key (path_line key) left

-- `status` and an address, if the next line begins so
abbrev pub next_status : Left → Result (Option SocketAddr × Left) ℕ
next_status left = next_if (codes "status ") (address_line (codes "status ")) left

-- `idle` and up to 86,400 seconds, if the next line begins so
abbrev pub next_idle : Left → Result (Option ℕ × Left) ℕ
next_idle left = next_if (codes "idle ") (count_line (codes "idle ") 86400) left

abbrev pub hosted_then : ℕ → Option Hosted → (Hosted → Result Hosted ℕ) → Result Hosted ℕ
hosted_then number None more = Err number
hosted_then number (Some hosted) more = more hosted

-- the channels before, followed by those of all lines that are left; there is at least one
abbrev pub hosted_from : Hosted → List (List ℕ) → ℕ → Result Hosted ℕ
hosted_from before [] number = if length before.channels == 0 then Err number else Ok before
hosted_from before (line ∷ rest) number =
    hosted_then number (if is_utf8 line then with_line before line else None) (λ hosted. hosted_from hosted rest (number + 1))

abbrev pub nobody : Hosted
nobody = record { channels = []; secrets = [] }

-- `record`, `log` and `spool`, each with a path, and each optional
abbrev pub files_from : Left → Result (Files × Left) ℕ
files_from left = do
  records ← next_path (codes "record ") left
  log ← next_path (codes "log ") records.1
  spool ← next_path (codes "spool ") log.1
  Ok (record { records = records.0; log = log.0; spool = spool.0 }, spool.1)

-- The settings of the lines that are left: `listen` and an address, `publish` and a door, `workers` and a number; the
-- paths of files; `status` and an address, and `idle` and a number, both optional; and channels, each of which a secret may follow. Or the
-- number of the first line that isn't allowed in its place.
abbrev pub config_from : Left → Result ConfigValue ℕ
config_from left = do
  players ← next (address_line (codes "listen ")) left
  publishers ← next door_line players.1
  workers ← next workers_line publishers.1
  files ← files_from workers.1
  status ← next_status files.1
  idle ← next_idle status.1
  hosted ← hosted_from nobody idle.1.lines idle.1.number
  Ok (record {
    players = players.0;
    publishers = publishers.0;
    workers = workers.0;
    files = files.0;
    status = status.0;
    idle = idle.0;
    hosted = hosted;
  })

-- the settings of a file, or the number of its first line that isn't allowed in its place
abbrev pub config_in : List ℕ → Result ConfigValue ℕ
config_in bytes = config_from (all_left bytes)
