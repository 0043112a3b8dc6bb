-- What each line of a script makes happen.
use Rattle.std.specs.Prelude.{◌≡◌, ℕ, ◌+◌, ◌^◌, List, [], ◌∷◌, Bool, true, false, ◌==◌, Option, Some, None, Result, Ok, Err, if◌then◌else◌, is_none, length, map, option_map, nat_le, nat_lt, codes}
use Rattle.std.specs.Str.{is_utf8}
use Rattle.ll_attr.specs.Numbers.{number_in}
use Rattle.ll_attr.specs.Words.{words, after}
use Rattle.ll_settings.specs.Channels.{channel_of_name}
use Rattle.ll_directive.specs.Targets.{WantValue, want_in}
use Rattle.ll_directive.specs.declared.fault.TargetFault.{TargetFault}
use Rattle.ll_directive.specs.declared.fault.TargetFault.TheVariants as target
use Rattle.ll_item.specs.Items.{item_in, named}
use Rattle.ll_item.specs.Media.{media_limit}
use Rattle.ll_settings.specs.Settings.{Configuration, settings_in}
use Rattle.ll_item.specs.declared.item.Item.{Item}
use Rattle.ll_item.specs.declared.item.ItemFault.{ItemFault}
use Rattle.ll_settings.specs.declared.settings.SettingsFault.{SettingsFault}
use Rattle.ll_item.specs.Announced.{told_bytes}
use Rattle.ll_publish.specs.Line.{Line}
use Rattle.ll_publish.specs.Line as said
use Rattle.ll_publish.specs.Lines.{line_of}
use Rattle.ll_publish.specs.Refusals.{item_refusal, out_of_memory}
use Rattle.ll_publish.specs.declared.refusal.Refusal.{Refusal}
use Rattle.ll_publish.specs.declared.refusal.Refusal.TheVariants as refused
use Rattle.ll_rendition.specs.declared.fault.PublishFault.TheVariants as rule
use Rattle.ll_script.specs.Hex.{bytes_in_hex}
use Rattle.ll_script.specs.declared.act.Act.{Act}
use Rattle.ll_script.specs.declared.act.Act.TheVariants.{Declare, Offer, At, Refuse, Ask, Answer, Close, Clock, RefuseClock, Bytes, Drop}
use Rattle.ll_script.specs.declared.act.Acts.{Acts}
use Rattle.ll_script.specs.declared.act.Acts.TheVariants as list

-- a comment or an empty line
abbrev pub is_passed_over : List ℕ → Bool
is_passed_over [] = true
is_passed_over (b ∷ bs) = b == 35

-- ---- publishers

abbrev pub item_act : ℕ → Result Item ItemFault → Act
item_act place (Ok item) = Offer place item
item_act place (Err fault) = Refuse (item_refusal fault)

abbrev pub offer_to : Option (ℕ × Configuration) → List ℕ × List ℕ → Act
offer_to None item = Refuse refused.UnknownChannel
offer_to (Some channel) item = item_act channel.0 (item_in channel.1 item.0 item.1)

-- an item's line and its bytes; too many bytes are refused before anything else is checked
abbrev pub offer_within : Option (ℕ × Configuration) → List ℕ × List ℕ → Act
offer_within channel item = if nat_le (length item.1) media_limit then offer_to channel item else Refuse refused.MediaTooLong

-- the bytes that a word spells by two hexadecimal digits each, if it spells at least one
abbrev pub bytes_spelled : List ℕ → Option (List ℕ)
bytes_spelled [] = None
bytes_spelled (b ∷ bs) = bytes_in_hex (b ∷ bs)

abbrev pub item_with : Option (List ℕ) → List ℕ → List ℕ → List ℕ × List ℕ
item_with None item line = (line, [])
item_with (Some bytes) item line = (item, bytes)

abbrev pub item_before : Option (List ℕ × List ℕ) → List ℕ → List ℕ × List ℕ
item_before None line = (line, [])
item_before (Some (item, word)) line = item_with (bytes_spelled word) item line

-- An item's line without its bytes, and the bytes: in a script they stand as one word in place of their number. No item has a line with
-- any other word there.
abbrev pub without_bytes : List ℕ → List ℕ × List ℕ
without_bytes line = item_before (told_bytes line) line

abbrev pub at_by : ℕ → Result ℕ ItemFault → Act
at_by place (Ok rendition) = At place rendition
at_by place (Err fault) = Refuse (item_refusal fault)

-- a question where the rendition of this name stands, in the channel with this place and settings, if there is one
abbrev pub at_in : Option (ℕ × Configuration) → List ℕ → Act
at_in None rendition = Refuse refused.UnknownChannel
at_in (Some channel) rendition = at_by channel.0 (named channel.1 rendition)

abbrev pub offer_by : List Configuration → Line → Act
offer_by channels (said.Item name line media) = offer_within (channel_of_name channels 0 name) (without_bytes line)
offer_by channels (said.At name rendition) = at_in (channel_of_name channels 0 name) rendition
offer_by channels said.Bad = Refuse refused.BadLine
offer_by channels said.TooLong = Refuse refused.LineTooLong
offer_by channels said.MediaTooLong = Refuse refused.MediaTooLong

-- a publisher's line of any length: `line_of` is neither `TooLong` nor `MediaTooLong`
abbrev pub offer : List Configuration → List ℕ → Act
offer channels text = offer_by channels (line_of text)

-- ---- requests

-- whether `id` is larger than the number of the last request, if there was one
abbrev pub rises : Option ℕ → ℕ → Bool
rises None id = true
rises (Some last) id = nat_lt last id

abbrev pub ask_in : ℕ → WantValue → Option (ℕ × Configuration) → Act
ask_in id want None = Answer id target.NotFound
ask_in id want (Some channel) = Ask id channel.0 want

-- a request to the channel that its target names, or its answer if its target is refused or names no channel
abbrev pub ask : List Configuration → ℕ → Result WantValue TargetFault → Act
ask channels id (Ok want) = ask_in id want (channel_of_name channels 0 want.channel)
ask channels id (Err fault) = Answer id fault

abbrev pub get_by : List Configuration → Option ℕ → Option ℕ → List ℕ → Option Act
get_by channels last None target = None
get_by channels last (Some id) target = if rises last id then Some (ask channels id (want_in target)) else None

-- `ID TARGET`; numbers have 1 to 9 digits and rise, and no target is empty
abbrev pub get_of : List Configuration → Option ℕ → List (List ℕ) → Option Act
get_of channels last (id ∷ (b ∷ target) ∷ []) = get_by channels last (number_in 9 id) (b ∷ target)
get_of channels last other = None

-- `ID`, of 1 to 9 digits
abbrev pub close_of : List ℕ → Option Act
close_of text = option_map (λ id. Close id) (number_in 9 text)

-- ---- the clock

-- a reading for each of these channels, of which the first is at `place`
abbrev pub clocks_from : ℕ → List Configuration → ℕ → List Act
clocks_from place [] ms = []
clocks_from place (c ∷ more) ms = Clock place ms ∷ clocks_from (place + 1) more ms

-- a reading for each channel; one above 2^60 is refused
abbrev pub reading : List Configuration → ℕ → List Act
reading channels ms = if nat_le ms (2 ^ 60) then clocks_from 0 channels ms else RefuseClock ∷ []

-- `MS`, of 1 to 20 digits and below 2^64
abbrev pub clock_of : List Configuration → List ℕ → Option (List Act)
clock_of channels text = option_map (reading channels) (number_in 20 text)

-- ---- connections

abbrev pub bytes_by : Option ℕ → Option (List ℕ) → Option Act
bytes_by (Some number) (Some piece) = Some (Bytes number piece)
bytes_by number piece = None

-- `CONNECTION HEX`; numbers have 1 to 9 digits, and there is at least one byte
abbrev pub bytes_of : List (List ℕ) → Option Act
bytes_of (number ∷ (b ∷ hex) ∷ []) = bytes_by (number_in 9 number) (bytes_in_hex (b ∷ hex))
bytes_of other = None

-- `CONNECTION`, of 1 to 9 digits
abbrev pub drop_of : List ℕ → Option Act
drop_of text = option_map (λ number. Drop number) (number_in 9 text)

-- ---- lines

-- a new channel, whose name no other has
abbrev pub declaration : List Configuration → Result Configuration SettingsFault → Option Act
declaration channels (Err fault) = None
declaration channels (Ok c) = if is_none (channel_of_name channels 0 c.channel) then Some (Declare c) else None

abbrev pub alone : Option Act → Option (List Act)
alone act = option_map (λ a. a ∷ []) act

-- a keyword, and what its line means by what follows the keyword
abbrev pub Kind : Type 0
Kind = List ℕ × (List ℕ → Option (List Act))

-- every kind of line except a publisher's and a declaration
abbrev pub kinds : List Configuration → Option ℕ → List Kind
kinds channels last =
    (codes "get ", λ text. alone (get_of channels last (words text)))
    ∷ (codes "close ", λ text. alone (close_of text))
    ∷ (codes "clock ", λ text. clock_of channels text)
    ∷ (codes "bytes ", λ text. alone (bytes_of (words text)))
    ∷ (codes "drop ", λ text. alone (drop_of text))
    ∷ []

-- what a line means by `means` if it begins with the keyword, of what follows the keyword; else `other`
abbrev pub begun_by : Option (List ℕ) → (List ℕ → Option (List Act)) → Option (List Act) → Option (List Act)
begun_by None means other = other
begun_by (Some text) means other = means text

-- what a line means by the first of these keywords that it begins with; `other` if it begins with none
abbrev pub begun : List Kind → List ℕ → Option (List Act) → Option (List Act)
begun [] line other = other
begun (kind ∷ more) line other = begun_by (after kind.0 line) kind.1 (begun more line other)

abbrev pub acts_by : List Configuration → Option ℕ → List ℕ → Option (List ℕ) → Option (List Act)
acts_by channels last line (Some text) = Some (offer channels text ∷ [])
acts_by channels last line None =
    if is_utf8 line
    then begun (kinds channels last) line (alone (declaration channels (settings_in line)))
    else None

-- What a line makes happen, act by act, if these channels are declared and `last` is the number of the last request; `None` if no script
-- has this line in this place.
abbrev pub acts : List Configuration → Option ℕ → List ℕ → Option (List Act)
acts channels last line = if is_passed_over line then Some [] else acts_by channels last line (after (codes "pub ") line)

-- ---- memory

-- an act that is out of memory: an item is refused for that, a request is answered so, and any other act stays as it is
abbrev pub starved : Act → Act
starved (Offer place item) = Refuse out_of_memory
starved (Ask id place want) = Answer id target.Memory
starved other = other

-- the acts of a line, of which the item or request is out of memory or not
abbrev pub starved_if : Bool → List Act → List Act
starved_if true acts = map starved acts
starved_if false acts = acts

-- ---- what was read

-- the acts for which the value read from a line stands
abbrev pub meant_acts : List Configuration → Acts → List Act
meant_acts channels list.None = []
meant_acts channels (list.One act) = act ∷ []
meant_acts channels (list.Clock ms) = clocks_from 0 channels ms

abbrev pub is_memory_fault : TargetFault → Bool
is_memory_fault target.Memory = true
is_memory_fault other = false

abbrev pub is_memory_refusal : Refusal → Bool
is_memory_refusal (refused.Rule rule.Memory) = true
is_memory_refusal other = false

-- whether the value read from a line says that its item or request was out of memory
abbrev pub tells_memory : Acts → Bool
tells_memory (list.One (Answer id fault)) = is_memory_fault fault
tells_memory (list.One (Refuse reason)) = is_memory_refusal reason
tells_memory other = false

-- `acts` was read from a line that means `meant`: they are the same, except that its item or request may be out of memory
abbrev pub AreRead : List Configuration → Option (List Act) → Acts → Type 0
AreRead channels meant acts = option_map (starved_if (tells_memory acts)) meant ≡ Some (meant_acts channels acts)
