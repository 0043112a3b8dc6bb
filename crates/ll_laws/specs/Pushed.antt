-- What `llhls push` sends, as an origin reads it, and what an origin answers, as `llhls push` reads that.
use Rattle.std.specs.Prelude.{◌≡◌, ℕ, ◌<◌, ◌≤◌, ◌^◌, ◌==◌, Bool, true, false, All, List, [], ◌∷◌, ◌++◌, Option, Some, None, Result, Ok, Err, if◌then◌else◌, length, map, not}
use Rattle.ll_settings.specs.Channels.{channel_of_name}
use Rattle.ll_item.specs.ItemLines.{name_of}
use Rattle.ll_item.specs.Items.{item_in}
use Rattle.ll_entry.specs.ItemLaws.{IsWritable}
use Rattle.ll_settings.specs.Settings.{Configuration, limit_broken}
use Rattle.ll_item.specs.declared.item.Item.{Item}
use Rattle.ll_item.specs.declared.item.Item.TheVariants.{Part, Init, Finish, Break, End}
use Rattle.ll_item.specs.declared.item.ItemFault.{ItemFault}
use Rattle.ll_mp4.specs.declared.fault.StreamFault.{StreamFault}
use Rattle.ll_parts.specs.Stream.{Outcome}
use Rattle.ll_parts.specs.declared.pieces.Piece.{Piece}
use Rattle.ll_parts.specs.declared.pieces.Piece.TheVariants as piece
use Rattle.ll_publish.specs.Line as says
use Rattle.ll_publish.specs.Lines.{lines}
use Rattle.ll_publish.specs.Refusals.{reply_line}
use Rattle.ll_publish.specs.declared.refusal.Refusal.{Refusal}
use Rattle.ll_publish.specs.declared.success.Success.TheVariants.{Accepted, NotKept, Standing as Stands}
use Rattle.ll_verdict.specs.declared.standing.Standing.{Standing as Told}
use Rattle.ll_announce.specs.Standings.{standing}
use Rattle.ll_announce.specs.declared.standing.Standing.{Standing}
use Rattle.ll_push.specs.Answers.{accepts, ended, is_not_kept, refuses}
use Rattle.ll_announce.specs.Courses.{course_then, first_of, gap_time, later_readings, messages, opening, spoken, texts}
use Rattle.ll_announce.specs.Messages.{Names}
use Rattle.ll_announce.specs.declared.course.Course.{Course}
use Rattle.ll_push.specs.Exchanges.{text_of}

-- ---- items

-- the names of a channel and of its rendition of index `rendition`
abbrev pub names_of : Configuration → ℕ → Names
names_of c rendition = record { channel = c.channel; rendition = name_of c rendition }

-- an open segment is finished before a movie begins
abbrev pub closing_items : ℕ → ℕ → List Item
closing_items rendition index = if not (index == 0) then Finish rendition ∷ [] else []

abbrev pub opening_items : ℕ → Option (Option ℕ) → List Item
opening_items rendition (Some time) = Break rendition time ∷ []
opening_items rendition None = []

-- the items of a piece, after what was announced before has led to course `c`
abbrev pub spoken_items : ℕ → ℕ → Course → ℕ → Piece → List Item
spoken_items rendition part c now (piece.Begin section) =
    (closing_items rendition c.place.index ++ opening_items rendition (opening part c now)) ++ Init rendition section ∷ []
spoken_items rendition part c now (piece.Init section) = Init rendition section ∷ []
spoken_items rendition part c now (piece.Media part') =
    Part (record { rendition = rendition; duration = part'.duration; independent = part'.independent; finish = part'.finishes; media = part'.bytes }) ∷ []
spoken_items rendition part c now piece.Finish = Finish rendition ∷ []
spoken_items rendition part c now (piece.Break None) = Break rendition None ∷ []
spoken_items rendition part c now (piece.Break (Some since)) = Break rendition (Some (gap_time c since)) ∷ []

-- the items of pieces, one after another
abbrev pub items_of : Names → ℕ → ℕ → Course → List ℕ → List Piece → List Item
items_of names rendition part c readings [] = []
items_of names rendition part c readings (piece ∷ pieces) =
    spoken_items rendition part c (first_of readings) piece
    ++ items_of names rendition part (course_then c (spoken names part c (first_of readings) piece) piece) (later_readings piece readings) pieces

-- the end of the rendition, if it is to be ended and no fault ended the encoder's stream
abbrev pub last_items : ℕ → Option StreamFault → Bool → List Item
last_items rendition (Some fault) ends = []
last_items rendition None false = []
last_items rendition None true = End rendition ∷ []

-- the place of a channel, and the item that a text with these bytes spells there, or its fault
abbrev pub read_by : Option (ℕ × Configuration) → (text media : List ℕ) → Option (ℕ × Result Item ItemFault)
read_by None text media = None
read_by (Some found) text media = Some (found.0, item_in found.1 text media)

-- what a publisher's line is to an origin of these channels: the place of the channel that it names, and the item that it spells there, or
-- its fault; `None` if it names no channel, or isn't the line of an item
abbrev pub read_in : List Configuration → says.Line → Option (ℕ × Result Item ItemFault)
read_in channels (says.Item name text media) = read_by (channel_of_name channels 0 name) text media
read_in channels (says.At name rendition) = None
read_in channels says.Bad = None
read_in channels says.TooLong = None
read_in channels says.MediaTooLong = None

-- an item of the channel at `place`, as it is read
abbrev pub read_as : ℕ → Item → Option (ℕ × Result Item ItemFault)
read_as place item = Some (place, Ok item)

-- the channel with settings `c`, which are within their limits, is at `place`, and has a rendition of index `rendition`
pub record IsThere (channels : List Configuration) (place : ℕ) (c : Configuration) (rendition : ℕ) : Type 0 where
  pub found : channel_of_name channels 0 c.channel ≡ Some (place, c)
  pub unbroken : limit_broken c ≡ None
  pub inside : rendition < length c.renditions

-- What is sent for some pieces is read as their items, each with exactly its bytes, if a line can spell each item; and then as what the bytes
-- after it say.
abbrev pub PiecesLaw : Type 0
PiecesLaw = (channels : List Configuration) (place : ℕ) (c : Configuration) (rendition part : ℕ) (course : Course) (readings : List ℕ) (pieces : List Piece) (more : List ℕ)
    → IsThere channels place c rendition → All (IsWritable c) (items_of (names_of c rendition) rendition part course readings pieces)
    → map (read_in channels) (lines (text_of (texts (names_of c rendition) part course readings pieces) ++ more))
    ≡ map (read_as place) (items_of (names_of c rendition) rendition part course readings pieces) ++ map (read_in channels) (lines more)

-- All that is sent of an encoder's bytes is read as the items of all their pieces, if a line can spell each item, and then the end if it is sent.
abbrev pub PushedLaw : Type 0
PushedLaw = (channels : List Configuration) (place : ℕ) (c : Configuration) (rendition part : ℕ) (ends : Bool) (course : Course) (readings : List ℕ) (outcome : Outcome)
    → IsThere channels place c rendition → All (IsWritable c) (items_of (names_of c rendition) rendition part course readings outcome.pieces)
    → map (read_in channels) (lines (text_of (messages (names_of c rendition) part ends course readings outcome)))
    ≡ map (read_as place) (items_of (names_of c rendition) rendition part course readings outcome.pieces ++ last_items rendition outcome.fault ends)

-- ---- answers

-- `text` is one line with its end, of at most 128 bytes in all, which accepts and refuses as these say
pub record IsAnswer (text : List ℕ) (accepted refused : Bool) : Type 0 where
  pub line : List ℕ
  pub is : text ≡ ended line
  pub short : length text ≤ 128
  pub accepts : accepts line ≡ accepted
  pub refuses : refuses line ≡ refused

-- the answer to an accepted item accepts, and doesn't say that the item isn't kept
abbrev pub AcceptedLaw : Type 0
AcceptedLaw = (count : ℕ) → count < 2 ^ 64 → (a : IsAnswer (reply_line (Ok (Accepted count))) true false) × (is_not_kept a.line ≡ false)

-- the answer to an item that is accepted, but not kept, accepts and says so
abbrev pub NotKeptLaw : Type 0
NotKeptLaw = (count : ℕ) → (a : IsAnswer (reply_line (Ok (NotKept count))) true false) × (is_not_kept a.line ≡ true)

-- the answer to a refused line refuses, for any reason
abbrev pub RefusedLaw : Type 0
RefusedLaw = (reason : Refusal) → IsAnswer (reply_line (Err reason)) false true

-- where a rendition stands, as `llhls push` reads it from an answer
abbrev pub told_of : Told → Standing
told_of s = record {
  count = s.count;
  place = record { number = s.number; index = s.index; end = s.end_time; ended = s.ended };
  time = s.time;
}

-- all numbers have 64 bits
pub record IsCounted (s : Told) : Type 0 where
  pub count : s.count < 2 ^ 64
  pub number : s.number < 2 ^ 64
  pub index : s.index < 2 ^ 64
  pub end_time : s.end_time < 2 ^ 64
  pub time : s.time < 2 ^ 64

-- The answer that says where a rendition stands is one line of at most 128 bytes, is read as what it says, and neither accepts nor refuses.
abbrev pub StandingLaw : Type 0
StandingLaw = (s : Told) → IsCounted s → (a : IsAnswer (reply_line (Ok (Stands s))) false false) × (standing.read a.line ≡ Some (told_of s))
