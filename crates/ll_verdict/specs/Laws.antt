-- Laws of every list of events and its requests.
use Rattle.std.specs.Prelude.{◌≡◌, ℕ, ◌+◌, ◌<◌, ◌||◌, List, ◌++◌, true, None, Some, filter, length, not, slice_get}
use Rattle.ll_settings.specs.Settings.{Configuration}
use Rattle.ll_pieces.specs.View.{Paged}
use Rattle.ll_verdict.specs.Events.{Event, Step, until, items}
use Rattle.ll_verdict.specs.State.{state_of, is_waiting}
use Rattle.ll_verdict.specs.Verdict.{Pending, closes, decided, held, is_there, media_of, page_of, piece_of, reply, settles}
use Rattle.ll_verdict.specs.declared.reply.Settled.TheVariants.{Media, Text}
use Rattle.ll_verdict.specs.declared.piece.MediaReply.{MediaReply}

-- a request is decided once: no later event changes what decided it
abbrev pub OneVerdictLaw : Type 0
OneVerdictLaw = (c : Configuration) (events more : List Event) (r : Pending) (s : Step)
    → decided c events r ≡ Some s → decided c (events ++ more) r ≡ Some s

-- `s` decides the request, and no event before it does
pub record IsFirst (c : Configuration) (events : List Event) (r : Pending) (s : Step) : Type 0 where
  pub rest : List Event
  pub place : events ≡ until s ++ rest
  pub decides : (settles c r s || closes r s) ≡ true
  pub first : decided c s.before r ≡ None

-- a request is decided by the first event that settles or closes it
abbrev pub FirstStateLaw : Type 0
FirstStateLaw = (c : Configuration) (events : List Event) (r : Pending) (s : Step) → decided c events r ≡ Some s → IsFirst c events r s

-- The page is that of a moment since the request: by then what the request awaits is there or its rendition has ended, and the channel has accepted
-- more items than when the request was made.
pub record IsNewer (c : Configuration) (events : List Event) (r : Pending) (page : Paged) : Type 0 where
  -- the events from the request up to that moment, and those after it
  pub since : List Event
  pub rest : List Event
  pub place : events ≡ (r.before ++ since) ++ rest
  pub shown : page ≡ page_of c (items c (r.before ++ since)) r.wanted
  pub there : is_there c (items c (r.before ++ since)) r.wanted ≡ true
  pub newer : length (items c r.before) < page.seen.count

-- a playlist that a held request gets is newer than the request
abbrev pub NewerTextLaw : Type 0
NewerTextLaw = (c : Configuration) (events : List Event) (place : ℕ) (r : Pending) (page : Paged)
    → slice_get (held c events) place ≡ Some r → reply c events r ≡ Some (Text page) → IsNewer c events r page

-- The media is that of a moment since the request: by then it is there, and the channel has accepted more items than when the request was made.
pub record IsNewerMedia (c : Configuration) (events : List Event) (r : Pending) (piece : MediaReply) : Type 0 where
  -- the events from the request up to that moment, and those after it
  pub since : List Event
  pub rest : List Event
  pub place : events ≡ (r.before ++ since) ++ rest
  pub shown : piece ≡ piece_of (length (items c (r.before ++ since))) r.wanted piece.bytes
  pub there : media_of c (items c (r.before ++ since)) r.wanted ≡ Some piece.bytes
  pub newer : length (items c r.before) < piece.number

-- media that a held request gets is newer than the request
abbrev pub NewerMediaLaw : Type 0
NewerMediaLaw = (c : Configuration) (events : List Event) (place : ℕ) (r : Pending) (piece : MediaReply)
    → slice_get (held c events) place ≡ Some r → reply c events r ≡ Some (Media piece) → IsNewerMedia c events r piece
