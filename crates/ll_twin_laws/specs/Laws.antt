-- What two origins of one channel give alike.
use Rattle.std.specs.Prelude.{◌≡◌, ◌≢◌, ℕ, List, ◌++◌, Bool, true, false, not, Option, None, Some, filter, map, slice_get}
use Rattle.ll_item.specs.declared.item.Item.{Item}
use Rattle.ll_item.specs.declared.skip_kind.SkipKind.{SkipKind}
use Rattle.ll_item.specs.declared.what.What.{What}
use Rattle.ll_line.specs.Line.{Line, First, Version, TargetDuration, ServerControl, PartTarget, MediaSequence, DiscontinuitySequence, DateRange, Skipped, Discontinuity, Map, Time, Part, Duration, Uri, RenditionReport, Hint, EndList}
use Rattle.ll_line.specs.Playlist.{Playlist}
use Rattle.ll_line.specs.Spelling.{lines_of}
use Rattle.ll_line.specs.Text.{text_of}
use Rattle.ll_page.specs.Delta.{delta_playlist}
use Rattle.ll_page.specs.Full.{full_playlist}
use Rattle.ll_page.specs.Page.{text_in}
use Rattle.ll_pieces.specs.View.{Seen, renditions, seen}
use Rattle.ll_rendition.specs.declared.rendition.Rendition.{Rendition}
use Rattle.ll_settings.specs.Settings.{Configuration}
use Rattle.ll_store.specs.Media.{media}
use Rattle.ll_verdict.specs.Events.{Event, items}
use Rattle.ll_verdict.specs.Verdict.{Pending, held, reply}
use Rattle.ll_verdict.specs.declared.reply.Settled.{Settled}
use Rattle.ll_verdict.specs.declared.reply.Settled.TheVariants.{Timeout}
use Rattle.ll_window.specs.Segments.{own}
use Rattle.ll_window.specs.declared.part_position.PartPosition.{PartPosition}

-- ---- the same items of a rendition

-- the position of the last part of each rendition, if it has one
abbrev pub lasts : Configuration → List Item → List (Option PartPosition)
lasts c list = map (λ (k : Rendition). k.window.last) (renditions c list)

-- the same items of a rendition, and the same last part of each rendition: the same texts, of full playlists and of delta updates
abbrev pub TwinTextLaw : Type 0
TwinTextLaw = (c : Configuration) (list other : List Item) (rendition : ℕ) (form : Option SkipKind)
    → own rendition list ≡ own rendition other → lasts c list ≡ lasts c other
    → text_in form (seen c list rendition) ≡ text_in form (seen c other rendition)

-- the same items of a rendition: the same media
abbrev pub TwinMediaLaw : Type 0
TwinMediaLaw = (c : Configuration) (list other : List Item) (rendition : ℕ) (what : What)
    → own rendition list ≡ own rendition other → media c (own rendition list) what ≡ media c (own rendition other) what

-- ---- other last parts

-- the delta update of this kind, or for none the full playlist
abbrev pub playlist_in : Option SkipKind → Seen → Playlist
playlist_in None v = full_playlist v
playlist_in (Some kind) v = delta_playlist kind v

abbrev pub is_report : Line → Bool
is_report First = false
is_report (Version n) = false
is_report (TargetDuration seconds) = false
is_report (ServerControl control) = false
is_report (PartTarget micros) = false
is_report (MediaSequence number) = false
is_report (DiscontinuitySequence number) = false
is_report (DateRange range) = false
is_report (Skipped skip) = false
is_report Discontinuity = false
is_report (Map uri) = false
is_report (Time time) = false
is_report (Part part) = false
is_report (Duration micros) = false
is_report (Uri uri) = false
is_report (RenditionReport report) = true
is_report (Hint uri) = false
is_report EndList = false

-- the lines but those of EXT-X-RENDITION-REPORT
abbrev pub unreported : List Line → List Line
unreported lines = filter (λ line. not (is_report line)) lines

-- A text is that of its playlist's lines; and with the same items of the rendition, these are the same but for EXT-X-RENDITION-REPORT lines.
pub record DifferInReports (c : Configuration) (list other : List Item) (rendition : ℕ) (form : Option SkipKind) : Type 0 where
  pub text : text_in form (seen c list rendition) ≡ text_of (lines_of (playlist_in form (seen c list rendition)))
  pub same : unreported (lines_of (playlist_in form (seen c list rendition))) ≡ unreported (lines_of (playlist_in form (seen c other rendition)))

abbrev pub ReportsLaw : Type 0
ReportsLaw = (c : Configuration) (list other : List Item) (rendition : ℕ) (form : Option SkipKind)
    → own rendition list ≡ own rendition other → DifferInReports c list other rendition form

-- ---- the same items, event by event

-- One origin has accepted the items of the other, or those and `more`. A request that waits at both, each with its own ticket and time, gets the same
-- reply of both, unless one of these is Timeout.
abbrev pub SameReplyLaw : Type 0
SameReplyLaw = (c : Configuration) (events others : List Event) (more : List Item) → items c others ≡ items c events ++ more
    → (place spot : ℕ) (r s : Pending) → slice_get (held c events) place ≡ Some r → slice_get (held c others) spot ≡ Some s → r.wanted ≡ s.wanted
    → (x y : Settled) → reply c events r ≡ Some x → reply c others s ≡ Some y → x ≢ Timeout → y ≢ Timeout → x ≡ y

-- a moment of a channel at which it has accepted these items: its texts and its media are those of the items
pub record IsMoment (c : Configuration) (events : List Event) (list : List Item) : Type 0 where
  pub before : List Event
  pub after : List Event
  pub place : events ≡ before ++ after
  pub same : items c before ≡ list
  pub text : (form : Option SkipKind) (rendition : ℕ) → text_in form (seen c (items c before) rendition) ≡ text_in form (seen c list rendition)
  pub media : (rendition : ℕ) (what : What) → media c (own rendition (items c before)) what ≡ media c (own rendition list) what

-- One origin has accepted the items of the other and perhaps `more`: it has had each moment of the other.
abbrev pub BeginningLaw : Type 0
BeginningLaw = (c : Configuration) (events others : List Event) (more : List Item) → items c others ≡ items c events ++ more
    → (before after : List Event) → events ≡ before ++ after → IsMoment c others (items c before)
