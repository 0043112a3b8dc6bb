-- What two origins give alike of one rendition whose own items come in one order at both, in whatever order those of other renditions come.
use Rattle.std.specs.Prelude.{◌≡◌, ◌≢◌, ◌⊎◌, ℕ, List, ◌++◌, Option, Some, slice_get}
use Rattle.ll_item.specs.declared.item.Item.{Item}
use Rattle.ll_item.specs.declared.skip_kind.SkipKind.{SkipKind}
use Rattle.ll_item.specs.declared.what.What.{What}
use Rattle.ll_line.specs.Line.{Line}
use Rattle.ll_line.specs.Spelling.{lines_of}
use Rattle.ll_line.specs.Text.{text_of}
use Rattle.ll_page.specs.Full.{reports_of}
use Rattle.ll_page.specs.Page.{page_text}
use Rattle.ll_pieces.specs.View.{Paged, seen, update_in}
use Rattle.ll_settings.specs.Settings.{Configuration}
use Rattle.ll_store.specs.Media.{media}
use Rattle.ll_verdict.specs.Events.{Event, items}
use Rattle.ll_verdict.specs.Names.{reply_name, reply_status}
use Rattle.ll_verdict.specs.Verdict.{Pending, held, reply, reply_of}
use Rattle.ll_verdict.specs.declared.piece.MediaReply.{MediaReply}
use Rattle.ll_verdict.specs.declared.reply.Settled.{Settled}
use Rattle.ll_verdict.specs.declared.reply.Settled.TheVariants.{Media, NotFound, Text, Timeout}
use Rattle.ll_window.specs.Segments.{own}
use Rattle.ll_twin_laws.specs.Laws.{playlist_in, unreported}

-- ---- replies

-- the lines of a full playlist or delta update
abbrev pub page_lines : Paged → List Line
page_lines p = lines_of (playlist_in p.form p.seen)

-- two full playlists, or two delta updates of one kind, which are the same but for EXT-X-RENDITION-REPORT lines
pub record AreAlike (p q : Paged) : Type 0 where
  -- the kind that was asked for, and the kind of delta update that it is, if any
  pub form : p.form ≡ q.form
  pub update : update_in p ≡ update_in q
  -- each text is that of its lines, which are the same without those of reports
  pub text : page_text p ≡ text_of (page_lines p)
  pub other_text : page_text q ≡ text_of (page_lines q)
  pub lines : unreported (page_lines p) ≡ unreported (page_lines q)
  -- with the same reports it is the same text
  pub same : reports_of p.seen ≡ reports_of q.seen → page_text p ≡ page_text q

-- both replies are playlists or delta updates, the same but for EXT-X-RENDITION-REPORT lines
pub record AreTexts (x y : Settled) : Type 0 where
  pub page : Paged
  pub other : Paged
  pub is : x ≡ Text page
  pub other_is : y ≡ Text other
  pub alike : AreAlike page other

-- Both replies are media: the same bytes of the same file of the same rendition. How many items its own channel had accepted is each one's own.
pub record AreMedia (x y : Settled) : Type 0 where
  pub piece : MediaReply
  pub number : ℕ
  pub is : x ≡ Media piece
  pub other_is : y ≡ Media (record piece { number = number })

-- two replies with the same status and name, which differ in no more than EXT-X-RENDITION-REPORT lines
pub record IsAlike (x y : Settled) : Type 0 where
  pub status : reply_status (reply_of x) ≡ reply_status (reply_of y)
  pub name : reply_name (reply_of x) ≡ reply_name (reply_of y)
  pub all : AreTexts x y ⊎ (AreMedia x y ⊎ ((x ≡ NotFound) × (y ≡ NotFound)))

-- Of the rendition of a request, one origin has accepted the items of the other, or those and `more`. A request that waits at both, each with its own
-- ticket and time, gets alike replies of both, unless one of these is Timeout.
abbrev pub OwnReplyLaw : Type 0
OwnReplyLaw = (c : Configuration) (events others : List Event) (more : List Item) (place spot : ℕ) (r s : Pending)
    → slice_get (held c events) place ≡ Some r → slice_get (held c others) spot ≡ Some s → r.wanted ≡ s.wanted
    → own r.wanted.rendition (items c others) ≡ own r.wanted.rendition (items c events) ++ more
    → (x y : Settled) → reply c events r ≡ Some x → reply c others s ≡ Some y → x ≢ Timeout → y ≢ Timeout → IsAlike x y

-- ---- moments

-- the playlist or delta update of a rendition after these items of its channel
abbrev pub page_after : Configuration → List Item → ℕ → Option SkipKind → Paged
page_after c list rendition form = record { seen = seen c list rendition; form = form }

-- A moment of a channel at which it has accepted the same items of the rendition as are in `list`: each text is that after `list` but for
-- EXT-X-RENDITION-REPORT lines, and all media of the rendition is the same.
pub record IsOwnMoment (c : Configuration) (events : List Event) (rendition : ℕ) (list : List Item) : Type 0 where
  pub before : List Event
  pub after : List Event
  pub place : events ≡ before ++ after
  pub same : own rendition (items c before) ≡ own rendition list
  pub page : (form : Option SkipKind) → AreAlike (page_after c list rendition form) (page_after c (items c before) rendition form)
  pub media : (what : What) → media c (own rendition (items c before)) what ≡ media c (own rendition list) what

-- Of one rendition, one origin has accepted the items of the other and perhaps `more`: of this rendition it has had each moment of the other.
abbrev pub OwnMomentLaw : Type 0
OwnMomentLaw = (c : Configuration) (events others : List Event) (rendition : ℕ) (more : List Item)
    → own rendition (items c others) ≡ own rendition (items c events) ++ more
    → (before after : List Event) → events ≡ before ++ after → IsOwnMoment c others rendition (items c before)
