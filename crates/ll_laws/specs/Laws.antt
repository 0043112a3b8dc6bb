-- Laws of full playlists and delta updates of published items.
use Rattle.std.specs.Prelude.{◌≡◌, ℕ, ◌+◌, ◌*◌, ◌≤◌, ◌<◌, List, [], ◌++◌, Some, Ok, length}
use Rattle.ll_settings.specs.Settings.{Configuration, IsWithin, skip_limit}
use Rattle.ll_item.specs.declared.item.Item.{Item}
use Rattle.ll_item.specs.Told.{end_time}
use Rattle.ll_window.specs.Segments.{own}
use Rattle.ll_page.specs.Delta.{delta_playlist, delta_text}
use Rattle.ll_page.specs.Full.{full_playlist, full_text}
use Rattle.ll_line.specs.Playlist.{Skip}
use Rattle.ll_pieces.specs.View.{seen}
use Rattle.ll_item.specs.declared.skip_kind.SkipKind.{SkipKind}
use Rattle.ll_read.specs.Readable.{IsReadable}
use Rattle.ll_apply.specs.Applied.{applied}
use Rattle.ll_apply.specs.Texts.{applied_text}
use Rattle.ll_laws.specs.Published.{AreAccepted, AreAcceptedFor, ArePublished}

-- A delta update, applied to an earlier full playlist, is the full playlist of its own moment, if the parts accepted between
-- the two last no longer than the Skip Boundary, as rule 21 says (section 6.2.5.1).
abbrev pub CompanionLaw : Type 0
CompanionLaw = (c : Configuration) (items more : List Item) (rendition : ℕ) (kind : SkipKind)
    → rendition < length c.renditions → 6 * c.target ≤ c.skip → AreAcceptedFor kind c (items ++ more)
    → end_time (own rendition (items ++ more)) ≤ end_time (own rendition items) + skip_limit c
    → applied (full_playlist (seen c items rendition)) (delta_playlist kind (seen c (items ++ more) rendition))
    ≡ Ok (full_playlist (seen c (items ++ more) rendition))

-- a delta update that skips segments has a segment of its own
abbrev pub OwnSegmentLaw : Type 0
OwnSegmentLaw = (c : Configuration) (items : List Item) (rendition : ℕ) (kind : SkipKind) (skip : Skip)
    → rendition < length c.renditions → 1 ≤ c.target → 6 * c.target ≤ c.skip → AreAccepted c [] items
    → (delta_playlist kind (seen c items rendition)).skipped ≡ Some skip → 1 ≤ length (delta_playlist kind (seen c items rendition)).segments

-- full playlists and delta updates of published items can be read back from their texts
abbrev pub ReadableLaw : Type 0
ReadableLaw = (c : Configuration) (items : List Item) (rendition : ℕ) (kind : SkipKind) → IsWithin c → rendition < length c.renditions → ArePublished c [] items
    → IsReadable (full_playlist (seen c items rendition)) × IsReadable (delta_playlist kind (seen c items rendition))

-- The text of a delta update, applied to that of an earlier full playlist, is the text of the full playlist of its own moment, if
-- the parts accepted between the two last no longer than the Skip Boundary, as rule 21 says (section 6.2.5.1).
abbrev pub TextLaw : Type 0
TextLaw = (c : Configuration) (items more : List Item) (rendition : ℕ) (kind : SkipKind)
    → IsWithin c → rendition < length c.renditions → ArePublished c [] (items ++ more)
    → end_time (own rendition (items ++ more)) ≤ end_time (own rendition items) + skip_limit c
    → applied_text (full_text (seen c items rendition)) (delta_text kind (seen c (items ++ more) rendition))
    ≡ Ok (full_text (seen c (items ++ more) rendition))
