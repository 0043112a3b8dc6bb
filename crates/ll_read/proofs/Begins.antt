-- A text that is a playlist's.
use Rattle.std.proofs.Common.{◌≡◌, ℕ, ◌&&◌, Bool, true, false, List, Result, Ok, Err, refl, ap, sym, ◌∙◌, codes, bytes_eq, if◌then◌else◌}
use Rattle.std.proofs.lemmas.Bool.{and_from, false_from_ne_true}
use Rattle.std.proofs.lemmas.Str.{IsUtf8-from_is_utf8, is_utf8-from_IsUtf8}
use Rattle.std.specs.Str.{is_utf8, IsUtf8}
use Rattle.ll_attr.specs.Words.{pieces_at}
use Rattle.ll_line.specs.Playlist.{Playlist}
use Rattle.ll_read.specs.Reading.{first_line, is_playlist, playlist_in, read_from, start}
use Rattle.ll_read.specs.declared.fault.ReadFault.{ReadFault}
use Rattle.ll_read.specs.declared.fault.ReadFault.TheVariants.{NotPlaylist}

pub begun : (text bytes first : List ℕ) → text ≡ bytes → IsUtf8 bytes → first ≡ first_line (pieces_at 10 text) → true ≡ bytes_eq first (codes "#EXTM3U") → read_from 1 start (pieces_at 10 text) ≡ playlist_in bytes
begun text bytes first e utf8 f h =
    let is = and_from (is_utf8 text) (bytes_eq (first_line (pieces_at 10 text)) (codes "#EXTM3U")) (ap is_utf8 e ∙ is_utf8-from_IsUtf8 bytes utf8) (sym (h ∙ ap (λ l. bytes_eq l (codes "#EXTM3U")) f)) in
    sym (ap (λ b. if b then read_from 1 start (pieces_at 10 text) else Err NotPlaylist) is) ∙ ap playlist_in e

pub not_text : (bytes : List ℕ) → (IsUtf8 bytes → ⊥) → playlist_in bytes ≡ Err NotPlaylist
not_text bytes bad =
    let none = false_from_ne_true (is_utf8 bytes) (λ h. bad (IsUtf8-from_is_utf8 bytes h)) in
    ap (λ b. if b && bytes_eq (first_line (pieces_at 10 bytes)) (codes "#EXTM3U") then read_from 1 start (pieces_at 10 bytes) else Err NotPlaylist) none

spelled_by : (x : Bool) (r : Result Playlist ReadFault) (p : Playlist) → (if x then r else Err NotPlaylist) ≡ Ok p → (x ≡ true) × (r ≡ Ok p)
spelled_by true r p h = (refl, h)
spelled_by false r p h = absurd (cc)

-- a text that spells a playlist begins so
pub spelled : (text : List ℕ) (p : Playlist) → playlist_in text ≡ Ok p → (is_playlist text ≡ true) × (read_from 1 start (pieces_at 10 text) ≡ Ok p)
spelled text p h = spelled_by (is_playlist text) (read_from 1 start (pieces_at 10 text)) p h
