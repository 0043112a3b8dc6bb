-- The bytes of a part as they are published: the times of its fragments continue from the end of the rendition.
use Rattle.std.specs.Prelude.{ℕ, ◌+◌, ◌==◌, ◌&&◌, ◌||◌, Bool, true, false, not, List, [], ◌∷◌, ◌++◌, take, drop, length, nat_lt, slice_index, if◌then◌else◌, Option, Some, None}
use Rattle.byteorder.specs.Endian.{big_bytes, big_number}
use Rattle.ll_mp4.specs.Boxes.{Contents, Ended, Broken, Content, contents_in}
use Rattle.ll_mp4.specs.Kinds.{code}
use Rattle.ll_mp4.specs.Movies.{scale_of}
use Rattle.ll_mp4.specs.Numbers.{has}
use Rattle.ll_mp4.specs.declared.kind.Kind.{Kind}
use Rattle.ll_mp4.specs.declared.kind.Kind.TheVariants.{Moof, Traf, Tfhd, Trun, Tfdt, Sidx, Mfra, Prft, Emsg}
use Rattle.ll_mp4.specs.declared.track.TimeScale.{TimeScale}
use Rattle.ll_shift.specs.Pieces.{Box, each, grown, pieces, whole}
use Rattle.ll_shift.specs.Times.{growth, target_at, timed}
use Rattle.ll_shift.specs.declared.shift.Shift.{Shift}

abbrev pub is : Kind → Box → Bool
is kind b = b.kind == code kind

-- ---- the header of a track's fragment (section 8.8.7)

-- the 32-bit number at a place, if it is there
abbrev pub word_at : ℕ → List ℕ → Option ℕ
word_at place bytes = if nat_lt (length bytes) (place + 4) then None else Some (big_number 4 (drop place bytes))

-- the number at a place of the first box of a type
abbrev pub first_word : ℕ → Contents → Option ℕ
first_word place Ended = None
first_word place Broken = None
first_word place (Content content later) = word_at place content

abbrev pub scale_by : List TimeScale → Option ℕ → Option ℕ
scale_by scales None = None
scale_by scales (Some id) = scale_of id scales

-- the number of ticks in a second of a fragment's track, if the track is known
abbrev pub scale_in : List TimeScale → List ℕ → Option ℕ
scale_in scales traf = scale_by scales (first_word 4 (contents_in Tfhd traf))

-- Whether the runs of a track's fragment count the places of their samples from the `moof`: not if flags say that a base data offset is present;
-- otherwise in the first of a `moof`, or if flags say so.
abbrev pub counts_by : Bool → Option ℕ → Bool
counts_by first None = false
counts_by first (Some flags) = not (has flags 0x000001) && (first || has flags 0x020000)

abbrev pub counts_from_moof : Bool → List ℕ → Bool
counts_from_moof first traf = counts_by first (first_word 0 (contents_in Tfhd traf))

-- ---- a run (section 8.8.8)

-- whether a run has the offset of its data
abbrev pub has_offset : List ℕ → Bool
has_offset trun = not (nat_lt (length trun) 12) && has (big_number 4 trun) 0x000001

-- a run whose samples are `more` bytes later, modulo 2^32
abbrev pub later : ℕ → Box → List ℕ
later more b =
    if has_offset b.content then b.header ++ (take 8 b.content ++ (big_bytes 4 (big_number 4 (drop 8 b.content) + more) ++ drop 12 b.content))
    else whole b

-- ---- a track's fragment (section 8.8.6)

-- the number of bytes by which a box in it grows
abbrev pub box_growth : Shift → Option ℕ → Box → ℕ
box_growth shift scale b = if is Tfdt b then growth (target_at shift scale 4 b.content) else 0

-- the sum of these over all boxes
abbrev pub total : (Box → ℕ) → List Box → ℕ
total f [] = 0
total f (b ∷ boxes) = f b + total f boxes

abbrev pub traf_growth : Shift → List TimeScale → List ℕ → ℕ
traf_growth shift scales traf = total (box_growth shift (scale_in scales traf)) (pieces traf).boxes

-- a box in it, by the ticks in a second of its track and the number of bytes by which its samples are later
abbrev pub moved_in_traf : Shift → Option ℕ → ℕ → Box → List ℕ
moved_in_traf shift scale more b =
    if is Tfdt b then timed shift scale 4 b
    else if is Trun b then later more b
    else whole b

abbrev pub moved_traf : Shift → List TimeScale → ℕ → Box → List ℕ
moved_traf shift scales more b =
    grown b (traf_growth shift scales b.content) ++ each (moved_in_traf shift (scale_in scales b.content) more) b.content

-- ---- a fragment (section 8.8.4)

-- the number of bytes by which a box in it grows
abbrev pub growth_in_moof : Shift → List TimeScale → Box → ℕ
growth_in_moof shift scales b = if is Traf b then traf_growth shift scales b.content else 0

abbrev pub moof_growth : Shift → List TimeScale → List ℕ → ℕ
moof_growth shift scales moof = total (growth_in_moof shift scales) (pieces moof).boxes

-- a box in it, by the number of bytes by which the fragment grows; `first` says whether no track's fragment came before
abbrev pub moved_in_moof : Shift → List TimeScale → ℕ → Bool → Box → List ℕ
moved_in_moof shift scales more first b =
    if is Traf b then moved_traf shift scales (if counts_from_moof first b.content then more else 0) b else whole b

-- the boxes in it; `first` says whether no track's fragment came before
abbrev pub moved_in_turn : Shift → List TimeScale → ℕ → Bool → List Box → List ℕ
moved_in_turn shift scales more first [] = []
moved_in_turn shift scales more first (b ∷ boxes) =
    moved_in_moof shift scales more first b ++ moved_in_turn shift scales more (first && not (is Traf b)) boxes

abbrev pub moved_boxes : Shift → List TimeScale → ℕ → Bool → List ℕ → List ℕ
moved_boxes shift scales more first bytes = moved_in_turn shift scales more first (pieces bytes).boxes ++ (pieces bytes).rest

abbrev pub moved_moof : Shift → List TimeScale → Box → List ℕ
moved_moof shift scales b =
    grown b (moof_growth shift scales b.content) ++ moved_boxes shift scales (moof_growth shift scales b.content) true b.content

-- ---- boxes beside it

-- a `prft` has the time at which a fragment was made, and the time of its reference track, which is moved (section 8.16.5)
abbrev pub moved_prft : Shift → List TimeScale → Box → List ℕ
moved_prft shift scales b = timed shift (scale_by scales (word_at 4 b.content)) 16 b

-- an event of version 1 has its own time scale (ISO/IEC 23009-1, section 5.10.3.3); one of version 0 has no time of its own
abbrev pub moved_emsg : Shift → Box → List ℕ
moved_emsg shift b = if slice_index b.content 0 == 1 then timed shift (word_at 4 b.content) 8 b else whole b

-- ---- all boxes

-- one box; the indexes of segments and fragments, whose numbers would be wrong, are left out (sections 8.16.3, 8.8.9)
abbrev pub moved_box : Shift → List TimeScale → Box → List ℕ
moved_box shift scales b =
    if is Sidx b || is Mfra b then []
    else if is Moof b then moved_moof shift scales b
    else if is Prft b then moved_prft shift scales b
    else if is Emsg b then moved_emsg shift b
    else whole b

-- all boxes; what isn't a whole box at the end stays as it is
abbrev pub moved : Shift → List TimeScale → List ℕ → List ℕ
moved shift scales bytes = each (moved_box shift scales) bytes
