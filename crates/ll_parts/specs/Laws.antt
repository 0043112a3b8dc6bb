-- The laws of cutters.
use Rattle.std.specs.Prelude.{◌≡◌, ◌≤◌, ◌<◌, ◌+◌, ⊤, ℕ, List, [], ◌∷◌, ◌++◌, false, if◌then◌else◌, None, All, max}
use Rattle.ll_parts.specs.Stream.{CutterValue, advanced_cutter, closed, published, to_come, with_bytes, with_first, with_piece}
use Rattle.ll_runs.specs.declared.lengths.Lengths.{Lengths}
use Rattle.ll_parts.specs.declared.pieces.Piece.{Piece}
use Rattle.ll_parts.specs.declared.pieces.Piece.TheVariants.{Begin, Init, Media, Finish, Break}

-- bytes that came before others change nothing of what is to come
abbrev pub BytesCome : Type 0
BytesCome = (c : CutterValue) (bytes input : List ℕ) → to_come c (bytes ++ input) ≡ to_come (with_bytes c bytes) input

-- a piece that is there is the first of what is to come, whatever the input
abbrev pub PieceIsFirst : Type 0
PieceIsFirst = (piece : Piece) (c : CutterValue) (input : List ℕ) → to_come (with_first piece c) input ≡ with_piece piece (to_come c input)

-- a cutter that isn't over has met no fault
abbrev pub IsGoing : CutterValue → Type 0
IsGoing c = c.is_over ≡ false → c.progress.fault ≡ None

-- taking a unit changes nothing of what is to come, whatever the input
abbrev pub UnitsCome : Type 0
UnitsCome = (c : CutterValue) (input : List ℕ) → IsGoing c → to_come c input ≡ to_come (advanced_cutter c).1 input

-- nor does the end of the input, if no unit was there
abbrev pub EndComes : Type 0
EndComes = (c : CutterValue) (input : List ℕ) → (advanced_cutter c).0 ≡ false → IsGoing c → to_come c [] ≡ to_come (closed (advanced_cutter c).1) input

-- ---- parts

-- a part is no longer than `lengths` say, or than a microsecond
abbrev pub IsShort : Lengths → Piece → Type 0
IsShort lengths (Begin section) = ⊤
IsShort lengths (Init section) = ⊤
IsShort lengths (Media part) = part.duration ≤ max 1 lengths.part
IsShort lengths Finish = ⊤
IsShort lengths (Break since) = ⊤

-- every part of a stream is so short
abbrev pub PartsFit : Type 0
PartsFit = (lengths : Lengths) (end : ℕ) (input : List ℕ) → All (IsShort lengths) (published lengths end input).pieces

-- ---- segments

-- the duration of the open segment after a piece, if it was n before
abbrev pub open_after : ℕ → Piece → ℕ
open_after n (Begin section) = n
open_after n (Init section) = n
open_after n (Media part) = if part.finishes then 0 else n + part.duration
open_after n Finish = 0
open_after n (Break since) = n

-- a piece is allowed after n microseconds of an open segment: a part makes it no longer than `most`, a finish
-- ends an open one, and all else comes after its end
abbrev pub IsAllowed : ℕ → ℕ → Piece → Type 0
IsAllowed most n (Begin section) = n ≡ 0
IsAllowed most n (Init section) = n ≡ 0
IsAllowed most n (Media part) = n + part.duration ≤ most
IsAllowed most n Finish = 0 < n
IsAllowed most n (Break since) = n ≡ 0

abbrev pub AreAllowed : ℕ → ℕ → List Piece → Type 0
AreAllowed most n [] = n ≡ 0
AreAllowed most n (piece ∷ pieces) = IsAllowed most n piece × AreAllowed most (open_after n piece) pieces

-- if parts don't wait, each segment of a stream ends, and none is longer than the longest allowed
abbrev pub SegmentsFit : Type 0
SegmentsFit =
    (lengths : Lengths) (end : ℕ) (input : List ℕ) → lengths.ahead ≡ false → lengths.part ≤ lengths.most
    → AreAllowed lengths.most 0 (published lengths end input).pieces
