-- The pieces that are published of an encoder's stream.
use Rattle.std.specs.Prelude.{◌≡◌, ◌≢◌, ℕ, Bool, true, false, List, [], ◌∷◌, ◌++◌, length, fold, is_some, if◌then◌else◌, Option, Some, None, Result, Ok, Err}
use Rattle.ll_mp4.specs.Elements.{element_of}
use Rattle.ll_mp4.specs.Movies.{MovieValue}
use Rattle.ll_mp4.specs.Numbers.{◌>>=◌}
use Rattle.ll_mp4.specs.Streams.{Left, Told, at_front, end_fault, fed, front, told}
use Rattle.ll_mp4.specs.declared.element.Element.{Element}
use Rattle.ll_mp4.specs.declared.element.Element.TheVariants.{Movie, Fragment, Beside}
use Rattle.ll_mp4.specs.declared.fault.StreamFault.{StreamFault}
use Rattle.ll_mp4.specs.declared.fault.StreamFault.TheVariants.{Memory, NoMoov}
use Rattle.ll_parts.specs.Joined.{Joining, Taken, at_start, begun, beside, finished, heard, on_stage, over, refusal, refusal_beside}
use Rattle.ll_runs.specs.declared.lengths.Lengths.{Lengths}
use Rattle.ll_parts.specs.declared.pieces.Piece.{Piece}
use Rattle.ll_mp4.specs.declared.timing.DecodeTime.{DecodeTime}

-- the last movie, and what is joined of it
pub record Stream : Type 0 where
  pub movie : Option MovieValue
  pub joining : Joining

-- ---- one more unit

-- the pieces that a unit completes, and the stream after it
pub record Brought : Type 0 where
  pub pieces : List Piece
  pub after : Stream

abbrev pub brought_by : Option MovieValue → Taken → Brought
brought_by movie taken = record { pieces = taken.pieces; after = record { movie = movie; joining = taken.after } }

abbrev pub unless : Option StreamFault → Brought → Result Brought StreamFault
unless (Some fault) brought = Err fault
unless None brought = Ok brought

-- a unit that goes with the fragment before it
abbrev pub with_beside : Stream → List ℕ → Option DecodeTime → Result Brought StreamFault
with_beside s unit decode_time =
    unless (refusal_beside s.joining.stage (length unit))
    (record { pieces = []; after = record s { joining = on_stage s.joining (beside s.joining.stage (record { bytes = unit; decode_time = decode_time })) } })

abbrev pub with_element : Stream → List ℕ → Element → Result Brought StreamFault
with_element s unit (Movie movie) = Ok (brought_by (Some movie) (begun s.joining unit movie))
with_element s unit (Fragment timing) = unless (refusal s.joining s.joining.stage (length unit) timing) (brought_by s.movie (heard s.joining s.joining.stage unit timing))
with_element s unit (Beside decode_time) = with_beside s unit decode_time

abbrev pub brought : Stream → List ℕ → Result Brought StreamFault
brought s unit = do
  element ← element_of s.movie unit
  with_element s unit element

-- ---- all units

-- the stream, its pieces that weren't taken, and the fault that ended it
pub record Progress : Type 0 where
  pub stream : Stream
  pub pieces : List Piece
  pub fault : Option StreamFault

-- the pieces, with the last ones of the movie
abbrev pub all_pieces : Progress → List Piece
all_pieces p = p.pieces ++ over p.stream.joining p.stream.joining.stage

abbrev pub stopped : Progress → Option StreamFault → Progress
stopped p fault = record { stream = record p.stream { joining = finished p.stream.joining }; pieces = all_pieces p; fault = fault }

abbrev pub advanced_by : Progress → Result Brought StreamFault → Progress
advanced_by p (Ok brought) = record { stream = brought.after; pieces = p.pieces ++ brought.pieces; fault = None }
advanced_by p (Err fault) = stopped p (Some fault)

-- after a fault, units change nothing
abbrev pub advanced_from : Progress → List ℕ → Option StreamFault → Progress
advanced_from p unit (Some fault) = p
advanced_from p unit None = advanced_by p (brought p.stream unit)

abbrev pub advanced : Progress → List ℕ → Progress
advanced p unit = advanced_from p unit p.fault

-- pieces, and the fault after them, if there is one
pub record Outcome : Type 0 where
  pub pieces : List Piece
  pub fault : Option StreamFault

-- a stream has a movie at least
abbrev pub or_no_movie : Option MovieValue → Option StreamFault → Option StreamFault
or_no_movie movie (Some fault) = Some fault
or_no_movie None None = Some NoMoov
or_no_movie (Some movie) None = None

-- the outcome if the units end with this fault or none
abbrev pub ended_by : Progress → Option StreamFault → Option StreamFault → Outcome
ended_by p (Some fault) end = record { pieces = p.pieces; fault = Some fault }
ended_by p None end = record { pieces = all_pieces p; fault = or_no_movie p.stream.movie end }

abbrev pub ended : Progress → Option StreamFault → Outcome
ended p end = ended_by p p.fault end

-- the pieces and the fault, once the units still to come have been added
abbrev pub outcome : Progress → Told → Outcome
outcome p told = ended (fold advanced p told.units) told.fault

-- ---- a cutter

-- the input's bytes that are left, the progress of those that were cut, and whether the input has ended
pub record CutterValue : Type 0 where
  pub left : Left
  pub progress : Progress
  pub is_over : Bool

abbrev pub begun_cutter : Lengths → ℕ → CutterValue
begun_cutter lengths end = record {
  left = at_front [];
  progress = record { stream = record { movie = None; joining = at_start lengths end }; pieces = []; fault = None };
  is_over = false;
}

-- the pieces and the fault still to come, if the input continues with these bytes and then ends
abbrev pub to_come : CutterValue → List ℕ → Outcome
to_come c input =
    if c.is_over then record { pieces = c.progress.pieces; fault = c.progress.fault } else outcome c.progress (told (fed c.left input))

-- the pieces and the fault of an encoder's stream for a rendition that ends at this microsecond
abbrev pub published : Lengths → ℕ → List ℕ → Outcome
published lengths end input = to_come (begun_cutter lengths end) input

abbrev pub with_piece : Piece → Outcome → Outcome
with_piece piece later = record later { pieces = piece ∷ later.pieces }

-- ---- what is done with a cutter

-- with more bytes of the input
abbrev pub with_bytes : CutterValue → List ℕ → CutterValue
with_bytes c bytes = record c { left = fed c.left bytes }

-- with a piece before those that weren't taken
abbrev pub with_first : Piece → CutterValue → CutterValue
with_first piece c = record c { progress = record c.progress { pieces = piece ∷ c.progress.pieces } }

-- the cutter after the unit or the fault at the front, and whether there was one
abbrev pub after_front : CutterValue → Result (Option (List ℕ)) StreamFault × Left → Bool × CutterValue
after_front c ((Ok None), left) = (false, record c { left = left })
after_front c ((Ok (Some unit)), left) =
    (true, record { left = left; progress = advanced c.progress unit; is_over = is_some (advanced c.progress unit).fault })
after_front c ((Err fault), left) = (true, record { left = left; progress = stopped c.progress (Some fault); is_over = true })

abbrev pub advanced_cutter : CutterValue → Bool × CutterValue
advanced_cutter c = if c.is_over then (false, c) else after_front c (front c.left)

-- the input ends
abbrev pub closed : CutterValue → CutterValue
closed c =
    if c.is_over then c
    else record { left = c.left; progress = stopped c.progress (or_no_movie c.progress.stream.movie (end_fault c.left)); is_over = true }

-- ---- for private contracts

-- the unit completes pieces, which were added to others
abbrev pub Brings : Stream → List ℕ → List Piece → Stream → List Piece → Type 0
Brings before unit pieces after later = (brings : List Piece) × (brought before unit ≡ Ok (record { pieces = brings; after = after })) × (later ≡ pieces ++ brings)

-- a unit is refused, and nothing changed
abbrev pub IsRefused : Stream → List ℕ → List Piece → Stream → List Piece → StreamFault → Type 0
IsRefused before unit pieces after later fault = fault ≢ Memory → (brought before unit ≡ Err fault) × (after ≡ before) × (later ≡ pieces)
