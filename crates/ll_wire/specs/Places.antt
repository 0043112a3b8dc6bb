-- For private contracts: whether bytes end in a target, by the part of a reading that decides it.
use Rattle.std.specs.Prelude.{ℕ, ◌==◌, if◌then◌else◌}
use Rattle.httparse.specs.Grammar.{is_token_byte, is_uri_byte}
use Rattle.ll_wire.specs.Reading.{Reading, Blank, BlankReturn, Method, Target, Version, LineStop, LineReturn, Lines, LinesReturn, Name, Value, ValueReturn, Whole, Wrong}
use Rattle.ll_wire.specs.declared.place.Place.{Place}
use Rattle.ll_wire.specs.declared.place.Place.TheVariants as place

-- the place of a reading: all places after the target are one
abbrev pub place_of : Reading → Place
place_of (Target h) = place.Target
place_of (Blank h) = place.Blank
place_of (BlankReturn h) = place.BlankReturn
place_of (Method h) = place.Method
place_of (Version h left) = place.Past
place_of (LineStop h) = place.Past
place_of (LineReturn h) = place.Past
place_of (Lines h) = place.Past
place_of (LinesReturn h) = place.Past
place_of (Name h name) = place.Past
place_of (Value h name raw) = place.Past
place_of (ValueReturn h name raw) = place.Past
place_of (Whole h) = place.Past
place_of Wrong = place.Past

-- the place after one more byte
abbrev pub next_place : Place → ℕ → Place
next_place place.Blank b =
    if is_token_byte b then place.Method else if b == 13 then place.BlankReturn else if b == 10 then place.Blank else place.Past
next_place place.BlankReturn b = if b == 10 then place.Blank else place.Past
next_place place.Method b = if is_token_byte b then place.Method else if b == 32 then place.Target else place.Past
next_place place.Target b = if is_uri_byte b then place.Target else place.Past
next_place place.Past b = place.Past
