-- The places before the version are those of the reading.
use Rattle.std.proofs.Common.{◌≡◌, ◌≢◌, ℕ, ◌==◌, List, [], ◌∷◌, Bool, true, false, refl, ap, ◌∙◌, sym, fold, length, ◌&&◌}
use Rattle.std.specs.Prelude.{if◌then◌else◌, nat_lt}
use Rattle.std.specs.Str.{is_utf8}
use Rattle.httparse.specs.Grammar.{is_token_byte, is_uri_byte, is_value_byte, RequestHead}
use Rattle.ll_wire.specs.declared.place.Place.{Place}
use Rattle.ll_wire.specs.declared.place.Place.TheVariants as place
use Rattle.ll_wire.specs.Reading.{Reading, Blank, BlankReturn, Method, Target, Version, LineStop, LineReturn, Lines, LinesReturn, Name, Value, ValueReturn, Whole, Wrong, start, step, read, blank_by, blank_return_by, method_by, target_by, target_done, version_by, digit_by, line_by, line_return_by, lines_by, lines_return_by, name_by, value_by, value_return_by}
use Rattle.ll_wire.specs.Heads.{is_in_target}
use Rattle.ll_wire.specs.Places.{place_of, next_place}

module _ (h : RequestHead) (b : ℕ) where
  blank_place : (t c l : Bool) → place_of (blank_by t c l h b) ≡ (if t then place.Method else if c then place.BlankReturn else if l then place.Blank else place.Past)
  blank_place true c l = refl
  blank_place false true l = refl
  blank_place false false true = refl
  blank_place false false false = refl

  blank_return_place : (l : Bool) → place_of (blank_return_by l h) ≡ (if l then place.Blank else place.Past)
  blank_return_place true = refl
  blank_return_place false = refl

  method_place : (t s : Bool) → place_of (method_by t s h b) ≡ (if t then place.Method else if s then place.Target else place.Past)
  method_place true s = refl
  method_place false true = refl
  method_place false false = refl

  done_place : (fits : Bool) → place_of (target_done fits h) ≡ place.Past
  done_place true = refl
  done_place false = refl

  target_place : (u s : Bool) → place_of (target_by u s h b) ≡ (if u then place.Target else place.Past)
  target_place true s = refl
  target_place false true = done_place (nat_lt 0 (length h.target) && is_utf8 h.target)
  target_place false false = refl

  version_place : (s : Bool) (left : List ℕ) → place_of (version_by s h left) ≡ place.Past
  version_place true left = refl
  version_place false left = refl

  digit_place : (z o : Bool) → place_of (digit_by z o h) ≡ place.Past
  digit_place true o = refl
  digit_place false true = refl
  digit_place false false = refl

  line_place : (c l : Bool) → place_of (line_by c l h) ≡ place.Past
  line_place true l = refl
  line_place false true = refl
  line_place false false = refl

  line_return_place : (l : Bool) → place_of (line_return_by l h) ≡ place.Past
  line_return_place true = refl
  line_return_place false = refl

  lines_place : (t c l : Bool) → place_of (lines_by t c l h b) ≡ place.Past
  lines_place true c l = refl
  lines_place false true l = refl
  lines_place false false true = refl
  lines_place false false false = refl

  lines_return_place : (l : Bool) → place_of (lines_return_by l h) ≡ place.Past
  lines_return_place true = refl
  lines_return_place false = refl

  name_place : (t s : Bool) (name : List ℕ) → place_of (name_by t s h name b) ≡ place.Past
  name_place true s name = refl
  name_place false true name = refl
  name_place false false name = refl

  value_place : (t c l : Bool) (name raw : List ℕ) → place_of (value_by t c l h name raw b) ≡ place.Past
  value_place true c l name raw = refl
  value_place false true l name raw = refl
  value_place false false true name raw = refl
  value_place false false false name raw = refl

  value_return_place : (l : Bool) (name raw : List ℕ) → place_of (value_return_by l h name raw) ≡ place.Past
  value_return_place true name raw = refl
  value_return_place false name raw = refl

place_step : (s : Reading) (b : ℕ) → place_of (step s b) ≡ next_place (place_of s) b
place_step (Blank h) b = blank_place h b (is_token_byte b) (b == 13) (b == 10)
place_step (BlankReturn h) b = blank_return_place h b (b == 10)
place_step (Method h) b = method_place h b (is_token_byte b) (b == 32)
place_step (Target h) b = target_place h b (is_uri_byte b) (b == 32)
place_step (Version h (c ∷ left)) b = version_place h b (b == c) left
place_step (Version h []) b = digit_place h b (b == 48) (b == 49)
place_step (LineStop h) b = line_place h b (b == 13) (b == 10)
place_step (LineReturn h) b = line_return_place h b (b == 10)
place_step (Lines h) b = lines_place h b (is_token_byte b) (b == 13) (b == 10)
place_step (LinesReturn h) b = lines_return_place h b (b == 10)
place_step (Name h name) b = name_place h b (is_token_byte b) (b == 58) name
place_step (Value h name raw) b = value_place h b (is_value_byte b) (b == 13) (b == 10) name raw
place_step (ValueReturn h name raw) b = value_return_place h b (b == 10) name raw
place_step (Whole h) b = refl
place_step Wrong b = refl

place_steps : (s : Reading) (bytes : List ℕ) → place_of (fold step s bytes) ≡ fold next_place (place_of s) bytes
place_steps s [] = refl
place_steps s (b ∷ bytes) = place_steps (step s b) bytes ∙ ap (λ p. fold next_place p bytes) (place_step s b)

pub read_place : (bytes : List ℕ) → place_of (read bytes) ≡ fold next_place place.Blank bytes
unfolding read
read_place bytes = place_steps start bytes

abbrev pub is_target_place : Place → Bool
is_target_place place.Target = true
is_target_place place.Blank = false
is_target_place place.BlankReturn = false
is_target_place place.Method = false
is_target_place place.Past = false

by_place : (s : Reading) → is_in_target s ≡ is_target_place (place_of s)
by_place (Target h) = refl
by_place (Blank h) = refl
by_place (BlankReturn h) = refl
by_place (Method h) = refl
by_place (Version h left) = refl
by_place (LineStop h) = refl
by_place (LineReturn h) = refl
by_place (Lines h) = refl
by_place (LinesReturn h) = refl
by_place (Name h name) = refl
by_place (Value h name raw) = refl
by_place (ValueReturn h name raw) = refl
by_place (Whole h) = refl
by_place Wrong = refl

pub in_target : (bytes : List ℕ) (p : Place) → p ≡ fold next_place place.Blank bytes → is_in_target (read bytes) ≡ is_target_place p
in_target bytes p e = by_place (read bytes) ∙ ap is_target_place (read_place bytes ∙ sym e)

other_place : (p : Place) → p ≢ place.Target → is_target_place p ≡ false
other_place place.Target ne = absurd (ne refl)
other_place place.Blank ne = refl
other_place place.BlankReturn ne = refl
other_place place.Method ne = refl
other_place place.Past ne = refl

pub at_target : (bytes : List ℕ) (p : Place) → p ≡ fold next_place place.Blank bytes → p ≡ place.Target → is_in_target (read bytes) ≡ true
at_target bytes p e t = in_target bytes p e ∙ ap is_target_place t

pub at_other : (bytes : List ℕ) (p : Place) → p ≡ fold next_place place.Blank bytes → p ≢ place.Target → is_in_target (read bytes) ≡ false
at_other bytes p e ne = in_target bytes p e ∙ other_place p ne
