-- The end of the year 9999: the last moment that is spelled with four digits of a year.
use Rattle.std.specs.Prelude.{ℕ}

-- its last millisecond and its last microsecond, counted from 1970-01-01T00:00:00Z
abbrev pub last_milli : ℕ
last_milli = 253402300799999

abbrev pub last_micro : ℕ
last_micro = 253402300799999999
