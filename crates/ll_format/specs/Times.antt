-- How a moment in UTC is spelled (section 4.4.4.6 of draft-pantos-hls-rfc8216bis).
use Rattle.std.specs.Prelude.{ℕ, ◌/◌, ◌%◌, List, ◌++◌, decimal, codes}
use Rattle.ll_format.specs.Calendar.{CivilDate, nth_date}

-- the last two, three and four decimal digits of a number
unfoldable pub digits_2 : ℕ → List ℕ
digits_2 n = decimal (n / 10 % 10) ++ decimal (n % 10)

unfoldable pub digits_3 : ℕ → List ℕ
digits_3 n = decimal (n / 100 % 10) ++ (decimal (n / 10 % 10) ++ decimal (n % 10))

unfoldable pub digits_4 : ℕ → List ℕ
digits_4 n = decimal (n / 1000 % 10) ++ (decimal (n / 100 % 10) ++ (decimal (n / 10 % 10) ++ decimal (n % 10)))

-- a date and the milliseconds since its midnight as `YYYY-MM-DDThh:mm:ss.mmmZ`
unfoldable pub time_of : CivilDate → ℕ → List ℕ
time_of date millis =
    digits_4 date.year ++ (codes "-" ++ (digits_2 date.month ++ (codes "-" ++ (digits_2 date.day ++ (codes "T"
    ++ (digits_2 (millis / 3600000) ++ (codes ":" ++ (digits_2 (millis / 60000 % 60) ++ (codes ":"
    ++ (digits_2 (millis / 1000 % 60) ++ (codes "." ++ (digits_3 (millis % 1000) ++ codes "Z"))))))))))))

-- the milliseconds since 1970-01-01T00:00:00Z as a date and a time of day, not counting leap seconds
abbrev pub time_text : ℕ → List ℕ
time_text millis = time_of (nth_date (millis / 86400000)) (millis % 86400000)
