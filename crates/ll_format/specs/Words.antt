-- Words that lines are made of: numbers, durations, URIs, texts and lists of texts (section 4.2).
use Rattle.std.specs.Prelude.{ℕ, true, false, ◌^◌, ◌≤◌, ◌<◌, ◌≡◌, ◌==◌, ◌&&◌, ◌||◌, not, List, [], ◌∷◌, Bool, Option, Some, None, length, nat_le, bytes_eq, decimal, if◌then◌else◌}
use Rattle.std.specs.List.{list_all, join_with_byte}
use Rattle.ll_attr.specs.Attributes.{is_quoted_byte}
use Rattle.ll_attr.specs.Durations.{micros_in, seconds}
use Rattle.ll_attr.specs.Numbers.{number_in}
use Rattle.ll_attr.specs.Words.{pieces_at}
use Rattle.ll_format.specs.Format.{Word}

-- a byte other than CR and LF
abbrev pub is_line_byte : ℕ → Bool
is_line_byte b = not (b == 13 || b == 10)

-- whether a text is on one line
abbrev pub is_one_line : List ℕ → Bool
is_one_line text = list_all is_line_byte text

-- the number that was read, if `text` is how it is spelled
abbrev pub spelled_by : Option ℕ → (ℕ → List ℕ) → List ℕ → Option ℕ
spelled_by None spelled text = None
spelled_by (Some n) spelled text = if bytes_eq (spelled n) text then Some n else None

abbrev pub at_most : ℕ → Option ℕ → Option ℕ
at_most most None = None
at_most most (Some n) = if nat_le n most then Some n else None

-- a number of at most `most`, without leading zeros
abbrev pub number : ℕ → Word ℕ
number most = record {
  print = decimal;
  read = λ text. at_most most (spelled_by (number_in 20 text) decimal text);
  Within = λ n. n ≤ most;
}

-- the end of the durations that are written: 10^12 seconds, in microseconds
abbrev pub duration_end : ℕ
duration_end = 10 ^ 18

-- microseconds, spelled as seconds with six decimals and without leading zeros (rule 1)
abbrev pub duration : Word ℕ
duration = record {
  print = seconds;
  read = λ text. spelled_by (micros_in text) seconds text;
  Within = λ n. n < duration_end;
}

-- a text that passes a test
abbrev pub text_if : (List ℕ → Bool) → Word (List ℕ)
text_if test = record {
  print = λ text. text;
  read = λ text. if test text then Some text else None;
  Within = λ text. test text ≡ true;
}

-- whether a text is allowed in quotation marks
abbrev pub is_quotable : List ℕ → Bool
is_quotable text = list_all is_quoted_byte text

abbrev pub quotable : Word (List ℕ)
quotable = text_if is_quotable

-- one or more bytes that are allowed in quotation marks
abbrev pub is_uri : List ℕ → Bool
is_uri text = nat_le 1 (length text) && is_quotable text

abbrev pub uri : Word (List ℕ)
uri = text_if is_uri

-- one or more bytes other than CR and LF
abbrev pub is_rest : List ℕ → Bool
is_rest text = nat_le 1 (length text) && is_one_line text

abbrev pub rest_of_line : Word (List ℕ)
rest_of_line = text_if is_rest

-- the texts between bytes c; the empty text has none
abbrev pub cut_at : ℕ → List ℕ → List (List ℕ)
cut_at c [] = []
cut_at c (b ∷ bs) = pieces_at c (b ∷ bs)

-- a byte that is allowed in quotation marks and isn't the separator c
abbrev pub is_byte_between : ℕ → ℕ → Bool
is_byte_between c b = is_quoted_byte b && not (b == c)

-- whether this is the list of the empty text alone, which would be spelled like the empty list
abbrev pub is_one_empty : List (List ℕ) → Bool
is_one_empty ([] ∷ []) = true
is_one_empty texts = false

-- texts that are allowed in quotation marks, with one separator c between two of them
abbrev pub separated : ℕ → Word (List (List ℕ))
separated c = record {
  print = join_with_byte c;
  read = λ text. if is_quotable text then Some (cut_at c text) else None;
  Within = λ texts. (list_all (list_all (is_byte_between c)) texts && not (is_one_empty texts)) ≡ true;
}
