-- The lines of a publisher's stream, some of which are followed by an item's bytes.
use Rattle.std.specs.Prelude.{ℕ, zero, suc, ◌+◌, ◌-◌, ◌==◌, ◌&&◌, Bool, List, [], ◌∷◌, ◌++◌, Option, Some, None, take, drop, length, nat_lt, slice_index, codes, if◌then◌else◌}
use Rattle.std.specs.List.{list_any, before_first, after_first}
use Rattle.std.specs.Str.{is_utf8}
use Rattle.std.specs.Str.Lines.{strip_carriage_return}
use Rattle.ll_attr.specs.Words.{after, words}
use Rattle.ll_item.specs.Announced.{announced, lacks_length}
use Rattle.ll_item.specs.Media.{media_limit}
use Rattle.ll_publish.specs.Line.{Line, Item, At, Bad, TooLong, MediaTooLong}

-- the most bytes of a publisher's line, without its end
abbrev pub line_limit : ℕ
line_limit = 4096

-- ---- one line

-- the channel's name, which is all before the first space, and the item's line, which is all after it
abbrev pub parts : List ℕ → Option (List ℕ × List ℕ)
parts text =
    if is_utf8 text && list_any (λ b. b == 32) text
    then Some (before_first (λ b. b == 32) text, after_first (λ b. b == 32) text)
    else None

-- the text, if it has no space
abbrev pub word_alone : Option (List ℕ) → Option (List ℕ)
word_alone None = None
word_alone (Some name) = if list_any (λ b. b == 32) name then None else Some name

-- the name of the rendition that is asked about, if a text is `at`, a space and one word
abbrev pub asked_in : List ℕ → Option (List ℕ)
asked_in text = word_alone (after (codes "at ") text)

abbrev pub asking : Option (List ℕ) → List ℕ → List ℕ → Line
asking None channel item = Item channel item []
asking (Some rendition) channel item = At channel rendition

-- a line that no bytes follow: a question, or an item; that of an initialization section has to say its number of bytes
abbrev pub line_alone : List ℕ → List ℕ → Line
line_alone channel item = if lacks_length (words item) then Bad else asking (asked_in item) channel item

abbrev pub line_by : Option (List ℕ × List ℕ) → Line
line_by None = Bad
line_by (Some line) = line_alone line.0 line.1

-- a line that no item's bytes follow
abbrev pub line_of : List ℕ → Line
line_of text = line_by (parts text)

-- ---- what a feed keeps

-- the bytes that weren't taken out; while a line is being passed over, the number of bytes before its end is searched for
pub record FeedValue : Type 0 where
  pub unread : List ℕ
  pub passing : Option ℕ

abbrev pub at_line : List ℕ → FeedValue
at_line bytes = record { unread = bytes; passing = None }

abbrev pub in_passing : ℕ → List ℕ → FeedValue
in_passing n bytes = record { unread = bytes; passing = Some n }

abbrev pub fresh : FeedValue
fresh = at_line []

-- after more bytes came
abbrev pub with_bytes : FeedValue → List ℕ → FeedValue
with_bytes f bytes = record f { unread = f.unread ++ bytes }

abbrev pub has_end : List ℕ → Bool
has_end bytes = list_any (λ b. b == 10) bytes

abbrev pub before_end : List ℕ → List ℕ
before_end bytes = before_first (λ b. b == 10) bytes

abbrev pub after_end : List ℕ → List ℕ
after_end bytes = after_first (λ b. b == 10) bytes

-- ---- the front line

-- The line of an item of `n` bytes, which have come, and what is then kept. An LF follows these bytes; if another byte does, the line is
-- bad, and goes on to the next LF.
abbrev pub with_media : ℕ → List ℕ → List ℕ → List ℕ → Option Line × FeedValue
with_media n channel item rest =
    if slice_index rest n == 10 then (Some (Item channel item (take n rest)), at_line (drop (n + 1) rest))
    else (Some Bad, in_passing 0 (drop n rest))

-- The line of an item, by its channel, its own line, what that announces, the bytes that have come after it, and all bytes: while bytes of
-- the item are missing, there is none, and all are kept.
abbrev pub front_item : List ℕ → List ℕ → Option (List ℕ × ℕ) → List ℕ → List ℕ → Option Line × FeedValue
front_item channel line None rest bytes = (Some (line_alone channel line), at_line rest)
front_item channel line (Some item) rest bytes =
    if nat_lt media_limit item.1 then (Some MediaTooLong, in_passing item.1 rest)
    else if nat_lt item.1 (length rest) then with_media item.1 channel item.0 rest
    else (None, at_line bytes)

abbrev pub front_parts : Option (List ℕ × List ℕ) → List ℕ → List ℕ → Option Line × FeedValue
front_parts None rest bytes = (Some Bad, at_line rest)
front_parts (Some line) rest bytes = front_item line.0 line.1 (announced line.1) rest bytes

-- the front line, by a line that has ended, the bytes after it, and all bytes
abbrev pub front_ended : List ℕ → List ℕ → List ℕ → Option Line × FeedValue
front_ended line rest bytes = if nat_lt line_limit (length line) then (Some TooLong, at_line rest) else front_parts (parts line) rest bytes

-- The front line of bytes of which none are passed over, and what is then kept. A line that no LF has ended is found only if it is
-- too long whatever follows: a CR at its end may belong to the line's end.
abbrev pub front_of : List ℕ → Option Line × FeedValue
front_of bytes =
    if has_end bytes then front_ended (strip_carriage_return (before_end bytes)) (after_end bytes) bytes
    else if nat_lt line_limit (length (strip_carriage_return bytes)) then (Some TooLong, in_passing 0 [])
    else (None, at_line bytes)

-- what is kept once the rest of a line is dropped, as far as it is in the bytes
abbrev pub past_end : List ℕ → FeedValue
past_end bytes = if has_end bytes then at_line (after_end bytes) else in_passing 0 []

-- what is kept once `n` bytes and then the rest of the line are dropped, as far as they are in the bytes
abbrev pub passed_over : ℕ → List ℕ → FeedValue
passed_over n bytes = if nat_lt (length bytes) n then in_passing (n - length bytes) [] else past_end (drop n bytes)

abbrev pub settled_by : Option ℕ → List ℕ → FeedValue
settled_by None bytes = at_line bytes
settled_by (Some n) bytes = passed_over n bytes

-- after the bytes that are passed over were dropped
abbrev pub settled : FeedValue → FeedValue
settled f = settled_by f.passing f.unread

abbrev pub front_at : Option ℕ → List ℕ → Option Line × FeedValue
front_at None bytes = front_of bytes
front_at (Some n) bytes = (None, in_passing n bytes)

-- the front line, if it has come, and what is then kept
abbrev pub front : FeedValue → Option Line × FeedValue
front f = front_at (settled f).passing (settled f).unread

-- ---- all lines

abbrev pub then_more : Option Line → List Line → List Line
then_more None later = []
then_more (Some line) later = line ∷ later

-- at most `n` lines
abbrev pub lines_by : ℕ → FeedValue → List Line
lines_by zero f = []
lines_by (suc n) f = then_more (front f).0 (lines_by n (front f).1)

-- the lines that a feed has still to return; each has at least one byte
abbrev pub lines_in : FeedValue → List Line
lines_in f = lines_by (length f.unread) f

-- the lines of all bytes that a publisher sent
abbrev pub lines : List ℕ → List Line
lines bytes = lines_in (at_line bytes)
