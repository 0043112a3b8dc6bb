-- The head of a request at the front of a connection's bytes: its value, or its first fault (RFC 9112, sections 2 to 5).
use Rattle.std.specs.Prelude.{ℕ, ◌<◌, ◌≤◌, ⊤, List, Bool, true, false, not, ◌==◌, ◌-◌, ◌&&◌, ◌||◌, nat_lt, nat_le, length, take, drop, map, codes, bytes_eq, count_by, slice_range, if◌then◌else◌}
use Rattle.std.specs.List.{list_any, prefix_len, suffix_len}
use Rattle.std.specs.Char.{is_ascii_whitespace}
use Rattle.std.specs.Str.{str_eq_ignore_ascii_case}
use Rattle.ll_attr.specs.Words.{pieces_at}
use Rattle.httparse.specs.Grammar.{RequestHead, print_request}
use Rattle.httparse.specs.Spans.{name_and_value}
use Rattle.ll_wire.specs.Reading.{Reading, Blank, BlankReturn, Method, Target, Version, LineStop, LineReturn, Lines, LinesReturn, Name, Value, ValueReturn, Wrong, read}
use Rattle.ll_wire.specs.Reading as reading
use Rattle.ll_wire.specs.declared.head.Head.{Head}
use Rattle.ll_wire.specs.declared.head.Head.TheVariants as found
use Rattle.ll_wire.specs.declared.fault.HeadFault.{HeadFault}
use Rattle.ll_wire.specs.declared.fault.HeadFault.TheVariants.{BadHead, HeadTooLarge, BadHost, BadMethod, BadBody}

-- a request: the number of bytes of its head, its target, and whether the connection is kept after it
pub record RequestValue : Type 0 where
  pub len : ℕ
  pub target : List ℕ
  pub keep : Bool

-- what stands at the front: less than a head, a request, or bytes that are refused
pub data HeadValue : Type 0 where
  Unfinished : HeadValue
  Whole : RequestValue → HeadValue
  Fault : HeadFault → HeadValue

-- the limits of a head
abbrev pub most_bytes : ℕ
most_bytes = 8192

abbrev pub most_fields : ℕ
most_fields = 64

-- ---- fields

-- the name and the value of a field, without the white space around the value
abbrev pub FieldText : Type 0
FieldText = List ℕ × List ℕ

-- names are compared in either case of letters
abbrev pub is_named : List ℕ → FieldText → Bool
is_named name f = str_eq_ignore_ascii_case f.0 name

abbrev pub is_host : FieldText → Bool
is_host f = is_named (codes "Host") f

-- the field says that a body follows
abbrev pub tells_body : FieldText → Bool
tells_body f = is_named (codes "Transfer-Encoding") f || (is_named (codes "Content-Length") f && not (bytes_eq f.1 (codes "0")))

abbrev pub trimmed_front : List ℕ → List ℕ
trimmed_front text = drop (prefix_len is_ascii_whitespace text) text

abbrev pub trimmed_back : List ℕ → List ℕ
trimmed_back text = take (length text - suffix_len is_ascii_whitespace text) text

-- a list's member, without the white space around it, is the token `close`; the only white space in a field's value is spaces and tabs
abbrev pub is_close : List ℕ → Bool
is_close member = str_eq_ignore_ascii_case (trimmed_back (trimmed_front member)) (codes "close")

-- the field says that the connection is closed after the answer: `close` is one of its comma-separated tokens
abbrev pub tells_close : FieldText → Bool
tells_close f = is_named (codes "Connection") f && list_any is_close (pieces_at 44 f.1)

-- ---- a whole head

abbrev pub field_texts : RequestHead → List FieldText
field_texts h = map name_and_value h.fields

-- HTTP/1.1 without exactly one Host field
abbrev pub lacks_host : ℕ → List FieldText → Bool
lacks_host minor fields = minor == 1 && not (count_by is_host fields == 1)

-- whether the connection is kept after the answer: never in HTTP/1.0
abbrev pub is_kept : ℕ → List FieldText → Bool
is_kept minor fields = minor == 1 && not (list_any tells_close fields)

-- the first fault of a whole head, in this order: too many fields, not one Host, another method, a body
abbrev pub first_fault : Bool → Bool → Bool → Bool → RequestValue → HeadValue
first_fault true host method body r = Fault HeadTooLarge
first_fault false true method body r = Fault BadHost
first_fault false false true body r = Fault BadMethod
first_fault false false false true r = Fault BadBody
first_fault false false false false r = Whole r

-- the request of a whole head, or its first fault, by its length, method, target, minor version and fields
abbrev pub judged_parts : ℕ → List ℕ → List ℕ → ℕ → List FieldText → HeadValue
judged_parts len method target minor fields =
    first_fault (nat_lt most_fields (length fields)) (lacks_host minor fields) (not (bytes_eq method (codes "GET"))) (list_any tells_body fields)
    (record { len = len; target = target; keep = is_kept minor fields })

-- the same, given the head
unfoldable pub judged : RequestHead → HeadValue
judged h = judged_parts (length (print_request h)) h.method h.target h.minor (field_texts h)

-- the value of bytes without a whole head: those that are as many as a head may have are too large
abbrev pub unfinished : List ℕ → HeadValue
unfinished bytes = if nat_le most_bytes (length bytes) then Fault HeadTooLarge else Unfinished

-- ---- any bytes

-- the state of a reading: it goes on, it has read a head, or its bytes begin no head
pub data Outcome : Type 0 where
  Going : Outcome
  Done : RequestHead → Outcome
  Lost : Outcome

abbrev pub outcome : Reading → Outcome
outcome (Blank h) = Going
outcome (BlankReturn h) = Going
outcome (Method h) = Going
outcome (Target h) = Going
outcome (Version h left) = Going
outcome (LineStop h) = Going
outcome (LineReturn h) = Going
outcome (Lines h) = Going
outcome (LinesReturn h) = Going
outcome (Name h name) = Going
outcome (Value h name raw) = Going
outcome (ValueReturn h name raw) = Going
outcome (reading.Whole h) = Done h
outcome Wrong = Lost

-- the reading is in a request's target, which may or may not turn out to be UTF-8
abbrev pub is_in_target : Reading → Bool
is_in_target (Target h) = true
is_in_target (Blank h) = false
is_in_target (BlankReturn h) = false
is_in_target (Method h) = false
is_in_target (Version h left) = false
is_in_target (LineStop h) = false
is_in_target (LineReturn h) = false
is_in_target (Lines h) = false
is_in_target (LinesReturn h) = false
is_in_target (Name h name) = false
is_in_target (Value h name raw) = false
is_in_target (ValueReturn h name raw) = false
is_in_target (reading.Whole h) = false
is_in_target Wrong = false

abbrev pub verdict : List ℕ → Outcome → HeadValue
verdict bytes Going = unfinished bytes
verdict bytes (Done h) = judged h
verdict bytes Lost = Fault BadHead

-- what stands at the front of the bytes, by the first 8,192 of them
unfoldable pub head_of : List ℕ → HeadValue
head_of bytes = verdict bytes (outcome (read (take most_bytes bytes)))

-- the value of a `Head` that was found in the bytes
abbrev pub head_value : List ℕ → Head → HeadValue
head_value bytes found.Part = Unfinished
head_value bytes (found.Bad fault) = Fault fault
head_value bytes (found.Whole len request) = Whole (record { len = len; target = slice_range bytes request.from request.to; keep = request.keep })

-- the target lies in the head, and the head, which isn't empty, in the bytes
abbrev pub LiesIn : List ℕ → Head → Type 0
LiesIn bytes found.Part = ⊤
LiesIn bytes (found.Bad fault) = ⊤
LiesIn bytes (found.Whole len request) = (0 < len) × (len ≤ length bytes) × (request.from ≤ request.to) × (request.to ≤ len)
