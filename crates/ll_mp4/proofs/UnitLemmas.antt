-- A unit goes on with the front box.
use Rattle.std.proofs.Common.{◌≡◌, ℕ, ◌+◌, ◌≤◌, ◌<◌, ◌==◌, List, Bool, true, false, Some, None, Ok, Err, refl, ap, sym, ◌∙◌, length, drop, nat_lt, if◌then◌else◌, arith}
use borrow.Author.Tests.{lt-ltb, le-ltb}
use Rattle.std.proofs.lemmas.Bool.Decides.{nat_tests}
use Rattle.ll_mp4.specs.Boxes.{Front, Header, and_then, after, boxes, front_by, front_of, header_of}
use Rattle.ll_mp4.specs.Units.{Unit, Open, Refused, Closed, is_last, size_limit, unit_from, within}
use Rattle.ll_mp4.specs.declared.boxes.BoxHead.{BoxHead}
use Rattle.ll_mp4.specs.declared.fault.StreamFault.{StreamFault}
use Rattle.ll_mp4.specs.declared.fault.StreamFault.TheVariants.{TooLarge}
use Rattle.ll_mp4.proofs.BoxLemmas.{one_more}

-- the unit that goes on with bytes that have this header
abbrev pub unit_by : ℕ → List ℕ → Header → Unit
unit_by before bytes (Ok None) = Open
unit_by before bytes (Err fault) = Refused fault
unit_by before bytes (Ok (Some head)) =
    within (before + head.size)
    (if nat_lt (length bytes) head.size then Open
    else if is_last head.kind then Closed (before + head.size) else unit_from (before + head.size) (boxes (drop head.size bytes)))

from-by : (before : ℕ) (bytes : List ℕ) (h : Header) → unit_from before (and_then (front_by h bytes) (boxes (after (front_by h bytes)))) ≡ unit_by before bytes h
from-by before bytes (Ok None) = refl
from-by before bytes (Err fault) = refl
from-by before bytes (Ok (Some head)) = by_size (nat_lt (length bytes) head.size) refl
  where
    by_size : (b : Bool) → nat_lt (length bytes) head.size ≡ b
        → unit_from before (and_then (front_by (Ok (Some head)) bytes) (boxes (after (front_by (Ok (Some head)) bytes)))) ≡ unit_by before bytes (Ok (Some head))
    by_size true e = rw e refl
    by_size false e = rw e refl

pub short : (bytes : List ℕ) → (length bytes == 0) ≡ true → header_of bytes ≡ Ok None
short bytes e = rw (lt-ltb (length bytes) 8 (grind (arith, nat_tests))) refl

pub unit_front : (before : ℕ) (bytes : List ℕ) → unit_from before (boxes bytes) ≡ unit_by before bytes (header_of bytes)
unit_front before bytes = ap (unit_from before) (one_more bytes) ∙ by_length (length bytes == 0) refl
  where
    by_length : (b : Bool) → (length bytes == 0) ≡ b
        → unit_from before (and_then (front_of bytes) (boxes (after (front_of bytes)))) ≡ unit_by before bytes (header_of bytes)
    by_length true e = ap (λ (f : Front). unit_from before (and_then f (boxes (after f)))) (nothing e) ∙ sym (ap (unit_by before bytes) (short bytes e))
      where
        nothing : (length bytes == 0) ≡ true → front_of bytes ≡ Rattle.ll_mp4.specs.Boxes.Nothing
        nothing k = rw k refl
    by_length false e = ap (λ (f : Front). unit_from before (and_then f (boxes (after f)))) (some e) ∙ from-by before bytes (header_of bytes)
      where
        some : (length bytes == 0) ≡ false → front_of bytes ≡ front_by (header_of bytes) bytes
        some k = rw k refl

-- if the front box came whole: the unit goes on after it, or it is the last
pub unit_more : (before : ℕ) (bytes : List ℕ) (head : BoxHead) → header_of bytes ≡ Ok (Some head) → before + head.size ≤ size_limit → head.size ≤ length bytes
    → is_last head.kind ≡ false → unit_from before (boxes bytes) ≡ unit_from (before + head.size) (boxes (drop head.size bytes))
unit_more before bytes head e few whole last =
    unit_front before bytes ∙ ap (unit_by before bytes) e ∙ rw (le-ltb size_limit (before + head.size) few, le-ltb (length bytes) head.size whole, last) refl

pub unit_last : (before : ℕ) (bytes : List ℕ) (head : BoxHead) → header_of bytes ≡ Ok (Some head) → before + head.size ≤ size_limit → head.size ≤ length bytes
    → is_last head.kind ≡ true → unit_from before (boxes bytes) ≡ Closed (before + head.size)
unit_last before bytes head e few whole last =
    unit_front before bytes ∙ ap (unit_by before bytes) e ∙ rw (le-ltb size_limit (before + head.size) few, le-ltb (length bytes) head.size whole, last) refl

-- if it didn't, or has too many bytes
pub unit_open : (before : ℕ) (bytes : List ℕ) (head : BoxHead) → header_of bytes ≡ Ok (Some head) → before + head.size ≤ size_limit → length bytes < head.size
    → unit_from before (boxes bytes) ≡ Open
unit_open before bytes head e few part =
    unit_front before bytes ∙ ap (unit_by before bytes) e ∙ rw (le-ltb size_limit (before + head.size) few, lt-ltb (length bytes) head.size part) refl

pub unit_large : (before : ℕ) (bytes : List ℕ) (head : BoxHead) → header_of bytes ≡ Ok (Some head) → size_limit < before + head.size
    → unit_from before (boxes bytes) ≡ Refused TooLarge
unit_large before bytes head e many = unit_front before bytes ∙ ap (unit_by before bytes) e ∙ rw (lt-ltb size_limit (before + head.size) many) refl

-- if no whole header came, or it is refused
pub unit_none : (before : ℕ) (bytes : List ℕ) → header_of bytes ≡ Ok None → unit_from before (boxes bytes) ≡ Open
unit_none before bytes e = unit_front before bytes ∙ ap (unit_by before bytes) e

pub unit_wrong : (before : ℕ) (bytes : List ℕ) (fault : StreamFault) → header_of bytes ≡ Err fault → unit_from before (boxes bytes) ≡ Refused fault
unit_wrong before bytes fault e = unit_front before bytes ∙ ap (unit_by before bytes) e
