-- The front line of bytes, by where the first LF stands, and with more bytes after them.
use Rattle.std.proofs.Common.{◌≡◌, ℕ, ◌+◌, ◌-◌, ◌<◌, ◌≤◌, ◌==◌, List, [], ◌∷◌, ◌++◌, Bool, true, false, Option, Some, None, refl, ap, sym, ◌∙◌, length, take, drop, nat_lt, slice_index, if◌then◌else◌, arith, length-append, length-drop, length-take, append-nil}
use borrow.Author.Tests.{ltb-false, ltb-true, lt-ltb, le-ltb}
use Rattle.std.proofs.lemmas.List.{drop-append-le}
use Rattle.std.specs.Str.Lines.{strip_carriage_return}
use Rattle.ll_publish.specs.Line.{Item, Bad, TooLong, MediaTooLong}
use Rattle.ll_item.specs.Media.{media_limit}
use Rattle.ll_publish.specs.Lines.{after_end, at_line, before_end, front_ended, front_item, front_of, front_parts, has_end, in_passing, line_limit, parts, passed_over, past_end, settled, with_bytes, with_media}
use Rattle.ll_publish.proofs.EndLemmas.{after-more, after-none, drop-past, end-more, end-none, place, place-within}

pub front_of-ended : (bytes : List ℕ) → has_end bytes ≡ true → front_of bytes ≡ front_ended (strip_carriage_return (before_end bytes)) (after_end bytes) bytes
front_of-ended bytes e = rw e refl

pub front_of-long : (bytes : List ℕ) → has_end bytes ≡ false → nat_lt line_limit (length (strip_carriage_return bytes)) ≡ true
    → front_of bytes ≡ (Some TooLong, in_passing 0 [])
front_of-long bytes e long = rw (e, long) refl

pub front_of-open : (bytes : List ℕ) → has_end bytes ≡ false → nat_lt line_limit (length (strip_carriage_return bytes)) ≡ false
    → front_of bytes ≡ (None, at_line bytes)
front_of-open bytes e short = rw (e, short) refl

pub ended-long : (line rest bytes : List ℕ) → nat_lt line_limit (length line) ≡ true → front_ended line rest bytes ≡ (Some TooLong, at_line rest)
ended-long line rest bytes e = rw e refl

pub ended-short : (line rest bytes : List ℕ) → nat_lt line_limit (length line) ≡ false → front_ended line rest bytes ≡ front_parts (parts line) rest bytes
ended-short line rest bytes e = rw e refl

pub item-many : (channel line : List ℕ) (item : List ℕ × ℕ) (rest bytes : List ℕ) → nat_lt media_limit item.1 ≡ true
    → front_item channel line (Some item) rest bytes ≡ (Some MediaTooLong, in_passing item.1 rest)
item-many channel line item rest bytes e = rw e refl

pub item-come : (channel line : List ℕ) (item : List ℕ × ℕ) (rest bytes : List ℕ) → nat_lt media_limit item.1 ≡ false → nat_lt item.1 (length rest) ≡ true
    → front_item channel line (Some item) rest bytes ≡ with_media item.1 channel item.0 rest
item-come channel line item rest bytes e f = rw (e, f) refl

pub item-wait : (channel line : List ℕ) (item : List ℕ × ℕ) (rest bytes : List ℕ) → nat_lt media_limit item.1 ≡ false → nat_lt item.1 (length rest) ≡ false
    → front_item channel line (Some item) rest bytes ≡ (None, at_line bytes)
item-wait channel line item rest bytes e f = rw (e, f) refl

pub media-good : (n : ℕ) (channel item rest : List ℕ) → (slice_index rest n == 10) ≡ true
    → with_media n channel item rest ≡ (Some (Item channel item (take n rest)), at_line (drop (n + 1) rest))
media-good n channel item rest e = rw e refl

pub media-bad : (n : ℕ) (channel item rest : List ℕ) → (slice_index rest n == 10) ≡ false → with_media n channel item rest ≡ (Some Bad, in_passing 0 (drop n rest))
media-bad n channel item rest e = rw e refl

-- ---- lengths

length-without_one : (a : Bool) (l : List ℕ)
    → (length l ≤ length (if a then take (length l - 1) l else l) + 1) × (length (if a then take (length l - 1) l else l) ≤ length l)
length-without_one true l = simp length-take (omega arith, omega arith)
length-without_one false l = (omega arith, omega arith)

-- at most one byte is no part of the line
pub length-strip : (l : List ℕ) → (length l ≤ length (strip_carriage_return l) + 1) × (length (strip_carriage_return l) ≤ length l)
length-strip l = length-without_one (slice_index l (length l - 1) == 13) l

-- a line that is longer than this stays so, whatever follows
longer : (n : ℕ) (bytes more : List ℕ) → nat_lt n (length (strip_carriage_return bytes)) ≡ true → nat_lt n (length (strip_carriage_return (bytes ++ more))) ≡ true
longer n bytes [] e = ap (λ l. nat_lt n (length (strip_carriage_return l))) (append-nil bytes) ∙ e
longer n bytes (b ∷ more) e =
    let before = length-strip bytes in
    let after = length-strip (bytes ++ b ∷ more) in
    let sum = length-append bytes (b ∷ more) in
    let some : length (b ∷ more) ≡ length more + 1 = omega arith in
    let is = ltb-true n (length (strip_carriage_return bytes)) e in
    lt-ltb n (length (strip_carriage_return (bytes ++ b ∷ more))) (omega (arith, before, after))

pub stays_long : (bytes more : List ℕ) → nat_lt line_limit (length (strip_carriage_return bytes)) ≡ true
    → nat_lt line_limit (length (strip_carriage_return (bytes ++ more))) ≡ true
stays_long bytes more e = longer line_limit bytes more e

pub fewer : (bytes : List ℕ) → has_end bytes ≡ true → length (after_end bytes) < length bytes
fewer bytes e = let w = place-within bytes e in let d = length-drop (place bytes + 1) bytes in omega (arith, w, d)

-- ---- what is passed over

past-more : (bytes more : List ℕ) → settled (with_bytes (past_end bytes) more) ≡ past_end (bytes ++ more)
past-more bytes more = by_end (has_end bytes) refl
  where
    by_end : (b : Bool) → has_end bytes ≡ b → settled (with_bytes (past_end bytes) more) ≡ past_end (bytes ++ more)
    by_end true e = rw (e, end-more bytes more e) (ap at_line (sym (after-more bytes more e)))
    by_end false e = rw (e, end-none bytes more e, le-ltb (length more) 0 (omega arith)) (ap (λ u. if has_end more then at_line u else in_passing 0 []) (sym (after-none bytes more e)))

past-most : (n : ℕ) (bytes more : List ℕ) (t : Bool) → nat_lt (length bytes) n ≡ true → nat_lt (length more) (n - length bytes) ≡ t
    → passed_over (n - length bytes) more ≡ passed_over n (bytes ++ more)
past-most n bytes more true h e =
    let sum = length-append bytes more in
    let l = ltb-true (length bytes) n h in
    let m = ltb-true (length more) (n - length bytes) e in
    rw (e, lt-ltb (length (bytes ++ more)) n (omega (arith, sum, m))) (ap (λ k. in_passing k []) (omega (arith, sum)))
past-most n bytes more false h e =
    let sum = length-append bytes more in
    let l = ltb-true (length bytes) n h in
    let m = ltb-false (length more) (n - length bytes) e in
    rw (e, le-ltb (length (bytes ++ more)) n (omega (arith, sum, m)))
    (ap past_end (sym (drop-past bytes more (n - length bytes)) ∙ ap (λ k. drop k (bytes ++ more)) (omega (arith, l))))

passed-more : (n : ℕ) (bytes more : List ℕ) → settled (with_bytes (passed_over n bytes) more) ≡ passed_over n (bytes ++ more)
passed-more n bytes more = by_length (nat_lt (length bytes) n) refl
  where
    by_length : (t : Bool) → nat_lt (length bytes) n ≡ t → settled (with_bytes (passed_over n bytes) more) ≡ passed_over n (bytes ++ more)
    by_length true e = ap (λ f. settled (with_bytes f more)) (over-most e) ∙ past-most n bytes more (nat_lt (length more) (n - length bytes)) e refl
      where
        over-most : nat_lt (length bytes) n ≡ true → passed_over n bytes ≡ in_passing (n - length bytes) []
        over-most h = rw h refl
    by_length false e =
        let sum = length-append bytes more in
        let l = ltb-false (length bytes) n e in
        ap (λ f. settled (with_bytes f more)) (over-all bytes e) ∙ past-more (drop n bytes) more
        ∙ ap past_end (sym (drop-append-le n bytes more l)) ∙ sym (over-all (bytes ++ more) (le-ltb (length (bytes ++ more)) n (omega (arith, sum, l))))
      where
        over-all : (bs : List ℕ) → nat_lt (length bs) n ≡ false → passed_over n bs ≡ past_end (drop n bs)
        over-all bs h = rw h refl

pub settled-more : (bytes : List ℕ) (passing : Option ℕ) (more : List ℕ)
    → settled (with_bytes (settled (record { unread = bytes; passing = passing })) more) ≡ settled (record { unread = bytes ++ more; passing = passing })
settled-more bytes None more = refl
settled-more bytes (Some n) more = passed-more n bytes more

-- what is kept of what is passed over is nothing
past-empty : (bytes : List ℕ) (n : ℕ) → (past_end bytes).passing ≡ Some n → (past_end bytes).unread ≡ []
past-empty bytes n = by_end (has_end bytes)
  where
    by_end : (b : Bool) → (if b then at_line (after_end bytes) else in_passing 0 []).passing ≡ Some n → (if b then at_line (after_end bytes) else in_passing 0 []).unread ≡ []
    by_end true e = absurd (cc)
    by_end false e = refl

over-empty : (m : ℕ) (bytes : List ℕ) (n : ℕ) → (passed_over m bytes).passing ≡ Some n → (passed_over m bytes).unread ≡ []
over-empty m bytes n = by_length (nat_lt (length bytes) m)
  where
    by_length : (t : Bool) → (if t then in_passing (m - length bytes) [] else past_end (drop m bytes)).passing ≡ Some n
        → (if t then in_passing (m - length bytes) [] else past_end (drop m bytes)).unread ≡ []
    by_length true e = refl
    by_length false e = past-empty (drop m bytes) n e

pub settled-empty : (bytes : List ℕ) (passing : Option ℕ) (n : ℕ) → (settled (record { unread = bytes; passing = passing })).passing ≡ Some n
    → (settled (record { unread = bytes; passing = passing })).unread ≡ []
settled-empty bytes None n e = absurd (cc)
settled-empty bytes (Some m) n e = over-empty m bytes n e

past-few : (bytes : List ℕ) → length (past_end bytes).unread ≤ length bytes
past-few bytes = by_end (has_end bytes) refl
  where
    by_end : (b : Bool) → has_end bytes ≡ b → length (past_end bytes).unread ≤ length bytes
    by_end true e = rw e (let f = fewer bytes e in omega (arith, f))
    by_end false e = rw e (omega arith)

over-few : (n : ℕ) (bytes : List ℕ) → length (passed_over n bytes).unread ≤ length bytes
over-few n bytes = by_length (nat_lt (length bytes) n)
  where
    by_length : (t : Bool) → length (if t then in_passing (n - length bytes) [] else past_end (drop n bytes)).unread ≤ length bytes
    by_length true = omega arith
    by_length false = let p = past-few (drop n bytes) in let d = length-drop n bytes in omega (arith, p, d)

pub settled-few : (bytes : List ℕ) (passing : Option ℕ) → length (settled (record { unread = bytes; passing = passing })).unread ≤ length bytes
settled-few bytes None = omega arith
settled-few bytes (Some n) = over-few n bytes

-- a line, its end and what follows are all
pub lengths : (bytes : List ℕ) → has_end bytes ≡ true → length bytes ≡ length (before_end bytes) + 1 + length (after_end bytes)
lengths bytes e =
    let w = place-within bytes e in
    let d = length-drop (place bytes + 1) bytes in
    let t = length-take (place bytes) bytes in
    omega (arith, w, d, t)
