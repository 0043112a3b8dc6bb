-- Whatever comes and whatever is called, the lines that were returned and those that are to come are those of all bytes.
use Rattle.std.proofs.Common.{◌≡◌, ℕ, zero, suc, ◌+◌, ◌<◌, ◌≤◌, ◌==◌, List, [], ◌∷◌, ◌++◌, Bool, true, false, Option, Some, None, refl, ap, ap₂, sym, subst, ◌∙◌, length, nat_lt, slice_index, append_assoc, length-append, length-drop, arith, fold}
use borrow.Author.Tests.{ltb-false, ltb-true, lt-ltb, le-ltb}
use Rattle.std.proofs.lemmas.List.{take-append-le, drop-append-le, get_or_append_left}
use Rattle.std.specs.Str.Lines.{strip_carriage_return}
use Rattle.ll_publish.specs.Laws.{FewAreKept, NoneIsLeft, WholeStreams}
use Rattle.ll_item.specs.Announced.{announced}
use Rattle.ll_publish.specs.Line.{Line, Item, Bad, TooLong}
use Rattle.ll_item.specs.Media.{media_limit}
use Rattle.ll_publish.specs.Lines.{FeedValue, after_end, at_line, before_end, front, front_at, front_ended, front_item, front_of, front_parts, has_end, in_passing, line_limit, lines, lines_by, lines_in, parts, past_end, settled, then_more, with_bytes, with_media}
use Rattle.ll_publish.specs.Past.{Call, Take, Next, Past, and_line, before_any, called}
use Rattle.ll_publish.proofs.EndLemmas.{after-more, after-none, before-more, before-none, end-more, end-none}
use Rattle.ll_publish.proofs.FrontLemmas as front

-- ---- a line that is returned takes at least one byte

media-few : (n : ℕ) (channel item rest : List ℕ) → length (with_media n channel item rest).1.unread ≤ length rest
media-few n channel item rest = by_end (slice_index rest n == 10) refl
  where
    by_end : (b : Bool) → (slice_index rest n == 10) ≡ b → length (with_media n channel item rest).1.unread ≤ length rest
    by_end true e =
        let d = length-drop (n + 1) rest in
        subst (λ (r : Option Line × FeedValue). length r.1.unread ≤ length rest) (sym (front.media-good n channel item rest e)) (omega (arith, d))
    by_end false e =
        let d = length-drop n rest in
        subst (λ (r : Option Line × FeedValue). length r.1.unread ≤ length rest) (sym (front.media-bad n channel item rest e)) (omega (arith, d))

item-few : (o : Option (List ℕ × ℕ)) (l : Line) (channel line rest bytes : List ℕ) → (front_item channel line o rest bytes).0 ≡ Some l
    → length (front_item channel line o rest bytes).1.unread ≤ length rest
item-few None l channel line rest bytes e = omega arith
item-few (Some item) l channel line rest bytes e = by_many (nat_lt media_limit item.1) refl
  where
    Few : Option Line × FeedValue → Type 0
    Few r = length r.1.unread ≤ length rest

    by_come : (b : Bool) → nat_lt media_limit item.1 ≡ false → nat_lt item.1 (length rest) ≡ b → Few (front_item channel line (Some item) rest bytes)
    by_come true h k = subst Few (sym (front.item-come channel line item rest bytes h k)) (media-few item.1 channel item.0 rest)
    by_come false h k = let is = sym e ∙ ap (λ r. r.0) (front.item-wait channel line item rest bytes h k) in absurd (cc)

    by_many : (b : Bool) → nat_lt media_limit item.1 ≡ b → Few (front_item channel line (Some item) rest bytes)
    by_many true h = subst Few (sym (front.item-many channel line item rest bytes h)) (omega arith)
    by_many false h = by_come (nat_lt item.1 (length rest)) h refl

parts-few : (o : Option (List ℕ × List ℕ)) (l : Line) (rest bytes : List ℕ) → (front_parts o rest bytes).0 ≡ Some l → length (front_parts o rest bytes).1.unread ≤ length rest
parts-few None l rest bytes e = omega arith
parts-few (Some line) l rest bytes e = item-few (announced line.1) l line.0 line.1 rest bytes e

ended-few : (l : Line) (line rest bytes : List ℕ) → (front_ended line rest bytes).0 ≡ Some l → length (front_ended line rest bytes).1.unread ≤ length rest
ended-few l line rest bytes e = by_long (nat_lt line_limit (length line)) refl
  where
    by_long : (b : Bool) → nat_lt line_limit (length line) ≡ b → length (front_ended line rest bytes).1.unread ≤ length rest
    by_long true h = subst (λ r. length r.1.unread ≤ length rest) (sym (front.ended-long line rest bytes h)) (omega arith)
    by_long false h =
        let is = front.ended-short line rest bytes h in
        subst (λ r. length r.1.unread ≤ length rest) (sym is) (parts-few (parts line) l rest bytes (ap (λ r. r.0) (sym is) ∙ e))

of-fewer : (l : Line) (bytes : List ℕ) → (front_of bytes).0 ≡ Some l → length (front_of bytes).1.unread < length bytes
of-fewer l bytes e = by_end (has_end bytes) refl
  where
    by_long : (b : Bool) → has_end bytes ≡ false → nat_lt line_limit (length (strip_carriage_return bytes)) ≡ b → length (front_of bytes).1.unread < length bytes
    by_long true h k =
        let is = ltb-true line_limit (length (strip_carriage_return bytes)) k in
        let s = front.length-strip bytes in
        subst (λ r. length r.1.unread < length bytes) (sym (front.front_of-long bytes h k)) (omega (arith, is, s))
    by_long false h k = let is = sym e ∙ ap (λ r. r.0) (front.front_of-open bytes h k) in absurd (cc)

    by_end : (b : Bool) → has_end bytes ≡ b → length (front_of bytes).1.unread < length bytes
    by_end true h =
        let is = front.front_of-ended bytes h in
        let f = front.fewer bytes h in
        let few = ended-few l (strip_carriage_return (before_end bytes)) (after_end bytes) bytes (ap (λ r. r.0) (sym is) ∙ e) in
        subst (λ r. length r.1.unread < length bytes) (sym is) (omega (arith, f, few))
    by_end false h = by_long (nat_lt line_limit (length (strip_carriage_return bytes))) h refl

at-fewer : (l : Line) (passing : Option ℕ) (bytes : List ℕ) → (front_at passing bytes).0 ≡ Some l → length (front_at passing bytes).1.unread < length bytes
at-fewer l None bytes e = of-fewer l bytes e
at-fewer l (Some n) bytes e = absurd (cc)

shrinks : (f : FeedValue) (l : Line) → (front f).0 ≡ Some l → length (front f).1.unread < length f.unread
shrinks f l e =
    let few = front.settled-few f.unread f.passing in
    let m = at-fewer l (settled f).passing (settled f).unread e in
    omega (arith, few, m)

-- ---- the lines that a feed has to give, one after another

empty-none : (f : FeedValue) → length f.unread ≤ 0 → (front f).0 ≡ None
empty-none f h = by_line (front f).0 refl
  where
    by_line : (o : Option Line) → (front f).0 ≡ o → o ≡ None
    by_line None e = refl
    by_line (Some l) e = let s = shrinks f l e in absurd (omega (arith, s, h))

none-by : (o : Option Line) (ls : List Line) → o ≡ None → then_more o ls ≡ []
none-by o ls e = ap (λ x. then_more x ls) e

enough_by : (o : Option Line) (n m : ℕ) (f : FeedValue) → (front f).0 ≡ o → length f.unread ≤ suc n → length f.unread ≤ suc m
    → (length (front f).1.unread ≤ n → length (front f).1.unread ≤ m → lines_by n (front f).1 ≡ lines_by m (front f).1)
    → then_more (front f).0 (lines_by n (front f).1) ≡ then_more (front f).0 (lines_by m (front f).1)
enough_by None n m f e a b rest = none-by (front f).0 (lines_by n (front f).1) e ∙ sym (none-by (front f).0 (lines_by m (front f).1) e)
enough_by (Some l) n m f e a b rest =
    let s = shrinks f l e in ap (then_more (front f).0) (rest (omega (arith, s, a)) (omega (arith, s, b)))

enough : (n m : ℕ) (f : FeedValue) → length f.unread ≤ n → length f.unread ≤ m → lines_by n f ≡ lines_by m f
enough zero zero f a b = refl
enough zero (suc m) f a b = sym (none-by (front f).0 (lines_by m (front f).1) (empty-none f a))
enough (suc n) zero f a b = none-by (front f).0 (lines_by n (front f).1) (empty-none f b)
enough (suc n) (suc m) f a b = enough_by (front f).0 n m f refl a b (enough n m (front f).1)

-- the front line, and then the others
one-more : (f : FeedValue) → lines_in f ≡ then_more (front f).0 (lines_in (front f).1)
one-more f = enough (length f.unread) (suc (length f.unread)) f (omega arith) (omega arith) ∙ by_line (front f).0 refl
  where
    by_line : (o : Option Line) → (front f).0 ≡ o → then_more (front f).0 (lines_by (length f.unread) (front f).1) ≡ then_more (front f).0 (lines_in (front f).1)
    by_line None e = none-by (front f).0 (lines_by (length f.unread) (front f).1) e ∙ sym (none-by (front f).0 (lines_in (front f).1) e)
    by_line (Some l) e =
        let s = shrinks f l e in
        ap (then_more (front f).0) (enough (length f.unread) (length (front f).1.unread) (front f).1 (omega (arith, s)) (omega arith))

-- bytes that are passed over give no line
same-settled : (f g : FeedValue) → settled f ≡ settled g → lines_in f ≡ lines_in g
same-settled f g e =
    one-more f ∙ ap (λ s. then_more (front_at s.passing s.unread).0 (lines_in (front_at s.passing s.unread).1)) e ∙ sym (one-more g)

-- ---- more bytes after the front line

abbrev and_more : Option Line → List Line → List Line
and_more None later = later
and_more (Some line) later = line ∷ later

abbrev given_then : List ℕ → Option Line × FeedValue → List Line
given_then more r = and_more r.0 (lines_in (with_bytes r.1 more))

abbrev later_of : Option Line × FeedValue → List Line
later_of r = then_more r.0 (lines_in r.1)

of-more : (bytes : List ℕ) → lines_in (at_line bytes) ≡ later_of (front_of bytes)
of-more bytes = one-more (at_line bytes)

-- a line that has ended with its bytes is returned whatever follows them
media-goes : (n : ℕ) (channel item rest more : List ℕ) → n < length rest
    → later_of (with_media n channel item (rest ++ more)) ≡ given_then more (with_media n channel item rest)
media-goes n channel item rest more h = by_end (slice_index rest n == 10) refl
  where
    same : slice_index (rest ++ more) n ≡ slice_index rest n
    same = get_or_append_left rest more 0 n h

    by_end : (b : Bool) → (slice_index rest n == 10) ≡ b → later_of (with_media n channel item (rest ++ more)) ≡ given_then more (with_media n channel item rest)
    by_end true e =
        ap later_of (front.media-good n channel item (rest ++ more) (ap (λ x. x == 10) same ∙ e))
        ∙ ap₂ (λ m u. Item channel item m ∷ lines_in (at_line u)) (take-append-le n rest more (omega (arith, h))) (drop-append-le (n + 1) rest more (omega (arith, h)))
        ∙ sym (ap (given_then more) (front.media-good n channel item rest e))
    by_end false e =
        ap later_of (front.media-bad n channel item (rest ++ more) (ap (λ x. x == 10) same ∙ e))
        ∙ ap (λ u. Bad ∷ lines_in (in_passing 0 u)) (drop-append-le n rest more (omega (arith, h)))
        ∙ sym (ap (given_then more) (front.media-bad n channel item rest e))

item-goes : (o : Option (List ℕ × ℕ)) (channel line rest bytes more : List ℕ) → front_of (bytes ++ more) ≡ front_item channel line o (rest ++ more) (bytes ++ more)
    → lines_in (at_line (bytes ++ more)) ≡ given_then more (front_item channel line o rest bytes)
item-goes None channel line rest bytes more is = of-more (bytes ++ more) ∙ ap later_of is
item-goes (Some item) channel line rest bytes more is = by_many (nat_lt media_limit item.1) refl
  where
    Goes : Type 0
    Goes = lines_in (at_line (bytes ++ more)) ≡ given_then more (front_item channel line (Some item) rest bytes)

    by_come : (b : Bool) → nat_lt media_limit item.1 ≡ false → nat_lt item.1 (length rest) ≡ b → Goes
    by_come true h k =
        let l = ltb-true item.1 (length rest) k in
        let sum = length-append rest more in
        of-more (bytes ++ more)
        ∙ ap later_of (is ∙ front.item-come channel line item (rest ++ more) (bytes ++ more) h (lt-ltb item.1 (length (rest ++ more)) (omega (arith, l, sum))))
        ∙ media-goes item.1 channel item.0 rest more l ∙ sym (ap (given_then more) (front.item-come channel line item rest bytes h k))
    by_come false h k = sym (ap (given_then more) (front.item-wait channel line item rest bytes h k))

    by_many : (b : Bool) → nat_lt media_limit item.1 ≡ b → Goes
    by_many true h =
        of-more (bytes ++ more) ∙ ap later_of (is ∙ front.item-many channel line item (rest ++ more) (bytes ++ more) h)
        ∙ sym (ap (given_then more) (front.item-many channel line item rest bytes h))
    by_many false h = by_come (nat_lt item.1 (length rest)) h refl

parts-goes : (o : Option (List ℕ × List ℕ)) (rest bytes more : List ℕ) → front_of (bytes ++ more) ≡ front_parts o (rest ++ more) (bytes ++ more)
    → lines_in (at_line (bytes ++ more)) ≡ given_then more (front_parts o rest bytes)
parts-goes None rest bytes more is = of-more (bytes ++ more) ∙ ap later_of is
parts-goes (Some line) rest bytes more is = item-goes (announced line.1) line.0 line.1 rest bytes more is

ended-goes : (line rest bytes more : List ℕ) → front_of (bytes ++ more) ≡ front_ended line (rest ++ more) (bytes ++ more)
    → lines_in (at_line (bytes ++ more)) ≡ given_then more (front_ended line rest bytes)
ended-goes line rest bytes more is = by_long (nat_lt line_limit (length line)) refl
  where
    by_long : (b : Bool) → nat_lt line_limit (length line) ≡ b → lines_in (at_line (bytes ++ more)) ≡ given_then more (front_ended line rest bytes)
    by_long true h =
        of-more (bytes ++ more) ∙ ap later_of (is ∙ front.ended-long line (rest ++ more) (bytes ++ more) h)
        ∙ sym (ap (given_then more) (front.ended-long line rest bytes h))
    by_long false h =
        parts-goes (parts line) rest bytes more (is ∙ front.ended-short line (rest ++ more) (bytes ++ more) h)
        ∙ sym (ap (given_then more) (front.ended-short line rest bytes h))

-- if no bytes are left before a line's end is searched for, its rest is passed over
passes : (bytes : List ℕ) → settled (in_passing 0 bytes) ≡ past_end bytes
passes bytes = rw (le-ltb (length bytes) 0 (omega arith)) refl

-- a line that is too long is returned before its end, and the rest of it gives no line
long-goes : (bytes more : List ℕ) → has_end bytes ≡ false → nat_lt line_limit (length (strip_carriage_return bytes)) ≡ true
    → lines_in (at_line (bytes ++ more)) ≡ TooLong ∷ lines_in (in_passing 0 more)
long-goes bytes more h k = of-more (bytes ++ more) ∙ by_end (has_end more) refl
  where
    by_end : (b : Bool) → has_end more ≡ b → later_of (front_of (bytes ++ more)) ≡ TooLong ∷ lines_in (in_passing 0 more)
    by_end true e =
        let ends = end-none bytes more h ∙ e in
        let long = ap (λ l. nat_lt line_limit (length (strip_carriage_return l))) (before-none bytes more h) ∙ front.stays_long bytes (before_end more) k in
        ap later_of (front.front_of-ended (bytes ++ more) ends ∙ front.ended-long (strip_carriage_return (before_end (bytes ++ more))) (after_end (bytes ++ more)) (bytes ++ more) long)
        ∙ ap (λ u. TooLong ∷ lines_in (at_line u)) (after-none bytes more h)
        ∙ ap (λ ls. TooLong ∷ ls) (same-settled (at_line (after_end more)) (in_passing 0 more) (sym (passes more ∙ rw e refl)))
    by_end false e =
        ap later_of (front.front_of-long (bytes ++ more) (end-none bytes more h ∙ e) (front.stays_long bytes more k))
        ∙ ap (λ ls. TooLong ∷ ls) (same-settled (in_passing 0 []) (in_passing 0 more) (passes [] ∙ sym (passes more ∙ rw e refl)))

of-goes : (bytes more : List ℕ) → lines_in (at_line (bytes ++ more)) ≡ given_then more (front_of bytes)
of-goes bytes more = by_end (has_end bytes) refl
  where
    by_long : (b : Bool) → has_end bytes ≡ false → nat_lt line_limit (length (strip_carriage_return bytes)) ≡ b
        → lines_in (at_line (bytes ++ more)) ≡ given_then more (front_of bytes)
    by_long true h k = long-goes bytes more h k ∙ sym (ap (given_then more) (front.front_of-long bytes h k))
    by_long false h k = sym (ap (given_then more) (front.front_of-open bytes h k))

    by_end : (b : Bool) → has_end bytes ≡ b → lines_in (at_line (bytes ++ more)) ≡ given_then more (front_of bytes)
    by_end true h =
        ended-goes (strip_carriage_return (before_end bytes)) (after_end bytes) bytes more
        (front.front_of-ended (bytes ++ more) (end-more bytes more h)
        ∙ ap₂ (λ l r. front_ended (strip_carriage_return l) r (bytes ++ more)) (before-more bytes more h) (after-more bytes more h))
        ∙ sym (ap (given_then more) (front.front_of-ended bytes h))
    by_end false h = by_long (nat_lt line_limit (length (strip_carriage_return bytes))) h refl

at-goes : (passing : Option ℕ) (bytes more : List ℕ) → lines_in (record { unread = bytes ++ more; passing = passing }) ≡ given_then more (front_at passing bytes)
at-goes None bytes more = of-goes bytes more
at-goes (Some n) bytes more = refl

-- the front line is the first that there is, whatever bytes are still to come
front-goes : (f : FeedValue) (more : List ℕ) → lines_in (with_bytes f more) ≡ given_then more (front f)
front-goes f more =
    same-settled (with_bytes f more) (with_bytes (settled f) more) (sym (front.settled-more f.unread f.passing more))
    ∙ at-goes (settled f).passing (settled f).unread more

-- ---- whole streams

abbrev Stands : Past → Type 0
Stands p = (more : List ℕ) → lines (p.taken ++ more) ≡ p.given ++ lines_in (with_bytes p.feed more)

and_line-more : (given : List Line) (line : Option Line) (later : List Line) → given ++ and_more line later ≡ and_line given line ++ later
and_line-more given None later = refl
and_line-more given (Some line) later = sym (append_assoc given (line ∷ []) later)

called-stands : (p : Past) (c : Call) → Stands p → Stands (called p c)
called-stands p (Take bytes) s more =
    ap lines (append_assoc p.taken bytes more) ∙ s (bytes ++ more)
    ∙ ap (λ u. p.given ++ lines_in (record { unread = u; passing = p.feed.passing })) (sym (append_assoc p.feed.unread bytes more))
called-stands p Next s more =
    s more ∙ ap (λ ls. p.given ++ ls) (front-goes p.feed more)
    ∙ and_line-more p.given (front p.feed).0 (lines_in (with_bytes (front p.feed).1 more))

all-stand : (p : Past) (calls : List Call) → Stands p → Stands (fold called p calls)
all-stand p [] s = s
all-stand p (c ∷ calls) s = all-stand (called p c) calls (called-stands p c s)

pub whole_streams : WholeStreams
whole_streams calls more = all-stand before_any calls (λ m. refl) more

-- ---- if no line is returned

-- what a feed keeps if it returns no line
pub data Kept (f : FeedValue) (bytes : List ℕ) : Type 0 where
  Passing : (n : ℕ) → f ≡ in_passing n [] → Kept f bytes
  Open : f ≡ at_line bytes → (front_of bytes).0 ≡ None → Kept f bytes

media-told : (n : ℕ) (channel item rest : List ℕ) → (with_media n channel item rest).0 ≡ None → ⊥
media-told n channel item rest none = by_lf (slice_index rest n == 10) refl
  where
    by_lf : (b : Bool) → (slice_index rest n == 10) ≡ b → ⊥
    by_lf true k = let is = sym none ∙ ap (λ r. r.0) (front.media-good n channel item rest k) in absurd (cc)
    by_lf false k = let is = sym none ∙ ap (λ r. r.0) (front.media-bad n channel item rest k) in absurd (cc)

-- if a line that has ended isn't returned, bytes of its item are missing
item-missing : (o : Option (List ℕ × ℕ)) (channel line rest bytes : List ℕ) → (front_item channel line o rest bytes).0 ≡ None
    → ((front_item channel line o rest bytes).1 ≡ at_line bytes) × (length rest ≤ media_limit)
item-missing None channel line rest bytes none = absurd (cc)
item-missing (Some item) channel line rest bytes none = by_many (nat_lt media_limit item.1) refl
  where
    Kept_all : Type 0
    Kept_all = ((front_item channel line (Some item) rest bytes).1 ≡ at_line bytes) × (length rest ≤ media_limit)

    by_come : (b : Bool) → nat_lt media_limit item.1 ≡ false → nat_lt item.1 (length rest) ≡ b → Kept_all
    by_come true h k =
        absurd (media-told item.1 channel item.0 rest (ap (λ r. r.0) (sym (front.item-come channel line item rest bytes h k)) ∙ none))
    by_come false h k =
        let a = ltb-false media_limit item.1 h in
        let b = ltb-false item.1 (length rest) k in
        (ap (λ r. r.1) (front.item-wait channel line item rest bytes h k), omega (arith, a, b))

    by_many : (b : Bool) → nat_lt media_limit item.1 ≡ b → Kept_all
    by_many true h = let is = sym none ∙ ap (λ r. r.0) (front.item-many channel line item rest bytes h) in absurd (cc)
    by_many false h = by_come (nat_lt item.1 (length rest)) h refl

parts-missing : (o : Option (List ℕ × List ℕ)) (rest bytes : List ℕ) → (front_parts o rest bytes).0 ≡ None
    → ((front_parts o rest bytes).1 ≡ at_line bytes) × (length rest ≤ media_limit)
parts-missing None rest bytes none = absurd (cc)
parts-missing (Some line) rest bytes none = item-missing (announced line.1) line.0 line.1 rest bytes none

ended-missing : (line rest bytes : List ℕ) → (front_ended line rest bytes).0 ≡ None
    → ((front_ended line rest bytes).1 ≡ at_line bytes) × (length line ≤ line_limit) × (length rest ≤ media_limit)
ended-missing line rest bytes none = by_long (nat_lt line_limit (length line)) refl
  where
    by_long : (b : Bool) → nat_lt line_limit (length line) ≡ b
        → ((front_ended line rest bytes).1 ≡ at_line bytes) × (length line ≤ line_limit) × (length rest ≤ media_limit)
    by_long true h = let is = sym none ∙ ap (λ r. r.0) (front.ended-long line rest bytes h) in absurd (cc)
    by_long false h =
        let is = front.ended-short line rest bytes h in
        let m = parts-missing (parts line) rest bytes (ap (λ r. r.0) (sym is) ∙ none) in
        (ap (λ r. r.1) is ∙ m.0, ltb-false line_limit (length line) h, m.1)

of-missing : (bytes : List ℕ) → (front_of bytes).0 ≡ None → ((front_of bytes).1 ≡ at_line bytes) × (length bytes ≤ line_limit + 2 + media_limit)
of-missing bytes e = by_end (has_end bytes) refl
  where
    by_long : (b : Bool) → has_end bytes ≡ false → nat_lt line_limit (length (strip_carriage_return bytes)) ≡ b
        → ((front_of bytes).1 ≡ at_line bytes) × (length bytes ≤ line_limit + 2 + media_limit)
    by_long true h k = let is = sym e ∙ ap (λ r. r.0) (front.front_of-long bytes h k) in absurd (cc)
    by_long false h k =
        let s = front.length-strip bytes in
        let l = ltb-false line_limit (length (strip_carriage_return bytes)) k in
        (ap (λ r. r.1) (front.front_of-open bytes h k), omega (arith, s, l))

    by_end : (b : Bool) → has_end bytes ≡ b → ((front_of bytes).1 ≡ at_line bytes) × (length bytes ≤ line_limit + 2 + media_limit)
    by_end true h =
        let is = front.front_of-ended bytes h in
        let m = ended-missing (strip_carriage_return (before_end bytes)) (after_end bytes) bytes (ap (λ r. r.0) (sym is) ∙ e) in
        let s = front.length-strip (before_end bytes) in
        let p = front.lengths bytes h in
        (ap (λ r. r.1) is ∙ m.0, omega (arith, m.1, m.2, s, p))
    by_end false h = by_long (nat_lt line_limit (length (strip_carriage_return bytes))) h refl

at-kept : (passing : Option ℕ) (bytes : List ℕ) → ((n : ℕ) → passing ≡ Some n → bytes ≡ []) → (front_at passing bytes).0 ≡ None → Kept (front_at passing bytes).1 bytes
at-kept None bytes h e = Open (of-missing bytes e).0 e
at-kept (Some n) bytes h e = Passing n (ap (in_passing n) (h n refl))

kept : (f : FeedValue) → (front f).0 ≡ None → Kept (front f).1 (settled f).unread
kept f e = at-kept (settled f).passing (settled f).unread (λ n h. front.settled-empty f.unread f.passing n h) e

again-by : (f : FeedValue) (bytes : List ℕ) → Kept f bytes → (front f).0 ≡ None
again-by f bytes (Passing n e) = ap (λ g. (front g).0) e ∙ empty-none (in_passing n []) (omega arith)
again-by f bytes (Open e none) = ap (λ g. (front g).0) e ∙ none

pub none_is_left : NoneIsLeft
none_is_left f none =
    one-more (front f).1 ∙ none-by (front (front f).1).0 (lines_in (front (front f).1).1) (again-by (front f).1 (settled f).unread (kept f none))

-- ---- how much is kept

few-by : (f : FeedValue) (bytes : List ℕ) → Kept f bytes → length f.unread ≤ line_limit + 2 + media_limit
few-by f bytes (Passing n e) = subst (λ g. length g.unread ≤ line_limit + 2 + media_limit) (sym e) (omega arith)
few-by f bytes (Open e none) = subst (λ g. length g.unread ≤ line_limit + 2 + media_limit) (sym e) (of-missing bytes none).1

pub few_are_kept : FewAreKept
few_are_kept f none = few-by (front f).1 (settled f).unread (kept f none)
