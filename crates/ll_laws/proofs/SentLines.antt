-- A message of a publisher is its item's line, with the item's bytes.
use Rattle.std.proofs.Common.{◌≡◌, ℕ, ◌+◌, ◌<◌, ◌≤◌, ◌==◌, ◌^◌, ◌&&◌, not, Bool, true, false, List, [], ◌∷◌, ◌++◌, Option, Some, None, refl, ap, ap₂, sym, ◌∙◌, append_assoc, arith, codes, decimal, drop, get_or, length, length-append, nat_le, nat_lt, option_map, slice_index, take, if◌then◌else◌}
use borrow.Author.Tests.{le-ltb, lt-ltb}
use Rattle.std.proofs.lemmas.Bool.{and_parts, leb-true, not-true}
use Rattle.std.proofs.lemmas.Bool.Decides.{nat_tests}
use Rattle.std.proofs.lemmas.Fmt.{length-decimal-le}
use Rattle.std.proofs.lemmas.List.{drop_all, drop_at, get_or_append_left, get_or_at, length_push, take_at}
use Rattle.std.proofs.lemmas.List.Folds.{list_any_at}
use Rattle.std.proofs.lemmas.List.Sums.{AllPass-from_list_all, position_or_len_is}
use Rattle.std.proofs.lemmas.Str.{is_utf8-from_IsUtf8}
use Rattle.std.specs.Char.{is_ascii}
use Rattle.std.specs.List.{after_first, before_first, list_all, list_any, position_or_len}
use Rattle.std.specs.Str.{is_utf8}
use Rattle.std.specs.Str.Lines.{strip_carriage_return}
use Rattle.ll_attr.specs.Words.{joined, words}
use Rattle.ll_format.specs.Words.{is_line_byte, is_one_line}
use Rattle.ll_format.proofs.FormatLaws.{inside_both, lacks}
use Rattle.ll_format.proofs.WordLaws.{lacks_from}
use Rattle.ll_item.specs.Announced.{announced, announced_by, cut_by, has_bytes, lacks_length, split_last, told_by}
use Rattle.ll_item.specs.Items.{flags_text}
use Rattle.ll_item.specs.ItemLines.{break_line, counted_line, end_line, finish_line, init_line, part_line, timed_break_line}
use Rattle.ll_item.specs.Media.{media_limit}
use Rattle.ll_settings.specs.Names.{is_name, is_name_byte}
use Rattle.ll_item.proofs.LastWord.{cut-is, told-has, words-more}
use Rattle.ll_entry.proofs.Cuts.{AreWords, IsWord, also, no_more, uncut, words_back}
use Rattle.ll_entry.proofs.Names.{name-word}
use Rattle.ll_entry.proofs.Numbers.{number-back, number-word}
use Rattle.ll_page.proofs.RangeTexts.{all-so}
use Rattle.ll_publish.specs.Line.{Line, Item, Bad}
use Rattle.ll_publish.specs.Lines.{FeedValue, after_end, asked_in, asking, at_line, before_end, front_ended, front_item, front_of, front_parts, has_end, line_limit, lines, lines_in, parts, with_bytes, with_media}
use Rattle.ll_publish.specs.Past.{Take, Next, and_line}
use Rattle.ll_publish.proofs.StreamLaws.{whole_streams}
use Rattle.ll_announce.specs.Messages.{bare_text, item_text, sent_line}
use Rattle.ll_read.proofs.WholeLines.{kept}
use Rattle.ll_laws.proofs.LineLemmas.{AreAscii, number, utf8-ascii}
use Rattle.ll_laws.proofs.TextLemmas.{all-append}

-- ---- a text, cut at the first byte of a value

same : (c : ℕ) → (c == c) ≡ true
same c = grind (arith, nat_tests)

place-at : (c : ℕ) (front rest : List ℕ) → lacks c front ≡ true → position_or_len (λ b. b == c) (front ++ c ∷ rest) ≡ length front
place-at c front rest h =
    let sum = length-append front (c ∷ rest) in
    position_or_len_is (λ b. b == c) (front ++ c ∷ rest) (length front) 0 (omega (arith, sum))
    (λ k before. ap (λ b. b == c) (get_or_append_left front (c ∷ rest) 0 k before)
    ∙ not-true (get_or front k 0 == c) (AllPass-from_list_all (λ b. not (b == c)) front h k 0 before))
    (λ within. ap (λ b. b == c) (get_or_at front c rest 0 (length front) refl) ∙ same c)

pub before-at : (c : ℕ) (front rest : List ℕ) → lacks c front ≡ true → before_first (λ b. b == c) (front ++ c ∷ rest) ≡ front
before-at c front rest h = ap (λ n. take n (front ++ c ∷ rest)) (place-at c front rest h) ∙ take_at front (c ∷ rest) (length front) refl

pub after-at : (c : ℕ) (front rest : List ℕ) → lacks c front ≡ true → after_first (λ b. b == c) (front ++ c ∷ rest) ≡ rest
after-at c front rest h =
    ap (λ n. drop (n + 1) (front ++ c ∷ rest)) (place-at c front rest h)
    ∙ ap (drop (length front + 1)) (sym (append_assoc front (c ∷ []) rest)) ∙ drop_at (front ++ c ∷ []) rest (length front + 1) (length_push front c)

pub any-at : (c : ℕ) (front rest : List ℕ) → list_any (λ b. b == c) (front ++ c ∷ rest) ≡ true
any-at c front rest =
    let sum = length-append front (c ∷ rest) in
    list_any_at (λ b. b == c) (front ++ c ∷ rest) (length front) 0 (omega (arith, sum))
    (ap (λ b. b == c) (get_or_at front c rest 0 (length front) refl) ∙ same c)

-- ---- texts of a line

-- a text of at most `most` bytes, which are ASCII, and neither CR nor LF
pub record IsPlain (most : ℕ) (text : List ℕ) : Type 0 where
  pub ascii : AreAscii text
  pub one_line : is_one_line text ≡ true
  pub few : length text ≤ most

plain-both : (m n : ℕ) (a b : List ℕ) → IsPlain m a → IsPlain n b → IsPlain (m + n) (a ++ b)
plain-both m n a b p q = record {
  ascii = all-append is_ascii a b p.ascii q.ascii;
  one_line = inside_both a b p.one_line q.one_line;
  few = let sum = length-append a b in omega (arith, sum, p.few, q.few);
}

-- a larger number of bytes does as well
plain-more : (m n : ℕ) (text : List ℕ) → m ≤ n → IsPlain m text → IsPlain n text
plain-more m n text le p = record { ascii = p.ascii; one_line = p.one_line; few = omega (arith, le, p.few) }

plain-number : (n : ℕ) → n < 2 ^ 64 → IsPlain 20 (decimal n)
plain-number n small = record {
  ascii = number n;
  one_line = (number-word n small).one_line;
  few = length-decimal-le 20 n (omega arith) (omega (arith, small)) small;
}

name_ascii : (b : ℕ) → is_name_byte b ≡ true → is_ascii b ≡ true
name_ascii b h = grind (arith, nat_tests)

plain-name : (name : List ℕ) → is_name name ≡ true → IsPlain 32 name
plain-name name h =
    let p = and_parts (nat_le 1 (length name) && nat_le (length name) 32) (list_all is_name_byte name) h in
    record {
      ascii = all-so is_name_byte is_ascii name_ascii name p.1;
      one_line = (name-word name h).one_line;
      few = leb-true (length name) 32 (and_parts (nat_le 1 (length name)) (nat_le (length name) 32) p.0).1;
    }

plain-flags : (independent finish : Bool) → IsPlain 2 (flags_text independent finish)
plain-flags false false = record { ascii = refl; one_line = refl; few = omega arith }
plain-flags true false = record { ascii = refl; one_line = refl; few = omega arith }
plain-flags false true = record { ascii = refl; one_line = refl; few = omega arith }
plain-flags true true = record { ascii = refl; one_line = refl; few = omega arith }

plain-space : IsPlain 1 (codes " ")
plain-space = record { ascii = refl; one_line = refl; few = omega arith }

-- ---- the lines of items

-- the line of an item that has bytes
pub record IsSpelled (line : List ℕ) : Type 0 where
  pub plain : IsPlain 61 line
  pub has : has_bytes (words line) ≡ true

flags_word : (independent finish : Bool) → IsWord (flags_text independent finish)
flags_word false false = record { spaceless = refl; one_line = refl }
flags_word true false = record { spaceless = refl; one_line = refl }
flags_word false true = record { spaceless = refl; one_line = refl }
flags_word true true = record { spaceless = refl; one_line = refl }

pub part-spelled : (name : List ℕ) (duration : ℕ) (independent finish : Bool) → is_name name ≡ true → duration < 2 ^ 64
    → IsSpelled (part_line name duration (flags_text independent finish))
unfolding part_line
part-spelled name duration independent finish h small =
    let flags = flags_text independent finish in
    let rest = name ∷ decimal duration ∷ flags ∷ [] in
    let all : AreWords (codes "part" ∷ rest) =
    also (record { spaceless = refl; one_line = refl }) (also (name-word name h) (also (number-word duration small) (also (flags_word independent finish) no_more))) in
    record {
      plain =
          plain-both 5 56 (codes "part ") (name ++ (codes " " ++ (decimal duration ++ (codes " " ++ flags)))) (record { ascii = refl; one_line = refl; few = omega arith })
          (plain-both 32 24 name (codes " " ++ (decimal duration ++ (codes " " ++ flags))) (plain-name name h)
          (plain-both 1 23 (codes " ") (decimal duration ++ (codes " " ++ flags)) plain-space
          (plain-both 20 3 (decimal duration) (codes " " ++ flags) (plain-number duration small) (plain-both 1 2 (codes " ") flags plain-space (plain-flags independent finish)))));
      has = ap has_bytes (words_back (codes "part") rest all);
    }

pub init-spelled : (name : List ℕ) → is_name name ≡ true → IsSpelled (init_line name)
unfolding init_line
init-spelled name h =
    let all : AreWords (codes "init" ∷ name ∷ []) = also (record { spaceless = refl; one_line = refl }) (also (name-word name h) no_more) in
    record {
      plain = plain-more 37 61 (codes "init " ++ name) (omega arith) (plain-both 5 32 (codes "init ") name (record { ascii = refl; one_line = refl; few = omega arith }) (plain-name name h));
      has = ap has_bytes (words_back (codes "init") (name ∷ []) all);
    }

-- the line of an item that has none
pub record IsBare (line : List ℕ) : Type 0 where
  pub plain : IsPlain 61 line
  pub none : announced line ≡ None
  pub lacks_none : lacks_length (words line) ≡ false
  pub asks_none : asked_in line ≡ None

pub end-bare : (name : List ℕ) → is_name name ≡ true → IsBare (end_line name)
unfolding end_line
end-bare name h =
    let all : AreWords (codes "end" ∷ name ∷ []) = also (record { spaceless = refl; one_line = refl }) (also (name-word name h) no_more) in
    let is = words_back (codes "end") (name ∷ []) all in
    record {
      plain = plain-more 36 61 (codes "end " ++ name) (omega arith) (plain-both 4 32 (codes "end ") name (record { ascii = refl; one_line = refl; few = omega arith }) (plain-name name h));
      none = ap (λ ws. announced_by (told_by (cut_by (split_last ws)))) is;
      lacks_none = ap lacks_length is;
      asks_none = refl;
    }

pub break-bare : (name : List ℕ) → is_name name ≡ true → IsBare (break_line name)
unfolding break_line
break-bare name h =
    let all : AreWords (codes "break" ∷ name ∷ []) = also (record { spaceless = refl; one_line = refl }) (also (name-word name h) no_more) in
    let is = words_back (codes "break") (name ∷ []) all in
    record {
      plain = plain-more 38 61 (codes "break " ++ name) (omega arith) (plain-both 6 32 (codes "break ") name (record { ascii = refl; one_line = refl; few = omega arith }) (plain-name name h));
      none = ap (λ ws. announced_by (told_by (cut_by (split_last ws)))) is;
      lacks_none = ap lacks_length is;
      asks_none = refl;
    }

pub finish-bare : (name : List ℕ) → is_name name ≡ true → IsBare (finish_line name)
unfolding finish_line
finish-bare name h =
    let all : AreWords (codes "finish" ∷ name ∷ []) = also (record { spaceless = refl; one_line = refl }) (also (name-word name h) no_more) in
    let is = words_back (codes "finish") (name ∷ []) all in
    record {
      plain = plain-more 39 61 (codes "finish " ++ name) (omega arith) (plain-both 7 32 (codes "finish ") name (record { ascii = refl; one_line = refl; few = omega arith }) (plain-name name h));
      none = ap (λ ws. announced_by (told_by (cut_by (split_last ws)))) is;
      lacks_none = ap lacks_length is;
      asks_none = refl;
    }

pub timed-break-bare : (name : List ℕ) (ms : ℕ) → is_name name ≡ true → ms < 2 ^ 64 → IsBare (timed_break_line name ms)
unfolding timed_break_line
timed-break-bare name ms h small =
    let all : AreWords (codes "break" ∷ name ∷ decimal ms ∷ []) =
    also (record { spaceless = refl; one_line = refl }) (also (name-word name h) (also (number-word ms small) no_more)) in
    let is = words_back (codes "break") (name ∷ decimal ms ∷ []) all in
    record {
      plain =
          plain-more 59 61 (codes "break " ++ (name ++ (codes " " ++ decimal ms))) (omega arith)
          (plain-both 6 53 (codes "break ") (name ++ (codes " " ++ decimal ms)) (record { ascii = refl; one_line = refl; few = omega arith })
          (plain-both 32 21 name (codes " " ++ decimal ms) (plain-name name h) (plain-both 1 20 (codes " ") (decimal ms) plain-space (plain-number ms small))));
      none =
          ap (λ ws. announced_by (told_by (cut_by (split_last ws)))) is
          ∙ ap (λ ws. announced_by (if has_bytes ws then Some (joined (codes "break" ∷ name ∷ []), decimal ms) else None))
          (words_back (codes "break") (name ∷ []) (also (record { spaceless = refl; one_line = refl }) (also (name-word name h) no_more)));
      lacks_none = ap lacks_length is;
      asks_none = refl;
    }

-- what a line with the number of its item's bytes announces
counted-told : (line : List ℕ) (n : ℕ) → has_bytes (words line) ≡ true → n < 2 ^ 64 → announced (counted_line line n) ≡ Some (line, n)
counted-told line n has small =
    let cut = words-more line (decimal n) ∙ ap (λ ws. words line ++ ws) (uncut 32 (decimal n) (number-word n small).spaceless) in
    ap announced_by (told-has (counted_line line n) line (decimal n) (cut-is (counted_line line n) line (decimal n) cut) (sym has))
    ∙ ap (option_map (λ m. (line, m))) (number-back n small)

-- ---- a message

-- its line, and what stands after that
sent-is : (channel line rest : List ℕ) → sent_line channel line ++ rest ≡ (channel ++ 32 ∷ line) ++ rest
unfolding sent_line
sent-is channel line rest = refl

parts-by : (text channel item : List ℕ) → is_utf8 text ≡ true → list_any (λ b. b == 32) text ≡ true → before_first (λ b. b == 32) text ≡ channel
    → after_first (λ b. b == 32) text ≡ item → parts text ≡ Some (channel, item)
parts-by text channel item utf8 any before after = rw (utf8, any) (ap₂ (λ a b. Some (a, b)) before after)

ended : (bytes : List ℕ) → has_end bytes ≡ true → front_of bytes ≡ front_ended (strip_carriage_return (before_end bytes)) (after_end bytes) bytes
ended bytes e = rw e refl

ended-short : (line rest bytes : List ℕ) → nat_lt line_limit (length line) ≡ false → front_ended line rest bytes ≡ front_parts (parts line) rest bytes
ended-short line rest bytes e = rw e refl

module _ (channel line : List ℕ) (named : is_name channel ≡ true) (plain : IsPlain 100 line) where
  abbrev whole : List ℕ
  whole = channel ++ 32 ∷ line

  whole-plain : IsPlain 133 whole
  whole-plain = plain-both 32 101 channel (32 ∷ line) (plain-name channel named) (plain-both 1 100 (codes " ") line plain-space plain)

  parts-are : parts whole ≡ Some (channel, line)
  parts-are =
      let spaceless = (name-word channel named).spaceless in
      parts-by whole channel line (is_utf8-from_IsUtf8 whole (utf8-ascii whole whole-plain.ascii)) (any-at 32 channel line) (before-at 32 channel line spaceless)
      (after-at 32 channel line spaceless)

  -- the line at the front is this one
  front-is : (rest : List ℕ) → front_of (whole ++ 10 ∷ rest) ≡ front_item channel line (announced line) rest (whole ++ 10 ∷ rest)
  front-is rest =
      let bytes = whole ++ 10 ∷ rest in
      let none = lacks_from is_line_byte 10 whole refl whole-plain.one_line in
      ended bytes (any-at 10 whole rest)
      ∙ ap₂ (λ l r. front_ended (strip_carriage_return l) r bytes) (before-at 10 whole rest none) (after-at 10 whole rest none)
      ∙ ap (λ l. front_ended l rest bytes) (sym (kept whole whole-plain.one_line))
      ∙ ended-short whole rest bytes (let few = whole-plain.few in le-ltb line_limit (length whole) (omega (arith, few)))
      ∙ ap (λ o. front_parts o rest bytes) parts-are

item-come : (channel line item : List ℕ) (n : ℕ) (rest bytes : List ℕ) → nat_lt media_limit n ≡ false → nat_lt n (length rest) ≡ true
    → front_item channel line (Some (item, n)) rest bytes ≡ with_media n channel item rest
item-come channel line item n rest bytes e f = rw (e, f) refl

media-good : (n : ℕ) (channel item rest : List ℕ) → (slice_index rest n == 10) ≡ true
    → with_media n channel item rest ≡ (Some (Item channel item (take n rest)), at_line (drop (n + 1) rest))
media-good n channel item rest e = rw e refl

-- the bytes whose number a line says, and LF
media-is : (channel line item media bytes : List ℕ) → length media ≤ media_limit
    → front_item channel line (Some (item, length media)) (media ++ 10 ∷ []) bytes ≡ (Some (Item channel item media), at_line [])
media-is channel line item media bytes few =
    let n = length media in
    let rest = media ++ 10 ∷ [] in
    let sum = length_push media 10 in
    item-come channel line item n rest bytes (le-ltb media_limit n few) (lt-ltb n (length rest) (omega (arith, sum)))
    ∙ media-good n channel item rest (ap (λ b. b == 10) (get_or_at media 10 [] 0 n refl) ∙ same 10)
    ∙ ap₂ (λ m u. (Some (Item channel item m), at_line u)) (take_at media (10 ∷ []) n refl) (drop_all (n + 1) rest (omega (arith, sum)))

counted-plain : (line : List ℕ) (n : ℕ) → IsPlain 61 line → n ≤ media_limit → IsPlain 100 (counted_line line n)
counted-plain line n plain few =
    plain-more 82 100 (counted_line line n) (omega arith)
    (plain-both 61 21 line (codes " " ++ decimal n) plain (plain-both 1 20 (codes " ") (decimal n) plain-space (plain-number n (omega (arith, few)))))

-- the message of an item with bytes is one line, with exactly these bytes
pub item-front : (channel line media : List ℕ) → is_name channel ≡ true → IsSpelled line → length media ≤ media_limit
    → front_of (item_text channel line media) ≡ (Some (Item channel line media), at_line [])
item-front channel line media named spelled few =
    let counted = counted_line line (length media) in
    let bytes = (channel ++ 32 ∷ counted) ++ 10 ∷ (media ++ 10 ∷ []) in
    ap front_of (sent-is channel counted (10 ∷ (media ++ 10 ∷ [])))
    ∙ front-is channel counted named (counted-plain line (length media) spelled.plain few) (media ++ 10 ∷ [])
    ∙ ap (λ o. front_item channel counted o (media ++ 10 ∷ []) bytes) (counted-told line (length media) spelled.has (omega (arith, few)))
    ∙ media-is channel counted line media bytes few

-- and that of one without
pub bare-front : (channel line : List ℕ) → is_name channel ≡ true → IsBare line → front_of (bare_text channel line) ≡ (Some (Item channel line []), at_line [])
bare-front channel line named bare =
    ap front_of (sent-is channel line (10 ∷ []))
    ∙ front-is channel line named (plain-more 61 100 line (omega arith) bare.plain) []
    ∙ ap (λ o. front_item channel line o [] ((channel ++ 32 ∷ line) ++ 10 ∷ [])) bare.none
    ∙ ap (λ b. (Some (if b then Bad else asking (asked_in line) channel line), at_line [])) bare.lacks_none
    ∙ ap (λ o. (Some (asking o channel line), at_line [])) bare.asks_none

-- if a text is one line of a publisher with its bytes, the lines of all bytes are that one, and then those of the bytes after the text
pub line-first : (text more : List ℕ) (l : Line) → front_of text ≡ (Some l, at_line []) → lines (text ++ more) ≡ l ∷ lines more
line-first text more l e =
    whole_streams (Take text ∷ Next ∷ []) more ∙ ap (λ (r : Option Line × FeedValue). and_line [] r.0 ++ lines_in (with_bytes r.1 more)) e
