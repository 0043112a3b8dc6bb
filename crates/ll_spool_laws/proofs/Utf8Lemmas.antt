-- The line of an item is UTF-8 if its own texts are.
use Rattle.std.proofs.Common.{◌≡◌, ℕ, ◌<◌, ◌&&◌, List, [], ◌∷◌, ◌++◌, Bool, true, false, Option, None, Some, refl, arith, codes, decimal, length, nat_le, nat_lt}
use Rattle.std.proofs.lemmas.Bool.{and_from, and_parts}
use Rattle.std.proofs.lemmas.Bool.Decides.{nat_tests}
use Rattle.std.proofs.lemmas.Str.{IsUtf8-append, IsUtf8-from_is_utf8}
use Rattle.std.specs.Char.{is_ascii_digit}
use Rattle.std.specs.List.{list_all}
use Rattle.std.specs.Str.{IsUtf8}
use Rattle.ll_entry.proofs.ChunkProof.{plain}
use Rattle.ll_entry.proofs.Names.{name_at}
use Rattle.ll_entry.specs.ItemLaws.{IsWritable}
use Rattle.ll_item.specs.ItemLines.{break_line, break_text, counted_line, end_line, finish_line, init_line, item_line, name_of, part_line, published_line, range_line, timed_break_line, unrange_line}
use Rattle.ll_item.specs.Items.{flags_text}
use Rattle.ll_item.specs.declared.item.Item.{Item}
use Rattle.ll_item.specs.declared.item.Item.TheVariants as item
use Rattle.ll_settings.proofs.WithinLimits.{within}
use Rattle.ll_settings.specs.Names.{is_name_byte}
use Rattle.ll_settings.specs.Settings.{Configuration, limit_broken}
use Rattle.ll_spool.specs.Spooled.{numbered}
use Rattle.ll_spool_laws.proofs.TextLemmas.{are-digits}
use Rattle.ll_spool_laws.specs.Laws.{HasUtf8}

-- ---- ASCII

abbrev is_low : ℕ → Bool
is_low b = nat_lt b 128

all-low : (test : ℕ → Bool) → ((b : ℕ) → test b ≡ true → is_low b ≡ true) → (text : List ℕ) → list_all test text ≡ true → list_all is_low text ≡ true
all-low test low [] h = refl
all-low test low (b ∷ bs) h =
    let p = and_parts (test b) (list_all test bs) h in and_from (is_low b) (list_all is_low bs) (low b p.0) (all-low test low bs p.1)

ascii : (text : List ℕ) → list_all is_low text ≡ true → IsUtf8 text
ascii text h = IsUtf8-from_is_utf8 text (plain text h)

digit_low : (b : ℕ) → is_ascii_digit b ≡ true → is_low b ≡ true
digit_low b h = grind (arith, nat_tests)

name_low : (b : ℕ) → is_name_byte b ≡ true → is_low b ≡ true
name_low b h = grind (arith, nat_tests)

digits : (n : ℕ) → IsUtf8 (decimal n)
digits n = ascii (decimal n) (all-low is_ascii_digit digit_low (decimal n) (are-digits n))

-- a key, or a space, before a text
after : (key rest : List ℕ) → list_all is_low key ≡ true → IsUtf8 rest → IsUtf8 (key ++ rest)
after key rest low h = IsUtf8-append key rest (ascii key low) h

pub number-utf8 : (n : ℕ) → IsUtf8 (numbered n)
number-utf8 n = IsUtf8-append (decimal n) (codes " ") (digits n) (ascii (codes " ") refl)

flags : (independent finish : Bool) → IsUtf8 (flags_text independent finish)
flags true true = ascii (codes "if") refl
flags true false = ascii (codes "i") refl
flags false true = ascii (codes "f") refl
flags false false = ascii (codes "-") refl

-- ---- lines with a name

module _ (name : List ℕ) (h : IsUtf8 name) where
  -- what follows a name and a space
  named : (rest : List ℕ) → IsUtf8 rest → IsUtf8 (name ++ (codes " " ++ rest))
  named rest k = IsUtf8-append name (codes " " ++ rest) h (after (codes " ") rest refl k)

  part : (duration : ℕ) (flag : List ℕ) → IsUtf8 flag → IsUtf8 (part_line name duration flag)
  unfolding part_line
  part duration flag k =
      after (codes "part ") (name ++ (codes " " ++ (decimal duration ++ (codes " " ++ flag)))) refl
      (named (decimal duration ++ (codes " " ++ flag)) (IsUtf8-append (decimal duration) (codes " " ++ flag) (digits duration) (after (codes " ") flag refl k)))

  init : IsUtf8 (init_line name)
  unfolding init_line
  init = after (codes "init ") name refl h

  finish : IsUtf8 (finish_line name)
  unfolding finish_line
  finish = after (codes "finish ") name refl h

  plain-break : IsUtf8 (break_line name)
  unfolding break_line
  plain-break = after (codes "break ") name refl h

  timed-break : (ms : ℕ) → IsUtf8 (timed_break_line name ms)
  unfolding timed_break_line
  timed-break ms = after (codes "break ") (name ++ (codes " " ++ decimal ms)) refl (named (decimal ms) (digits ms))

  break : (time : Option ℕ) → IsUtf8 (break_text name time)
  break None = plain-break
  break (Some ms) = timed-break ms

  end : IsUtf8 (end_line name)
  unfolding end_line
  end = after (codes "end ") name refl h

  range : (list : List ℕ) → IsUtf8 list → IsUtf8 (range_line name list)
  unfolding range_line
  range list k = after (codes "range ") (name ++ (codes " " ++ list)) refl (named list k)

  unrange : (id : List ℕ) → IsUtf8 id → IsUtf8 (unrange_line name id)
  unfolding unrange_line
  unrange id k = after (codes "unrange ") (name ++ (codes " " ++ id)) refl (named id k)

counted : (line : List ℕ) (n : ℕ) → IsUtf8 line → IsUtf8 (counted_line line n)
counted line n h = IsUtf8-append line (codes " " ++ decimal n) h (after (codes " ") (decimal n) refl (digits n))

-- ---- items

module _ (c : Configuration) (limits : limit_broken c ≡ None) where
  name : (r : ℕ) → r < length c.renditions → IsUtf8 (name_of c r)
  name r inside =
      let is = name_at c.renditions r (within c limits).renditions_named inside in
      let bytes = (and_parts (nat_le 1 (length (name_of c r)) && nat_le (length (name_of c r)) 32) (list_all is_name_byte (name_of c r)) is).1 in
      ascii (name_of c r) (all-low is_name_byte name_low (name_of c r) bytes)

  pub line-utf8 : (i : Item) → IsWritable c i → HasUtf8 i → IsUtf8 (published_line c i)
  line-utf8 (item.Part p) w h =
      counted (item_line c (item.Part p)) (length p.media)
      (part (name_of c p.rendition) (name p.rendition w.0) p.duration (flags_text p.independent p.finish) (flags p.independent p.finish))
  line-utf8 (item.Init r media) w h = counted (item_line c (item.Init r media)) (length media) (init (name_of c r) (name r w.0))
  line-utf8 (item.Finish r) w h = finish (name_of c r) (name r w)
  line-utf8 (item.Break r time) w h = break (name_of c r) (name r w.0) time
  line-utf8 (item.End r) w h = end (name_of c r) (name r w)
  line-utf8 (item.Range r id attributes) w h = range (name_of c r) (name r w.0) _ (IsUtf8-from_is_utf8 _ h)
  line-utf8 (item.Unrange r id) w h = unrange (name_of c r) (name r w.0) id (IsUtf8-from_is_utf8 id h)
