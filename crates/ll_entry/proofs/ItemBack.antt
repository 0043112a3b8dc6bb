-- The line of an item is read as the item, and is one line.
use Rattle.std.proofs.Common.{◌≡◌, ℕ, ◌+◌, ◌==◌, ◌%◌, ◌<◌, ◌≤◌, ◌^◌, Bool, true, false, List, [], ◌∷◌, ◌++◌, length, nat_le, refl, ap, arith, ◌∙◌, codes, decimal, Option, Some, None, Ok, option_and_then, if◌then◌else◌}
use Rattle.std.proofs.lemmas.Bool.Decides.{nat_tests}
use Rattle.std.proofs.lemmas.Fmt.{decimal_by_steps, length-decimal-le}
use Rattle.ll_attr.specs.Numbers.{number_in}
use Rattle.ll_attr.specs.Attributes.{attributes_in, spelling}
use Rattle.ll_attr.specs.Words.{words}
use Rattle.ll_attr.specs.declared.attributes.Attribute.{Attribute}
use Rattle.ll_format.specs.Words.{is_one_line}
use Rattle.ll_format.proofs.FormatLaws.{inside_both, lacks}
use Rattle.ll_item.specs.Items.{item_in, item_of, part_by, part_at, flags_in, flags_text, named, init_at, finish_at, break_at, end_at, last_milli, leads_with_zero, media_of, range_at, range_of, time_in, timed_break, unrange_at}
use Rattle.ll_settings.specs.Settings.{Configuration, IsWithin}
use Rattle.ll_item.specs.declared.item.Item.{Item}
use Rattle.ll_item.specs.declared.item.Item.TheVariants.{Part, Init, Finish, Break, End, Range, Unrange}
use Rattle.ll_item.specs.declared.item.PartItem.{PartItem}
use Rattle.ll_item.proofs.RangeLines.{range_words, unrange_words}
use Rattle.ll_settings.proofs.WithinLimits.{within}
use Rattle.ll_entry.specs.ItemLaws.{ItemLaw, IsBreakTime, IsWritable}
use Rattle.ll_item.specs.ItemLines.{with_id, part_line, init_line, finish_line, break_line, break_text, timed_break_line, end_line, range_line, unrange_line, item_line, name_of}
use Rattle.ll_entry.proofs.Cuts.{AreWords, no_more, also, IsWord, cut_first, words_back, words_line}
use Rattle.ll_entry.proofs.Names.{name-word, name_at, named_back}
use Rattle.ll_entry.proofs.Numbers.{number-back, number-word}
use Rattle.ll_entry.proofs.RangeLine.{list-line}

-- a channel's rendition: its name is a word, and is read again
record IsTold (c : Configuration) (name : List ℕ) (r : ℕ) : Type 0 where
  word : IsWord name
  back : named c name ≡ Ok r

told : (c : Configuration) (r : ℕ) → IsWithin c → r < length c.renditions → IsTold c (name_of c r) r
told c r w inside = record {
  word = name-word (name_of c r) (name_at c.renditions r w.renditions_named inside);
  back = named_back c r w.renditions_named inside;
}

-- the item of a line of this form
abbrev Comes : Configuration → List ℕ → Item → Type 0
Comes c line item = (item_in c line (media_of item) ≡ Ok item) × (is_one_line line ≡ true)

flags_word : (independent finish : Bool) → IsWord (flags_text independent finish)
flags_word false false = record { spaceless = refl; one_line = refl }
flags_word true false = record { spaceless = refl; one_line = refl }
flags_word false true = record { spaceless = refl; one_line = refl }
flags_word true true = record { spaceless = refl; one_line = refl }

flags_back : (independent finish : Bool) → flags_in (flags_text independent finish) ≡ Some (independent, finish)
flags_back false false = refl
flags_back true false = refl
flags_back false true = refl
flags_back true true = refl

part_back : (c : Configuration) (name : List ℕ) (part : PartItem) → IsTold c name part.rendition → part.duration < 2 ^ 64
    → Comes c (part_line name part.duration (flags_text part.independent part.finish)) (Part part)
unfolding part_line
part_back c name part t small =
    let flags = flags_text part.independent part.finish in
    let rest = name ∷ decimal part.duration ∷ flags ∷ [] in
    let all : AreWords (codes "part" ∷ rest) =
    also (record { spaceless = refl; one_line = refl }) (also t.word (also (number-word part.duration small) (also (flags_word part.independent part.finish) no_more))) in (
      ap (λ ws. item_of c ws part.media) (words_back (codes "part") rest all)
          ∙ ap (λ o. part_by c name o (flags_in flags) part.media) (number-back part.duration small)
          ∙ ap (λ f. part_by c name (Some part.duration) f part.media) (flags_back part.independent part.finish)
          ∙ ap (λ n. part_at n part.duration (part.independent, part.finish) part.media) t.back,
      words_line (codes "part" ∷ rest) all,
    )

init_back : (c : Configuration) (name : List ℕ) (r : ℕ) (media : List ℕ) → IsTold c name r → Comes c (init_line name) (Init r media)
unfolding init_line
init_back c name r media t =
    let all : AreWords (codes "init" ∷ name ∷ []) = also (record { spaceless = refl; one_line = refl }) (also t.word no_more) in
    (ap (λ ws. item_of c ws media) (words_back (codes "init") (name ∷ []) all) ∙ ap (λ n. init_at n media) t.back, words_line (codes "init" ∷ name ∷ []) all)

finish_back : (c : Configuration) (name : List ℕ) (r : ℕ) → IsTold c name r → Comes c (finish_line name) (Finish r)
unfolding finish_line
finish_back c name r t =
    let all : AreWords (codes "finish" ∷ name ∷ []) = also (record { spaceless = refl; one_line = refl }) (also t.word no_more) in
    (ap (λ ws. item_of c ws []) (words_back (codes "finish") (name ∷ []) all) ∙ ap finish_at t.back, words_line (codes "finish" ∷ name ∷ []) all)

plain_break : (c : Configuration) (name : List ℕ) (r : ℕ) → IsTold c name r → Comes c (break_line name) (Break r None)
unfolding break_line
plain_break c name r t =
    let all : AreWords (codes "break" ∷ name ∷ []) = also (record { spaceless = refl; one_line = refl }) (also t.word no_more) in
    (ap (λ ws. item_of c ws []) (words_back (codes "break") (name ∷ []) all) ∙ ap (λ n. break_at n None) t.back, words_line (codes "break" ∷ name ∷ []) all)

-- a number's first digit is no zero, unless it is the only one
record IsLed (n : ℕ) (ds : List ℕ) : Type 0 where
  plain : leads_with_zero ds ≡ false
  first : ℕ
  more : List ℕ
  is : ds ≡ first ∷ more
  some : 1 ≤ n → (first == 48) ≡ false

led-more : (first digit : ℕ) (more : List ℕ) → (first == 48) ≡ false → leads_with_zero ((first ∷ more) ++ digit ∷ []) ≡ false
led-more first digit [] h = h
led-more first digit (d ∷ more) h = h

led : (n : ℕ) → n < 2 ^ 64 → IsLed n (decimal n)
led = decimal_by_steps IsLed
    (λ n small. record { plain = refl; first = 48 + n; more = []; is = refl; some = λ low. grind (arith, nat_tests, low) })
    (λ n ds low h.
    let nonzero = h.some (omega (arith, low)) in
    record {
      plain = ap (λ xs. leads_with_zero (xs ++ (48 + n % 10) ∷ [])) h.is ∙ led-more h.first (48 + n % 10) h.more nonzero;
      first = h.first;
      more = h.more ++ (48 + n % 10) ∷ [];
      is = ap (λ xs. xs ++ (48 + n % 10) ∷ []) h.is;
      some = λ low. nonzero;
    })

-- a time up to the year 9999 has 15 digits at most
shorter : (text : List ℕ) (n : ℕ) → length text ≤ 15 → number_in 20 text ≡ Some n → number_in 15 text ≡ Some n
shorter text n few h = grind (arith, nat_tests, h)

within_last : (ms : ℕ) → ms ≤ last_milli → (if nat_le ms last_milli then Some ms else None) ≡ Some ms
within_last ms le = grind (arith, nat_tests)

time-back : (ms : ℕ) → ms ≤ last_milli → time_in (decimal ms) ≡ Some ms
time-back ms le =
    let small : ms < 2 ^ 64 = omega (arith, le) in
    let few = length-decimal-le 15 ms (omega arith) (omega (arith, le)) small in
    ap (λ b. if b then None else option_and_then (λ ms. if nat_le ms last_milli then Some ms else None) (number_in 15 (decimal ms))) (led ms small).plain
    ∙ ap (option_and_then (λ ms. if nat_le ms last_milli then Some ms else None)) (shorter (decimal ms) ms few (number-back ms small))
    ∙ within_last ms le

timed : (c : Configuration) (name : List ℕ) (r ms : ℕ) → IsTold c name r → ms ≤ last_milli → Comes c (timed_break_line name ms) (Break r (Some ms))
unfolding timed_break_line
timed c name r ms t le =
    let rest = name ∷ decimal ms ∷ [] in
    let all : AreWords (codes "break" ∷ rest) = also (record { spaceless = refl; one_line = refl }) (also t.word (also (number-word ms (omega (arith, le))) no_more)) in (
      ap (λ ws. item_of c ws []) (words_back (codes "break") rest all)
          ∙ ap (timed_break c name) (time-back ms le)
          ∙ ap (λ n. break_at n (Some ms)) t.back,
      words_line (codes "break" ∷ rest) all,
    )

break_back : (c : Configuration) (name : List ℕ) (r : ℕ) (time : Option ℕ) → IsTold c name r → IsBreakTime time → Comes c (break_text name time) (Break r time)
break_back c name r None t h = plain_break c name r t
break_back c name r (Some ms) t h = timed c name r ms t h

end_back : (c : Configuration) (name : List ℕ) (r : ℕ) → IsTold c name r → Comes c (end_line name) (End r)
unfolding end_line
end_back c name r t =
    let all : AreWords (codes "end" ∷ name ∷ []) = also (record { spaceless = refl; one_line = refl }) (also t.word no_more) in
    (ap (λ ws. item_of c ws []) (words_back (codes "end") (name ∷ []) all) ∙ ap end_at t.back, words_line (codes "end" ∷ name ∷ []) all)

-- a kind, a name, and what follows it up to the line's end
rest_words : (kind name text : List ℕ) → lacks 32 kind ≡ true → IsWord name → words (kind ++ (32 ∷ (name ++ (32 ∷ text)))) ≡ kind ∷ name ∷ words text
rest_words kind name text k n = cut_first 32 kind (name ++ (32 ∷ text)) refl k ∙ ap (λ ws. kind ∷ ws) (cut_first 32 name text refl n.spaceless)

rest_line : (kind name text : List ℕ) → is_one_line kind ≡ true → IsWord name → is_one_line text ≡ true → is_one_line (kind ++ (32 ∷ (name ++ (32 ∷ text)))) ≡ true
rest_line kind name text k n h = inside_both kind (32 ∷ (name ++ (32 ∷ text))) k (inside_both name (32 ∷ text) n.one_line h)

range_back : (c : Configuration) (name id : List ℕ) (r : ℕ) (attributes : List Attribute) → IsTold c name r
    → attributes_in (spelling (with_id id attributes)) ≡ Ok (with_id id attributes)
    → Comes c (range_line name (spelling (with_id id attributes))) (Range r id attributes)
unfolding range_line
range_back c name id r attributes t read =
    let list = spelling (with_id id attributes) in (
      ap (λ ws. item_of c ws []) (rest_words (codes "range") name list refl t.word)
          ∙ range_words c name list
          ∙ ap (λ n. range_at n list) t.back
          ∙ ap (range_of r) read,
      rest_line (codes "range") name list refl t.word (list-line list (with_id id attributes) read),
    )

unrange_back : (c : Configuration) (name id : List ℕ) (r : ℕ) → IsTold c name r → is_one_line id ≡ true → Comes c (unrange_line name id) (Unrange r id)
unfolding unrange_line
unrange_back c name id r t one = (
  ap (λ ws. item_of c ws []) (rest_words (codes "unrange") name id refl t.word) ∙ unrange_words c name id ∙ ap (λ n. unrange_at n id) t.back,
  rest_line (codes "unrange") name id refl t.word one,
)

item_within : (c : Configuration) (item : Item) → IsWithin c → IsWritable c item → Comes c (item_line c item) item
item_within c (Part part) w h = part_back c (name_of c part.rendition) part (told c part.rendition w h.0) h.1
item_within c (Init r media) w h = init_back c (name_of c r) r media (told c r w h.0)
item_within c (Finish r) w h = finish_back c (name_of c r) r (told c r w h)
item_within c (Break r time) w h = break_back c (name_of c r) r time (told c r w h.0) h.1
item_within c (End r) w h = end_back c (name_of c r) r (told c r w h)
item_within c (Range r id attributes) w h = range_back c (name_of c r) id r attributes (told c r w h.0) h.1
item_within c (Unrange r id) w h = unrange_back c (name_of c r) id r (told c r w h.0) h.1

pub item_back : ItemLaw
item_back c item limits h = item_within c item (within c limits) h
