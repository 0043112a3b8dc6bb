-- The line of an entry is read as that entry, in the format that is written; and the fields of a line are read again in each format.
use Rattle.std.proofs.Common.{◌≡◌, ℕ, ◌≤◌, ◌++◌, List, [], true, false, Option, Some, None, Ok, refl, ap, ap₂, sym, subst, ◌∙◌, codes, decimal, length, bytes_eq, arith, if◌then◌else◌}
use Rattle.std.proofs.lemmas.Bool.{and_from}
use Rattle.std.proofs.lemmas.List.{append-nil, length-replicate}
use Rattle.ll_attr.specs.declared.attributes.Attribute.{Attribute}
use Rattle.ll_directive.specs.Files.{is_playlist}
use Rattle.ll_directive.specs.Targets.{WantValue, awaits, media_want}
use Rattle.ll_directive.specs.declared.want.Awaited.{Awaited}
use Rattle.ll_directive.specs.declared.want.Awaited.TheVariants.{Nothing, Segment, Part}
use Rattle.ll_format.specs.Format.{◌>>=◌, Format, up_to}
use Rattle.ll_format.specs.Words.{is_one_line}
use Rattle.ll_format.proofs.FormatLaws.{FormatLaws, WordLaws, up_to-laws, to_end-laws, key_again, inside_both}
use Rattle.ll_item.proofs.LastWord.{cut-is, words-more}
use Rattle.ll_item.specs.Items.{blank, flags_text, item_in, media_of}
use Rattle.ll_item.specs.Media.{media_limit, zeros}
use Rattle.ll_settings.specs.Names.{is_name}
use Rattle.ll_settings.specs.Settings.{Configuration, limit_broken}
use Rattle.ll_settings.proofs.WithinLimits.{within}
use Rattle.ll_item.specs.declared.item.Item.{Item}
use Rattle.ll_item.specs.declared.item.Item.TheVariants as item
use Rattle.ll_entry.specs.ItemLaws.{IsWritable}
use Rattle.ll_item.specs.ItemLines.{item_line, part_line, init_line, finish_line, break_line, timed_break_line, break_text, counted_line, end_line, range_line, unrange_line, name_of, published_line}
use Rattle.ll_item.specs.declared.what.What.{What}
use Rattle.ll_item.specs.declared.what.What.TheVariants as what
use Rattle.ll_verdict.specs.declared.reply.Outcome.{Outcome}
use Rattle.ll_entry.specs.Entries.{reply_fields, place_fields, ask_fields, media_fields, file_fields, collect_fields, want_by, where_named, ask_of, media_in, media_of as request_of, collect_of, counted, entry_by, item_text, measured, media, publish_by, published, entry_in}
use Rattle.ll_entry.specs.Blank.{blank_entry}
use Rattle.ll_entry.specs.Laws.{EntryLaw}
use Rattle.ll_entry.specs.Lines.{msn_of, part_of, ask_values, asked_line, media_values, entry_line, AwaitedWithin, IsSpelled, WhatWithin}
use Rattle.ll_entry.specs.Replies.{most, count, or_dash, FileWithin, WithinDash, OutcomeWithin, awaited_of, with_key}
use Rattle.ll_entry.specs.Frame.{last_line}
use Rattle.ll_entry.specs.declared.entry.Recorded.{Recorded}
use Rattle.ll_entry.specs.declared.entry.Recorded.TheVariants.{Publish, Ask, Clock, Collect, Close}
use Rattle.ll_entry.specs.declared.version.Version.{Version}
use Rattle.ll_entry.specs.declared.version.Version.TheVariants.{Two}
use Rattle.ll_attr.specs.Words.{words}
use Rattle.ll_entry.proofs.Cuts.{uncut}
use Rattle.ll_entry.proofs.FileLaws.{file-laws, file-word}
use Rattle.ll_entry.proofs.ItemBack.{item_back}
use Rattle.ll_entry.proofs.Numbers.{number-word}
use Rattle.ll_format.proofs.WordLaws.{number-laws}
use Rattle.ll_entry.proofs.ReplyLaws.{count-laws, count-lacks, count-within, name-laws, name-lacks, or_dash-laws, or_dash-lacks, spaced-laws, update-laws, update-lacks, update-within, outcome-laws, or_held-laws}

-- the line is read as the entry without its bytes, is one line, and isn't the last one of a chunk
abbrev IsLineOf : Configuration → Recorded → List ℕ → Type 0
IsLineOf c entry line = (entry_in Two c line ≡ Ok (blank_entry entry)) × (is_one_line line ≡ true) × (bytes_eq line last_line ≡ false)

abbrev pub IsReadAgain : Configuration → Recorded → Type 0
IsReadAgain c entry = IsLineOf c entry (entry_line c entry)

-- ---- fields

count_first : FormatLaws (up_to 32 count)
count_first = up_to-laws 32 count-laws count-lacks

dash_first : FormatLaws (up_to 32 (or_dash count))
dash_first = up_to-laws 32 (or_dash-laws count-laws) or_dash-lacks

reply_fields-laws : (v : Version) → FormatLaws (reply_fields v)
reply_fields-laws v = spaced-laws (up_to-laws 32 update-laws (λ u h. update-lacks u)) (to_end-laws (or_held-laws v))

place_fields-laws : (v : Version) → FormatLaws (place_fields v)
place_fields-laws v = spaced-laws dash_first (spaced-laws dash_first (reply_fields-laws v))

ask_fields-laws : (v : Version) → FormatLaws (ask_fields v)
ask_fields-laws v = spaced-laws count_first (spaced-laws (up_to-laws 32 name-laws name-lacks) (place_fields-laws v))

file_fields-laws : FormatLaws file_fields
file_fields-laws = spaced-laws (up_to-laws 32 file-laws (λ x h. (file-word x h).spaceless)) (to_end-laws (or_held-laws Two))

media_fields-laws : FormatLaws media_fields
media_fields-laws = spaced-laws count_first (spaced-laws (up_to-laws 32 name-laws name-lacks) file_fields-laws)

collect_fields-laws : (v : Version) → FormatLaws (collect_fields v)
collect_fields-laws v = spaced-laws count_first (to_end-laws (outcome-laws v))

-- a whole text is read again
alone : {A : Type 0} {f : Format A} → FormatLaws f → (x : A) → f.Within x → f.ends x [] ≡ true → f.read (f.print x) ≡ Some (x, [])
alone {A} {f} l x h e = ap f.read (sym (append-nil (f.print x))) ∙ l.again x [] h e

-- ---- requests

msn_within : (a : Awaited) → AwaitedWithin a → WithinDash count (msn_of a)
msn_within Nothing h = tt
msn_within (Segment msn) h = count-within msn h
msn_within (Part msn part) h = count-within msn h.0

part_within : (a : Awaited) → AwaitedWithin a → WithinDash count (part_of a)
part_within Nothing h = tt
part_within (Segment msn) h = tt
part_within (Part msn part) h = count-within part h.1

awaited_again : (a : Awaited) → awaited_of (msn_of a) (part_of a) ≡ Some a
awaited_again Nothing = refl
awaited_again (Segment msn) = refl
awaited_again (Part msn part) = refl

named_again : (c : Configuration) (rendition : List ℕ) (want : WantValue) → is_name c.channel ≡ true → is_name rendition ≡ true
    → where_named c rendition want ≡ Some want
named_again c rendition want named is = ap (λ b. if b then Some want else None) (and_from (is_name c.channel) (is_name rendition) named is)

-- a request with this instead
abbrev with_all : WantValue → List ℕ → What → WantValue
with_all want channel what = record want { channel = channel; what = what }

want_again : (c : Configuration) (want : WantValue) → is_name c.channel ≡ true → want.channel ≡ c.channel → is_name want.rendition ≡ true
    → want.what ≡ what.Playlist → want_by c want.rendition want.skip want.awaited ≡ Some want
want_again c want named same is list =
    named_again c want.rendition (with_all want c.channel what.Playlist) named is
    ∙ ap₂ (λ channel what. Some (with_all want channel what)) (sym same) (sym list)

ask_within : (c : Configuration) (ask : ℕ) (want : WantValue) (reply : Option Outcome) → IsSpelled c (Ask ask want reply)
    → (ask_fields Two).Within (ask_values ask want reply)
ask_within c ask want reply (small, (same, is, awaited, file, plain), told) =
    (small, (is, (msn_within want.awaited awaited, (part_within want.awaited awaited, (update-within want.skip, told)))))

playlist_again : (c : Configuration) (ask : ℕ) (want : WantValue) (reply : Option Outcome) → is_name c.channel ≡ true → IsSpelled c (Ask ask want reply)
    → want.what ≡ what.Playlist → IsLineOf c (Ask ask want reply) (asked_line true ask want reply)
playlist_again c ask want reply named h list =
    let values = ask_values ask want reply in
    let text = (ask_fields Two).print values in
    let all = ask_within c ask want reply h in (
      ap (λ t. with_key t (λ text. entry_by ((ask_fields Two).read text >>= ask_of Two c)) (entry_by None)) (key_again (codes "A ") text)
          ∙ ap (λ r. entry_by (r >>= ask_of Two c)) (alone (ask_fields-laws Two) values all refl)
          ∙ ap (λ r. entry_by (r >>= want_by c want.rendition want.skip >>= λ want. Some (Ask ask want reply))) (awaited_again want.awaited)
          ∙ ap (λ r. entry_by (r >>= λ want. Some (Ask ask want reply))) (want_again c want named h.1.0 h.1.1 list),
      inside_both (codes "A ") text refl ((ask_fields-laws Two).inside values all),
      refl,
    )

-- ---- requests for media

media_want_again : (c : Configuration) (want : WantValue) → is_name c.channel ≡ true → want.channel ≡ c.channel → is_name want.rendition ≡ true
    → (want.awaited ≡ awaits want.what) × (want.skip ≡ None) → where_named c want.rendition (media_want c.channel want.rendition want.what) ≡ Some want
media_want_again c want named same is plain =
    named_again c want.rendition (media_want c.channel want.rendition want.what) named is
    ∙ ap₂ (λ awaited skip. Some (record want { channel = c.channel; awaited = awaited; skip = skip })) (sym plain.0) (sym plain.1)
    ∙ ap (λ channel. Some (record want { channel = channel })) (sym same)

media_again : (c : Configuration) (ask : ℕ) (want : WantValue) (reply : Option Outcome) → is_name c.channel ≡ true → IsSpelled c (Ask ask want reply)
    → FileWithin want.what → is_playlist want.what ≡ false → IsLineOf c (Ask ask want reply) (asked_line false ask want reply)
media_again c ask want reply named (small, (same, is, awaited, file, plain), told) within other =
    let values = media_values ask want reply in
    let text = media_fields.print values in
    let all : media_fields.Within values = (small, (is, (within, told))) in (
      ap (λ t. with_key t (λ text. entry_by (media_in Two c text)) (entry_by None)) (key_again (codes "M ") text)
          ∙ ap (λ r. entry_by (r >>= request_of c)) (alone media_fields-laws values all refl)
          ∙ ap (λ r. entry_by (r >>= λ want. Some (Ask ask want reply))) (media_want_again c want named same is (plain other)),
      inside_both (codes "M ") text refl (media_fields-laws.inside values all),
      refl,
    )

ask_by : (c : Configuration) (ask : ℕ) (want : WantValue) (reply : Option Outcome) (x : What) → is_name c.channel ≡ true → IsSpelled c (Ask ask want reply)
    → want.what ≡ x → WhatWithin x → IsLineOf c (Ask ask want reply) (asked_line (is_playlist x) ask want reply)
ask_by c ask want reply what.Playlist named h is within = playlist_again c ask want reply named h is
ask_by c ask want reply (what.Segment n) named h is within =
    media_again c ask want reply named h (subst FileWithin (sym is) within) (ap is_playlist is)
ask_by c ask want reply (what.Part n i) named h is within =
    media_again c ask want reply named h (subst FileWithin (sym is) within) (ap is_playlist is)
ask_by c ask want reply (what.Init n) named h is within =
    media_again c ask want reply named h (subst FileWithin (sym is) within) (ap is_playlist is)

ask_again : (c : Configuration) (ask : ℕ) (want : WantValue) (reply : Option Outcome) → is_name c.channel ≡ true → IsSpelled c (Ask ask want reply)
    → IsReadAgain c (Ask ask want reply)
ask_again c ask want reply named h = ask_by c ask want reply want.what named h refl h.1.3

-- ---- the other entries

clock_again : (c : Configuration) (ms : ℕ) → ms ≤ most → IsReadAgain c (Clock ms)
clock_again c ms small = (
  ap (λ t. entry_by (with_key t (λ text. count.read text >>= λ ms. Some (Clock ms)) None)) (key_again (codes "C ") (decimal ms))
      ∙ ap (λ r. entry_by (r >>= λ ms. Some (Clock ms))) (count-laws.again ms small),
  inside_both (codes "C ") (decimal ms) refl (count-laws.inside ms small),
  refl,
)

collect_again : (c : Configuration) (ask : ℕ) (reply : Outcome) → ask ≤ most → OutcomeWithin Two reply → IsReadAgain c (Collect ask reply)
collect_again c ask reply small told =
    let text = (collect_fields Two).print (ask, reply) in (
      ap (λ t. entry_by (with_key t (λ text. (collect_fields Two).read text >>= collect_of) None)) (key_again (codes "G ") text)
          ∙ ap (λ r. entry_by (r >>= collect_of)) (alone (collect_fields-laws Two) (ask, reply) (small, told) refl),
      inside_both (codes "G ") text refl ((collect_fields-laws Two).inside (ask, reply) (small, told)),
      refl,
    )

close_again : (c : Configuration) (ask : ℕ) → ask ≤ most → IsReadAgain c (Close ask)
close_again c ask small = (
  ap (λ t. entry_by (with_key t (λ text. count.read text >>= λ ask. Some (Close ask)) None)) (key_again (codes "X ") (decimal ask))
      ∙ ap (λ r. entry_by (r >>= λ ask. Some (Close ask))) (count-laws.again ask small),
  inside_both (codes "X ") (decimal ask) refl (count-laws.inside ask small),
  refl,
)

-- ---- items

media-laws : WordLaws media
media-laws = number-laws media_limit (omega arith)

-- the number of an item's bytes follows the last space
pub counted-again : (line : List ℕ) (n : ℕ) → n ≤ media_limit → counted (counted_line line n) ≡ Some (line, n)
counted-again line n few =
    let word = number-word n (omega (arith, few)) in
    let cut = words-more line (decimal n) ∙ ap (λ ws. words line ++ ws) (uncut 32 (decimal n) word.spaceless) in
    ap (λ o. o >>= measured) (cut-is (counted_line line n) line (decimal n) cut) ∙ ap (λ o. o >>= λ n. Some (line, n)) (media-laws.again n few)

-- the line of an item, as an entry has it, is that of the item
part_again : (name flags : List ℕ) (duration n : ℕ) → n ≤ media_limit
    → item_text Two (counted_line (part_line name duration flags) n) ≡ Some (part_line name duration flags, n)
unfolding part_line
part_again name flags duration n few = counted-again (part_line name duration flags) n few

init_again : (name : List ℕ) (n : ℕ) → n ≤ media_limit → item_text Two (counted_line (init_line name) n) ≡ Some (init_line name, n)
unfolding init_line
init_again name n few = counted-again (init_line name) n few

finish_again : (name : List ℕ) → item_text Two (finish_line name) ≡ Some (finish_line name, 0)
unfolding finish_line
finish_again name = refl

plain_again : (name : List ℕ) → item_text Two (break_line name) ≡ Some (break_line name, 0)
unfolding break_line
plain_again name = refl

timed_again : (name : List ℕ) (ms : ℕ) → item_text Two (timed_break_line name ms) ≡ Some (timed_break_line name ms, 0)
unfolding timed_break_line
timed_again name ms = refl

break_again : (name : List ℕ) (time : Option ℕ) → item_text Two (break_text name time) ≡ Some (break_text name time, 0)
break_again name None = plain_again name
break_again name (Some ms) = timed_again name ms

end_again : (name : List ℕ) → item_text Two (end_line name) ≡ Some (end_line name, 0)
unfolding end_line
end_again name = refl

range_again : (c : Configuration) (r : ℕ) (id : List ℕ) (attributes : List Attribute)
    → item_text Two (item_line c (item.Range r id attributes)) ≡ Some (item_line c (item.Range r id attributes), 0)
unfolding range_line
range_again c r id attributes = refl

unrange_again : (name id : List ℕ) → item_text Two (unrange_line name id) ≡ Some (unrange_line name id, 0)
unfolding unrange_line
unrange_again name id = refl

text_again : (c : Configuration) (i : Item) → length (media_of i) ≤ media_limit → item_text Two (published_line c i) ≡ Some (item_line c i, length (media_of i))
text_again c (item.Part p) few = part_again (name_of c p.rendition) (flags_text p.independent p.finish) p.duration (length p.media) few
text_again c (item.Init r media) few = init_again (name_of c r) (length media) few
text_again c (item.Finish r) few = finish_again (name_of c r)
text_again c (item.Break r time) few = break_again (name_of c r) time
text_again c (item.End r) few = end_again (name_of c r)
text_again c (item.Range r id attributes) few = range_again c r id attributes
text_again c (item.Unrange r id) few = unrange_again (name_of c r) id

counted_one : (line : List ℕ) (n : ℕ) → n ≤ media_limit → is_one_line line ≡ true → is_one_line (counted_line line n) ≡ true
counted_one line n few h = inside_both line (codes " " ++ decimal n) h (number-word n (omega (arith, few))).one_line

line_again : (c : Configuration) (i : Item) → length (media_of i) ≤ media_limit → is_one_line (item_line c i) ≡ true → is_one_line (published_line c i) ≡ true
line_again c (item.Part p) few h = counted_one (item_line c (item.Part p)) (length p.media) few h
line_again c (item.Init r media) few h = counted_one (item_line c (item.Init r media)) (length media) few h
line_again c (item.Finish r) few h = h
line_again c (item.Break r time) few h = h
line_again c (item.End r) few h = h
line_again c (item.Range r id attributes) few h = h
line_again c (item.Unrange r id) few h = h

few-bytes : (c : Configuration) (i : Item) → IsWritable c i → length (media_of i) ≤ media_limit
few-bytes c (item.Part p) h = h.2
few-bytes c (item.Init r media) h = h.1
few-bytes c (item.Finish r) h = omega arith
few-bytes c (item.Break r time) h = omega arith
few-bytes c (item.End r) h = omega arith
few-bytes c (item.Range r id attributes) h = omega arith
few-bytes c (item.Unrange r id) h = omega arith

-- as many zeros are as many bytes
as_many : (media : List ℕ) → length media ≤ media_limit → length (zeros (length media)) ≤ media_limit
as_many media few = subst (λ n. n ≤ media_limit) (sym (length-replicate (length media) 0)) few

-- the line of an item is read as the item with zeros in place of its bytes
blank_back : (c : Configuration) (i : Item) → limit_broken c ≡ None → IsWritable c i
    → (item_in c (item_line c i) (zeros (length (media_of i))) ≡ Ok (blank i)) × (is_one_line (item_line c i) ≡ true)
blank_back c (item.Part p) none h =
    item_back c (item.Part (record p { media = zeros (length p.media) })) none (h.0, h.1, as_many p.media h.2)
blank_back c (item.Init r media) none h = item_back c (item.Init r (zeros (length media))) none (h.0, as_many media h.1)
blank_back c (item.Finish r) none h = item_back c (item.Finish r) none h
blank_back c (item.Break r time) none h = item_back c (item.Break r time) none h
blank_back c (item.End r) none h = item_back c (item.End r) none h
blank_back c (item.Range r id attributes) none h = item_back c (item.Range r id attributes) none h
blank_back c (item.Unrange r id) none h = item_back c (item.Unrange r id) none h

item_again : (c : Configuration) (i : Item) → limit_broken c ≡ None → IsWritable c i → IsReadAgain c (Publish i)
item_again c i none h =
    let t = blank_back c i none h in
    let few = few-bytes c i h in (
      ap (λ t. with_key t (λ text. publish_by c (item_text Two text)) (entry_by None)) (key_again (codes "P ") (published_line c i))
          ∙ ap (publish_by c) (text_again c i few)
          ∙ ap published t.0,
      inside_both (codes "P ") (published_line c i) refl (line_again c i few t.1),
      refl,
    )

pub read_again : EntryLaw
read_again c (Publish item) none h = item_again c item none h
read_again c (Ask ask want reply) none h = ask_again c ask want reply (within c none).channel_named h
read_again c (Clock ms) none h = clock_again c ms h
read_again c (Collect ask reply) none h = collect_again c ask reply h.0 h.1
read_again c (Close ask) none h = close_again c ask h
