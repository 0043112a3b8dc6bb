-- The line of an entry in format 2: it is a line of text, and is read as the entry in full.
use Rattle.std.proofs.Common.{◌≡◌, ℕ, ◌≤◌, ◌<◌, ◌^◌, ◌==◌, ◌&&◌, ◌||◌, List, [], ◌∷◌, ◌++◌, Bool, true, false, not, cond, Option, Some, None, Result, Ok, Err, is_some, refl, ap, ◌∙◌, sym, subst, true≢false, append-nil, length, nat_le, option_map, bytes_eq, codes, decimal, arith, if◌then◌else◌}
use Rattle.std.proofs.lemmas.Bool.{and_from, and_parts}
use Rattle.std.proofs.lemmas.Bool.Decides.{nat_tests}
use Rattle.std.proofs.lemmas.Fmt.{IsAscii-decimal}
use Rattle.std.proofs.lemmas.List.Folds.{list_all-append}
use Rattle.std.proofs.lemmas.Slice.Eq.{bytes_eq-Decides}
use Rattle.std.proofs.lemmas.Str.{IsUtf8-append, IsUtf8-from_ascii, IsUtf8-from_is_utf8, is_utf8-from_IsUtf8}
use Rattle.std.specs.Fmt.{digits}
use Rattle.std.specs.List.{list_all}
use Rattle.std.specs.Option.{option_map_or}
use Rattle.std.specs.Str.{is_utf8}
use Rattle.ll_attr.specs.Words.{after, words}
use Rattle.ll_check.specs.Steps.{full_entry, in_full}
use Rattle.ll_entry_check.specs.Full.{without_item}
use Rattle.ll_explain.specs.Upgrade.{media_text, upgraded_line}
use Rattle.ll_directive.specs.Files.{is_playlist}
use Rattle.ll_directive.specs.Targets.{IsPlain, WantValue}
use Rattle.ll_directive.specs.declared.want.Awaited.{Awaited}
use Rattle.ll_directive.specs.declared.want.Awaited.TheVariants.{Nothing, Part, Segment}
use Rattle.ll_entry.proofs.ChunkProof.{is_low, plain}
use Rattle.ll_entry.proofs.EntryLines.{counted-again, read_again}
use Rattle.ll_entry.proofs.ReplyLaws.{count-lacks, count-laws, name-lacks, name-laws, or_dash-lacks, or_dash-laws, or_held-laws, outcome-laws, spaced-laws, update-lacks, update-laws, update-within}
use Rattle.ll_entry.proofs.ToldLemmas.{told-right, whole-entry}
use Rattle.ll_entry.specs.Chain.{Chain, entry_at}
use Rattle.ll_entry.specs.Entries.{ask_fields, ask_in, ask_of, collect_fields, counted, collect_of, entry_by, entry_in, is_finish_line, is_init_line, is_part_line, is_timed_break, item_text, media_in, publish_by, published, short_in, want_by}
use Rattle.ll_entry.specs.Frame.{last_line}
use Rattle.ll_entry.specs.Blank.{blank_entry}
use Rattle.ll_entry.specs.Lines.{AwaitedWithin, IsSpelled, WantWithin, WhatWithin, asked_line, entry_line, msn_of, part_of}
use Rattle.ll_entry.specs.Replies.{HeldWithin, OutcomeWithin, WithinDash, asked_for, awaited_of, count, most, or_dash, or_dash_text, or_held_text, outcome_text, told_in, update, with_key}
use Rattle.ll_entry.specs.Told.{as_told, entry_after}
use Rattle.ll_entry.specs.declared.entry.Recorded.{Recorded}
use Rattle.ll_entry.specs.declared.entry.Recorded.TheVariants as recorded
use Rattle.ll_entry.specs.declared.version.Version.{Version}
use Rattle.ll_entry.specs.declared.version.Version.TheVariants.{One, Two}
use Rattle.ll_format.proofs.FormatLaws.{FormatLaws, bind_some, guarded, key_again, key_takes, lacks, some_is, to_end-laws, up_to-laws}
use Rattle.ll_format.proofs.WordLaws.{lacks_from, number-lacks}
use Rattle.ll_format.specs.Format.{◌>>=◌, up_to}
use Rattle.ll_item.specs.ItemLines.{counted_line}
use Rattle.ll_item.specs.Items.{item_in}
use Rattle.ll_item.specs.Media.{zeros}
use Rattle.ll_settings.specs.Names.{is_name, is_name_byte}
use Rattle.ll_settings.specs.Settings.{Configuration, configuration_of, limit_broken, settings_by, settings_in, unless_broken}
use Rattle.ll_item.specs.declared.item.Item.{Item}
use Rattle.ll_item.specs.declared.item.ItemFault.{ItemFault}
use Rattle.ll_settings.specs.declared.settings.SettingsFault.{SettingsFault}
use Rattle.ll_item.specs.declared.skip_kind.SkipKind.{SkipKind}
use Rattle.ll_item.specs.declared.skip_kind.SkipKind.TheVariants.{V2, Yes}
use Rattle.ll_item.specs.declared.what.What.TheVariants as what
use Rattle.ll_verdict.specs.Events.{Event}
use Rattle.ll_verdict.specs.declared.reply.Outcome.{Outcome}
use Rattle.ll_verdict.specs.declared.reply.Outcome.TheVariants.{Busy, Media, NotFound, Text, Timeout, TooFar}

-- ---- lines of text

-- text, with no line feed
abbrev pub IsLine : List ℕ → Type 0
IsLine line = (is_utf8 line ≡ true) × (lacks 10 line ≡ true)

line-both : (a b : List ℕ) → IsLine a → IsLine b → IsLine (a ++ b)
line-both a b x y = (
  is_utf8-from_IsUtf8 (a ++ b) (IsUtf8-append a b (IsUtf8-from_is_utf8 a x.0) (IsUtf8-from_is_utf8 b y.0)),
  list_all-append (λ b. not (b == 10)) a b ∙ and_from (lacks 10 a) (lacks 10 b) x.1 y.1,
)

plain-line : (text : List ℕ) → list_all is_low text ≡ true → lacks 10 text ≡ true → IsLine text
plain-line text low none = (plain text low, none)

-- two words with a space between them
spaced-line : (a b : List ℕ) → IsLine a → IsLine b → IsLine (a ++ (codes " " ++ b))
spaced-line a b x y = line-both a (codes " " ++ b) x (line-both (codes " ") b (plain-line (codes " ") refl refl) y)

in_word : most < 2 ^ 64
in_word = omega arith

decimal-line : (n : ℕ) → n ≤ most → IsLine (decimal n)
decimal-line n small =
    (is_utf8-from_IsUtf8 (decimal n) (IsUtf8-from_ascii (decimal n) (IsAscii-decimal n (omega arith))), number-lacks 10 most n refl in_word small)

low_byte : (b : ℕ) → is_name_byte b ≡ true → is_low b ≡ true
low_byte b h = grind (arith, nat_tests)

low_name : (text : List ℕ) → list_all is_name_byte text ≡ true → list_all is_low text ≡ true
low_name [] h = refl
low_name (b ∷ bs) h =
    let p = and_parts (is_name_byte b) (list_all is_name_byte bs) h in and_from (is_low b) (list_all is_low bs) (low_byte b p.0) (low_name bs p.1)

name-line : (name : List ℕ) → is_name name ≡ true → IsLine name
name-line name h =
    let bytes = (and_parts (nat_le 1 (length name) && nat_le (length name) 32) (list_all is_name_byte name) h).1 in
    plain-line name (low_name name bytes) (lacks_from is_name_byte 10 name refl bytes)

msn-line : (a : Awaited) → AwaitedWithin a → IsLine (or_dash_text count (msn_of a))
msn-line Nothing h = plain-line (codes "-") refl refl
msn-line (Segment msn) h = decimal-line msn h
msn-line (Part msn part) h = decimal-line msn h.0

part-line : (a : Awaited) → AwaitedWithin a → IsLine (or_dash_text count (part_of a))
part-line Nothing h = plain-line (codes "-") refl refl
part-line (Segment msn) h = plain-line (codes "-") refl refl
part-line (Part msn part) h = decimal-line part h.1

update-line : (u : Option SkipKind) → IsLine (update.print u)
update-line None = plain-line (codes "-") refl refl
update-line (Some Yes) = plain-line (codes "YES") refl refl
update-line (Some V2) = plain-line (codes "v2") refl refl

outcome-line : (o : Outcome) → OutcomeWithin Two o → IsLine (outcome_text Two o)
outcome-line (Text n u) h =
    line-both (codes "text ") (decimal n ++ (codes " " ++ update.print u)) (plain-line (codes "text ") refl refl)
    (spaced-line (decimal n) (update.print u) (decimal-line n h.0) (update-line u))
outcome-line (Media n size) h =
    line-both (codes "media ") (decimal n ++ (codes " " ++ decimal size)) (plain-line (codes "media ") refl refl)
    (spaced-line (decimal n) (decimal size) (decimal-line n h.0) (decimal-line size h.1))
outcome-line NotFound h = plain-line (codes "notfound") refl refl
outcome-line TooFar h = plain-line (codes "bad TooFar") refl refl
outcome-line Busy h = plain-line (codes "busy") refl refl
outcome-line Timeout h = plain-line (codes "timeout") refl refl

held-line : (o : Option Outcome) → HeldWithin Two o → IsLine (or_held_text Two o)
held-line None h = plain-line (codes "held") refl refl
held-line (Some o) h = outcome-line o h

-- the line of a request for a playlist
ask-line : (c : Configuration) (ask : ℕ) (want : WantValue) (reply : Option Outcome) → want.what ≡ what.Playlist → IsSpelled c (recorded.Ask ask want reply)
    → IsLine (entry_line c (recorded.Ask ask want reply))
ask-line c ask want reply list (small, (same, name, awaited, file, plain), told) =
    let held = or_held_text Two reply in
    let fields3 = update.print want.skip ++ (codes " " ++ held) in
    let fields2 = or_dash_text count (part_of want.awaited) ++ (codes " " ++ fields3) in
    let fields1 = or_dash_text count (msn_of want.awaited) ++ (codes " " ++ fields2) in
    let fields0 = want.rendition ++ (codes " " ++ fields1) in
    subst (λ w. IsLine (asked_line (is_playlist w) ask want reply)) (sym list)
    (line-both (codes "A ") (decimal ask ++ (codes " " ++ fields0)) (plain-line (codes "A ") refl refl)
    (spaced-line (decimal ask) fields0 (decimal-line ask small)
    (spaced-line want.rendition fields1 (name-line want.rendition name)
    (spaced-line (or_dash_text count (msn_of want.awaited)) fields2 (msn-line want.awaited awaited)
    (spaced-line (or_dash_text count (part_of want.awaited)) fields3 (part-line want.awaited awaited)
    (spaced-line (update.print want.skip) held (update-line want.skip) (held-line reply told)))))))

collect-line : (c : Configuration) (ask : ℕ) (reply : Outcome) → IsSpelled c (recorded.Collect ask reply) → IsLine (entry_line c (recorded.Collect ask reply))
collect-line c ask reply h =
    line-both (codes "G ") (decimal ask ++ (codes " " ++ outcome_text Two reply)) (plain-line (codes "G ") refl refl)
    (spaced-line (decimal ask) (outcome_text Two reply) (decimal-line ask h.0) (outcome-line reply h.1))

-- ---- what a line is that is read as an entry

-- the words of an item after the key, the numbers and names of a request for a playlist as they can be spelled, or the line's own words
abbrev IsReadBy : Version → Configuration → List ℕ → Recorded → Type 0
IsReadBy v c line (recorded.Publish item) =
    (text : List ℕ) × (line ≡ codes "P " ++ text) × (publish_by c (item_text v text) ≡ Ok (recorded.Publish item))
IsReadBy v c line (recorded.Ask ask want reply) =
    (ask ≤ most) × (want.channel ≡ c.channel) × (is_name want.rendition ≡ true) × AwaitedWithin want.awaited × (want.what ≡ what.Playlist) × HeldWithin v reply
IsReadBy v c line (recorded.Clock ms) = (line ≡ codes "C " ++ decimal ms) × (ms ≤ most)
IsReadBy v c line (recorded.Collect ask reply) = (ask ≤ most) × OutcomeWithin v reply
IsReadBy v c line (recorded.Close ask) = (line ≡ codes "X " ++ decimal ask) × (ask ≤ most)

published_is : (r : Result Item ItemFault) (entry : Recorded) → published r ≡ Ok entry → (item : Item) × (entry ≡ recorded.Publish item)
published_is (Ok item) entry h = (item, cc)
published_is (Err fault) entry h = cc

published_by : (c : Configuration) (o : Option (List ℕ × ℕ)) (entry : Recorded) → publish_by c o ≡ Ok entry → (item : Item) × (entry ≡ recorded.Publish item)
published_by c None entry h = cc
published_by c (Some (text, n)) entry h = published_is (item_in c text (zeros n)) entry h

publish-read : (v : Version) (c : Configuration) (line text : List ℕ) (entry : Recorded) → after (codes "P ") line ≡ Some text
    → publish_by c (item_text v text) ≡ Ok entry → IsReadBy v c line entry
publish-read v c line text entry e h =
    let p = published_by c (item_text v text) entry h in
    subst (IsReadBy v c line) (sym p.1) (text, key_takes (codes "P ") line text e, h ∙ ap Ok p.1)

count_first : FormatLaws (up_to 32 count)
count_first = up_to-laws 32 count-laws count-lacks

dash_first : FormatLaws (up_to 32 (or_dash count))
dash_first = up_to-laws 32 (or_dash-laws count-laws) or_dash-lacks

ask_laws : (v : Version) → FormatLaws (ask_fields v)
ask_laws v =
    spaced-laws count_first (spaced-laws (up_to-laws 32 name-laws name-lacks) (spaced-laws dash_first (spaced-laws dash_first
    (spaced-laws (up_to-laws 32 update-laws (λ u h. update-lacks u)) (to_end-laws (or_held-laws v))))))

collect_laws : (v : Version) → FormatLaws (collect_fields v)
collect_laws v = spaced-laws count_first (to_end-laws (outcome-laws v))

awaited_within : (msn part : Option ℕ) (a : Awaited) → awaited_of msn part ≡ Some a → WithinDash count msn → WithinDash count part → AwaitedWithin a
awaited_within None None a e m p = subst AwaitedWithin (some_is Nothing a e) tt
awaited_within None (Some part) a e m p = cc
awaited_within (Some msn) None a e m p = subst AwaitedWithin (some_is (Segment msn) a e) m.0
awaited_within (Some msn) (Some part) a e m p = subst AwaitedWithin (some_is (Part msn part) a e) (m.0, p.0)

ask-parts : (v : Version) (c : Configuration) (line text : List ℕ) (p : (ℕ × (List ℕ × (Option ℕ × (Option ℕ × (Option SkipKind × Option Outcome))))) × List ℕ)
    (entry : Recorded) → (ask_fields v).read text ≡ Some p → ask_of v c p ≡ Some entry → IsReadBy v c line entry
ask-parts v c line text ((ask, (rendition, (msn, (part, (skip, reply))))), rest) entry is h =
    let t = (ask_laws v).takes text (ask, (rendition, (msn, (part, (skip, reply))))) rest is in
    let w = bind_some (awaited_of msn part >>= want_by c rendition (asked_for v skip)) (λ want. Some (recorded.Ask ask want reply)) entry h in
    let a = bind_some (awaited_of msn part) (want_by c rendition (asked_for v skip)) w.0 w.1 in
    let want : WantValue = record { channel = c.channel; rendition = rendition; what = what.Playlist; awaited = a.0; skip = asked_for v skip } in
    let g = guarded (is_name c.channel && is_name rendition) (Some want) w.0 a.2 in
    subst (IsReadBy v c line) (some_is (recorded.Ask ask w.0 reply) entry w.2)
    (subst (λ want. IsReadBy v c line (recorded.Ask ask want reply)) (some_is want w.0 g.1)
    (t.1.0, refl, t.1.1.0, awaited_within msn part a.0 a.1 t.1.1.1.0 t.1.1.1.1.0, refl, t.1.1.1.1.1.1))

ask-read : (v : Version) (c : Configuration) (line text : List ℕ) (entry : Recorded) → ask_in v c text ≡ Some entry → IsReadBy v c line entry
ask-read v c line text entry h =
    let a = bind_some ((ask_fields v).read text) (ask_of v c) entry h in ask-parts v c line text a.0 entry a.1 a.2

collect-parts : (v : Version) (c : Configuration) (line text : List ℕ) (p : (ℕ × Outcome) × List ℕ) (entry : Recorded) → (collect_fields v).read text ≡ Some p
    → collect_of p ≡ Some entry → IsReadBy v c line entry
collect-parts v c line text ((ask, reply), rest) entry is h =
    let t = (collect_laws v).takes text (ask, reply) rest is in
    subst (IsReadBy v c line) (some_is (recorded.Collect ask reply) entry h) (t.1.0, t.1.1)

-- after a key for a reading, a reply that was handed out or a request that was closed
short-read : (v : Version) (c : Configuration) (line : List ℕ) (entry : Recorded) (clock collect close : Option (List ℕ)) → after (codes "C ") line ≡ clock
    → after (codes "X ") line ≡ close
    → with_key clock (λ text. count.read text >>= λ ms. Some (recorded.Clock ms))
    (with_key collect (λ text. (collect_fields v).read text >>= collect_of)
    (with_key close (λ text. count.read text >>= λ ask. Some (recorded.Close ask)) None)) ≡ Some entry
    → IsReadBy v c line entry
short-read v c line entry (Some text) collect close e f h =
    let a = bind_some (count.read text) (λ ms. Some (recorded.Clock ms)) entry h in
    let t = count-laws.takes text a.0 a.1 in
    subst (IsReadBy v c line) (some_is (recorded.Clock a.0) entry a.2) (key_takes (codes "C ") line text e ∙ ap (λ t. codes "C " ++ t) t.0, t.1)
short-read v c line entry None (Some text) close e f h =
    let a = bind_some ((collect_fields v).read text) collect_of entry h in collect-parts v c line text a.0 entry a.1 a.2
short-read v c line entry None None (Some text) e f h =
    let a = bind_some (count.read text) (λ ask. Some (recorded.Close ask)) entry h in
    let t = count-laws.takes text a.0 a.1 in
    subst (IsReadBy v c line) (some_is (recorded.Close a.0) entry a.2) (key_takes (codes "X ") line text f ∙ ap (λ t. codes "X " ++ t) t.0, t.1)
short-read v c line entry None None None e f h = cc

there : (o : Option Recorded) (entry : Recorded) → entry_by o ≡ Ok entry → o ≡ Some entry
there None entry h = cc
there (Some x) entry h = cc

-- in format 1 no request is for media
line-read : (c : Configuration) (line : List ℕ) (entry : Recorded) (publish ask media : Option (List ℕ)) → after (codes "P ") line ≡ publish
    → with_key publish (λ text. publish_by c (item_text One text))
    (with_key ask (λ text. entry_by (ask_in One c text))
    (with_key media (λ text. entry_by (media_in One c text)) (entry_by (short_in One line)))) ≡ Ok entry
    → IsReadBy One c line entry
line-read c line entry (Some text) ask media e h = publish-read One c line text entry e h
line-read c line entry None (Some text) media e h = ask-read One c line text entry (there (ask_in One c text) entry h)
line-read c line entry None None (Some text) e h = cc
line-read c line entry None None None e h =
    short-read One c line entry (after (codes "C ") line) (after (codes "G ") line) (after (codes "X ") line) refl refl (there (short_in One line) entry h)

read-by : (c : Configuration) (line : List ℕ) (entry : Recorded) → entry_in One c line ≡ Ok entry → IsReadBy One c line entry
read-by c line entry h = line-read c line entry (after (codes "P ") line) (after (codes "A ") line) (after (codes "M ") line) refl h

-- ---- items

-- what follows the words of an item, if they are those of a part and if they aren't
abbrev media_if : Bool → List ℕ
media_if part = cond part (codes " 0") []

media-line : (part : Bool) → IsLine (media_if part)
media-line true = plain-line (codes " 0") refl refl
media-line false = plain-line [] refl refl

part_by : (text : List ℕ) (o : Option (List ℕ)) → after (codes "part ") text ≡ o → is_some o ≡ true → is_part_line (text ++ codes " 0") ≡ true
part_by text None e h = cc
part_by text (Some rest) e h =
    ap (λ t. is_part_line (t ++ codes " 0")) (key_takes (codes "part ") text rest e) ∙ ap is_some (key_again (codes "part ") (rest ++ codes " 0"))

-- ` 0` stands for no bytes
no_bytes : (text : List ℕ) → counted_line text 0 ≡ text ++ codes " 0"
unfolding digits
no_bytes text = refl

-- how the line of an item is read in format 2, if it is a part's or an initialization section's and if it isn't
abbrev read_if : Bool → Bool → List ℕ → Option (List ℕ × ℕ)
read_if part init text = if part || init then counted text else Some (text, 0)

media_again : (text : List ℕ) (part : Bool) → is_part_line text ≡ part → is_init_line text ≡ false → item_text Two (text ++ media_if part) ≡ Some (text, 0)
media_again text true e other =
    ap (λ b. read_if b (is_init_line (text ++ codes " 0")) (text ++ codes " 0")) (part_by text (after (codes "part ") text) refl e)
    ∙ ap counted (sym (no_bytes text))
    ∙ counted-again text 0 (omega arith)
media_again text false e other =
    ap (item_text Two) (append-nil text) ∙ ap (λ b. read_if b (is_init_line text) text) e ∙ ap (λ b. read_if false b text) other

none_first : (a b d : Bool) → (a || b || d) ≡ false → a ≡ false
none_first true b d e = cc
none_first false b d e = refl

-- in format 1 a line that is read as an item is none of those that it doesn't know, and is the item's own
one_text : (c : Configuration) (text : List ℕ) (entry : Recorded) (b : Bool) → publish_by c (if b then None else Some (text, 0)) ≡ Ok entry
    → (b ≡ false) × (publish_by c (Some (text, 0)) ≡ Ok entry)
one_text c text entry true h = cc
one_text c text entry false h = (refl, h)

-- what follows the key of an item is read as its words
after_key : (c : Configuration) (text : List ℕ) → entry_in Two c (codes "P " ++ text) ≡ publish_by c (item_text Two text)
after_key c text = ap (λ t. with_key t (λ text. publish_by c (item_text Two text)) (entry_by None)) (key_again (codes "P ") text)

publish-again : (c : Configuration) (line text : List ℕ) (item : Item) → line ≡ codes "P " ++ text → publish_by c (item_text One text) ≡ Ok (recorded.Publish item)
    → entry_in Two c (line ++ media_text line) ≡ Ok (recorded.Publish item)
publish-again c line text item is h =
    let part = is_part_line text in
    let own = one_text c text (recorded.Publish item) (is_init_line text || is_finish_line text || is_timed_break text) h in
    ap (λ l. entry_in Two c (l ++ media_text l)) is
    ∙ ap (λ o. entry_in Two c (codes "P " ++ (text ++ media_if (option_map_or is_part_line o false)))) (key_again (codes "P ") text)
    ∙ after_key c (text ++ media_if part)
    ∙ ap (publish_by c) (media_again text part refl (none_first (is_init_line text) (is_finish_line text) (is_timed_break text) own.0))
    ∙ own.1

-- ---- the line of each entry in format 2

-- what format 1 keeps of a reply is spelled in format 2 with the delta update that it is
told_within : (o : Outcome) → OutcomeWithin One (told_in One o) → OutcomeWithin Two o
told_within (Text n u) h = (h.0, update-within u)
told_within (Media n size) h = absurd h
told_within NotFound h = tt
told_within TooFar h = tt
told_within Busy h = tt
told_within Timeout h = tt

held_within : (o : Option Outcome) → HeldWithin One (option_map (told_in One) o) → HeldWithin Two o
held_within None h = tt
held_within (Some o) h = told_within o h

-- a line of text that is read as this entry in format 2
pub record IsNew (c : Configuration) (entry : Recorded) (line : List ℕ) : Type 0 where
  pub read : entry_in Two c line ≡ Ok entry
  pub text : IsLine line

-- a line that is spelled as in format 2 stays; it has no bytes
same-new : (c : Configuration) (line : List ℕ) (entry : Recorded) → limit_broken c ≡ None → IsLine line → blank_entry entry ≡ entry → IsSpelled c entry
    → line ≡ entry_line c entry → IsNew c entry line
same-new c line entry limits l bare spelled is = record { read = ap (entry_in Two c) is ∙ (read_again c entry limits spelled).0 ∙ ap Ok bare; text = l }

plain_list : (want : WantValue) → want.what ≡ what.Playlist → IsPlain want
plain_list want is other = absurd (true≢false (sym (ap is_playlist is) ∙ other))

one-new : (c : Configuration) (line : List ℕ) (entry : Recorded) → limit_broken c ≡ None → IsLine line → IsReadBy One c line (as_told One entry)
    → IsNew c entry (upgraded_line One c line (without_item entry))
one-new c line (recorded.Publish item) limits l r = record {
  read = publish-again c line r.0 item r.1 r.2;
  text = line-both line (media_text line) l (media-line (option_map_or is_part_line (after (codes "P ") line) false));
}
one-new c line (recorded.Ask ask want reply) limits l r =
    let within : WantWithin c want = (r.1, r.2, r.3, subst WhatWithin (sym r.4) tt, plain_list want r.4) in
    let spelled : IsSpelled c (recorded.Ask ask want reply) = (r.0, within, held_within reply r.5) in
    record { read = (read_again c (recorded.Ask ask want reply) limits spelled).0; text = ask-line c ask want reply r.4 spelled }
one-new c line (recorded.Clock ms) limits l r = same-new c line (recorded.Clock ms) limits l refl r.1 r.0
one-new c line (recorded.Collect ask reply) limits l r =
    let spelled : IsSpelled c (recorded.Collect ask reply) = (r.0, told_within reply r.1) in
    record { read = (read_again c (recorded.Collect ask reply) limits spelled).0; text = collect-line c ask reply spelled }
one-new c line (recorded.Close ask) limits l r = same-new c line (recorded.Close ask) limits l refl r.1 r.0

-- the line of an entry in format 2, given its line in a format
pub new-line : (v : Version) (c : Configuration) (line : List ℕ) (entry : Recorded) → limit_broken c ≡ None → IsLine line
    → entry_in v c line ≡ Ok (as_told v entry) → IsNew c entry (upgraded_line v c line (without_item entry))
new-line One c line entry limits l h = one-new c line entry limits l (read-by c line (as_told One entry) h)
new-line Two c line entry limits l h = record { read = h ∙ ap Ok (whole-entry entry); text = l }

-- ---- the entry of a line, in full

pub full-is : (ch : Chain) (line : List ℕ) (e : Event) (entry : Recorded) → is_utf8 line ≡ true → entry_after ch.settings ch.events e ≡ Some entry
    → entry_in ch.version ch.settings line ≡ Ok (as_told ch.version entry) → full_entry ch line ≡ Some entry
full-is ch line e entry utf8 happens read =
    ap (λ b. in_full ch (entry_at ch.version ch.settings (cond b (Some line) None))) utf8
    ∙ ap (in_full ch) read
    ∙ ap (entry_after ch.settings ch.events) (told-right ch.version ch.settings ch.events e entry happens).1
    ∙ happens

not_last_by : (v : Version) (c : Configuration) (line : List ℕ) (entry : Recorded) (b : Bool) → bytes_eq line last_line ≡ b → entry_in v c line ≡ Ok entry
    → b ≡ false
not_last_by v c line entry true e read =
    let is : entry_in v c last_line ≡ Ok entry = ap (entry_in v c) (sym ((bytes_eq-Decides line last_line).0 e)) ∙ read in
    cc
not_last_by v c line entry false e read = refl

-- a line that is read as an entry isn't the last one of a chunk
pub not-last : (v : Version) (c : Configuration) (line : List ℕ) (entry : Recorded) → entry_in v c line ≡ Ok entry → bytes_eq line last_line ≡ false
not-last v c line entry read = not_last_by v c line entry (bytes_eq line last_line) refl read

-- ---- settings that are read break no limit

unbroken_by : (o : Option SettingsFault) (d c : Configuration) → limit_broken d ≡ o → unless_broken o d ≡ Ok c → limit_broken c ≡ None
unbroken_by None d c e h =
    let is : d ≡ c = cc in ap limit_broken (sym is) ∙ e
unbroken_by (Some fault) d c e h = cc

unbroken : (o : Option Configuration) (c : Configuration) → settings_by o ≡ Ok c → limit_broken c ≡ None
unbroken None c h = cc
unbroken (Some d) c h = unbroken_by (limit_broken d) d c refl h

pub within-limits : (line : List ℕ) (c : Configuration) → settings_in line ≡ Ok c → limit_broken c ≡ None
within-limits line c h = unbroken (configuration_of (words line)) c h
