-- The record of some runs is found right: run by run, in each run chunk by chunk, and in each chunk line by line.
use Rattle.std.proofs.Common.{◌≡◌, ℕ, ◌+◌, ◌≤◌, ◌^◌, List, [], ◌∷◌, ◌++◌, Bool, true, false, not, cond, Option, Some, None, Result, Ok, refl, ap, ◌∙◌, sym, subst, append_assoc, append-nil, length, length-append, bytes_eq, arith}
use Rattle.std.proofs.lemmas.Bool.{and_parts, not-true}
use Rattle.std.proofs.lemmas.List.{length-map}
use Rattle.std.proofs.lemmas.List.Elements.{All-head, All-tail}
use Rattle.std.proofs.lemmas.Slice.Eq.{bytes_eq-Decides}
use Rattle.std.specs.List.{All, flat_map}
use Rattle.ll_entry.specs.Chain.{Between, Chain, Inside, begun, checked, checked_from, counted, ended_line, entries, go_on, is_channel, joined_at, text_in, with_line}
use Rattle.ll_entry.specs.Entries.{entry_in}
use Rattle.ll_entry.specs.Replies.{most}
use Rattle.ll_entry.specs.Told.{as_told}
use Rattle.ll_entry.specs.Frame.{first_line, is_older, last_line}
use Rattle.ll_entry.specs.declared.entry.Recorded.{Recorded}
use Rattle.ll_entry.specs.declared.fault.CheckFault.{CheckFault}
use Rattle.ll_entry.specs.declared.version.Version.{Version}
use Rattle.ll_entry.proofs.ChunkProof.{another_is, at_line, begun_is, continued_is}
use Rattle.ll_entry.proofs.LeadLemmas.{joined-right}
use Rattle.ll_entry.proofs.ToldLemmas.{told-right}
use Rattle.ll_settings.specs.Settings.{Configuration}
use Rattle.ll_verdict.specs.Events.{Event, steps_from}
use Rattle.ll_check.specs.Records.{AreToldBy, Chunk, IsRecord, IsRun, IsToldBy, Run, are_in_order, chunk_lines, chunks, entries_in, events_in, lines_of}
use Rattle.ll_check.proofs.Few.{few}
use Rattle.ll_check.proofs.Walk.{IsOfChannel, IsText, Names, marked, none_more}

-- something follows
follows : (more : List (List ℕ)) (before : Option Chain) (r : Result (Option Chain) CheckFault) → 1 ≤ length more → ended_line more before r ≡ r
follows [] before r some = absurd (omega (arith, some))
follows (line ∷ more) before r some = refl

-- what is in a chunk after its first three lines, and after it
abbrev rest_of : List (List ℕ) → List (List ℕ) → List (List ℕ)
rest_of own tail = own ++ last_line ∷ tail

rest_some : (own tail : List (List ℕ)) → 1 ≤ length (rest_of own tail)
rest_some own tail = omega (arith, length-append own (last_line ∷ tail))

-- a chunk with `at` entries before it
abbrev chunk_at : ℕ → Chunk → List (List ℕ) → List (List ℕ)
chunk_at at k tail = first_line k.version ∷ k.settings ∷ at_line at ∷ rest_of k.entries tail

-- what is text of these lines
settings_text : (at : ℕ) (k : Chunk) (tail : List (List ℕ)) → All IsText (chunk_at at k tail) → IsText k.settings
settings_text at k tail texts =
    All-head IsText k.settings (at_line at ∷ rest_of k.entries tail) (All-tail IsText (first_line k.version) (k.settings ∷ at_line at ∷ rest_of k.entries tail) texts)

rest_text : (at : ℕ) (k : Chunk) (tail : List (List ℕ)) → All IsText (chunk_at at k tail) → All IsText (rest_of k.entries tail)
rest_text at k tail texts =
    All-tail IsText (at_line at) (rest_of k.entries tail)
    (All-tail IsText k.settings (at_line at ∷ rest_of k.entries tail) (All-tail IsText (first_line k.version) (k.settings ∷ at_line at ∷ rest_of k.entries tail) texts))

tail_text : (own tail : List (List ℕ)) → All IsText (rest_of own tail) → All IsText tail
tail_text [] tail texts = All-tail IsText last_line tail texts
tail_text (line ∷ own) tail texts = tail_text own tail (All-tail IsText line (rest_of own tail) texts)

-- the first three lines of a chunk
header-on : (before : Option Chain) (k : Chunk) (c : Configuration) (n : ℕ) (tail : List (List ℕ)) (ch : Chain) → Names c k → IsText k.settings → n ≤ most
    → joined_at before k.version c n ≡ Ok ch → checked_from (Between before) (chunk_at n k tail) ≡ checked_from (Inside ch) (rest_of k.entries tail)
header-on before k c n tail ch names text few joined =
    let more = rest_of k.entries tail in
    let from : Chain → Result (Option Chain) CheckFault = λ ch. checked_from (Inside ch) more in
    follows more before (go_on before (begun before (text_in (first_line k.version)) (text_in k.settings) (text_in (at_line n))) from) (rest_some k.entries tail)
    ∙ ap (λ r. go_on before r from) (begun_is before k.version c k.settings n names text few ∙ joined)

-- ---- the lines of its entries

not_last_by : (v : Version) (c : Configuration) (line : List ℕ) (entry : Recorded) (b : Bool) → bytes_eq line last_line ≡ b → entry_in v c line ≡ Ok entry → b ≡ false
not_last_by v c line entry true e read =
    let same : line ≡ last_line = (bytes_eq-Decides line last_line).0 e in
    let is : entry_in v c last_line ≡ Ok entry = ap (entry_in v c) (sym same) ∙ read in
    cc
not_last_by v c line entry false e read = refl

not_last : (v : Version) (c : Configuration) (line : List ℕ) (entry : Recorded) → entry_in v c line ≡ Ok entry → bytes_eq line last_line ≡ false
not_last v c line entry read = not_last_by v c line entry (bytes_eq line last_line) refl read

-- the same chain after further events
abbrev after_events : Chain → List Event → Chain
after_events ch events = record ch { events = ch.events ++ events }

-- one line more
line-on : (ch : Chain) (e : Event) (line : List ℕ) (own tail : List (List ℕ)) → IsText line
    → IsToldBy ch.settings (ch.version, line) (record { before = ch.events; event = e })
    → checked_from (Inside ch) (line ∷ rest_of own tail) ≡ checked_from (Inside (after_events ch (e ∷ []))) (rest_of own tail)
line-on ch e line own tail text told =
    let v = ch.version in
    let c = ch.settings in
    let entry = as_told v told.entry in
    let more = rest_of own tail in
    let right = told-right v c ch.events e told.entry told.happens in
    let from : Chain → Result (Option Chain) CheckFault = λ now. checked_from (Inside now) more in
    let next : Bool → Result (Option Chain) CheckFault = λ b. cond b (checked_from (Between (Some ch)) more) (go_on (Some ch) (with_line ch line) from) in
    follows more (Some ch) (next (bytes_eq line last_line)) (rest_some own tail)
    ∙ ap next (not_last v c line entry told.read)
    ∙ ap (λ r. go_on (Some ch) r from) (joined-right ch line entry text told.read right.0)
    ∙ ap (λ e. from (after_events ch (e ∷ []))) right.1

-- all lines of a chunk that are left, and its last one
lines-on : (ch : Chain) (own tail : List (List ℕ)) (events : List Event) → All IsText (rest_of own tail) → 1 ≤ length tail
    → AreToldBy ch.settings (marked ch.version own) (steps_from ch.events events)
    → checked_from (Inside ch) (rest_of own tail) ≡ checked_from (Between (Some (after_events ch events))) tail
lines-on ch [] tail [] texts some told =
    follows tail (Some ch) (checked_from (Between (Some ch)) tail) some
    ∙ ap (λ es. checked_from (Between (Some (record ch { events = es }))) tail) (sym (append-nil ch.events))
lines-on ch [] tail (e ∷ events) texts some told = absurd told
lines-on ch (line ∷ own) tail [] texts some told = absurd told
lines-on ch (line ∷ own) tail (e ∷ events) texts some told =
    line-on ch e line own tail (All-head IsText line (rest_of own tail) texts) told.0
    ∙ lines-on (after_events ch (e ∷ [])) own tail events (All-tail IsText line (rest_of own tail) texts) some told.1
    ∙ ap (λ es. checked_from (Between (Some (record ch { events = es }))) tail) (append_assoc ch.events (e ∷ []) events)

-- ---- chunk after chunk

-- the events of the first lines, and those of the others
record Parts (c : Configuration) (xs ys : List (Version × List ℕ)) (before events : List Event) : Type 0 where
  own : List Event
  others : List Event
  all : own ++ others ≡ events
  many : length own ≡ length xs
  told : AreToldBy c xs (steps_from before own)
  told_then : AreToldBy c ys (steps_from (before ++ own) others)

parts : (c : Configuration) (xs ys : List (Version × List ℕ)) (before events : List Event) → AreToldBy c (xs ++ ys) (steps_from before events) → Parts c xs ys before events
parts c [] ys before events told = record {
  own = [];
  others = events;
  all = refl;
  many = refl;
  told = tt;
  told_then = subst (λ es. AreToldBy c ys (steps_from es events)) (sym (append-nil before)) told;
}
parts c (x ∷ xs) ys before [] told = absurd told
parts c (x ∷ xs) ys before (e ∷ events) told =
    let p = parts c xs ys (before ++ e ∷ []) events told.1 in
    record {
      own = e ∷ p.own;
      others = p.others;
      all = ap (λ es. e ∷ es) p.all;
      many = omega (arith, p.many);
      told = (told.0, p.told);
      told_then = subst (λ es. AreToldBy c ys (steps_from es p.others)) (append_assoc before (e ∷ []) p.own) p.told_then;
    }

no_more : (c : Configuration) (before events : List Event) → AreToldBy c [] (steps_from before events) → events ≡ []
no_more c before [] told = refl
no_more c before (e ∷ events) told = absurd told

-- the format of the last chunk
abbrev last_version : Version → List Chunk → Version
last_version v [] = v
last_version v (k ∷ more) = last_version k.version more

abbrev chain_in : Configuration → Version → ℕ → List Event → Chain
chain_in c v earlier events = record { settings = c; version = v; earlier = earlier; events = events }

some_left : (at : ℕ) (others : List Chunk) (tail : List (List ℕ)) → 1 ≤ length tail → 1 ≤ length (chunk_lines at others tail)
some_left at [] tail some = some
some_left at (k ∷ others) tail some = omega arith

-- one chunk
chunk-on : (before : Option Chain) (c : Configuration) (earlier : ℕ) (es own : List Event) (k : Chunk) (tail : List (List ℕ))
    → joined_at before k.version c (length es) ≡ Ok (chain_in c k.version earlier es) → All IsText (chunk_at (length es) k tail) → 1 ≤ length tail → Names c k
    → length es ≤ most → AreToldBy c (entries_in k) (steps_from es own)
    → checked_from (Between before) (chunk_at (length es) k tail) ≡ checked_from (Between (Some (chain_in c k.version earlier (es ++ own)))) tail
chunk-on before c earlier es own k tail joined texts some names few told =
    let n = length es in
    header-on before k c n tail (chain_in c k.version earlier es) names (settings_text n k tail texts) few joined
    ∙ lines-on (chain_in c k.version earlier es) k.entries tail own (rest_text n k tail texts) some told

-- how many entries come before the next chunk
next_place : (es own : List Event) (k : Chunk) → length own ≡ length (entries_in k) → length (es ++ own) ≡ length es + length k.entries
next_place es own k many =
    let mark : List ℕ → Version × List ℕ = λ line. (k.version, line) in
    omega (arith, length-append es own, many, length-map k.entries mark)

within : (before own others events limit all : ℕ) → all ≡ before + own → events ≡ own + others → before + events ≤ limit → all + others ≤ limit
within before own others events limit all a b h = omega (arith, a, b, h)

-- the chunks of a run, of which the first one begins it or goes on with it
chunks-on : (before : Option Chain) (c : Configuration) (earlier : ℕ) (es : List Event) (k : Chunk) (others : List Chunk) (tail : List (List ℕ)) (events : List Event)
    → joined_at before k.version c (length es) ≡ Ok (chain_in c k.version earlier es) → All IsText (chunk_lines (length es) (k ∷ others) tail) → 1 ≤ length tail
    → All (Names c) (k ∷ others) → are_in_order k.version others ≡ true → (1 ≤ length others → 1 ≤ length es + length k.entries)
    → AreToldBy c (flat_map entries_in (k ∷ others)) (steps_from es events) → length es + length events ≤ most
    → checked_from (Between before) (chunk_lines (length es) (k ∷ others) tail)
    ≡ checked_from (Between (Some (chain_in c (last_version k.version others) earlier (es ++ events)))) tail
chunks-on before c earlier es k [] tail events joined texts some named order begun told few =
    let p = parts c (entries_in k) [] es events told in
    let all = ap (λ more. p.own ++ more) (sym (no_more c (es ++ p.own) p.others p.told_then)) ∙ p.all in
    chunk-on before c earlier es p.own k tail joined texts some (All-head (Names c) k [] named) (omega (arith, few)) p.told
    ∙ ap (λ own. checked_from (Between (Some (chain_in c k.version earlier (es ++ own)))) tail) (sym (append-nil p.own) ∙ all)
chunks-on before c earlier es k (next ∷ more) tail events joined texts some named order begun told few =
    let n = length es in
    let p = parts c (entries_in k) (flat_map entries_in (next ∷ more)) es events told in
    let now = chain_in c k.version earlier (es ++ p.own) in
    let later = chunk_lines (n + length k.entries) (next ∷ more) tail in
    let place = next_place es p.own k p.many in
    let o = and_parts (not (is_older next.version k.version)) (are_in_order next.version more) order in
    let begun_now : 1 ≤ length (es ++ p.own) = omega (arith, place, begun (omega arith)) in
    chunk-on before c earlier es p.own k later joined texts (some_left (n + length k.entries) (next ∷ more) tail some) (All-head (Names c) k (next ∷ more) named)
    (omega (arith, few)) p.told
    ∙ ap (λ m. checked_from (Between (Some now)) (chunk_lines m (next ∷ more) tail)) (sym place)
    ∙ chunks-on (Some now) c earlier (es ++ p.own) next more tail p.others (continued_is now next.version c begun_now (not-true (is_older next.version k.version) o.0) refl)
    (subst (λ m. All IsText (chunk_lines m (next ∷ more) tail)) (sym place) (tail_text k.entries later (rest_text n k later texts))) some
    (All-tail (Names c) k (next ∷ more) named) o.1 (λ some. omega (arith, begun_now)) p.told_then
    (within n (length p.own) (length p.others) (length events) most (length (es ++ p.own)) (length-append es p.own) (sym (ap length p.all) ∙ length-append p.own p.others) few)
    ∙ ap (λ all. checked_from (Between (Some (chain_in c (last_version next.version more) earlier all))) tail)
    (append_assoc es p.own p.others ∙ ap (λ more. es ++ more) p.all)

-- ---- run after run

small : (events : ℕ) → events ≤ 2 ^ 61 → 0 + events ≤ most
small events h = omega (arith, h)

-- the chain after a run
abbrev chain_after : Option Chain → Run → Chain
chain_after before r = chain_in r.settings (last_version r.first.version r.others) (entries before) r.events

run-on : (before : Option Chain) (r : Run) (tail : List (List ℕ)) → IsRun r → is_channel before r.settings ≡ true → All IsText (chunk_lines 0 (chunks r) tail)
    → 1 ≤ length tail → checked_from (Between before) (chunk_lines 0 (chunks r) tail) ≡ checked_from (Between (Some (chain_after before r))) tail
run-on before r tail run is texts some =
    let c = r.settings in
    chunks-on before c (entries before) [] r.first r.others tail r.events (another_is before r.first.version c is) texts some run.named run.in_order
    (λ others. omega (arith, run.begun others)) run.told (small (length r.events) (few c (flat_map entries_in (chunks r)) r.events run.told))

some_lines : (runs : List Run) → 1 ≤ length (lines_of runs)
some_lines [] = omega arith
some_lines (r ∷ runs) = omega arith

later_text : (at : ℕ) (ks : List Chunk) (tail : List (List ℕ)) → All IsText (chunk_lines at ks tail) → All IsText tail
later_text at [] tail texts = texts
later_text at (k ∷ ks) tail texts =
    let later = chunk_lines (at + length k.entries) ks tail in
    later_text (at + length k.entries) ks tail (tail_text k.entries later (rest_text at k later texts))

same_channel : (ch : Chain) (c : Configuration) → ch.settings.channel ≡ c.channel → is_channel (Some ch) c ≡ true
same_channel ch c e = (bytes_eq-Decides ch.settings.channel c.channel).1 e

-- further runs of the channel
runs-on : (ch : Chain) (runs : List Run) → All IsRun runs → All (IsOfChannel ch.settings.channel) runs → All IsText (lines_of runs)
    → counted (checked_from (Between (Some ch)) (lines_of runs)) ≡ Ok (entries (Some ch) + events_in runs)
runs-on ch [] right named texts = ap Ok (none_more (entries (Some ch)))
runs-on ch (r ∷ runs) right named texts =
    let of = All-head (IsOfChannel ch.settings.channel) r runs named in
    let now = chain_after (Some ch) r in
    ap counted (run-on (Some ch) r (lines_of runs) (All-head IsRun r runs right) (same_channel ch r.settings (sym of)) texts (some_lines runs))
    ∙ runs-on now runs (All-tail IsRun r runs right) (subst (λ channel. All (IsOfChannel channel) runs) (sym of) (All-tail (IsOfChannel ch.settings.channel) r runs named))
    (later_text 0 (chunks r) (lines_of runs) texts)
    ∙ ap Ok (added (entries (Some ch)) (length r.events) (events_in runs))
  where
    added : (earlier events more : ℕ) → earlier + events + more ≡ earlier + (events + more)
    added earlier events more = omega arith

-- ---- the whole

all-on : (channel : List ℕ) (runs : List Run) → 1 ≤ length runs → All IsRun runs → All (IsOfChannel channel) runs → All IsText (lines_of runs)
    → counted (checked_from (Between None) (lines_of runs)) ≡ Ok (events_in runs)
all-on channel [] some right named texts = absurd (omega (arith, some))
all-on channel (r ∷ runs) some right named texts =
    let of = All-head (IsOfChannel channel) r runs named in
    ap counted (run-on None r (lines_of runs) (All-head IsRun r runs right) refl texts (some_lines runs))
    ∙ runs-on (chain_after None r) runs (All-tail IsRun r runs right) (subst (λ channel. All (IsOfChannel channel) runs) (sym of) (All-tail (IsOfChannel channel) r runs named))
    (later_text 0 (chunks r) (lines_of runs) texts)
    ∙ ap Ok (from_none (length r.events) (events_in runs))
  where
    from_none : (events more : ℕ) → 0 + events + more ≡ events + more
    from_none events more = omega arith

pub found_right : (text : List ℕ) (n : ℕ) → IsRecord text n → checked text ≡ Ok n
found_right text n x =
    ap (λ lines. counted (checked_from (Between None) lines)) x.lines ∙ all-on x.channel x.runs x.some x.right x.named x.utf8 ∙ ap Ok x.many
