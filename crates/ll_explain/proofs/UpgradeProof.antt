-- A record, written in format 2, is a record of the same: run by run, in each run chunk by chunk, and in each chunk line by line.
use Rattle.std.proofs.Common.{◌≡◌, ℕ, ◌+◌, ◌≤◌, ◌^◌, ◌==◌, List, [], ◌∷◌, ◌++◌, Bool, true, false, not, cond, Option, Some, None, Ok, refl, ap, ◌∙◌, sym, subst, append_assoc, length, length-append, arith}
use Rattle.std.proofs.lemmas.Bool.{and_from, and_parts, not-true, not_from_false}
use Rattle.std.proofs.lemmas.List.Elements.{All-from_recursion, length_all_zip, recursion_from_All}
use Rattle.std.proofs.lemmas.List.Splits.{slice_split-cons_no, slice_split-cons_yes, slice_split_at}
use Rattle.std.proofs.lemmas.Slice.Eq.{bytes_eq-Decides}
use Rattle.std.specs.List.{AllByRecursion, AllZip, flat_map, onto_first}
use Rattle.std.specs.Option.{option_map_or}
use Rattle.ll_attr.specs.Words.{pieces_at}
use Rattle.ll_check.proofs.Few.{few}
use Rattle.ll_explain.proofs.UpgradeLines.{IsLine, full-is, new-line, not-last, within-limits}
use Rattle.ll_check.proofs.Walk.{IsOfChannel, IsText, Names, marked}
use Rattle.ll_check.specs.Records.{AreToldBy, Chunk, IsRun, IsToldBy, Run, are_in_order, chunk_lines, chunks, entries_in, events_in, lines_of}
use Rattle.ll_entry_check.specs.Full.{without_item}
use Rattle.ll_explain.specs.Upgrade.{IsSameChunk, IsSameRun, UpgradeLaw, upgraded_entry, upgraded_from, upgraded_line, where_right}
use Rattle.ll_entry.proofs.ChainLemmas.{three}
use Rattle.ll_entry.proofs.ChunkProof.{another_is, at_line, begun_is, continued_is, first_utf8, plain}
use Rattle.ll_entry.proofs.LeadLemmas.{joined-right}
use Rattle.ll_entry.proofs.ToldLemmas.{told-right, whole-entry}
use Rattle.ll_entry.specs.Chain.{Between, Chain, Inside, entries, is_channel, joined_at, with_line}
use Rattle.ll_entry.specs.Frame.{first_line, header_text, is_older, last_line}
use Rattle.ll_entry.specs.Leads.{with_end}
use Rattle.ll_entry.specs.Replies.{most}
use Rattle.ll_entry.specs.Told.{as_told}
use Rattle.ll_entry.specs.declared.version.Version.{Version}
use Rattle.ll_entry.specs.declared.version.Version.TheVariants.{Two}
use Rattle.ll_format.proofs.FormatLaws.{lacks}
use Rattle.ll_settings.specs.Settings.{Configuration, limit_broken}
use Rattle.ll_verdict.specs.Events.{Event, steps_from}

-- ---- lines are cut where they end

abbrev HasNoEnd : List ℕ → Type 0
HasNoEnd line = lacks 10 line ≡ true

onto_lacks : (b : ℕ) (parts : List (List ℕ)) → not (b == 10) ≡ true → AllByRecursion HasNoEnd parts → AllByRecursion HasNoEnd (onto_first b parts)
onto_lacks b [] h all = (and_from (not (b == 10)) true h refl, tt)
onto_lacks b (part ∷ parts) h all = (and_from (not (b == 10)) (lacks 10 part) h all.0, all.1)

pieces_by : (b : ℕ) (bs : List ℕ) (end : Bool) → (b == 10) ≡ end → AllByRecursion HasNoEnd (pieces_at 10 bs) → AllByRecursion HasNoEnd (pieces_at 10 (b ∷ bs))
pieces_by b bs true e all = subst (AllByRecursion HasNoEnd) (sym (slice_split-cons_yes (λ x. x == 10) b bs e)) (refl, all)
pieces_by b bs false e all =
    subst (AllByRecursion HasNoEnd) (sym (slice_split-cons_no (λ x. x == 10) b bs e)) (onto_lacks b (pieces_at 10 bs) (not_from_false (b == 10) e) all)

-- no end of a line is in a piece
pieces_lack : (text : List ℕ) → AllByRecursion HasNoEnd (pieces_at 10 text)
pieces_lack [] = (refl, tt)
pieces_lack (b ∷ bs) = pieces_by b bs (b == 10) refl (pieces_lack bs)

all_lines : (lines : List (List ℕ)) → AllByRecursion IsText lines → AllByRecursion HasNoEnd lines → AllByRecursion IsLine lines
all_lines [] texts ends = tt
all_lines (line ∷ lines) texts ends = ((texts.0, ends.0), all_lines lines texts.1 ends.1)

no_feeds : (line : List ℕ) → lacks 10 line ≡ true → AllByRecursion (λ b. (b == 10) ≡ false) line
no_feeds [] h = tt
no_feeds (b ∷ bs) h =
    let p = and_parts (not (b == 10)) (lacks 10 bs) h in (not-true (b == 10) p.0, no_feeds bs p.1)

-- a line with its end is cut off
cut : (line rest : List ℕ) → lacks 10 line ≡ true → pieces_at 10 (line ++ 10 ∷ rest) ≡ line ∷ pieces_at 10 rest
cut line rest h = slice_split_at (λ b. b == 10) line 10 rest (All-from_recursion (λ b. (b == 10) ≡ false) line (no_feeds line h)) refl

header_is : (settings at rest : List ℕ)
    → (first_line Two ++ 10 ∷ (settings ++ 10 ∷ (at ++ 10 ∷ []))) ++ rest ≡ first_line Two ++ 10 ∷ (settings ++ 10 ∷ (at ++ 10 ∷ rest))
header_is settings at rest =
    ap (λ t. first_line Two ++ 10 ∷ t) (append_assoc settings (10 ∷ (at ++ 10 ∷ [])) rest ∙ ap (λ t. settings ++ 10 ∷ t) (append_assoc at (10 ∷ []) rest))

-- the first three lines of a chunk
header-cut : (settings : List ℕ) (n : ℕ) (rest : List ℕ) → lacks 10 settings ≡ true → lacks 10 (at_line n) ≡ true
    → pieces_at 10 (header_text Two settings n ++ rest) ≡ first_line Two ∷ settings ∷ at_line n ∷ pieces_at 10 rest
unfolding header_text
header-cut settings n rest s a =
    let third : List ℕ = at_line n ++ 10 ∷ rest in
    let second : List ℕ = settings ++ 10 ∷ third in
    ap (pieces_at 10) (header_is settings (at_line n) rest)
    ∙ three (first_line Two ++ 10 ∷ second) second third (first_line Two) settings (at_line n) rest
    (cut (first_line Two) second refl) (cut settings third s) (cut (at_line n) rest a)

-- ---- what is in a chunk after its first three lines, and after it

abbrev rest_of : List (List ℕ) → List (List ℕ) → List (List ℕ)
rest_of own tail = own ++ last_line ∷ tail

rest_lines : (own tail : List (List ℕ)) → AllByRecursion IsLine (rest_of own tail) → AllByRecursion IsLine own × AllByRecursion IsLine tail
rest_lines [] tail ls = (tt, ls.1)
rest_lines (line ∷ own) tail ls =
    let p = rest_lines own tail ls.1 in ((ls.0, p.0), p.1)

rest_texts : (own tail : List (List ℕ)) → AllByRecursion IsText own → AllByRecursion IsText tail → AllByRecursion IsText (rest_of own tail)
rest_texts [] tail texts more = (plain last_line refl, more)
rest_texts (line ∷ own) tail texts more = (texts.0, rest_texts own tail texts.1 more)

later_lines : (at : ℕ) (ks : List Chunk) (tail : List (List ℕ)) → AllByRecursion IsLine (chunk_lines at ks tail) → AllByRecursion IsLine tail
later_lines at [] tail ls = ls
later_lines at (k ∷ ks) tail ls =
    let later = chunk_lines (at + length k.entries) ks tail in later_lines (at + length k.entries) ks tail (rest_lines k.entries later ls.1.1.1).1

-- ---- the lines of its entries

abbrev chain_in : Configuration → Version → ℕ → List Event → Chain
chain_in c v earlier events = record { settings = c; version = v; earlier = earlier; events = events }

line-on : (v : Version) (c : Configuration) (earlier : ℕ) (before : List Event) (e : Event) (line : List ℕ) (more : List (List ℕ)) → limit_broken c ≡ None
    → IsLine line → (t : IsToldBy c (v, line) (record { before = before; event = e }))
    → pieces_at 10 (upgraded_from (Inside (chain_in c v earlier before)) (line ∷ more))
    ≡ upgraded_line v c line (without_item t.entry) ∷ pieces_at 10 (upgraded_from (Inside (chain_in c v earlier (before ++ e ∷ []))) more)
line-on v c earlier before e line more limits l t =
    let ch = chain_in c v earlier before in
    let new = upgraded_line v c line (without_item t.entry) in
    let right = told-right v c before e t.entry t.happens in
    let from : Chain → List ℕ = λ now. upgraded_from (Inside now) more in
    let rest = from (chain_in c v earlier (before ++ e ∷ [])) in
    let ended = with_end last_line ++ upgraded_from (Between (Some ch)) more in
    ap (λ b. pieces_at 10 (cond b ended (upgraded_entry ch line ++ where_right (with_line ch line) from)))
    (not-last v c line (as_told v t.entry) t.read)
    ∙ ap (λ o. pieces_at 10 (option_map_or (λ entry. with_end (upgraded_line v c line (without_item entry))) o [] ++ where_right (with_line ch line) from))
    (full-is ch line e t.entry l.0 t.happens t.read)
    ∙ ap (λ r. pieces_at 10 (with_end new ++ where_right r from)) (joined-right ch line (as_told v t.entry) l.0 t.read right.0)
    ∙ ap (λ e. pieces_at 10 (with_end new ++ from (chain_in c v earlier (before ++ e ∷ [])))) right.1
    ∙ ap (pieces_at 10) (append_assoc new (10 ∷ []) rest)
    ∙ cut new rest (new-line v c line t.entry limits l t.read).text.1

-- what the entries of a chunk are in format 2, after which other entries come, and which events are left for those
record Entries (v : Version) (c : Configuration) (earlier : ℕ) (before events : List Event) (own tail : List (List ℕ))
    (others : List (Version × List ℕ)) : Type 0 where
  lines : List (List ℕ)
  now : List Event
  left : List Event
  text : pieces_at 10 (upgraded_from (Inside (chain_in c v earlier before)) (rest_of own tail))
      ≡ rest_of lines (pieces_at 10 (upgraded_from (Between (Some (chain_in c v earlier now))) tail))
  texts : AllByRecursion IsText lines
  many : length lines ≡ length own
  place : length now ≡ length before + length own
  all : length now + length left ≡ length before + length events
  others_told : AreToldBy c others (steps_from now left)
  told : (more : List (Version × List ℕ)) → AreToldBy c more (steps_from now left) → AreToldBy c (marked Two lines ++ more) (steps_from before events)

no_place : (n : ℕ) → n ≡ n + 0
no_place n = omega arith

one_further : (before : List Event) (e : Event) (n m : ℕ) → n ≡ length (before ++ e ∷ []) + m → n ≡ length before + (m + 1)
one_further before e n m h = omega (arith, h, length-append before (e ∷ []))

entries-new : (v : Version) (c : Configuration) (earlier : ℕ) (before events : List Event) (own tail : List (List ℕ)) (others : List (Version × List ℕ))
    → limit_broken c ≡ None → AllByRecursion IsLine own → AreToldBy c (marked v own ++ others) (steps_from before events)
    → Entries v c earlier before events own tail others
entries-new v c earlier before events [] tail others limits ls told = record {
  lines = [];
  now = before;
  left = events;
  text = cut last_line (upgraded_from (Between (Some (chain_in c v earlier before))) tail) refl;
  texts = tt;
  many = refl;
  place = no_place (length before);
  all = refl;
  others_told = told;
  told = λ more h. h;
}
entries-new v c earlier before [] (line ∷ own) tail others limits ls told = absurd told
entries-new v c earlier before (e ∷ events) (line ∷ own) tail others limits ls told =
    let t = told.0 in
    let n = new-line v c line t.entry limits ls.0 t.read in
    let new = upgraded_line v c line (without_item t.entry) in
    let x = entries-new v c earlier (before ++ e ∷ []) events own tail others limits ls.1 told.1 in
    record {
      lines = new ∷ x.lines;
      now = x.now;
      left = x.left;
      text = line-on v c earlier before e line (rest_of own tail) limits ls.0 t ∙ ap (λ ls. new ∷ ls) x.text;
      texts = (n.text.0, x.texts);
      many = omega (arith, x.many);
      place = omega (arith, one_further before e (length x.now) (length own) x.place);
      all = omega (arith, one_further before e (length x.now + length x.left) (length events) x.all);
      others_told = x.others_told;
      told = λ more h. (record { entry = t.entry; happens = t.happens; read = n.read ∙ ap Ok (sym (whole-entry t.entry)) }, x.told more h);
    }

-- ---- chunk after chunk

-- a chunk, whose lines after the first three are these in format 2
chunk-on : (before : Option Chain) (k : Chunk) (c : Configuration) (earlier : ℕ) (es : List Event) (more new : List (List ℕ)) → Names c k → IsLine k.settings
    → IsLine (at_line (length es)) → length es ≤ most → joined_at before k.version c (length es) ≡ Ok (chain_in c k.version earlier es)
    → pieces_at 10 (upgraded_from (Inside (chain_in c k.version earlier es)) more) ≡ new
    → pieces_at 10 (upgraded_from (Between before) (first_line k.version ∷ k.settings ∷ at_line (length es) ∷ more))
    ≡ first_line Two ∷ k.settings ∷ at_line (length es) ∷ new
chunk-on before k c earlier es more new names s a small joined is =
    ap (λ r. pieces_at 10 (where_right r (λ ch. header_text Two k.settings (length ch.events) ++ upgraded_from (Inside ch) more)))
    (begun_is before k.version c k.settings (length es) names s.0 small ∙ joined)
    ∙ header-cut k.settings (length es) (upgraded_from (Inside (chain_in c k.version earlier es)) more) s.1 a.1
    ∙ ap (λ ls. first_line Two ∷ k.settings ∷ at_line (length es) ∷ ls) is

-- A chunk and those after it, which are given by how many entries come before them. There are as many of these in format 2.
chunk-and-more : (all : List (List ℕ) → List (List ℕ)) (old new : ℕ → List (List ℕ)) (text : List (List ℕ)) (own now same : ℕ) → text ≡ all (old own)
    → now ≡ own → old now ≡ new now → now ≡ same → text ≡ all (new same)
chunk-and-more all old new text own now same first place more many =
    first ∙ ap (λ n. all (old n)) (sym place) ∙ ap all more ∙ ap (λ n. all (new n)) many

-- the same chunk in format 2, with these lines of entries
abbrev new_chunk : Chunk → List (List ℕ) → Chunk
new_chunk k lines = record { version = Two; settings = k.settings; entries = lines }

same_chunk : (k : Chunk) (lines : List (List ℕ)) → length lines ≡ length k.entries → IsSameChunk k (new_chunk k lines)
same_chunk k lines many = record { version = refl; settings = refl; entries = many }

chunk_texts : (n : ℕ) (k : Chunk) (lines tail : List (List ℕ)) → IsLine k.settings → IsLine (at_line n) → AllByRecursion IsText lines
    → AllByRecursion IsText tail → AllByRecursion IsText (first_line Two ∷ k.settings ∷ at_line n ∷ rest_of lines tail)
chunk_texts n k lines tail s a texts more = (first_utf8 Two, (s.0, (a.0, rest_texts lines tail texts more)))

-- what the chunks of a run are in format 2, with the chain after them
record Chunks (before : Option Chain) (c : Configuration) (es events : List Event) (k : Chunk) (others : List Chunk) (tail : List (List ℕ)) : Type 0 where
  lines : List (List ℕ)
  more : List Chunk
  last : Chain
  settings : last.settings ≡ c
  text : pieces_at 10 (upgraded_from (Between before) (chunk_lines (length es) (k ∷ others) tail))
      ≡ chunk_lines (length es) (new_chunk k lines ∷ more) (pieces_at 10 (upgraded_from (Between (Some last)) tail))
  texts : (after : List (List ℕ)) → AllByRecursion IsText after → AllByRecursion IsText (chunk_lines (length es) (new_chunk k lines ∷ more) after)
  many : length lines ≡ length k.entries
  same : AllZip IsSameChunk others more
  named : AllByRecursion (Names c) more
  in_order : are_in_order Two more ≡ true
  told : AreToldBy c (flat_map entries_in (new_chunk k lines ∷ more)) (steps_from es events)

chunks-new : (before : Option Chain) (c : Configuration) (earlier : ℕ) (es events : List Event) (k : Chunk) (others : List Chunk) (tail : List (List ℕ))
    → limit_broken c ≡ None → joined_at before k.version c (length es) ≡ Ok (chain_in c k.version earlier es)
    → AllByRecursion IsLine (chunk_lines (length es) (k ∷ others) tail) → AllByRecursion (Names c) (k ∷ others) → are_in_order k.version others ≡ true
    → (1 ≤ length others → 1 ≤ length es + length k.entries) → AreToldBy c (flat_map entries_in (k ∷ others)) (steps_from es events)
    → length es + length events ≤ most → Chunks before c es events k others tail
chunks-new before c earlier es events k [] tail limits joined ls named order begun told small =
    let own = rest_lines k.entries tail ls.1.1.1 in
    let upgraded_after : List Event → List (List ℕ) = λ now. pieces_at 10 (upgraded_from (Between (Some (chain_in c k.version earlier now))) tail) in
    let x = entries-new k.version c earlier es events k.entries tail [] limits own.0 told in
    record {
      lines = x.lines;
      more = [];
      last = chain_in c k.version earlier x.now;
      settings = refl;
      text =
          chunk-on before k c earlier es (rest_of k.entries tail) (rest_of x.lines (upgraded_after x.now)) named.0 ls.1.0 ls.1.1.0 (omega (arith, small))
          joined x.text;
      texts = λ after h. chunk_texts (length es) k x.lines after ls.1.0 ls.1.1.0 x.texts h;
      many = x.many;
      same = tt;
      named = tt;
      in_order = refl;
      told = x.told [] x.others_told;
    }
chunks-new before c earlier es events k (next ∷ others) tail limits joined ls named order begun told small =
    let n = length es in
    let later : ℕ → List (List ℕ) = λ m. chunk_lines m (next ∷ others) tail in
    let own = rest_lines k.entries (later (n + length k.entries)) ls.1.1.1 in
    let x = entries-new k.version c earlier es events k.entries (later (n + length k.entries)) (flat_map entries_in (next ∷ others)) limits own.0 told in
    let now = chain_in c k.version earlier x.now in
    let o = and_parts (not (is_older next.version k.version)) (are_in_order next.version others) order in
    let some : 1 ≤ length x.now = omega (arith, x.place, begun (omega arith)) in
    let y = chunks-new (Some now) c earlier x.now x.left next others tail limits
    (continued_is now next.version c some (not-true (is_older next.version k.version) o.0) refl)
    (subst (λ m. AllByRecursion IsLine (later m)) (sym x.place) own.1) named.1 o.1 (λ more. omega (arith, some)) x.others_told (omega (arith, x.all, small)) in
    let news : ℕ → List (List ℕ) → List (List ℕ) = λ m after. chunk_lines m (new_chunk next y.lines ∷ y.more) after in
    let place : length x.now ≡ n + length x.lines = x.place ∙ ap (λ m. n + m) (sym x.many) in
    let old : ℕ → List (List ℕ) = λ m. pieces_at 10 (upgraded_from (Between (Some now)) (later m)) in
    let new : ℕ → List (List ℕ) = λ m. news m (pieces_at 10 (upgraded_from (Between (Some y.last)) tail)) in
    record {
      lines = x.lines;
      more = new_chunk next y.lines ∷ y.more;
      last = y.last;
      settings = y.settings;
      text =
          chunk-and-more (λ ls. first_line Two ∷ k.settings ∷ at_line n ∷ rest_of x.lines ls) old new
          (pieces_at 10 (upgraded_from (Between before) (chunk_lines n (k ∷ next ∷ others) tail))) (n + length k.entries) (length x.now) (n + length x.lines)
          (chunk-on before k c earlier es (rest_of k.entries (later (n + length k.entries))) (rest_of x.lines (old (n + length k.entries))) named.0 ls.1.0
          ls.1.1.0 (omega (arith, small)) joined x.text) x.place y.text place;
      texts = λ after h.
          chunk_texts n k x.lines (news (n + length x.lines) after) ls.1.0 ls.1.1.0 x.texts
          (subst (λ m. AllByRecursion IsText (news m after)) place (y.texts after h));
      many = x.many;
      same = (same_chunk next y.lines y.many, y.same);
      named = (named.1.0, y.named);
      in_order = y.in_order;
      told = x.told (flat_map entries_in (new_chunk next y.lines ∷ y.more)) y.told;
    }

-- ---- run after run

small : (events : ℕ) → events ≤ 2 ^ 61 → 0 + events ≤ most
small events h = omega (arith, h)

run-new : (before : Option Chain) (r : Run) (tail : List (List ℕ)) → IsRun r → is_channel before r.settings ≡ true
    → AllByRecursion IsLine (chunk_lines 0 (chunks r) tail) → Chunks before r.settings [] r.events r.first r.others tail
run-new before r tail run is ls =
    let c = r.settings in
    let named = recursion_from_All (Names c) (chunks r) run.named in
    chunks-new before c (entries before) [] r.events r.first r.others tail (within-limits r.first.settings c named.0)
    (another_is before r.first.version c is) ls named run.in_order (λ others. omega (arith, run.begun others)) run.told
    (small (length r.events) (few c (flat_map entries_in (chunks r)) r.events run.told))

-- what runs of a channel are in format 2
record Runs (channel : List ℕ) (before : Option Chain) (runs : List Run) : Type 0 where
  news : List Run
  text : pieces_at 10 (upgraded_from (Between before) (lines_of runs)) ≡ lines_of news
  texts : AllByRecursion IsText (lines_of news)
  right : AllByRecursion IsRun news
  named : AllByRecursion (IsOfChannel channel) news
  same : AllZip IsSameRun runs news
  many : events_in news ≡ events_in runs

-- any settings of the channel are of the channel of the chains so far
abbrev IsBefore : List ℕ → Option Chain → Type 0
IsBefore channel before = (c : Configuration) → c.channel ≡ channel → is_channel before c ≡ true

runs-new : (channel : List ℕ) (before : Option Chain) (runs : List Run) → IsBefore channel before → AllByRecursion IsRun runs
    → AllByRecursion (IsOfChannel channel) runs → AllByRecursion IsLine (lines_of runs) → Runs channel before runs
runs-new channel before [] is right named ls = record {
  news = [];
  text = refl;
  texts = (plain [] refl, tt);
  right = tt;
  named = tt;
  same = tt;
  many = refl;
}
runs-new channel before (r ∷ runs) is right named ls =
    let run = right.0 in
    let c = r.settings in
    let x = run-new before r (lines_of runs) run (is c named.0) ls in
    let y = runs-new channel (Some x.last) runs
    (λ d of. (bytes_eq-Decides x.last.settings.channel d.channel).1 (ap (λ (c : Configuration). c.channel) x.settings ∙ named.0 ∙ sym of)) right.1 named.1
    (later_lines 0 (chunks r) (lines_of runs) ls) in
    let first = new_chunk r.first x.lines in
    let new : Run = record { settings = c; events = r.events; first = first; others = x.more } in
    let others = length_all_zip IsSameChunk r.others x.more x.same in
    record {
      news = new ∷ y.news;
      text = x.text ∙ ap (chunk_lines 0 (first ∷ x.more)) y.text;
      texts = x.texts (lines_of y.news) y.texts;
      right = (
        record {
          named = All-from_recursion (Names c) (first ∷ x.more) ((recursion_from_All (Names c) (chunks r) run.named).0, x.named);
          in_order = x.in_order;
          begun = λ some. omega (arith, x.many, run.begun (omega (arith, others, some)));
          told = x.told;
        },
        y.right,
      );
      named = (named.0, y.named);
      same = (record { settings = refl; events = refl; chunks = (same_chunk r.first x.lines x.many, x.same) }, y.same);
      many = ap (λ n. length r.events + n) y.many;
    }

-- ---- the whole

pub same_in_two : UpgradeLaw
same_in_two text n r =
    let ls = all_lines (lines_of r.runs) (recursion_from_All IsText (lines_of r.runs) r.utf8) (subst (AllByRecursion HasNoEnd) r.lines (pieces_lack text)) in
    let named = recursion_from_All (IsOfChannel r.channel) r.runs r.named in
    let x = runs-new r.channel None r.runs (λ c of. refl) (recursion_from_All IsRun r.runs r.right) named ls in (
      record {
        channel = r.channel;
        runs = x.news;
        some = omega (arith, r.some, length_all_zip IsSameRun r.runs x.news x.same);
        right = All-from_recursion IsRun x.news x.right;
        named = All-from_recursion (IsOfChannel r.channel) x.news x.named;
        lines = ap (λ ls. pieces_at 10 (upgraded_from (Between None) ls)) r.lines ∙ x.text;
        utf8 = All-from_recursion IsText (lines_of x.news) x.texts;
        many = x.many ∙ r.many;
      },
      refl,
      x.same,
    )
