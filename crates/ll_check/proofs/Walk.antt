-- A text that is found right, taken apart line by line from its last one on: its runs, their chunks, the entries of these, and their
-- events.
use Rattle.std.proofs.Common.{◌≡◌, ℕ, ◌+◌, ◌≤◌, List, [], ◌∷◌, ◌++◌, Bool, true, false, not, cond, Option, Some, None, Result, Ok, Err, refl, ap, ap₂, ◌∙◌, sym, subst, length, length-append, map, bytes_eq, arith}
use Rattle.std.proofs.lemmas.Bool.{and_from}
use Rattle.std.proofs.lemmas.List.Elements.{All-cons, All-nil}
use Rattle.std.specs.List.{All, flat_map}
use Rattle.std.specs.Str.{is_utf8}
use Rattle.ll_attr.specs.Words.{pieces_at}
use Rattle.ll_entry.specs.Chain.{Between, Chain, Inside, Position, begun, checked, checked_from, counted, ended_line, entries, go_on, is_channel, text_in, with_line, wrong}
use Rattle.ll_entry.specs.Frame.{is_older, last_line}
use Rattle.ll_entry.specs.declared.fault.CheckFault.{CheckFault}
use Rattle.ll_entry.specs.declared.fault.CheckKind.{CheckKind}
use Rattle.ll_entry.specs.declared.fault.CheckKind.TheVariants.{BadChunk}
use Rattle.ll_entry.specs.declared.version.Version.{Version}
use Rattle.ll_entry.proofs.ChunkProof.{plain}
use Rattle.ll_settings.specs.Settings.{Configuration, settings_in}
use Rattle.ll_verdict.specs.Events.{Event, steps_from}
use Rattle.ll_check.specs.Records.{AreToldBy, Chunk, IsRecord, IsRun, Run, are_in_order, chunk_lines, entries_in, events_in, lines_of}
use Rattle.ll_check.proofs.Begun.{Another, BegunParts, EntryParts, Next, Onward, begun_lines, entry_line, new_chain, same_bytes}

abbrev pub IsText : List ℕ → Type 0
IsText line = is_utf8 line ≡ true

abbrev pub Names : Configuration → Chunk → Type 0
Names c k = settings_in k.settings ≡ Ok c

abbrev pub IsOfChannel : List ℕ → Run → Type 0
IsOfChannel channel r = r.settings.channel ≡ channel

-- lines of a chunk of this format
abbrev pub marked : Version → List (List ℕ) → List (Version × List ℕ)
marked version own = map (λ line. (version, line)) own

abbrev HasName : Option Chain → List ℕ → Type 0
HasName None channel = Unit
HasName (Some ch) channel = ch.settings.channel ≡ channel

-- what these lines are after whole runs of a channel: further runs of it
record Runs (before : Option Chain) (lines : List (List ℕ)) (end : Option Chain) : Type 0 where
  channel : List ℕ
  has : HasName before channel
  runs : List Run
  text : lines ≡ lines_of runs
  utf8 : All IsText lines
  right : All IsRun runs
  named : All (IsOfChannel channel) runs
  many : entries end ≡ entries before + events_in runs
  ends : length runs ≡ 0 → end ≡ before

-- What `lines` are after a chunk whose end isn't reached, of which the lines `own` are left: further chunks of the same run, which together
-- with those lines have further events, and further runs.
record Left (ch : Chain) (own lines : List (List ℕ)) (end : Option Chain) : Type 0 where
  events : List Event
  others : List Chunk
  runs : List Run
  text : lines ≡ chunk_lines (length ch.events + length own) others (lines_of runs)
  utf8 : All IsText lines
  named : All (Names ch.settings) others
  in_order : are_in_order ch.version others ≡ true
  begun : 1 ≤ length others → 1 ≤ length ch.events + length own
  told : AreToldBy ch.settings (marked ch.version own ++ flat_map entries_in others) (steps_from ch.events events)
  right : All IsRun runs
  same : All (IsOfChannel ch.settings.channel) runs
  many : entries end ≡ ch.earlier + length ch.events + length events + events_in runs

-- the same from inside that chunk
record Inner (ch : Chain) (lines : List (List ℕ)) (end : Option Chain) : Type 0 where
  own : List (List ℕ)
  others : List (List ℕ)
  text : lines ≡ own ++ last_line ∷ others
  utf8 : All IsText lines
  left : Left ch own others end

abbrev Walked : Position → List (List ℕ) → Option Chain → Type 0
Walked (Between None) lines end = Runs None lines end
Walked (Between (Some ch)) lines end = Left ch [] lines end
Walked (Inside ch) lines end = Inner ch lines end

-- ---- what the parts of the walk say

ended : (more : List (List ℕ)) (before end : Option Chain) (r : Result (Option Chain) CheckFault) → ended_line more before r ≡ Ok end → r ≡ Ok end
ended [] before end r h = cc
ended (line ∷ more) before end r h = h

gone_on : (before : Option Chain) (r : Result Chain CheckKind) (f : Chain → Result (Option Chain) CheckFault) (end : Option Chain) → go_on before r f ≡ Ok end
    → (ch : Chain) × (r ≡ Ok ch) × (f ch ≡ Ok end)
gone_on before (Ok ch) f end h = (ch, refl, h)
gone_on before (Err kind) f end h = cc

-- ---- between chunks

-- further runs are no further chunks of this one
runs-left : (before end : Option Chain) (lines : List (List ℕ)) → Runs before lines end → Walked (Between before) lines end
runs-left None end lines x = x
runs-left (Some ch) end lines x = record {
  events = [];
  others = [];
  runs = x.runs;
  text = x.text;
  utf8 = x.utf8;
  named = All-nil (Names ch.settings);
  in_order = refl;
  begun = λ some. absurd (omega (arith, some));
  told = tt;
  right = x.right;
  same = subst (λ channel. All (IsOfChannel channel) x.runs) (sym x.has) x.named;
  many = omega (arith, x.many);
}

name_of : (before : Option Chain) → (channel : List ℕ) × HasName before channel
name_of None = ([], tt)
name_of (Some ch) = (ch.settings.channel, refl)

-- nothing follows
at_end : (before end : Option Chain) (rest : List ℕ) (b : Bool) → bytes_eq rest [] ≡ b → cond b (Ok before) (wrong before BadChunk) ≡ Ok end → Runs before (rest ∷ []) end
at_end before end rest true e h =
    let same : end ≡ before = cc in
    let nothing = same_bytes rest [] e in
    let name = name_of before in
    record {
      channel = name.0;
      has = name.1;
      runs = [];
      text = ap (λ line. line ∷ []) nothing;
      utf8 = All-cons IsText rest [] (ap is_utf8 nothing ∙ plain [] refl) (All-nil IsText);
      right = All-nil IsRun;
      named = All-nil (IsOfChannel name.0);
      many = omega (arith, ap entries same);
      ends = λ none. same;
    }
at_end before end rest false e h = cc

-- ---- the lines of a chunk, from the last one to the first

last-of : (ch : Chain) (end : Option Chain) (line : List ℕ) (lines : List (List ℕ)) → bytes_eq line last_line ≡ true → Left ch [] lines end → Inner ch (line ∷ lines) end
last-of ch end line lines e x =
    let is = same_bytes line last_line e in
    record {
      own = [];
      others = lines;
      text = ap (λ l. l ∷ lines) is;
      utf8 = All-cons IsText line lines (ap is_utf8 is ∙ plain last_line refl) x.utf8;
      left = x;
    }

one_longer : (before : List Event) (e : Event) (line : List ℕ) (own : List (List ℕ)) → length (before ++ e ∷ []) + length own ≡ length before + length (line ∷ own)
one_longer before e line own = omega (arith, length-append before (e ∷ []))

one_more : (before events : List Event) (e : Event) (earlier runs all : ℕ) → all ≡ earlier + length (before ++ e ∷ []) + length events + runs
    → all ≡ earlier + length before + length (e ∷ events) + runs
one_more before events e earlier runs all h = omega (arith, h, length-append before (e ∷ []))

-- the line of an entry
entry-of : (ch now : Chain) (end : Option Chain) (line : List ℕ) (lines : List (List ℕ)) → EntryParts ch line now → Inner now lines end → Inner ch (line ∷ lines) end
entry-of ch now end line lines n x =
    let y : Inner (record ch { events = ch.events ++ n.event ∷ [] }) lines end = subst (λ ch. Inner ch lines end) n.next x in
    let l = y.left in
    record {
      own = line ∷ y.own;
      others = y.others;
      text = ap (λ ls. line ∷ ls) y.text;
      utf8 = All-cons IsText line lines n.utf8 y.utf8;
      left = record {
        events = n.event ∷ l.events;
        others = l.others;
        runs = l.runs;
        text = l.text ∙ ap (λ at. chunk_lines at l.others (lines_of l.runs)) (one_longer ch.events n.event line y.own);
        utf8 = l.utf8;
        named = l.named;
        in_order = l.in_order;
        begun = λ some. omega arith;
        told = (n.told, l.told);
        right = l.right;
        same = l.same;
        many = one_more ch.events l.events n.event ch.earlier (events_in l.runs) (entries end) l.many;
      };
    }

three_texts : (before : Option Chain) (ch : Chain) (first settings at : List ℕ) (lines : List (List ℕ)) → BegunParts before first settings at ch → All IsText lines
    → All IsText (first ∷ settings ∷ at ∷ lines)
three_texts before ch first settings at lines b utf8 =
    All-cons IsText first (settings ∷ at ∷ lines) b.utf8.0 (All-cons IsText settings (at ∷ lines) b.utf8.1 (All-cons IsText at lines b.utf8.2 utf8))

has_name : (before : Option Chain) (c : Configuration) → is_channel before c ≡ true → HasName before c.channel
has_name None c h = tt
has_name (Some ch) c h = same_bytes ch.settings.channel c.channel h

-- the first three lines of the first chunk of a run
another-of : (before end : Option Chain) (v : Version) (c : Configuration) (first settings at : List ℕ) (lines : List (List ℕ)) → is_channel before c ≡ true
    → BegunParts before first settings at (new_chain before v c) → Inner (new_chain before v c) lines end → Runs before (first ∷ settings ∷ at ∷ lines) end
another-of before end v c first settings at lines is b x =
    let l = x.left in
    let k : Chunk = record { version = v; settings = settings; entries = x.own } in
    let r : Run = record { settings = c; events = l.events; first = k; others = l.others } in
    let run : IsRun r = record {
      named = All-cons (Names c) k l.others b.names l.named;
      in_order = l.in_order;
      begun = λ some. omega (arith, l.begun some);
      told = l.told;
    } in
    record {
      channel = c.channel;
      has = has_name before c is;
      runs = r ∷ l.runs;
      text = ap₂ (λ l ls. l ∷ settings ∷ ls) b.begins (ap₂ (λ l ls. l ∷ ls) b.place (x.text ∙ ap (λ ls. x.own ++ last_line ∷ ls) l.text));
      utf8 = three_texts before (new_chain before v c) first settings at lines b x.utf8;
      right = All-cons IsRun r l.runs run l.right;
      named = All-cons (IsOfChannel c.channel) r l.runs refl l.same;
      many = omega (arith, l.many);
      ends = λ none. absurd (omega (arith, none));
    }

pub none_more : (n : ℕ) → n ≡ n + 0
none_more n = omega arith

-- the first three lines of a further chunk
onward-of : (old : Chain) (end : Option Chain) (v : Version) (first settings at : List ℕ) (lines : List (List ℕ)) → 1 ≤ length old.events → is_older v old.version ≡ false
    → BegunParts (Some old) first settings at (record old { version = v }) → Inner (record old { version = v }) lines end
    → Left old [] (first ∷ settings ∷ at ∷ lines) end
onward-of old end v first settings at lines some newer b x =
    let l = x.left in
    let k : Chunk = record { version = v; settings = settings; entries = x.own } in
    let here = none_more (length old.events) in
    record {
      events = l.events;
      others = k ∷ l.others;
      runs = l.runs;
      text =
          ap₂ (λ l ls. l ∷ settings ∷ ls) b.begins (ap₂ (λ l ls. l ∷ ls) b.place (x.text ∙ ap (λ ls. x.own ++ last_line ∷ ls) l.text))
          ∙ ap (λ at. chunk_lines at (k ∷ l.others) (lines_of l.runs)) here;
      utf8 = three_texts (Some old) (record old { version = v }) first settings at lines b x.utf8;
      named = All-cons (Names old.settings) k l.others b.names l.named;
      in_order = and_from (not (is_older v old.version)) (are_in_order v l.others) (ap not newer) l.in_order;
      begun = λ more. omega (arith, some);
      told = l.told;
      right = l.right;
      same = l.same;
      many = l.many;
    }

-- the first three lines of a chunk
first-of : (before end : Option Chain) (ch : Chain) (first settings at : List ℕ) (lines : List (List ℕ)) → Next before ch → BegunParts before first settings at ch
    → Inner ch lines end → Walked (Between before) (first ∷ settings ∷ at ∷ lines) end
first-of before end ch first settings at lines (Another p) b x =
    let v = ch.version in
    let c = ch.settings in
    runs-left before end (first ∷ settings ∷ at ∷ lines)
    (another-of before end v c first settings at lines p.0 (subst (BegunParts before first settings at) p.1 b) (subst (λ ch. Inner ch lines end) p.1 x))
first-of None end ch first settings at lines (Onward p) b x = absurd p
first-of (Some old) end ch first settings at lines (Onward p) b x =
    onward-of old end ch.version first settings at lines p.0 p.1 (subst (BegunParts (Some old) first settings at) p.2 b) (subst (λ ch. Inner ch lines end) p.2 x)

-- ---- the whole

abbrev inside_if : Chain → List ℕ → List (List ℕ) → Bool → Result (Option Chain) CheckFault
inside_if ch line more b = cond b (checked_from (Between (Some ch)) more) (go_on (Some ch) (with_line ch line) (λ now. checked_from (Inside now) more))

inside-of : (ch : Chain) (end : Option Chain) (line : List ℕ) (more : List (List ℕ)) (b : Bool) → bytes_eq line last_line ≡ b → inside_if ch line more b ≡ Ok end
    → (checked_from (Between (Some ch)) more ≡ Ok end → Left ch [] more end)
    → ((now : Chain) → checked_from (Inside now) more ≡ Ok end → Inner now more end) → Inner ch (line ∷ more) end
inside-of ch end line more true e h last next = last-of ch end line more e (last h)
inside-of ch end line more false e h last next =
    let g = gone_on (Some ch) (with_line ch line) (λ now. checked_from (Inside now) more) end h in
    entry-of ch g.0 end line more (entry_line ch g.0 line g.1) (next g.0 g.2)

walk : (position : Position) (end : Option Chain) (lines : List (List ℕ)) → checked_from position lines ≡ Ok end → Walked position lines end
walk (Between before) end [] h = cc
walk (Between before) end (rest ∷ []) h = runs-left before end (rest ∷ []) (at_end before end rest (bytes_eq rest []) refl h)
walk (Between before) end (first ∷ settings ∷ []) h = cc
walk (Between before) end (first ∷ settings ∷ at ∷ more) h =
    let g = gone_on before (begun before (text_in first) (text_in settings) (text_in at)) (λ ch. checked_from (Inside ch) more) end (ended more before end _ h) in
    let b = begun_lines before first settings at g.0 g.1 in
    first-of before end g.0 first settings at more b.next b (walk (Inside g.0) end more g.2)
walk (Inside ch) end [] h = cc
walk (Inside ch) end (line ∷ more) h =
    inside-of ch end line more (bytes_eq line last_line) refl (ended more (Some ch) end (inside_if ch line more (bytes_eq line last_line)) h)
    (λ h. walk (Between (Some ch)) end more h) (λ now h. walk (Inside now) end more h)

nonempty : (ch : Chain) (runs : List Run) → (length runs ≡ 0 → Some ch ≡ None) → 1 ≤ length runs
nonempty ch [] h = absurd (some_none (h refl))
  where
    some_none : Some ch ≡ None → ⊥
    some_none h = cc
nonempty ch (r ∷ runs) h = omega arith

counted_all : (text : List ℕ) (n : ℕ) (end : Option Chain) → checked_from (Between None) (pieces_at 10 text) ≡ Ok end → counted (Ok end) ≡ Ok n → IsRecord text n
counted_all text n None h e = cc
counted_all text n (Some ch) h e =
    let x = walk (Between None) (Some ch) (pieces_at 10 text) h in
    let many : ch.earlier + length ch.events ≡ n = cc in
    record {
      channel = x.channel;
      runs = x.runs;
      some = nonempty ch x.runs x.ends;
      right = x.right;
      named = x.named;
      lines = x.text;
      utf8 = subst (All IsText) x.text x.utf8;
      many = omega (arith, x.many, many);
    }

right : (text : List ℕ) (n : ℕ) (r : Result (Option Chain) CheckFault) → checked_from (Between None) (pieces_at 10 text) ≡ r → counted r ≡ Ok n → IsRecord text n
right text n (Ok end) h e = counted_all text n end h e
right text n (Err fault) h e = cc

pub is_record : (text : List ℕ) (n : ℕ) → checked text ≡ Ok n → IsRecord text n
is_record text n h = right text n (checked_from (Between None) (pieces_at 10 text)) refl h
