-- A chunk, line by line: its first three lines begin a chain or go on with one, the lines of entries lead on, and the last one ends it.
use Rattle.std.proofs.Common.{◌≡◌, ℕ, ◌≤◌, ◌<◌, ◌^◌, ◌==◌, List, [], ◌∷◌, ◌++◌, Bool, true, false, not, Option, Some, None, Result, Ok, Err, refl, ap, ◌∙◌, append_assoc, length, codes, decimal, arith, nat_lt, if◌then◌else◌}
use Rattle.std.proofs.lemmas.Bool.{and_parts}
use Rattle.std.proofs.lemmas.Bool.Decides.{nat_tests}
use Rattle.std.proofs.lemmas.Fmt.{IsAscii-decimal}
use Rattle.std.proofs.lemmas.Str.{IsAscii-append, IsUtf8-from_ascii, is_utf8-from_IsUtf8}
use Rattle.std.proofs.lemmas.Str.Ascii.{IsAscii-from_all}
use Rattle.std.proofs.lemmas.List.Elements.{All-from_recursion}
use Rattle.std.specs.List.{AllByRecursion, list_all}
use Rattle.std.specs.Str.{IsAscii, is_utf8}
use Rattle.ll_attr.specs.Words.{after, pieces_at}
use Rattle.ll_format.proofs.FormatLaws.{key_again}
use Rattle.ll_format.proofs.WordLaws.{number-laws}
use Rattle.ll_format.specs.Format.{◌>>=◌}
use Rattle.ll_format.specs.Words.{is_one_line}
use Rattle.ll_entry.proofs.ChainLemmas.{header-is, three}
use Rattle.ll_entry.specs.Chain.{Between, Chain, another, begun, begun_by, checked_from, continued, entries, is_channel, joined_at, text_in}
use Rattle.ll_entry.specs.declared.fault.CheckKind.{CheckKind}
use Rattle.ll_entry.specs.declared.fault.CheckKind.TheVariants.{BadChunk, Gap, OtherChannel}
use Rattle.ll_entry.specs.Replies.{count, most}
use Rattle.ll_settings.proofs.SameLemmas.{settings_decided}
use Rattle.ll_settings.specs.Same.{same_settings}
use Rattle.ll_settings.specs.Settings.{Configuration, limit_broken, settings_in}
use Rattle.ll_entry.specs.SettingsLine.{settings_line}
use Rattle.ll_entry.specs.Leads.{ChunkLaw, FirstChunkLaw, IsChunkOf, IsLed, chain_of, chunk_text}
use Rattle.ll_entry.specs.Frame.{first_line, header_text, is_older, last_line, place, version}
use Rattle.ll_entry.specs.declared.version.Version.{Version}
use Rattle.ll_entry.specs.declared.version.Version.TheVariants.{One, Two}
use Rattle.ll_verdict.specs.Events.{Event}
use Rattle.ll_entry.proofs.LeadLemmas.{cut-line, one-line}
use Rattle.ll_entry.proofs.SettingsBack.{settings_back}

-- ---- its lines

abbrev pub at_line : ℕ → List ℕ
at_line n = codes "at " ++ decimal n

text_is : (settings at lines rest : List ℕ)
    → ((first_line Two ++ 10 ∷ (settings ++ 10 ∷ (at ++ 10 ∷ []))) ++ (lines ++ codes "#END\n")) ++ rest
    ≡ first_line Two ++ 10 ∷ (settings ++ 10 ∷ (at ++ 10 ∷ (lines ++ (last_line ++ 10 ∷ rest))))
text_is settings at lines rest =
    ap (λ t. first_line Two ++ 10 ∷ t) (append_assoc (settings ++ 10 ∷ (at ++ 10 ∷ [])) (lines ++ codes "#END\n") rest
    ∙ append_assoc settings (10 ∷ (at ++ 10 ∷ [])) ((lines ++ codes "#END\n") ++ rest)
    ∙ ap (λ t. settings ++ 10 ∷ t) (append_assoc at (10 ∷ []) ((lines ++ codes "#END\n") ++ rest)
    ∙ ap (λ t. at ++ 10 ∷ t) (append_assoc lines (codes "#END\n") rest)))

chunk_is : (c : Configuration) (n : ℕ) (lines rest : List ℕ)
    → chunk_text c n lines ++ rest ≡ first_line Two ++ 10 ∷ (settings_line c ++ 10 ∷ (at_line n ++ 10 ∷ (lines ++ (last_line ++ 10 ∷ rest))))
unfolding chunk_text header_text
chunk_is c n lines rest = text_is (settings_line c) (at_line n) lines rest

-- ---- what the first three say

abbrev word : most < 2 ^ 64
word = omega arith

at_one : (n : ℕ) → n ≤ most → is_one_line (at_line n) ≡ true
at_one n small = (number-laws most word).inside n small

-- whether a byte is ASCII
abbrev pub is_low : ℕ → Bool
is_low b = nat_lt b 128

low : (b : ℕ) → is_low b ≡ true → b < 128
low b h = grind (arith, nat_tests)

all_low : (text : List ℕ) → list_all is_low text ≡ true → AllByRecursion (λ b. b < 128) text
all_low [] h = tt
all_low (b ∷ bs) h =
    let p = and_parts (is_low b) (list_all is_low bs) h in (low b p.0, all_low bs p.1)

ascii : (text : List ℕ) → list_all is_low text ≡ true → IsAscii text
ascii text h = IsAscii-from_all text (All-from_recursion (λ b. b < 128) text (all_low text h))

ascii_text : (text : List ℕ) → IsAscii text → is_utf8 text ≡ true
ascii_text text h = is_utf8-from_IsUtf8 text (IsUtf8-from_ascii text h)

pub plain : (text : List ℕ) → list_all is_low text ≡ true → is_utf8 text ≡ true
plain text h = ascii_text text (ascii text h)

pub first_utf8 : (v : Version) → is_utf8 (first_line v) ≡ true
first_utf8 One = plain (first_line One) refl
first_utf8 Two = plain (first_line Two) refl

pub version_again : (v : Version) → version.read (first_line v) ≡ Some v
version_again One = refl
version_again Two = refl

at_utf8 : (n : ℕ) → n ≤ most → is_utf8 (at_line n) ≡ true
at_utf8 n small = ascii_text (at_line n) (IsAscii-append (codes "at ") (decimal n) (ascii (codes "at ") refl) (IsAscii-decimal n (omega arith)))

place_is : (n : ℕ) → n ≤ most → place.read (at_line n) ≡ Some n
place_is n small = ap (λ o. o >>= count.read) (key_again (codes "at ") (decimal n)) ∙ (number-laws most word).again n small

same_self : (c : Configuration) → same_settings c c ≡ true
same_self c = (settings_decided c c (same_settings c c) refl).1 refl

self : (n : ℕ) → (n == n) ≡ true
self n = grind (arith, nat_tests)

text_of : (line : List ℕ) → is_utf8 line ≡ true → text_in line ≡ Some line
text_of line h = ap (λ b. let o : Option (List ℕ) = if b then Some line else None in o) h

-- the first three lines of a chunk give its format, its settings and its place
pub begun_is : (before : Option Chain) (v : Version) (c : Configuration) (settings : List ℕ) (n : ℕ) → settings_in settings ≡ Ok c → is_utf8 settings ≡ true → n ≤ most
    → begun before (text_in (first_line v)) (text_in settings) (text_in (at_line n)) ≡ joined_at before v c n
begun_is before v c settings n read text few =
    ap (λ o. begun before o (text_in settings) (text_in (at_line n))) (text_of (first_line v) (first_utf8 v))
    ∙ ap (λ o. begun before (Some (first_line v)) o (text_in (at_line n))) (text_of settings text)
    ∙ ap (begun before (Some (first_line v)) (Some settings)) (text_of (at_line n) (at_utf8 n few))
    ∙ ap (λ o. begun_by before o (settings_in settings) (place.read (at_line n))) (version_again v)
    ∙ ap (λ r. begun_by before (Some v) r (place.read (at_line n))) read
    ∙ ap (begun_by before (Some v) (Ok c)) (place_is n few)

-- a chunk at its beginning, of the channel of the chains so far, begins another
pub another_is : (before : Option Chain) (v : Version) (c : Configuration) → is_channel before c ≡ true
    → joined_at before v c 0 ≡ Ok (record { settings = c; version = v; earlier = entries before; events = [] })
another_is before v c is =
    ap (λ b. let r : Result Chain CheckKind = if b then Ok (record { settings = c; version = v; earlier = entries before; events = [] }) else Err OtherChannel in r) is

not_first : (n : ℕ) → 1 ≤ n → (n == 0) ≡ false
not_first n h = grind (arith, nat_tests, h)

-- a chunk after the entries of a chain, of its settings and of no older format, goes on with it
pub continued_is : (ch : Chain) (v : Version) (c : Configuration) → 1 ≤ length ch.events → is_older v ch.version ≡ false → ch.settings ≡ c
    → joined_at (Some ch) v c (length ch.events) ≡ Ok (record { settings = c; version = v; earlier = ch.earlier; events = ch.events })
continued_is ch v c some older is =
    let n = length ch.events in
    let at : Configuration → Chain = λ d. record { settings = d; version = v; earlier = ch.earlier; events = ch.events } in
    let same : Configuration → Bool → Result Chain CheckKind = λ d b. if b then Ok (at d) else Err OtherChannel in
    ap (λ b. let r : Result Chain CheckKind = if b then another (Some ch) v c else continued (Some ch) v c n in r) (not_first n some)
    ∙ ap (λ b. let r : Result Chain CheckKind = if b then Err BadChunk else if not (n == n) then Err Gap else same ch.settings (same_settings ch.settings c) in r) older
    ∙ ap (λ b. let r : Result Chain CheckKind = if not b then Err Gap else same ch.settings (same_settings ch.settings c) in r) (self n)
    ∙ ap (λ d. same d (same_settings d c)) is
    ∙ ap (same c) (same_self c)

-- ---- the whole

-- a chunk of lines that lead on, after its first three lines
whole : (before : Option Chain) (c : Configuration) (n earlier : ℕ) (events after : List Event) (lines : List ℕ) → limit_broken c ≡ None
    → is_utf8 (settings_line c) ≡ true → n ≤ most → IsLed c events lines after → joined_at before Two c n ≡ Ok (chain_of c earlier events)
    → IsChunkOf before (chunk_text c n lines) (chain_of c earlier after)
whole before c n earlier events after lines within utf8 few led begin rest =
    let s = settings_back c within in
    let end : List ℕ = last_line ++ 10 ∷ rest in
    let inner : List ℕ = lines ++ end in
    let third : List ℕ = at_line n ++ 10 ∷ inner in
    let second : List ℕ = settings_line c ++ 10 ∷ third in
    let text : List ℕ = first_line Two ++ 10 ∷ second in
    ap (λ t. checked_from (Between before) (pieces_at 10 t)) (chunk_is c n lines rest)
    ∙ header-is before (pieces_at 10 text) (first_line Two) (settings_line c) (at_line n) inner (Ok (chain_of c earlier events))
    (three text second third (first_line Two) (settings_line c) (at_line n) inner
    (cut-line (first_line Two) second refl) (cut-line (settings_line c) third s.1) (cut-line (at_line n) inner (at_one n few)))
    (begun_is before Two c (settings_line c) n s.0 utf8 few ∙ begin)
    ∙ led earlier end
    ∙ one-line (chain_of c earlier after) last_line rest true refl refl

pub chunk : ChunkLaw
chunk c ch after lines within utf8 few some led is =
    whole (Some ch) c (length ch.events) ch.earlier ch.events after lines within utf8 few led (continued_is ch Two c some refl is)

pub first-chunk : FirstChunkLaw
first-chunk c before after lines within utf8 is led = whole before c 0 (entries before) [] after lines within utf8 (omega arith) led (another_is before Two c is)
