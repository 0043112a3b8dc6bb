-- What the first three lines of a chunk say if they are right, and what the line of an entry does.
use Rattle.std.proofs.Common.{◌≡◌, ℕ, ◌≤◌, ◌<◌, ◌^◌, ◌==◌, List, [], ◌∷◌, ◌++◌, Bool, true, false, not, cond, Option, Some, None, Result, Ok, Err, refl, ap, ◌∙◌, sym, subst, length, bytes_eq, codes, decimal, option_map, arith}
use Rattle.std.proofs.lemmas.Bool.Decides.{nat_tests}
use Rattle.std.proofs.lemmas.Slice.Eq.{bytes_eq-Decides}
use Rattle.std.specs.Str.{is_utf8}
use Rattle.ll_attr.specs.Words.{after}
use Rattle.ll_entry.specs.Chain.{Chain, another, begun, begun_by, continued, entries, entry_at, is_channel, joined, joined_by, text_in, with_line}
use Rattle.ll_entry.specs.Entered.{event_of, fault_in}
use Rattle.ll_entry.specs.Entries.{entry_in}
use Rattle.ll_entry.specs.Replies.{count, most}
use Rattle.ll_entry.specs.Told.{as_told, entry_after}
use Rattle.ll_entry.specs.Frame.{first_line, is_older, place, version}
use Rattle.ll_entry.specs.declared.entry.EntryFault.{EntryFault}
use Rattle.ll_entry.specs.declared.entry.Recorded.{Recorded}
use Rattle.ll_entry.specs.declared.fault.CheckKind.{CheckKind}
use Rattle.ll_entry.specs.declared.fault.CheckKind.TheVariants.{BadChunk, Gap, OtherChannel}
use Rattle.ll_entry.specs.declared.version.Version.{Version}
use Rattle.ll_entry.specs.declared.version.Version.TheVariants.{One, Two}
use Rattle.ll_entry.proofs.ToldLemmas.{right-told}
use Rattle.ll_format.proofs.FormatLaws.{bind_some, key_takes}
use Rattle.ll_format.proofs.WordLaws.{number-laws}
use Rattle.ll_settings.proofs.SameLemmas.{settings_decided}
use Rattle.ll_settings.specs.Same.{same_settings}
use Rattle.ll_settings.specs.Settings.{Configuration, settings_in}
use Rattle.ll_settings.specs.declared.settings.SettingsFault.{SettingsFault}
use Rattle.ll_verdict.specs.Events.{Event}
use Rattle.ll_check.specs.Records.{IsToldBy}

pub same_bytes : (a b : List ℕ) → bytes_eq a b ≡ true → a ≡ b
same_bytes a b h = (bytes_eq-Decides a b).0 h

same_number : (m n : ℕ) → (m == n) ≡ true → m ≡ n
same_number m n h = grind (arith, nat_tests)

not_zero : (n : ℕ) → (n == 0) ≡ false → 1 ≤ n
not_zero n h = grind (arith, nat_tests)

-- ---- the chain that a chunk begins or goes on with

-- another chain of the channel, with no event yet
abbrev pub new_chain : Option Chain → Version → Configuration → Chain
new_chain before v c = record { settings = c; version = v; earlier = entries before; events = [] }

abbrev pub GoesOn : Option Chain → Chain → Type 0
GoesOn None ch = ⊥
GoesOn (Some old) ch = (1 ≤ length old.events) × (is_older ch.version old.version ≡ false) × (ch ≡ record old { version = ch.version })

pub data Next (before : Option Chain) (ch : Chain) : Type 0 where
  Another : (is_channel before ch.settings ≡ true) × (ch ≡ new_chain before ch.version ch.settings) → Next before ch
  Onward : GoesOn before ch → Next before ch

record JoinedParts (before : Option Chain) (v : Version) (c : Configuration) (n : ℕ) (ch : Chain) : Type 0 where
  version : v ≡ ch.version
  settings : c ≡ ch.settings
  place : n ≡ length ch.events
  next : Next before ch

another-is : (before : Option Chain) (v : Version) (c : Configuration) (ch : Chain) (b : Bool) → is_channel before c ≡ b
    → cond b (Ok (new_chain before v c)) (Err OtherChannel) ≡ Ok ch → JoinedParts before v c 0 ch
another-is before v c ch true is h =
    let same : new_chain before v c ≡ ch = cc in
    subst (JoinedParts before v c 0) same (record { version = refl; settings = refl; place = refl; next = Another (is, refl) })
another-is before v c ch false is h = cc

abbrev onward_if : Chain → Version → Bool → Bool → Bool → Result Chain CheckKind
onward_if old v older here same = cond older (Err BadChunk) (cond (not here) (Err Gap) (cond same (Ok (record old { version = v })) (Err OtherChannel)))

onward-is : (old : Chain) (v : Version) (c : Configuration) (n : ℕ) (ch : Chain) (older here same : Bool) → is_older v old.version ≡ older → (n == length old.events) ≡ here
    → same_settings old.settings c ≡ same → 1 ≤ n → onward_if old v older here same ≡ Ok ch → JoinedParts (Some old) v c n ch
onward-is old v c n ch false true true newer at same some h =
    let is : record old { version = v } ≡ ch = cc in
    let place = same_number n (length old.events) at in
    let settings = (settings_decided old.settings c (same_settings old.settings c) refl).0 same in
    subst (JoinedParts (Some old) v c n) is
    (record { version = refl; settings = sym settings; place = place; next = Onward (subst (λ m. 1 ≤ m) place some, newer, refl) })
onward-is old v c n ch older here same newer at is some h = cc

joined-is : (before : Option Chain) (v : Version) (c : Configuration) (n : ℕ) (ch : Chain) (b : Bool) → (n == 0) ≡ b
    → cond b (another before v c) (continued before v c n) ≡ Ok ch → JoinedParts before v c n ch
joined-is before v c n ch true zero h = subst (λ m. JoinedParts before v c m ch) (sym (same_number n 0 zero)) (another-is before v c ch (is_channel before c) refl h)
joined-is None v c n ch false some h = cc
joined-is (Some old) v c n ch false some h =
    onward-is old v c n ch (is_older v old.version) (n == length old.events) (same_settings old.settings c) refl refl refl (not_zero n some) h

-- ---- the first three lines

pub begun_parts : (before : Option Chain) (v : Option Version) (s : Result Configuration SettingsFault) (o : Option ℕ) (ch : Chain) → begun_by before v s o ≡ Ok ch
    → (v ≡ Some ch.version) × (s ≡ Ok ch.settings) × (o ≡ Some (length ch.events)) × Next before ch
begun_parts before (Some v) (Ok c) (Some n) ch h =
    let j = joined-is before v c n ch (n == 0) refl h in (ap Some j.version, ap Ok j.settings, ap Some j.place, j.next)
begun_parts before v s o ch h = cc

abbrev word : most < 2 ^ 64
word = omega arith

place_is : (at : List ℕ) (n : ℕ) → place.read at ≡ Some n → at ≡ codes "at " ++ decimal n
place_is at n h =
    let p = bind_some (after (codes "at ") at) count.read n h in
    key_takes (codes "at ") at p.0 p.1 ∙ ap (λ text. codes "at " ++ text) ((number-laws most word).takes p.0 n p.2).0

version_by : (line : List ℕ) (v : Version) (one two : Bool) → bytes_eq line (first_line One) ≡ one → bytes_eq line (first_line Two) ≡ two
    → cond one (Some One) (cond two (Some Two) None) ≡ Some v → line ≡ first_line v
version_by line v true two a b h =
    let is : One ≡ v = cc in same_bytes line (first_line One) a ∙ ap first_line is
version_by line v false true a b h =
    let is : Two ≡ v = cc in same_bytes line (first_line Two) b ∙ ap first_line is
version_by line v false false a b h = cc

version_is : (line : List ℕ) (v : Version) → version.read line ≡ Some v → line ≡ first_line v
version_is line v h = version_by line v (bytes_eq line (first_line One)) (bytes_eq line (first_line Two)) refl refl h

pub record BegunParts (before : Option Chain) (first settings at : List ℕ) (ch : Chain) : Type 0 where
  pub begins : first ≡ first_line ch.version
  pub names : settings_in settings ≡ Ok ch.settings
  pub place : at ≡ codes "at " ++ decimal (length ch.events)
  pub next : Next before ch
  pub utf8 : (is_utf8 first ≡ true) × (is_utf8 settings ≡ true) × (is_utf8 at ≡ true)

abbrev text_if : Bool → List ℕ → Option (List ℕ)
text_if b line = cond b (Some line) None

begun_if : (before : Option Chain) (first settings at : List ℕ) (ch : Chain) (a b e : Bool) → is_utf8 first ≡ a → is_utf8 settings ≡ b → is_utf8 at ≡ e
    → begun before (text_if a first) (text_if b settings) (text_if e at) ≡ Ok ch → BegunParts before first settings at ch
begun_if before first settings at ch true true true p q r h =
    let parts = begun_parts before (version.read first) (settings_in settings) (place.read at) ch h in
    record { begins = version_is first ch.version parts.0; names = parts.1; place = place_is at (length ch.events) parts.2; next = parts.3; utf8 = (p, q, r) }
begun_if before first settings at ch a b e p q r h = cc

pub begun_lines : (before : Option Chain) (first settings at : List ℕ) (ch : Chain) → begun before (text_in first) (text_in settings) (text_in at) ≡ Ok ch
    → BegunParts before first settings at ch
begun_lines before first settings at ch h = begun_if before first settings at ch (is_utf8 first) (is_utf8 settings) (is_utf8 at) refl refl refl h

-- ---- one entry

pub record EntryParts (ch : Chain) (line : List ℕ) (now : Chain) : Type 0 where
  pub event : Event
  pub utf8 : is_utf8 line ≡ true
  pub told : IsToldBy ch.settings (ch.version, line) (record { before = ch.events; event = event })
  pub next : now ≡ record ch { events = ch.events ++ event ∷ [] }

unrefused : (ch now : Chain) (e : Event) (o : Option CheckKind) → joined_by o ch e ≡ Ok now → (o ≡ None) × (now ≡ record ch { events = ch.events ++ e ∷ [] })
unrefused ch now e None h = (refl, cc)
unrefused ch now e (Some kind) h = cc

mapped_from : (f : Recorded → Recorded) (o : Option Recorded) (y : Recorded) → option_map f o ≡ Some y → (x : Recorded) × (o ≡ Some x) × (y ≡ f x)
mapped_from f None y h = cc
mapped_from f (Some x) y h = (x, refl, cc)

entry_read : (ch now : Chain) (line : List ℕ) (r : Result Recorded EntryFault) → is_utf8 line ≡ true → entry_in ch.version ch.settings line ≡ r
    → joined ch r ≡ Ok now → EntryParts ch line now
entry_read ch now line (Ok entry) utf8 is h =
    let v = ch.version in
    let c = ch.settings in
    let p = unrefused ch now (event_of entry) (fault_in v c ch.events entry) h in
    let x = mapped_from (as_told v) (entry_after c ch.events (event_of entry)) entry (right-told v c ch.events entry p.0) in
    record { event = event_of entry; utf8 = utf8; told = record { entry = x.0; happens = x.1; read = is ∙ ap Ok x.2 }; next = p.1 }
entry_read ch now line (Err fault) utf8 is h = cc

entry_if : (ch now : Chain) (line : List ℕ) (b : Bool) → is_utf8 line ≡ b → joined ch (entry_at ch.version ch.settings (text_if b line)) ≡ Ok now → EntryParts ch line now
entry_if ch now line true utf8 h = entry_read ch now line (entry_in ch.version ch.settings line) utf8 refl h
entry_if ch now line false utf8 h = cc

pub entry_line : (ch now : Chain) (line : List ℕ) → with_line ch line ≡ Ok now → EntryParts ch line now
entry_line ch now line h = entry_if ch now line (is_utf8 line) refl h
