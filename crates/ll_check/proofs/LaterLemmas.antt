-- Nothing is found wrong at an entry that was passed: the result of lines is at the entry after those so far, or later.
use Rattle.std.proofs.Common.{◌≡◌, ℕ, ◌+◌, ◌==◌, ◌≤◌, List, [], ◌∷◌, ◌++◌, Bool, true, false, cond, Option, Some, None, Result, Ok, Err, IfErr, refl, ap, sym, subst, ◌∙◌, true≢false, not, length, nat_le, bytes_eq, arith}
use Rattle.std.proofs.lemmas.Bool.Decides.{nat_tests}
use Rattle.std.proofs.lemmas.List.{length-append}
use Rattle.ll_attr.specs.Words.{pieces_at}
use Rattle.ll_check.proofs.Places.{first-at}
use Rattle.ll_check.specs.Found.{ChainValue, IsAt, so_far}
use Rattle.ll_entry.specs.Chain.{Between, Chain, Inside, Position, another, begun, begun_by, checked_from, continued, counted, ended_line, entries, entry_at, go_on, is_channel, joined, joined_at, joined_by, not_before, text_in, wrong}
use Rattle.ll_entry.specs.Entered.{event_of, fault_in}
use Rattle.ll_entry.specs.Frame.{is_older, last_line, place, version}
use Rattle.ll_entry.specs.declared.entry.EntryFault.{EntryFault}
use Rattle.ll_entry.specs.declared.entry.Recorded.{Recorded}
use Rattle.ll_entry.specs.declared.fault.CheckFault.{CheckFault}
use Rattle.ll_entry.specs.declared.fault.CheckKind.{CheckKind}
use Rattle.ll_entry.specs.declared.fault.CheckKind.TheVariants.{BadChunk, Memory}
use Rattle.ll_entry.specs.declared.version.Version.{Version}
use Rattle.ll_settings.specs.Same.{same_settings}
use Rattle.ll_settings.specs.Settings.{Configuration, settings_in}
use Rattle.ll_settings.specs.declared.settings.SettingsFault.{SettingsFault}
use Rattle.ll_verdict.specs.Events.{Event}

own : (n : ℕ) → nat_le n n ≡ true
own n = grind (arith, nat_tests)

lower : (m n : ℕ) (r : Result (Option Chain) CheckFault) → m ≤ n → not_before n r ≡ true → not_before m r ≡ true
lower m n (Ok now) le h = refl
lower m n (Err f) le h = grind (arith, nat_tests, le, h)

-- if nothing is found wrong before the entry after those of some chains
abbrev Later : Option Chain → Result (Option Chain) CheckFault → Type 0
Later before r = not_before (entries before + 1) r ≡ true

ended-later : (lines : List (List ℕ)) (before : Option Chain) (r : Result (Option Chain) CheckFault) → Later before r → Later before (ended_line lines before r)
ended-later [] before r h = own (entries before + 1)
ended-later (line ∷ lines) before r h = h

last-later : (before : Option Chain) (kind : CheckKind) (b : Bool) → Later before (cond b (Ok before) (wrong before kind))
last-later before kind true = refl
last-later before kind false = own (entries before + 1)

-- ---- the first three lines

-- a chunk's chain has as many entries, with those before it, as the chains before the chunk
abbrev pub Keeps : Option Chain → Result Chain CheckKind → Type 0
Keeps before (Ok ch) = entries (Some ch) ≡ entries before
Keeps before (Err kind) = Unit

keeps_if : (before : Option Chain) (b : Bool) (x y : Result Chain CheckKind) → Keeps before x → Keeps before y → Keeps before (cond b x y)
keeps_if before true x y h k = h
keeps_if before false x y h k = k

no_more : (n : ℕ) → n + 0 ≡ n
no_more n = omega arith

keeps_another : (before : Option Chain) (v : Version) (c : Configuration) → Keeps before (another before v c)
keeps_another before v c =
    keeps_if before (is_channel before c) (Ok (record { settings = c; version = v; earlier = entries before; events = [] })) (Err _) (no_more (entries before)) tt

keeps_continued : (before : Option Chain) (v : Version) (c : Configuration) (at : ℕ) → Keeps before (continued before v c at)
keeps_continued None v c at = tt
keeps_continued (Some ch) v c at =
    keeps_if (Some ch) (is_older v ch.version) (Err BadChunk) _ tt
    (keeps_if (Some ch) (not (at == length ch.events)) (Err _) _ tt
    (keeps_if (Some ch) (same_settings ch.settings c) (Ok (record ch { version = v })) (Err _) refl tt))

keeps_joined : (before : Option Chain) (v : Version) (c : Configuration) (at : ℕ) → Keeps before (joined_at before v c at)
keeps_joined before v c at =
    keeps_if before (at == 0) (another before v c) (continued before v c at) (keeps_another before v c) (keeps_continued before v c at)

keeps_by : (before : Option Chain) (v : Option Version) (s : Result Configuration SettingsFault) (at : Option ℕ) → Keeps before (begun_by before v s at)
keeps_by before (Some v) (Ok c) (Some at) = keeps_joined before v c at
keeps_by before (Some v) (Ok c) None = tt
keeps_by before (Some v) (Err fault) at = tt
keeps_by before None s at = tt

pub keeps_begun : (before : Option Chain) (first settings at : Option (List ℕ)) → Keeps before (begun before first settings at)
keeps_begun before (Some first) (Some settings) (Some at) = keeps_by before (version.read first) (settings_in settings) (place.read at)
keeps_begun before (Some first) (Some settings) None = tt
keeps_begun before (Some first) None at = tt
keeps_begun before None settings at = tt

begun-later : (before : Option Chain) (r : Result Chain CheckKind) (from : Chain → Result (Option Chain) CheckFault) → Keeps before r
    → ((ch : Chain) → Later (Some ch) (from ch)) → Later before (go_on before r from)
begun-later before (Ok ch) from keeps h = subst (λ n. not_before (n + 1) (from ch) ≡ true) keeps (h ch)
begun-later before (Err kind) from keeps h = own (entries before + 1)

-- ---- each further line

one_more : (earlier : ℕ) (events : List Event) (e : Event) → earlier + length events + 1 ≤ earlier + length (events ++ e ∷ []) + 1
one_more earlier events e = omega (arith, length-append events (e ∷ []))

line-later : (ch : Chain) (o : Option CheckKind) (e : Event) (from : Chain → Result (Option Chain) CheckFault) → ((now : Chain) → Later (Some now) (from now))
    → Later (Some ch) (go_on (Some ch) (joined_by o ch e) from)
line-later ch (Some kind) e from h = own (entries (Some ch) + 1)
line-later ch None e from h =
    let now : Chain = record ch { events = ch.events ++ e ∷ [] } in
    lower (entries (Some ch) + 1) (entries (Some now) + 1) (from now) (one_more ch.earlier ch.events e) (h now)

entry-later : (ch : Chain) (r : Result Recorded EntryFault) (from : Chain → Result (Option Chain) CheckFault) → ((now : Chain) → Later (Some now) (from now))
    → Later (Some ch) (go_on (Some ch) (joined ch r) from)
entry-later ch (Ok e) from h = line-later ch (fault_in ch.version ch.settings ch.events e) (event_of e) from h
entry-later ch (Err fault) from h = own (entries (Some ch) + 1)

either-later : (n : ℕ) (b : Bool) (x y : Result (Option Chain) CheckFault) → not_before n x ≡ true → not_before n y ≡ true → not_before n (cond b x y) ≡ true
either-later n true x y h k = h
either-later n false x y h k = k

-- ---- all lines

pub later : (p : Position) (lines : List (List ℕ)) → Later (so_far p) (checked_from p lines)
later (Between before) [] = own (entries before + 1)
later (Between before) (rest ∷ []) = last-later before BadChunk (bytes_eq rest [])
later (Between before) (first ∷ settings ∷ []) = own (entries before + 1)
later (Between before) (first ∷ settings ∷ at ∷ more) =
    ended-later more before _ (begun-later before (begun before (text_in first) (text_in settings) (text_in at)) (λ ch. checked_from (Inside ch) more)
    (keeps_begun before (text_in first) (text_in settings) (text_in at)) (λ ch. later (Inside ch) more))
later (Inside ch) [] = own (entries (Some ch) + 1)
later (Inside ch) (line ∷ more) =
    ended-later more (Some ch) _ (either-later (entries (Some ch) + 1) (bytes_eq line last_line) _ _ (later (Between (Some ch)) more)
    (entry-later ch (entry_at ch.version ch.settings (text_in line)) (λ now. checked_from (Inside now) more) (λ now. later (Inside now) more)))

-- the same of the result of lines further on
pub later-as : (n : ℕ) (p : Position) (lines : List (List ℕ)) (r : Result (Option Chain) CheckFault) → r ≡ checked_from p lines → n ≡ entries (so_far p) + 1
    → not_before n r ≡ true
later-as n p lines r e is = ap (not_before n) e ∙ ap (λ n. not_before n (checked_from p lines)) is ∙ later p lines

-- counting entries needs no memory
abbrev no_memory : CheckKind → Bool
no_memory Memory = false
no_memory other = true

counts : (P : CheckFault → Type 0) (before : Option Chain) → IfErr (counted (Ok before)) (λ f. f.kind ≡ Memory → P f)
counts P None = λ kind. absurd (true≢false (ap no_memory kind))
counts P (Some ch) = tt

pub wants-none : (P : CheckFault → Type 0) (first kept : Option ChainValue) (bytes : List ℕ) (r : Result ℕ CheckFault) → first ≡ None
    → ((p : Position) → IsAt first p → (now : Option Chain) × IsAt kept (Between now) × (checked_from p (pieces_at 10 bytes) ≡ Ok now))
    → ((p : Position) → IsAt kept p → r ≡ counted (Ok (so_far p))) → IfErr r (λ f. f.kind ≡ Memory → P f)
wants-none P first kept bytes r e read count =
    let got = read (Between None) (first-at first e) in
    subst (λ r. IfErr r (λ f. f.kind ≡ Memory → P f)) (sym (count (Between got.0) got.1)) (counts P got.0)

-- the same of the number of entries
pub counted-later : (P : CheckFault → Type 0) (x : Result (Option Chain) CheckFault) (r : Result ℕ CheckFault) → counted x ≡ r
    → IfErr r (λ f. P f → not_before f.entry x ≡ true)
counted-later P (Ok before) (Ok n) e = tt
counted-later P (Ok before) (Err f) e = λ kind. refl
counted-later P (Err f) r e = subst (λ r. IfErr r (λ g. P g → not_before g.entry (Err f) ≡ true)) e (λ kind. own f.entry)
