-- What is kept is that of the chains so far, one step after another.
use Rattle.std.proofs.Common.{◌≡◌, ℕ, zero, suc, List, [], ◌∷◌, ◌++◌, Bool, true, false, cond, Option, Some, None, Result, Ok, Err, refl, ap, sym, subst, ◌∙◌, append_assoc, append-nil, length, arith, rules, OnOk, is_err, true≢false}
use Rattle.std.specs.Str.{is_utf8}
use Rattle.ll_attr.specs.Words.{pieces_at}
use Rattle.ll_check.proofs.Begun.{Another, GoesOn, Next, Onward, begun_lines}
use Rattle.ll_check.proofs.Places.{first-at}
use Rattle.ll_check.proofs.StepLemmas.{GoesTo, moved, over-at}
use Rattle.ll_check.specs.Found.{ChainValue, IsAt, so_far}
use Rattle.ll_check.specs.Steps.{IsOver, Moves, Tells}
use Rattle.ll_check.specs.declared.told.Told.{Told}
use Rattle.ll_check.specs.declared.told.Told.TheVariants as told
use Rattle.ll_entry.specs.Chain.{Between, Chain, Inside, Position, checked_from, counted, entry_at, joined, joined_by, with_line}
use Rattle.ll_entry.specs.Entered.{event_of, fault_in}
use Rattle.ll_entry.specs.Entries.{entry_in}
use Rattle.ll_entry.specs.declared.entry.Recorded.{Recorded}
use Rattle.ll_entry.specs.declared.fault.CheckKind.{CheckKind}
use Rattle.ll_entry.specs.declared.version.Version.{Version}
use Rattle.ll_settings.specs.Settings.{Configuration, settings_in}
use Rattle.ll_settings.specs.declared.settings.SettingsFault.{SettingsFault}
use Rattle.ll_multivariant.specs.Keeping.{AddsLine, AddsTold, KeptValue, kept_of}
use Rattle.ll_multivariant.specs.Additions.{additions_in, additions_of}
use Rattle.ll_verdict.specs.Events.{Event}

-- ---- one event more

additions-snoc : (es : List Event) (e : Event) → additions_of (es ++ e ∷ []) ≡ additions_of es ++ additions_in e
additions-snoc [] e = append-nil (additions_in e)
additions-snoc (x ∷ es) e = ap (λ l. additions_in x ++ l) (additions-snoc es e) ∙ sym (append_assoc (additions_in x) (additions_of es) (additions_in e))

joined-on : (ch now : Chain) (entry : Recorded) (o : Option CheckKind) → joined_by o ch (event_of entry) ≡ Ok now
    → now ≡ record ch { events = ch.events ++ event_of entry ∷ [] }
joined-on ch now entry None h = cc
joined-on ch now entry (Some kind) h = cc

-- the chain with a line's entry
line-on : (ch now : Chain) (line : List ℕ) (entry : Recorded) (b : Bool) → is_utf8 line ≡ b → with_line ch line ≡ Ok now
    → entry_in ch.version ch.settings line ≡ Ok entry → now ≡ record ch { events = ch.events ++ event_of entry ∷ [] }
line-on ch now line entry true u h e =
    joined-on ch now entry (fault_in ch.version ch.settings ch.events entry)
    (sym (ap (λ b. joined ch (entry_at ch.version ch.settings (cond b (Some line) None))) u ∙ ap (joined ch) e) ∙ h)
line-on ch now line entry false u h e =
    let wrong = sym (ap (λ b. joined ch (entry_at ch.version ch.settings (cond b (Some line) None))) u) ∙ h in cc

entry-on : (ch now : Chain) (line : List ℕ) (old new : KeptValue) → with_line ch line ≡ Ok now → old ≡ kept_of (Some ch)
    → AddsLine old new ch.version line ch.settings → new ≡ kept_of (Some now)
entry-on ch now line old new h is a =
    let next = line-on ch now line a.entry (is_utf8 line) refl h a.read in
    let kept : KeptValue → KeptValue = λ k. record { settings = k.settings; additions = k.additions ++ additions_in (event_of a.entry) } in
    a.next
    ∙ ap kept is
    ∙ ap (λ ps. record { settings = Some ch.settings; additions = ps }) (sym (additions-snoc ch.events (event_of a.entry)))
    ∙ ap (λ (c : Chain). kept_of (Some c)) (sym next)

-- ---- the first lines of a chunk

no_events : (events : List Event) → 0 ≡ length events → [] ≡ events
no_events [] h = refl
no_events (e ∷ es) h = absurd (omega (arith, h))

same_settings : (a b : Configuration) (r : Result Configuration SettingsFault) → r ≡ Ok a → r ≡ Ok b → a ≡ b
same_settings a b r e f = cc

onward : (before : Option Chain) (ch : Chain) (at : ℕ) → suc at ≡ length ch.events → Next before ch → kept_of before ≡ kept_of (Some ch)
onward before ch at many (Another a) = absurd (omega (arith, many, ap (λ (c : Chain). length c.events) a.1))
onward before ch at many (Onward g) = goes_on before ch g
  where
    goes_on : (before : Option Chain) (ch : Chain) → GoesOn before ch → kept_of before ≡ kept_of (Some ch)
    goes_on None ch g = absurd g
    goes_on (Some old) ch g = ap (λ (c : Chain). kept_of (Some c)) (sym g.2)

-- ---- what is said next

kept-told : (p next : Position) (t : Told) (lines rest : List (List ℕ)) (old new : KeptValue) → Tells p t next lines rest → old ≡ kept_of (so_far p)
    → AddsTold old new t → new ≡ kept_of (so_far next)
kept-told (Between before) (Inside ch) (told.Begun settings zero) lines rest old new h is a =
    let names = (begun_lines before h.header.first settings.now h.header.place ch h.header.begun).names in
    let same : a.settings ≡ ch.settings = same_settings a.settings ch.settings (settings_in settings.now) a.read names in
    a.next
    ∙ ap (λ c. record { settings = Some c; additions = [] }) same
    ∙ ap (λ es. record { settings = Some ch.settings; additions = additions_of es }) (no_events ch.events h.many)
kept-told (Between before) (Inside ch) (told.Begun settings (suc at)) lines rest old new h is a =
    a ∙ is ∙ onward before ch at h.many (begun_lines before h.header.first settings.now h.header.place ch h.header.begun).next
kept-told (Inside ch) (Inside now) (told.Entry version line entry) lines rest old new h is a =
    let settings : old.settings ≡ Some ch.settings = ap (λ (k : KeptValue). k.settings) is in
    entry-on ch now line.now old new h.joined is (subst (λ v. AddsLine old new v line.now ch.settings) h.format (a ch.settings settings))
kept-told (Inside ch) (Between before) told.Ended lines rest old new h is a = a ∙ is ∙ ap kept_of (sym h.same)
kept-told (Between before) (Between after) (told.Begun settings at) lines rest old new h is a = absurd h
kept-told (Between before) next (told.Entry version line entry) lines rest old new h is a = absurd h
kept-told (Between before) next told.Ended lines rest old new h is a = absurd h
kept-told (Inside ch) next (told.Begun settings at) lines rest old new h is a = absurd h
kept-told (Inside ch) (Between before) (told.Entry version line entry) lines rest old new h is a = absurd h
kept-told (Inside ch) (Inside now) told.Ended lines rest old new h is a = absurd h

-- ---- one step after another

-- lines have the result that the rest of them has from a position, and what is kept is that of the chains there
pub record Keeps (checker : Option ChainValue) (lines rest : List (List ℕ)) (kept : KeptValue) : Type 0 where
  pub now : Position
  pub at : IsAt checker now
  pub same : checked_from (Between None) lines ≡ checked_from now rest
  pub are : kept ≡ kept_of (so_far now)

-- nothing was read yet
pub keeps-first : (checker : Option ChainValue) (lines : List (List ℕ)) (kept : KeptValue) → checker ≡ None → kept ≡ kept_of None → Keeps checker lines lines kept
keeps-first checker lines kept none is = record { now = Between None; at = first-at checker none; same = refl; are = is }

-- the next lines were read
pub keeps-next : (checker new : Option ChainValue) (t : Told) (lines mid : List (List ℕ)) (rest : List ℕ) (kept more : KeptValue) → Keeps checker lines mid kept
    → ((q : Position) → IsAt checker q → Moves new q t mid (pieces_at 10 rest)) → AddsTold kept more t → Keeps new lines (pieces_at 10 rest) more
keeps-next checker new t lines mid rest kept more k on a =
    let m = on k.now k.at in
    record {
      now = m.next;
      at = m.at;
      same = k.same ∙ moved k.now m.next t mid rest m.by;
      are = kept-told k.now m.next t mid (pieces_at 10 rest) kept more m.by k.are a;
    }

pub goes-kept : (checker : Option ChainValue) (lines rest : List (List ℕ)) (kept : KeptValue) → Keeps checker lines rest kept → GoesTo checker (Between None) lines rest
goes-kept checker lines rest kept k = record { now = k.now; at = k.at; same = k.same }

-- no text is left: what is kept is that of the last chain
pub keeps-all : (checker new : Option ChainValue) (lines : List (List ℕ)) (rest : List ℕ) (kept : KeptValue) → Keeps checker lines (pieces_at 10 rest) kept
    → ((q : Position) → IsAt checker q → IsOver checker new q rest)
    → (before : Option Chain) × IsAt new (Between before) × (checked_from (Between None) lines ≡ Ok before) × (kept ≡ kept_of before)
keeps-all checker new lines rest kept k over =
    let o = over-at checker new k.now rest k.at (over k.now k.at) in (so_far k.now, o.0, k.same ∙ o.1, k.are)

-- there is a chunk, so there is a chain
pub keeps-some : (lines : List (List ℕ)) (kept : KeptValue) (before : Option Chain) (n : ℕ) → counted (Ok before) ≡ Ok n → checked_from (Between None) lines ≡ Ok before
    → kept ≡ kept_of before → (ch : Chain) × (checked_from (Between None) lines ≡ Ok (Some ch)) × (kept ≡ kept_of (Some ch))
keeps-some lines kept None n c e is = cc
keeps-some lines kept (Some ch) n c e is = (ch, e, is)

-- ---- what holds unless memory is missing

pub ok-of : {T E : Type 0} (r : Result T E) (P : Type 0) → is_err r ≡ false → OnOk r P → P
ok-of (Ok x) P e h = h
ok-of (Err x) P e h = absurd (true≢false e)

pub for-each : {T E : Type 0} (r : Result T E) (old new : KeptValue) (version : Version) (line : List ℕ)
    → ((c : Configuration) → old.settings ≡ Some c → OnOk r (AddsLine old new version line c)) → OnOk r ((c : Configuration) → old.settings ≡ Some c → AddsLine old new version line c)
for-each (Ok x) old new version line h = h
for-each (Err x) old new version line h = search rules
