-- The time of the channel after lines, and what is said of the entry that was looked for.
use Rattle.std.proofs.Common.{◌≡◌, ℕ, suc, zero, List, [], ◌∷◌, Option, Some, None, refl, ap, ◌∙◌, sym, length, option_map, arith}
use Rattle.ll_attr.specs.Words.{pieces_at}
use Rattle.ll_check.proofs.Begun.{Another, EntryParts, GoesOn, Next, Onward, begun_lines, entry_line}
use Rattle.ll_check.specs.Found.{so_far}
use Rattle.ll_check.specs.Going.{IsFound}
use Rattle.ll_check.specs.Steps.{Tells, full_entry}
use Rattle.ll_check.specs.declared.replies.EntryReply.{EntryReply}
use Rattle.ll_entry_check.specs.Full.{without_item}
use Rattle.ll_entry_check.specs.declared.full.FullEntry.{FullEntry}
use Rattle.ll_check.specs.declared.told.Told.{Told}
use Rattle.ll_check.specs.declared.told.Told.TheVariants as told
use Rattle.ll_entry.proofs.ToldLemmas.{told-right, whole-entry}
use Rattle.ll_entry.specs.Chain.{Between, Chain, Inside, Position}
use Rattle.ll_entry.specs.Entered.{event_of}
use Rattle.ll_entry.specs.Told.{entry_after}
use Rattle.ll_entry.specs.declared.entry.Recorded.{Recorded}
use Rattle.ll_entry.specs.declared.entry.Recorded.TheVariants as recorded
use Rattle.ll_entry.specs.declared.version.Version.TheVariants.{Two}
use Rattle.ll_explain.proofs.UpgradeLines.{full-is}
use Rattle.ll_explain.specs.Explained.{IsExplained}
use Rattle.ll_explain.specs.Seeking.{time_after_entry, time_of, time_told}
use Rattle.ll_settings.specs.Settings.{Configuration}
use Rattle.ll_verdict.proofs.StepLemmas.{time-snoc}
use Rattle.ll_verdict.specs.Events.{Event, later, time}

-- ---- the time

no_events : (events : List Event) → 0 ≡ length events → 0 ≡ time events
no_events [] h = refl
no_events (e ∷ es) h = absurd (omega (arith, h))

same_some : (a b : FullEntry) → Some a ≡ Some b → a ≡ b
same_some a b h = cc

goes_on : (before : Option Chain) (ch : Chain) → GoesOn before ch → time_of before ≡ time ch.events
goes_on None ch g = absurd g
goes_on (Some old) ch g = ap (λ (c : Chain). time c.events) (sym g.2)

-- a chunk that has entries before it goes on with the last chain
time-onward : (before : Option Chain) (ch : Chain) (at : ℕ) → suc at ≡ length ch.events → Next before ch → time_of before ≡ time ch.events
time-onward before ch at many (Another a) = absurd (omega (arith, many, ap (λ (c : Chain). length c.events) a.1))
time-onward before ch at many (Onward g) = goes_on before ch g

later-is : (ms : ℕ) (entry : Recorded) → later ms (event_of entry) ≡ time_after_entry ms (without_item entry)
later-is ms (recorded.Publish item) = refl
later-is ms (recorded.Ask ask want reply) = refl
later-is ms (recorded.Clock reading) = refl
later-is ms (recorded.Collect ask reply) = refl
later-is ms (recorded.Close ask) = refl

-- the entry of an event has it
event-is : (c : Configuration) (before : List Event) (e : Event) (entry : Recorded) → entry_after c before e ≡ Some entry → event_of entry ≡ e
event-is c before e entry h = ap event_of (sym (whole-entry entry)) ∙ (told-right Two c before e entry h).1

entry-time : (ch now : Chain) (line : List ℕ) (entry : FullEntry) → EntryParts ch line now → option_map without_item (full_entry ch line) ≡ Some entry
    → time_after_entry (time ch.events) entry ≡ time now.events
entry-time ch now line entry x told =
    let own = x.told.entry in
    let is : without_item own ≡ entry =
    same_some (without_item own) entry
    (ap (option_map without_item) (sym (full-is ch line x.event own x.utf8 x.told.happens x.told.read)) ∙ told) in
    ap (time_after_entry (time ch.events)) (sym is)
    ∙ sym (later-is (time ch.events) own)
    ∙ ap (later (time ch.events)) (event-is ch.settings ch.events x.event own x.told.happens)
    ∙ sym (time-snoc ch.events x.event)
    ∙ ap (λ (c : Chain). time c.events) (sym x.next)

pub time-told : (p next : Position) (t : Told) (lines rest : List (List ℕ)) → Tells p t next lines rest → time_told (time_of (so_far p)) t ≡ time_of (so_far next)
time-told (Between before) (Inside ch) (told.Begun settings zero) lines rest h = no_events ch.events h.many
time-told (Between before) (Inside ch) (told.Begun settings (suc at)) lines rest h =
    time-onward before ch at h.many (begun_lines before h.header.first settings.now h.header.place ch h.header.begun).next
time-told (Inside ch) (Inside now) (told.Entry version line entry) lines rest h = entry-time ch now line.now entry (entry_line ch now line.now h.joined) h.told
time-told (Inside ch) (Between before) told.Ended lines rest h = ap time_of (sym h.same)
time-told (Between before) (Between after) (told.Begun settings at) lines rest h = absurd h
time-told (Between before) next (told.Entry version line entry) lines rest h = absurd h
time-told (Between before) next told.Ended lines rest h = absurd h
time-told (Inside ch) next (told.Begun settings at) lines rest h = absurd h
time-told (Inside ch) (Between before) (told.Entry version line entry) lines rest h = absurd h
time-told (Inside ch) (Inside now) told.Ended lines rest h = absurd h

-- ---- the entry

pub found-explained : (bytes : List ℕ) (entry ms : ℕ) (P : Position → List (List ℕ) → Type 0) (found : EntryReply) → IsFound P entry (pieces_at 10 bytes) found
    → ((ch : Chain) (rest : List (List ℕ)) → P (Inside ch) rest → ms ≡ time ch.events) → IsExplained bytes entry ms found.line found.reply
found-explained bytes entry ms P found f clock = record {
  passed = f.passed;
  rest = f.rest;
  stands = f.stands;
  before = f.before;
  leads = f.leads;
  place = f.place;
  clock = clock f.before (found.line ∷ pieces_at 10 f.rest) f.held;
  now = f.now;
  right = f.right;
  brings = f.brings;
}
