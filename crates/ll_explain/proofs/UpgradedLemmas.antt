-- What lines are in format 2, by what the first of them say.
use Rattle.std.proofs.Common.{◌≡◌, ℕ, Bool, List, [], ◌++◌, cond, length, Option, Some, None, Result, Ok, Err, OnOk, false, true, is_err, drop, take, take-append-drop, le_refl, le_trans, lt_of_le_of_lt, is_ok, true≢false, ap, sym, subst, ◌∙◌, append_assoc, append-nil, option_map}
use Rattle.std.proofs.KnownBytes.{Appends-nil, Appends-trans}
use Rattle.std.specs.Io.KnownBytes.{Appends}
use Rattle.std.specs.Option.{option_map_or}
use Rattle.ll_attr.specs.Words.{pieces_at}
use Rattle.ll_check.specs.Steps.{Tells, full_entry}
use Rattle.ll_device.specs.Written.{AppendsPrefix}
use Rattle.ll_entry_check.specs.Full.{without_item}
use Rattle.ll_explain.specs.Upgrade.{AreWritten, HasFailedIf, WritesOff, told_text, upgraded, upgraded_entry, upgraded_from, upgraded_line, where_right}
use Rattle.ll_entry_check.specs.declared.full.FullEntry.{FullEntry}
use Rattle.ll_check.specs.declared.told.Told.{Told}
use Rattle.ll_check.specs.declared.told.Told.TheVariants as told
use Rattle.ll_entry.specs.Chain.{Between, Chain, Inside, Position, with_line}
use Rattle.ll_entry.specs.Frame.{header_text, last_line}
use Rattle.ll_entry.specs.Leads.{with_end}
use Rattle.ll_entry.specs.declared.entry.Recorded.{Recorded}
use Rattle.ll_entry.specs.declared.fault.CheckKind.{CheckKind}
use Rattle.ll_entry.specs.declared.version.Version.TheVariants.{Two}
use Rattle.ll_settings.specs.Settings.{Configuration}

entry_text : (f : FullEntry → List ℕ) (o : Option Recorded) (e : FullEntry) → option_map without_item o ≡ Some e
    → option_map_or (λ entry. with_end (f (without_item entry))) o [] ≡ with_end (f e)
entry_text f None e h = cc
entry_text f (Some entry) e h =
    let is : without_item entry ≡ e = cc in ap (λ e. with_end (f e)) is

-- they begin with what the first of them are
pub upgrades : (p next : Position) (t : Told) (lines rest : List (List ℕ)) → Tells p t next lines rest
    → (c : Configuration) × (upgraded_from p lines ≡ told_text c t ++ upgraded_from next rest)
upgrades (Between before) (Inside ch) (told.Begun settings at) lines rest h = (
  ch.settings,
  ap (upgraded_from (Between before)) h.header.are
      ∙ ap (λ r. where_right r (λ ch. header_text Two settings.now (length ch.events) ++ upgraded_from (Inside ch) rest)) h.header.begun
      ∙ ap (λ n. header_text Two settings.now n ++ upgraded_from (Inside ch) rest) (sym h.many),
)
upgrades (Inside ch) (Inside now) (told.Entry version line entry) lines rest h =
    let after : Result Chain CheckKind → List ℕ = λ r. where_right r (λ now. upgraded_from (Inside now) rest) in (
      ch.settings,
      ap (upgraded_from (Inside ch)) h.are
          ∙ ap (λ b. cond b (with_end last_line ++ upgraded_from (Between (Some ch)) rest) (upgraded_entry ch line.now ++ after (with_line ch line.now))) h.other
          ∙ ap (λ r. upgraded_entry ch line.now ++ after r) h.joined
          ∙ ap (λ t. t ++ upgraded_from (Inside now) rest)
          (entry_text (upgraded_line ch.version ch.settings line.now) (full_entry ch line.now) entry h.told
          ∙ ap (λ v. with_end (upgraded_line v ch.settings line.now entry)) (sym h.format)),
    )
upgrades (Inside ch) (Between before) told.Ended lines rest h = (
  ch.settings,
  ap (upgraded_from (Inside ch)) h.are
      ∙ ap (λ b. cond b (with_end last_line ++ upgraded_from (Between (Some ch)) rest) (upgraded_entry ch h.line ++ where_right (with_line ch h.line) (λ now. upgraded_from (Inside now) rest))) h.last
      ∙ ap (λ o. with_end last_line ++ upgraded_from (Between o) rest) (sym h.same),
)
upgrades (Between before) (Between after) (told.Begun settings at) lines rest h = absurd h
upgrades (Between before) next (told.Entry version line entry) lines rest h = absurd h
upgrades (Between before) next told.Ended lines rest h = absurd h
upgrades (Inside ch) next (told.Begun settings at) lines rest h = absurd h
upgrades (Inside ch) (Between before) (told.Entry version line entry) lines rest h = absurd h
upgrades (Inside ch) (Inside now) told.Ended lines rest h = absurd h

-- nothing was read yet
pub written-first : (out : Option (List ℕ)) (text : List ℕ) (lines : List (List ℕ)) → text ≡ [] → AreWritten out out text (Between None) lines lines
written-first out text lines empty =
    record { written = []; appends = Appends-nil out; are = ap (λ t. t ++ upgraded_from (Between None) lines) (sym empty) }

-- what the next lines are was added
pub written-told : (first out : Option (List ℕ)) (text longer : List ℕ) (p next : Position) (t : Told) (lines mid rest : List (List ℕ))
    → AreWritten first out text p lines mid → Tells p t next mid rest → ((c : Configuration) → longer ≡ text ++ told_text c t)
    → AreWritten first out longer next lines rest
written-told first out text longer p next t lines mid rest w by added =
    let u = upgrades p next t mid rest by in
    let after = upgraded_from next rest in
    record {
      written = w.written;
      appends = w.appends;
      are = w.are ∙ ap (λ x. w.written ++ text ++ x) u.1 ∙ sym (append_assoc (w.written ++ text) (told_text u.0 t) after)
          ∙ ap (λ x. x ++ after) (append_assoc w.written text (told_text u.0 t) ∙ ap (λ x. w.written ++ x) (sym (added u.0)));
    }

-- a part of what was still to be written was
pub written-more : (first out after : Option (List ℕ)) (text left : List ℕ) (p : Position) (lines rest : List (List ℕ)) → AreWritten first out text p lines rest
    → ((prefix : List ℕ) × (text ≡ prefix ++ left) × Appends out after prefix) → AreWritten first after left p lines rest
written-more first out after text left p lines rest w more = record {
  written = w.written ++ more.0;
  appends = Appends-trans first out after w.written more.0 w.appends more.2;
  are = w.are ∙ ap (λ x. x ++ upgraded_from p rest) (ap (λ x. w.written ++ x) more.1 ∙ sym (append_assoc w.written more.0 left));
}

-- a write took the first of what was left
pub written-off : (first mid new : Option (List ℕ)) (text left later : List ℕ) (n : ℕ) → WritesOff first mid text left → Appends mid new (take n left) → later ≡ drop n left
    → WritesOff first new text later
written-off first mid new text left later n w more is = (
  w.0 ++ take n left,
  w.1 ∙ ap (λ x. w.0 ++ x) (sym (take-append-drop n left) ∙ ap (λ x. take n left ++ x) (sym is)) ∙ sym (append_assoc w.0 (take n left) later),
  Appends-trans first mid new w.0 (take n left) w.2 more,
)

-- no line is left, and nothing to be written
pub written-all : (first out : Option (List ℕ)) (text bytes : List ℕ) (before : Option Chain)
    → AreWritten first out text (Between before) (pieces_at 10 bytes) (pieces_at 10 []) → text ≡ [] → Appends first out (upgraded bytes)
written-all first out text bytes before w empty =
    subst (Appends first out) (sym (w.are ∙ append-nil (w.written ++ text) ∙ ap (λ x. w.written ++ x) empty ∙ append-nil w.written)) w.appends

-- what was written is a prefix
pub written-cut : (first out : Option (List ℕ)) (text : List ℕ) (p : Position) (lines rest : List (List ℕ)) → AreWritten first out text p lines rest
    → AppendsPrefix first out (upgraded_from (Between None) lines)
written-cut first out text p lines rest w =
    (w.written, text ++ upgraded_from p rest, w.are ∙ append_assoc w.written text (upgraded_from p rest), w.appends)

-- ---- failures

-- no write has failed
pub failed-first : (n : ℕ) → HasFailedIf false n n
failed-first n = (le_refl n, λ e. absurd (true≢false (sym e)))

-- further writes
pub failed-more : (one other : Bool) (first before after : ℕ) → HasFailedIf one first before → HasFailedIf other before after → HasFailedIf other first after
failed-more one other first before after h w = (le_trans h.0 w.0, λ e. lt_of_le_of_lt h.0 (w.1 e))

-- ---- what a result says

pub added : {T E : Type 0} (r : Result T E) (new x y : List ℕ) → new ≡ cond (is_ok r) x y → OnOk r (new ≡ x)
added (Ok v) new x y e = e
added (Err f) new x y e = tt

pub ok-of : {T E : Type 0} (r : Result T E) (P : Type 0) → is_err r ≡ false → OnOk r P → P
ok-of (Ok v) P fine h = h
ok-of (Err f) P fine h = absurd (true≢false fine)
