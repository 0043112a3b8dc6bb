-- What is kept while a record is gone over: where the lines so far lead, and that the entry that is looked for is still to come.
use Rattle.std.proofs.Common.{◌≡◌, ◌≢◌, ◌⊎◌, inl, inr, ◌+◌, ◌≤◌, ℕ, zero, suc, List, [], ◌∷◌, ◌++◌, true, false, not, Option, Some, None, Result, Ok, Err, IfErr, IfOk, MatchOption, refl, ap, ◌∙◌, subst, sym, true≢false, length-append, arith}
use Rattle.ll_attr.specs.Words.{pieces_at}
use Rattle.ll_check.proofs.Begun.{entry_line}
use Rattle.ll_check.proofs.LaterLemmas.{Keeps, keeps_begun}
use Rattle.ll_check.proofs.Places.{first-at}
use Rattle.ll_check.proofs.ReachedLemmas.{passed-first, passed-then, passed-told}
use Rattle.ll_check.proofs.SourceLemmas.{full-of}
use Rattle.ll_check.proofs.StepLemmas.{GoesTo, moved}
use Rattle.ll_check.specs.EntryReplies.{Brings, BringsNone}
use Rattle.ll_check.specs.Found.{ChainValue, IsAt, so_far}
use Rattle.ll_check.specs.Going.{HasGone, IsAhead, IsElsewhere, IsFound, IsHere}
use Rattle.ll_check.specs.Lines.{IsShort}
use Rattle.ll_check.specs.Passing.{HasPassed, IsWrongAt}
use Rattle.ll_check.specs.Steps.{IsOver, Tells, has_entry}
use Rattle.ll_check.specs.Visiting.{HasEnded, HasVisited, Holds, HoldsWithin, Passed, StaysWithin, StillHolds}
use Rattle.ll_check.specs.declared.going.Reached.TheVariants.{End}
use Rattle.ll_check.specs.declared.replies.EntryReply.{EntryReply}
use Rattle.ll_check.specs.declared.told.Told.{Told}
use Rattle.ll_check.specs.declared.told.Told.TheVariants as told
use Rattle.ll_entry.specs.Chain.{Between, Chain, Inside, Position, checked, checked_from, counted, entries, not_before, text_in}
use Rattle.ll_entry.specs.declared.fault.CheckFault.{CheckFault}
use Rattle.ll_entry.specs.declared.fault.CheckKind.TheVariants.{Memory}
use Rattle.ll_verdict.specs.Events.{Event}

-- ---- how many entries were passed

next_ahead : (entry n m : ℕ) → m ≡ n + 1 → n + 1 ≢ entry → IsAhead entry n → IsAhead entry m
next_ahead entry n m is other (inl none) = inl none
next_ahead entry n m is other (inr less) = inr (omega (arith, is, other, less))

pub one_more : (ch now : Chain) (e : Event) → now ≡ record ch { events = ch.events ++ e ∷ [] } → entries (Some now) ≡ entries (Some ch) + 1
one_more ch now e is = ap (λ (c : Chain). entries (Some c)) is ∙ omega (arith, length-append ch.events (e ∷ []))

ahead-told : (entry : ℕ) (p next : Position) (t : Told) (lines rest : List (List ℕ)) → Tells p t next lines rest
    → (entries (so_far p) + 1 ≡ entry → has_entry p lines ≡ false) → IsAhead entry (entries (so_far p)) → IsAhead entry (entries (so_far next))
ahead-told entry (Between before) (Inside ch) (told.Begun settings at) lines rest h none ahead =
    let keeps : Keeps before (Ok ch) =
    subst (Keeps before) h.header.begun (keeps_begun before (text_in h.header.first) (text_in settings.now) (text_in h.header.place)) in
    subst (IsAhead entry) (sym keeps) ahead
ahead-told entry (Inside ch) (Inside now) (told.Entry version line e) lines rest h none ahead =
    let x = entry_line ch now line.now h.joined in
    let has : has_entry (Inside ch) lines ≡ true = ap (has_entry (Inside ch)) h.are ∙ ap not h.other in
    next_ahead entry (entries (Some ch)) (entries (Some now)) (one_more ch now x.event x.next) (λ is. true≢false (sym has ∙ none is)) ahead
ahead-told entry (Inside ch) (Between before) told.Ended lines rest h none ahead = subst (λ o. IsAhead entry (entries o)) (sym h.same) ahead
ahead-told entry (Between before) (Between after) (told.Begun settings at) lines rest h none ahead = absurd h
ahead-told entry (Between before) next (told.Entry version line e) lines rest h none ahead = absurd h
ahead-told entry (Between before) next told.Ended lines rest h none ahead = absurd h
ahead-told entry (Inside ch) next (told.Begun settings at) lines rest h none ahead = absurd h
ahead-told entry (Inside ch) (Between before) (told.Entry version line e) lines rest h none ahead = absurd h
ahead-told entry (Inside ch) (Inside now) told.Ended lines rest h none ahead = absurd h

-- ---- one step after another

-- what is kept is where the lines so far lead, where this holds, and the entry with this number comes later, if at all
pub record Going (kept : Option ChainValue) (entry : ℕ) (holds : Position → List (List ℕ) → Type 0) (lines rest : List (List ℕ)) : Type 0 where
  pub now : Position
  pub at : IsAt kept now
  pub same : checked_from (Between None) lines ≡ checked_from now rest
  pub passed : Passed (Between None) now lines rest
  pub ahead : IsAhead entry (entries (so_far now))
  pub held : holds now rest

from_zero : (entry : ℕ) → IsAhead entry 0
from_zero zero = inl refl
from_zero (suc n) = inr (omega arith)

pub going-first : (kept : Option ChainValue) (entry : ℕ) (P : Position → List (List ℕ) → Type 0) (lines : List (List ℕ)) → kept ≡ None → P (Between None) lines
    → Going kept entry P lines lines
going-first kept entry P lines none h = record {
  now = Between None;
  at = first-at kept none;
  same = refl;
  passed = passed-first (Between None) lines;
  ahead = from_zero entry;
  held = h;
}

-- the entry is looked for in `looked`, the text that was read: it isn't there, and the first lines are passed
pub going-past : (kept mid new : Option ChainValue) (entry : ℕ) (P Q : Position → List (List ℕ) → Type 0) (lines : List (List ℕ)) (looked text rest more : List ℕ) (t : Told)
    → Going kept entry P lines (pieces_at 10 (text ++ more)) → looked ≡ text
    → ((p : Position) (more : List ℕ) → IsAt kept p → IsElsewhere kept mid p entry looked more) → HasPassed mid new text rest t
    → ((p next : Position) (before after : List (List ℕ)) → IsAt mid p → P p before → Tells p t next before after → Q next after)
    → Going new entry Q lines (pieces_at 10 (rest ++ more))
going-past kept mid new entry P Q lines looked text rest more t g is other passed visits =
    let e = other g.now more g.at in
    let at : IsAt mid g.now = subst (λ k. IsAt k g.now) (sym e.same) g.at in
    let m = passed.moves g.now more at in
    let from : List (List ℕ) = pieces_at 10 (text ++ more) in
    let to : List (List ℕ) = pieces_at 10 (rest ++ more) in
    let none : entries (so_far g.now) + 1 ≡ entry → has_entry g.now from ≡ false =
    (subst (λ x. IsElsewhere kept mid g.now entry x more) is e).none (full-of mid new text rest t g.now at passed) in
    record {
      now = m.next;
      at = m.at;
      same = g.same ∙ moved g.now m.next t from (rest ++ more) m.by;
      passed = passed-then (Between None) g.now m.next lines from to g.passed (passed-told g.now m.next t from to m.by);
      ahead = ahead-told entry g.now m.next t from to m.by none g.ahead;
      held = visits g.now m.next from to at g.held m.by;
    }

-- it isn't there, and fewer lines end than come next
pub going-stay : (kept mid new : Option ChainValue) (entry : ℕ) (P Q : Position → List (List ℕ) → Type 0) (lines rest : List (List ℕ)) (looked text : List ℕ)
    → Going kept entry P lines rest → ((p : Position) (more : List ℕ) → IsAt kept p → IsElsewhere kept mid p entry looked more)
    → ((p : Position) → IsAt mid p → IsShort mid new p text) → ((p : Position) (more : List (List ℕ)) → P p more → Q p more) → Going new entry Q lines rest
going-stay kept mid new entry P Q lines rest looked text g other short on =
    let at : IsAt mid g.now = subst (λ k. IsAt k g.now) (sym (other g.now [] g.at).same) g.at in
    record {
      now = g.now;
      at = subst (λ k. IsAt k g.now) (sym (short g.now at).same) at;
      same = g.same;
      passed = g.passed;
      ahead = g.ahead;
      held = on g.now rest g.held;
    }

pub goes-of : (kept : Option ChainValue) (entry : ℕ) (P : Position → List (List ℕ) → Type 0) (lines rest : List (List ℕ)) → Going kept entry P lines rest
    → GoesTo kept (Between None) lines rest
goes-of kept entry P lines rest g = record { now = g.now; at = g.at; same = g.same }

-- the same of what is kept after the entry was looked for
pub goes-elsewhere : (kept mid : Option ChainValue) (entry : ℕ) (P : Position → List (List ℕ) → Type 0) (lines rest : List (List ℕ)) (looked : List ℕ)
    → Going kept entry P lines rest → ((p : Position) (more : List ℕ) → IsAt kept p → IsElsewhere kept mid p entry looked more) → GoesTo mid (Between None) lines rest
goes-elsewhere kept mid entry P lines rest looked g other =
    record { now = g.now; at = subst (λ k. IsAt k g.now) (sym (other g.now [] g.at).same) g.at; same = g.same }

-- ---- the entry, the end, and what is wrong

-- the next entry is the one that is looked for
pub looked : (old new : Option ChainValue) (p : Position) (entry : ℕ) (text more : List ℕ) (r : Result (Option EntryReply) CheckFault) → entries (so_far p) + 1 ≡ entry
    → IfOk r (λ x. MatchOption x (BringsNone old new p text more) (λ b. Brings p b.line b.reply (pieces_at 10 (text ++ more))))
    → IfOk r (λ x. MatchOption x (IsElsewhere old new p entry text more) (λ b. IsHere p entry b text more))
looked old new p entry text more (Err f) place h = tt
looked old new p entry text more (Ok None) place h = record { none = λ some here. h.none some; same = h.same }
looked old new p entry text more (Ok (Some b)) place h = record { place = place; brings = h }

pub wrong-at : (kept : Option ChainValue) (text : List ℕ) (r : Result (Option EntryReply) CheckFault)
    → ((p : Position) (more : List ℕ) → IsAt kept p → IfErr r (λ f. f.kind ≢ Memory → checked_from p (pieces_at 10 (text ++ more)) ≡ Err f))
    → ((p : Position) (more : List ℕ) → IsAt kept p → IfErr r (λ f. not_before f.entry (checked_from p (pieces_at 10 (text ++ more))) ≡ true))
    → IfErr r (IsWrongAt kept text)
wrong-at kept text (Ok x) wrong later = tt
wrong-at kept text (Err f) wrong later = record { wrong = wrong; later = later }

found_at : (entry : ℕ) (P : Position → List (List ℕ) → Type 0) (lines rest : List (List ℕ)) (found : EntryReply) (p : Position) → Passed (Between None) p lines rest
    → P p rest → entries (so_far p) + 1 ≡ entry → Brings p found.line found.reply rest → IsFound P entry lines found
found_at entry P lines rest found (Between before) passed held place b = absurd b
found_at entry P lines rest found (Inside ch) passed held place b = record {
  passed = passed.passed;
  rest = b.rest;
  stands = passed.are ∙ ap (λ l. passed.passed ++ l) b.are;
  before = ch;
  leads = passed.leads;
  place = place;
  now = b.now;
  right = b.right;
  brings = b.brings;
  held = subst (P (Inside ch)) b.are held;
}

pub going-found : (kept : Option ChainValue) (entry : ℕ) (P : Position → List (List ℕ) → Type 0) (lines : List (List ℕ)) (looked text more : List ℕ) (found : EntryReply)
    → Going kept entry P lines (pieces_at 10 (text ++ more)) → looked ≡ text → ((p : Position) (more : List ℕ) → IsAt kept p → IsHere p entry found looked more)
    → IsFound P entry lines found
going-found kept entry P lines looked text more found g is here =
    let h : IsHere g.now entry found text more = subst (λ x. IsHere g.now entry found x more) is (here g.now more g.at) in
    found_at entry P lines (pieces_at 10 (text ++ more)) found g.now g.passed g.held h.place h.brings

count_is : (before : Option Chain) (n : ℕ) → counted (Ok before) ≡ Ok n → entries before ≡ n
count_is None n h = cc
count_is (Some ch) n h = cc

pub going-over : (kept : Option ChainValue) (entry n : ℕ) (P : Position → List (List ℕ) → Type 0) (bytes rest left : List ℕ)
    → Going kept entry P (pieces_at 10 bytes) (pieces_at 10 rest) → left ≡ rest → ((p : Position) → IsAt kept p → IsOver kept kept p left) → checked bytes ≡ Ok n
    → HasGone P entry bytes (End n)
going-over kept entry n P bytes rest left g is over right =
    let o = over g.now g.at in
    let none : rest ≡ [] = sym is ∙ o.none in
    let before = so_far g.now in
    let ends : checked_from g.now (pieces_at 10 rest) ≡ Ok before =
    ap (λ q. checked_from q (pieces_at 10 rest)) o.between ∙ ap (λ r. checked_from (Between before) (pieces_at 10 r)) none in
    let many : entries before ≡ n = count_is before n (sym (ap counted (g.same ∙ ends)) ∙ right) in (
      right,
      subst (IsAhead entry) many g.ahead,
      (before, subst (λ q. P q (pieces_at 10 [])) o.between (subst (λ r. P g.now (pieces_at 10 r)) none g.held)),
    )

pub early : (entry n m : ℕ) → m ≡ n + 1 → IsAhead entry n → (entry ≡ 0) ⊎ (m ≤ entry)
early entry n m is (inl none) = inl none
early entry n m is (inr less) = inr (omega (arith, is, less))

pub going-early : (kept : Option ChainValue) (entry n : ℕ) (P : Position → List (List ℕ) → Type 0) (lines rest : List (List ℕ)) → Going kept entry P lines rest
    → ((p : Position) → IsAt kept p → n ≡ entries (so_far p) + 1) → (entry ≡ 0) ⊎ (n ≤ entry)
going-early kept entry n P lines rest g place = early entry (entries (so_far g.now)) n (place g.now g.at) g.ahead

-- ---- the visitor

-- it ended the reading before the next lines, or after them
pub ended-at : {S V : Type 0} (holds : Holds S V) (first : S) (new : V) (after : S) (lines : List (List ℕ)) (p next : Position) (t : Told) (mid rest : List (List ℕ))
    → Tells p t next mid rest → (holds first new after p lines mid) ⊎ (holds first new after next lines rest) → HoldsWithin holds first new after lines p mid
ended-at holds first new after lines p next t mid rest by (inl h) = (p, mid, passed-first p mid, h)
ended-at holds first new after lines p next t mid rest by (inr h) = (next, rest, passed-told p next t mid rest by, h)

module _ {S V : Type 0} (holds : Holds S V) (entry : ℕ) (first : S) (start : V) where
  -- a record is gone over, and what holds of the visitor and its sink holds at the rest of it
  abbrev pub GoingBy : Option ChainValue → V → S → List ℕ → List ℕ → Type 0
  GoingBy kept visitor sink input rest =
      Going kept entry (StillHolds holds first start visitor sink (pieces_at 10 input)) (pieces_at 10 input) (pieces_at 10 rest)

  pub by-first : (kept : Option ChainValue) → kept ≡ None → (input : List ℕ) → GoingBy kept start first input input
  by-first kept none input = going-first kept entry (StillHolds holds first start start first (pieces_at 10 input)) (pieces_at 10 input) none (λ begun. begun)

  pub by-past : (kept mid new : Option ChainValue) (old next : V) (sink after : S) (looked text rest : List ℕ) (t : Told) → looked ≡ text
      → ((p : Position) (more : List ℕ) → IsAt kept p → IsElsewhere kept mid p entry looked more) → HasPassed mid new text rest t
      → HasVisited holds mid old sink t next after → (input more : List ℕ) → GoingBy kept old sink input (text ++ more) → GoingBy new next after input (rest ++ more)
  by-past kept mid new old next sink after looked text rest t is other passed did input more g =
      let lines = pieces_at 10 input in
      going-past kept mid new entry (StillHolds holds first start old sink lines) (StillHolds holds first start next after lines) lines looked text rest more t g is other
      passed (λ p q before behind at held by. λ begun. did first p q lines before behind at (held begun) by)

  pub by-stay : (kept mid new : Option ChainValue) (old next : V) (sink after : S) (looked text : List ℕ)
      → ((p : Position) (more : List ℕ) → IsAt kept p → IsElsewhere kept mid p entry looked more) → ((p : Position) → IsAt mid p → IsShort mid new p text)
      → next ≡ old → after ≡ sink → (input rest : List ℕ) → GoingBy kept old sink input rest → GoingBy new next after input rest
  by-stay kept mid new old next sink after looked text other short same still input rest g =
      let lines = pieces_at 10 input in
      going-stay kept mid new entry (StillHolds holds first start old sink lines) (StillHolds holds first start next after lines) lines (pieces_at 10 rest) looked text g
      other short (λ p more held begun. subst (λ v. holds first v after p lines more) (sym same) (subst (λ s. holds first old s p lines more) (sym still) (held begun)))

  pub by-goes : (kept : Option ChainValue) (visitor : V) (sink : S) (input rest : List ℕ) → GoingBy kept visitor sink input rest
      → GoesTo kept (Between None) (pieces_at 10 input) (pieces_at 10 rest)
  by-goes kept visitor sink input rest g =
      goes-of kept entry (StillHolds holds first start visitor sink (pieces_at 10 input)) (pieces_at 10 input) (pieces_at 10 rest) g

  pub by-elsewhere : (kept mid : Option ChainValue) (visitor : V) (sink : S) (looked : List ℕ)
      → ((p : Position) (more : List ℕ) → IsAt kept p → IsElsewhere kept mid p entry looked more) → (input rest : List ℕ) → GoingBy kept visitor sink input rest
      → GoesTo mid (Between None) (pieces_at 10 input) (pieces_at 10 rest)
  by-elsewhere kept mid visitor sink looked other input rest g =
      goes-elsewhere kept mid entry (StillHolds holds first start visitor sink (pieces_at 10 input)) (pieces_at 10 input) (pieces_at 10 rest) looked g other

  pub by-early : (kept mid : Option ChainValue) (visitor : V) (sink : S) (looked : List ℕ) (n : ℕ)
      → ((p : Position) (more : List ℕ) → IsAt kept p → IsElsewhere kept mid p entry looked more) → ((p : Position) → IsAt mid p → n ≡ entries (so_far p) + 1)
      → (input rest : List ℕ) → GoingBy kept visitor sink input rest → (entry ≡ 0) ⊎ (n ≤ entry)
  by-early kept mid visitor sink looked n other place input rest g =
      early entry (entries (so_far g.now)) n (place g.now (subst (λ k. IsAt k g.now) (sym (other g.now [] g.at).same) g.at)) g.ahead

  -- after an error, what held of them still does
  pub by-held : (kept : Option ChainValue) (visitor : V) (sink : S) (input rest : List ℕ) → GoingBy kept visitor sink input rest
      → StaysWithin holds first start visitor sink (pieces_at 10 input)
  by-held kept visitor sink input rest g = λ begun. (g.now, pieces_at 10 rest, g.passed, g.held begun)

  pub by-stayed : (kept : Option ChainValue) (old next : V) (sink after : S) → next ≡ old → after ≡ sink → (input rest : List ℕ) → GoingBy kept old sink input rest
      → StaysWithin holds first start next after (pieces_at 10 input)
  by-stayed kept old next sink after same still input rest g =
      subst (λ v. StaysWithin holds first start v after (pieces_at 10 input)) (sym same)
      (subst (λ s. StaysWithin holds first start old s (pieces_at 10 input)) (sym still) (by-held kept old sink input rest g))

  pub by-ended : (kept mid : Option ChainValue) (old new : V) (sink after : S) (looked text : List ℕ)
      → ((p : Position) (more : List ℕ) → IsAt kept p → IsElsewhere kept mid p entry looked more) → HasEnded holds mid text old sink new after
      → (input more : List ℕ) → GoingBy kept old sink input (text ++ more) → StaysWithin holds first start new after (pieces_at 10 input)
  by-ended kept mid old new sink after looked text other ended input more g = λ begun.
      let lines = pieces_at 10 input in
      let e = ended first g.now lines more (subst (λ k. IsAt k g.now) (sym (other g.now [] g.at).same) g.at) (g.held begun) in
      (e.0, e.1, passed-then (Between None) g.now e.0 lines (pieces_at 10 (text ++ more)) e.1 g.passed e.2, e.3)
