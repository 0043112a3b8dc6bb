-- The chains of a record, by what its first lines say.
use Rattle.std.proofs.Common.{◌≡◌, ◌≤◌, ◌<◌, ◌^◌, ◌+◌, ◌-◌, ℕ, zero, suc, List, [], ◌∷◌, ◌++◌, cond, length, length-append, map, Option, Some, None, Result, Ok, Err, OnErr, OnOk, false, is_ok, true, true≢false, refl, ap, sym, subst, ◌∙◌, append_assoc, option_map, arith}
use Rattle.std.proofs.lemmas.List.{append-nil}
use Rattle.ll_attr.specs.Words.{pieces_at}
use Rattle.ll_check.proofs.Begun.{entry_line}
use Rattle.ll_check.proofs.GoingLemmas.{one_more}
use Rattle.ll_check.proofs.LaterLemmas.{Keeps, keeps_begun}
use Rattle.ll_check.specs.Found.{so_far}
use Rattle.ll_check.specs.Steps.{Tells, full_entry}
use Rattle.ll_check.specs.declared.told.Told.{Told}
use Rattle.ll_check.specs.declared.told.Told.TheVariants as told
use Rattle.ll_entry_check.specs.Full.{without_item}
use Rattle.ll_entry_check.specs.declared.full.FullEntry.{FullEntry}
use Rattle.ll_entry.specs.Chain.{Between, Chain, Inside, Position, entries, text_in, with_line}
use Rattle.ll_entry.specs.declared.fault.CheckKind.{CheckKind}
use Rattle.ll_explain.specs.Chains.{Coming, after_chunk, after_entry, chains_in, coming, coming_by, nothing}
use Rattle.ll_explain.specs.Counting.{AreCounted, joined, last_chain, with_entry, with_told}
use Rattle.ll_explain.specs.Summary.{summary_of}
use Rattle.ll_explain.specs.declared.summary.Summary.{Summary}

-- ---- chains so far, and what comes after them

joined-entry : (cs : List (List FullEntry)) (e : FullEntry) (later : Coming) → joined cs (after_entry (Some e) later) ≡ joined (with_entry cs e) later
joined-entry [] e later = refl
joined-entry (es ∷ []) e later = ap (λ l. l ∷ later.chains) (sym (append_assoc es (e ∷ []) later.entries))
joined-entry (es ∷ fs ∷ []) e later = ap (λ l. es ∷ l) (joined-entry (fs ∷ []) e later)
joined-entry (es ∷ fs ∷ gs ∷ more) e later = ap (λ l. es ∷ l) (joined-entry (fs ∷ gs ∷ more) e later)

joined-chain : (cs : List (List FullEntry)) (later : Coming) → joined cs (after_chunk 0 later) ≡ joined (cs ++ [] ∷ []) later
joined-chain [] later = refl
joined-chain (es ∷ []) later = ap (λ l. l ∷ later.entries ∷ later.chains) (append-nil es)
joined-chain (es ∷ fs ∷ more) later = ap (λ l. es ∷ l) (joined-chain (fs ∷ more) later)

joined-nothing : (cs : List (List FullEntry)) → joined cs nothing ≡ cs
joined-nothing [] = refl
joined-nothing (es ∷ []) = ap (λ l. l ∷ []) (append-nil es)
joined-nothing (es ∷ fs ∷ more) = ap (λ l. es ∷ l) (joined-nothing (fs ∷ more))

-- what the first lines say is a part of it
tells-on : (p next : Position) (t : Told) (lines rest : List (List ℕ)) (cs : List (List FullEntry)) → Tells p t next lines rest
    → joined cs (coming p lines) ≡ joined (with_told cs t) (coming next rest)
tells-on (Between before) (Inside ch) (told.Begun settings zero) lines rest cs h =
    ap (λ ls. joined cs (coming (Between before) ls)) h.header.are
    ∙ ap (λ r. joined cs (coming_by r (λ ch. after_chunk (length ch.events) (coming (Inside ch) rest)))) h.header.begun
    ∙ ap (λ n. joined cs (after_chunk n (coming (Inside ch) rest))) (sym h.many)
    ∙ joined-chain cs (coming (Inside ch) rest)
tells-on (Between before) (Inside ch) (told.Begun settings (suc at)) lines rest cs h =
    ap (λ ls. joined cs (coming (Between before) ls)) h.header.are
    ∙ ap (λ r. joined cs (coming_by r (λ ch. after_chunk (length ch.events) (coming (Inside ch) rest)))) h.header.begun
    ∙ ap (λ n. joined cs (after_chunk n (coming (Inside ch) rest))) (sym h.many)
tells-on (Inside ch) (Inside now) (told.Entry version line entry) lines rest cs h =
    let from : Result Chain CheckKind → Coming = λ r. coming_by r (λ now. coming (Inside now) rest) in
    ap (λ ls. joined cs (coming (Inside ch) ls)) h.are
    ∙ ap (λ b. joined cs (cond b (coming (Between (Some ch)) rest) (after_entry (option_map without_item (full_entry ch line.now)) (from (with_line ch line.now))))) h.other
    ∙ ap (λ o. joined cs (after_entry o (from (with_line ch line.now)))) h.told
    ∙ ap (λ r. joined cs (after_entry (Some entry) (from r))) h.joined
    ∙ joined-entry cs entry (coming (Inside now) rest)
tells-on (Inside ch) (Between before) told.Ended lines rest cs h =
    let other : Coming = after_entry (option_map without_item (full_entry ch h.line)) (coming_by (with_line ch h.line) (λ now. coming (Inside now) rest)) in
    ap (λ ls. joined cs (coming (Inside ch) ls)) h.are
    ∙ ap (λ b. joined cs (cond b (coming (Between (Some ch)) rest) other)) h.last
    ∙ ap (λ o. joined cs (coming (Between o) rest)) (sym h.same)
tells-on (Between before) (Between after) (told.Begun settings at) lines rest cs h = absurd h
tells-on (Between before) next (told.Entry version line entry) lines rest cs h = absurd h
tells-on (Between before) next told.Ended lines rest cs h = absurd h
tells-on (Inside ch) next (told.Begun settings at) lines rest cs h = absurd h
tells-on (Inside ch) (Between before) (told.Entry version line entry) lines rest cs h = absurd h
tells-on (Inside ch) (Inside now) told.Ended lines rest cs h = absurd h

-- ---- how long the last chain is

last-entry : (cs : List (List FullEntry)) (e : FullEntry) → length (last_chain (with_entry cs e)) ≤ length (last_chain cs) + 1
last-entry [] e = omega arith
last-entry (es ∷ []) e = omega (arith, length-append es (e ∷ []))
last-entry (es ∷ fs ∷ []) e = last-entry (fs ∷ []) e
last-entry (es ∷ fs ∷ gs ∷ more) e = last-entry (fs ∷ gs ∷ more) e

last-new : (cs : List (List FullEntry)) → last_chain (cs ++ [] ∷ []) ≡ []
last-new [] = refl
last-new (es ∷ []) = refl
last-new (es ∷ fs ∷ more) = last-new (fs ∷ more)

-- the last chain is no longer than all chains so far, and these are no fewer after more lines
few-on : (p next : Position) (t : Told) (lines rest : List (List ℕ)) (cs : List (List FullEntry)) → Tells p t next lines rest
    → length (last_chain cs) ≤ entries (so_far p) → (length (last_chain (with_told cs t)) ≤ entries (so_far next)) × (entries (so_far p) ≤ entries (so_far next))
few-on (Between before) (Inside ch) (told.Begun settings zero) lines rest cs h few =
    let keeps : Keeps before (Ok ch) =
    subst (Keeps before) h.header.begun (keeps_begun before (text_in h.header.first) (text_in settings.now) (text_in h.header.place)) in
    let new : length (last_chain (cs ++ [] ∷ [])) ≡ 0 = ap length (last-new cs) in (omega (arith, new), omega (arith, keeps))
few-on (Between before) (Inside ch) (told.Begun settings (suc at)) lines rest cs h few =
    let keeps : Keeps before (Ok ch) =
    subst (Keeps before) h.header.begun (keeps_begun before (text_in h.header.first) (text_in settings.now) (text_in h.header.place)) in
    (omega (arith, keeps, few), omega (arith, keeps))
few-on (Inside ch) (Inside now) (told.Entry version line entry) lines rest cs h few =
    let x = entry_line ch now line.now h.joined in
    let more = one_more ch now x.event x.next in
    let last = last-entry cs entry in (omega (arith, more, last, few), omega (arith, more))
few-on (Inside ch) (Between before) told.Ended lines rest cs h few =
    let same : entries (Some ch) ≡ entries before = ap entries (sym h.same) in (omega (arith, same, few), omega (arith, same))
few-on (Between before) (Between after) (told.Begun settings at) lines rest cs h few = absurd h
few-on (Between before) next (told.Entry version line entry) lines rest cs h few = absurd h
few-on (Between before) next told.Ended lines rest cs h few = absurd h
few-on (Inside ch) next (told.Begun settings at) lines rest cs h few = absurd h
few-on (Inside ch) (Between before) (told.Entry version line entry) lines rest cs h few = absurd h
few-on (Inside ch) (Inside now) told.Ended lines rest cs h few = absurd h

-- ---- one step after another

-- nothing was read yet
pub counted-first : (summaries : List Summary) (lines : List (List ℕ)) → summaries ≡ [] → AreCounted summaries (Between None) lines lines
counted-first summaries lines empty = record { chains = []; few = omega arith; told = refl; are = empty }

-- the next lines were counted
pub counted-next : (summaries more : List Summary) (p next : Position) (t : Told) (lines mid rest : List (List ℕ)) → AreCounted summaries p lines mid
    → Tells p t next mid rest → entries (so_far p) ≤ 2 ^ 63
    → ((before : List (List FullEntry)) → length (last_chain before) < 2 ^ 64 - 1 → summaries ≡ map summary_of before → more ≡ map summary_of (with_told before t))
    → AreCounted more next lines rest
counted-next summaries more p next t lines mid rest c by limit counted = record {
  chains = with_told c.chains t;
  few = (few-on p next t mid rest c.chains by c.few).0;
  told = c.told ∙ tells-on p next t mid rest c.chains by;
  are = counted c.chains (omega (arith, c.few, limit)) c.are;
}

-- no text is left: the chains so far are all
pub counted-all : (summaries : List Summary) (before : Option Chain) (bytes : List ℕ) → AreCounted summaries (Between before) (pieces_at 10 bytes) (pieces_at 10 [])
    → summaries ≡ map summary_of (chains_in bytes)
counted-all summaries before bytes c = c.are ∙ ap (map summary_of) (sym (c.told ∙ joined-nothing c.chains))

pub ok-on : {T E : Type 0} (r : Result T E) (P : Type 0) → is_ok r ≡ true → OnOk r P → P
ok-on (Ok v) P fine h = h
ok-on (Err f) P fine h = absurd (true≢false (sym fine))

pub err-on : {T E : Type 0} (r : Result T E) (P : Type 0) → is_ok r ≡ false → OnErr r P → P
err-on (Ok v) P fails h = absurd (true≢false fails)
err-on (Err f) P fails h = h
