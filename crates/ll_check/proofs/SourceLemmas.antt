-- A record that is read in pieces: what is known of what is left of it.
use Rattle.std.proofs.Common.{◌≡◌, ◌<◌, ◌≤◌, ◌+◌, ◌^◌, ◌==◌, ℕ, List, [], ◌++◌, Option, Some, None, Result, Err, refl, ap, sym, subst, ◌∙◌, length, arith}
use Rattle.std.proofs.lemmas.List.{append-nil, length-append}
use Rattle.std.proofs.lemmas.List.Splits.{length-slice_split}
use Rattle.std.specs.Io.KnownBytes.{IsAtEnd, Keeps, prepend_known}
use Rattle.ll_attr.specs.Words.{pieces_at}
use Rattle.ll_check.proofs.LaterLemmas.{counted-later}
use Rattle.ll_check.proofs.StepLemmas.{GoesTo}
use Rattle.ll_check.specs.Found.{ChainValue, IsAt}
use Rattle.ll_check.specs.Lines.{IsBehind, lines_at}
use Rattle.ll_check.specs.Passing.{HasPassed, HasStayed, IsWrongAt}
use Rattle.ll_check.specs.Steps.{Moves, Tells}
use Rattle.ll_check.specs.Unread.{IsFaultOf, UnreadValue}
use Rattle.ll_check.specs.declared.told.Told.{Told}
use Rattle.ll_check.specs.declared.told.Told.TheVariants as told
use Rattle.ll_check.specs.declared.source.RecordFault.TheVariants.{Wrong}
use Rattle.ll_entry.specs.Chain.{Between, Inside, Position, checked, checked_from, counted, not_before}
use Rattle.ll_entry.specs.declared.fault.CheckFault.{CheckFault}
use Rattle.ll_entry.specs.declared.fault.CheckKind.TheVariants as kind

-- the bytes are known, and this holds of them
abbrev pub Known : Option (List ℕ) → (List ℕ → Type 0) → Type 0
Known None P = ⊥
Known (Some bytes) P = P bytes

-- what is left of a record that was known at first: `text`, which was read, and then `left`; and how often it was read, and failed to be
pub record Reads (first left : Option (List ℕ)) (text : List ℕ) (reads failures now more failed : ℕ) (P : List ℕ → List ℕ → Type 0) : Type 0 where
  pub known : (input : List ℕ) → first ≡ Some input → Known (prepend_known text left) (P input)
  pub count : now + more ≡ reads + 2 ^ 32
  pub steady : failed ≡ failures

first_known : (left : Option (List ℕ)) (text input : List ℕ) (P : List ℕ → Type 0) → left ≡ Some input → text ≡ [] → P input
    → Known (prepend_known text left) P
first_known None text input P left empty h = cc
first_known (Some bytes) text input P left empty h =
    let is : text ++ bytes ≡ input = ap (λ t. t ++ bytes) empty ∙ cc in
    subst P (sym is) h

pub reads-first : (left : Option (List ℕ)) (text : List ℕ) (reads failures more : ℕ) (P : List ℕ → List ℕ → Type 0) → text ≡ [] → more ≡ 2 ^ 32
    → ((input : List ℕ) → P input input) → Reads left left text reads failures reads more failures P
reads-first left text reads failures more P empty all h = record {
  known = λ input is. first_known left text input (P input) is empty (h input);
  count = omega (arith, all);
  steady = refl;
}

-- what holds of what is left holds of the rest of it
pub known-on : (left : Option (List ℕ)) (text rest : List ℕ) (P Q : List ℕ → Type 0) → ((more : List ℕ) → P (text ++ more) → Q (rest ++ more))
    → Known (prepend_known text left) P → Known (prepend_known rest left) Q
known-on None text rest P Q on h = absurd h
known-on (Some bytes) text rest P Q on h = on bytes h

pub reads-on : (first left : Option (List ℕ)) (text rest : List ℕ) (reads failures now more later failed : ℕ) (P Q : List ℕ → List ℕ → Type 0)
    → Reads first left text reads failures now more failed P → later ≡ more → ((input after : List ℕ) → P input (text ++ after) → Q input (rest ++ after))
    → Reads first left rest reads failures now later failed Q
reads-on first left text rest reads failures now more later failed P Q r same on = record {
  known = λ input is. known-on left text rest (P input) (Q input) (on input) (r.known input is);
  count = omega (arith, same, r.count);
  steady = r.steady;
}

known_keeps : (a b : Option (List ℕ)) (P Q : List ℕ → Type 0) → Keeps a b → ((rest : List ℕ) → P rest → Q rest) → Known a P → Known b Q
known_keeps None b P Q keeps on h = absurd h
known_keeps (Some xs) None P Q keeps on h = absurd keeps
known_keeps (Some xs) (Some ys) P Q keeps on h = subst Q (sym keeps) (on xs h)

-- one more read
pub reads-more : (first left after : Option (List ℕ)) (text longer : List ℕ) (reads failures now more then later failed fails : ℕ) (P Q : List ℕ → List ℕ → Type 0)
    → Reads first left text reads failures now more failed P → Keeps (prepend_known text left) (prepend_known longer after) → later + 1 ≡ more → then ≡ now + 1
    → fails ≡ failed → ((input rest : List ℕ) → P input rest → Q input rest) → Reads first after longer reads failures then later fails Q
reads-more first left after text longer reads failures now more then later failed fails P Q r keeps fewer one steady on = record {
  known = λ input is. known_keeps (prepend_known text left) (prepend_known longer after) (P input) (Q input) keeps (on input) (r.known input is);
  count = omega (arith, fewer, one, r.count);
  steady = steady ∙ r.steady;
}

-- at the end, what was read is all that is left
pub known-end : (left : Option (List ℕ)) (text : List ℕ) (P : List ℕ → Type 0) → IsAtEnd left → Known (prepend_known text left) P → P text
known-end None text P end h = absurd h
known-end (Some bytes) text P end h = subst P (ap (λ b. text ++ b) end ∙ append-nil text) h

-- what is said of what was read, whatever follows it, is said of what is left
pub known-so : (left : Option (List ℕ)) (text : List ℕ) (P : List ℕ → Type 0) (X : Type 0) → ((more : List ℕ) → P (text ++ more) → X)
    → Known (prepend_known text left) P → X
known-so None text P X on h = absurd h
known-so (Some bytes) text P X on h = on bytes h

-- ---- what was gone over

pub behind-shorter : (rest text : List ℕ) → IsBehind rest text → length rest < length text
behind-shorter rest text b = omega (arith, b.some, ap length b.are, length-append b.front rest)

pub has-passed : (old new : Option ChainValue) (text at rest left : List ℕ) (t : Told) → at ≡ text → left ≡ rest → IsBehind rest at
    → ((p : Position) (more : List ℕ) → IsAt old p → Moves new p t (pieces_at 10 (at ++ more)) (pieces_at 10 (rest ++ more))) → HasPassed old new text left t
has-passed old new text at rest left t from to behind on = record {
  moves = λ p more is.
      subst (λ x. Moves new p t (pieces_at 10 (text ++ more)) (pieces_at 10 (x ++ more))) (sym to)
      (subst (λ x. Moves new p t (pieces_at 10 (x ++ more)) (pieces_at 10 (rest ++ more))) from (on p more is));
  shorter = omega (arith, ap length from, ap length to, behind-shorter rest at behind);
}

fewer : (p next : Position) (t : Told) (lines rest : List (List ℕ)) → Tells p t next lines rest → length rest < length lines
fewer (Between before) (Inside ch) (told.Begun settings at) lines rest h = omega (arith, ap (λ l. length l) h.header.are)
fewer (Inside ch) (Inside now) (told.Entry version line entry) lines rest h = omega (arith, ap (λ l. length l) h.are)
fewer (Inside ch) (Between before) told.Ended lines rest h = omega (arith, ap (λ l. length l) h.are)
fewer (Between before) (Between after) (told.Begun settings at) lines rest h = absurd h
fewer (Between before) next (told.Entry version line entry) lines rest h = absurd h
fewer (Between before) next told.Ended lines rest h = absurd h
fewer (Inside ch) next (told.Begun settings at) lines rest h = absurd h
fewer (Inside ch) (Between before) (told.Entry version line entry) lines rest h = absurd h
fewer (Inside ch) (Inside now) told.Ended lines rest h = absurd h

-- the lines that were gone over end in the text
pub full-of : (old new : Option ChainValue) (text rest : List ℕ) (t : Told) (p : Position) → IsAt old p → HasPassed old new text rest t
    → 1 < length (pieces_at 10 text)
full-of old new text rest t p at h =
    let m = h.moves p [] at in
    let less = fewer p m.next t (pieces_at 10 (text ++ [])) (pieces_at 10 (rest ++ [])) m.by in
    let some = length-slice_split (λ b. b == 10) (rest ++ []) in
    let same : length (pieces_at 10 (text ++ [])) ≡ length (pieces_at 10 text) = ap (λ x. length (pieces_at 10 x)) (append-nil text) in
    omega (arith, less, some, same)

-- ---- the reading of a record

-- nothing was gone over, and one more read was made
pub stayed-read : (first left after : Option (List ℕ)) (reads failures now then failed fails : ℕ) (kept new : Option ChainValue) (old mid longer : UnreadValue)
    (P Q : List ℕ → List ℕ → Type 0) → Reads first left old.text reads failures now old.reads failed P → HasStayed kept new old mid
    → Keeps (prepend_known mid.text left) (prepend_known longer.text after) → longer.reads + 1 ≡ mid.reads → then ≡ now + 1 → fails ≡ failed
    → ((input rest : List ℕ) → P input rest → Q input rest) → Reads first after longer.text reads failures then longer.reads fails Q
stayed-read first left after reads failures now then failed fails kept new old mid longer P Q r stayed keeps fewer one steady on =
    let from : Keeps (prepend_known old.text left) (prepend_known longer.text after) =
    subst (λ (u : UnreadValue). Keeps (prepend_known u.text left) (prepend_known longer.text after)) stayed.same keeps in
    reads-more first left after old.text longer.text reads failures now old.reads then longer.reads failed fails P Q r from
    (fewer ∙ ap (λ (u : UnreadValue). u.reads) stayed.same) one steady on

-- what is found wrong with the text that was read is wrong with the record
pub fault-of : (kept : Option ChainValue) (bytes text more : List ℕ) (f : CheckFault) → GoesTo kept (Between None) (pieces_at 10 bytes) (pieces_at 10 (text ++ more))
    → IsWrongAt kept text f → IsFaultOf bytes (Wrong f)
fault-of kept bytes text more f g w = (
  λ kind. ap counted (g.same ∙ w.wrong g.now more g.at kind),
  λ kind. ap (not_before f.entry) g.same ∙ w.later g.now more g.at,
)

-- the result of a record of which only `rest` is left
pub stayed-end : (kept new : Option ChainValue) (old mid : UnreadValue) (bytes rest at : List ℕ) (r : Result ℕ CheckFault)
    → GoesTo kept (Between None) (pieces_at 10 bytes) (pieces_at 10 rest) → HasStayed kept new old mid → rest ≡ mid.text → at ≡ rest
    → ((q : Position) → IsAt new q → length (pieces_at 10 at) ≤ lines_at q → r ≡ counted (checked_from q (pieces_at 10 at))) → checked bytes ≡ r
stayed-end kept new old mid bytes rest at r g stayed is same end =
    let s = stayed.short g.now g.at in
    let text : old.text ≡ at = sym (ap (λ (u : UnreadValue). u.text) stayed.same) ∙ sym is ∙ sym same in
    let result = end g.now (subst (λ k. IsAt k g.now) (sym s.same) g.at) (subst (λ x. length (pieces_at 10 x) ≤ lines_at g.now) text s.short) in
    ap counted g.same ∙ ap (λ x. counted (checked_from g.now (pieces_at 10 x))) (sym same) ∙ sym result

pub end-fault : (bytes : List ℕ) (f : CheckFault) → checked bytes ≡ Err f → IsFaultOf bytes (Wrong f)
end-fault bytes f e = (λ kind. e, counted-later (λ f. f.kind ≡ kind.Memory) (checked_from (Between None) (pieces_at 10 bytes)) (Err f) e)
