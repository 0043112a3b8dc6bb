-- One line after another: a line that has its end is cut off, and the check goes on after it.
use Rattle.std.proofs.Common.{◌≡◌, ℕ, ◌==◌, List, [], ◌∷◌, ◌++◌, Bool, true, false, cond, Option, Some, None, Result, Ok, refl, ap, ◌∙◌, append_assoc, bytes_eq, arith}
use Rattle.std.proofs.lemmas.Bool.{and_parts}
use Rattle.std.proofs.lemmas.Bool.Decides.{nat_tests}
use Rattle.std.proofs.lemmas.List.Elements.{All-from_recursion}
use Rattle.std.proofs.lemmas.List.Splits.{slice_split_at}
use Rattle.std.specs.List.{AllByRecursion, list_all}
use Rattle.std.specs.Str.{is_utf8}
use Rattle.ll_attr.specs.Words.{pieces_at}
use Rattle.ll_entry.proofs.ChainLemmas.{ended-parts}
use Rattle.ll_entry.specs.Blank.{blank_entry}
use Rattle.ll_entry.specs.Chain.{Between, Chain, Inside, checked_from, entry_at, go_on, joined, joined_by, with_line}
use Rattle.ll_entry.specs.Entered.{event_of, fault_in}
use Rattle.ll_entry.specs.declared.fault.CheckFault.{CheckFault}
use Rattle.ll_entry.specs.Entries.{entry_in}
use Rattle.ll_entry.specs.Lines.{entry_line}
use Rattle.ll_entry.specs.Frame.{last_line}
use Rattle.ll_entry.specs.declared.entry.Recorded.{Recorded}
use Rattle.ll_format.specs.Words.{is_line_byte, is_one_line}
use Rattle.ll_entry.specs.Leads.{EntryNextLaw, NextLaw, chain_of, with_end}
use Rattle.ll_entry.proofs.EntryLines.{read_again}

-- ---- where a line ends

not_feed : (b : ℕ) → is_line_byte b ≡ true → (b == 10) ≡ false
not_feed b h = grind (arith, nat_tests)

no_feeds : (line : List ℕ) → is_one_line line ≡ true → AllByRecursion (λ b. (b == 10) ≡ false) line
no_feeds [] h = tt
no_feeds (b ∷ bs) h =
    let p = and_parts (is_line_byte b) (list_all is_line_byte bs) h in (not_feed b p.0, no_feeds bs p.1)

pub cut-line : (line rest : List ℕ) → is_one_line line ≡ true → pieces_at 10 (line ++ 10 ∷ rest) ≡ line ∷ pieces_at 10 rest
cut-line line rest h = slice_split_at (λ b. b == 10) line 10 rest (All-from_recursion (λ b. (b == 10) ≡ false) line (no_feeds line h)) refl

-- ---- one more line

-- the result of a chunk with one more line, whether that is its last one or not
abbrev line_of : Chain → List ℕ → List ℕ → Bool → Result (Option Chain) CheckFault
line_of ch line rest last =
    cond last (checked_from (Between (Some ch)) (pieces_at 10 rest)) (go_on (Some ch) (with_line ch line) (λ now. checked_from (Inside now) (pieces_at 10 rest)))

pub one-line : (ch : Chain) (line rest : List ℕ) (last : Bool) → is_one_line line ≡ true → bytes_eq line last_line ≡ last
    → checked_from (Inside ch) (pieces_at 10 (line ++ 10 ∷ rest)) ≡ line_of ch line rest last
one-line ch line rest last h e =
    ap (checked_from (Inside ch)) (cut-line line rest h)
    ∙ ended-parts rest (Some ch) (line_of ch line rest (bytes_eq line last_line))
    ∙ ap (line_of ch line rest) e

pub next : NextLaw
next c before after more lines line led one utf8 other right earlier rest =
    ap (λ t. checked_from (Inside (chain_of c earlier before)) (pieces_at 10 t)) (append_assoc lines (with_end line) rest)
    ∙ led earlier (with_end line ++ rest)
    ∙ ap (λ t. checked_from (Inside (chain_of c earlier after)) (pieces_at 10 t)) (append_assoc line (10 ∷ []) rest)
    ∙ one-line (chain_of c earlier after) line rest false one other
    ∙ ap (λ r. go_on (Some (chain_of c earlier after)) r (λ now. checked_from (Inside now) (pieces_at 10 rest))) (right earlier)

-- ---- one more entry

-- the line of an entry that is right leads to the events with its own
pub joined-right : (ch : Chain) (line : List ℕ) (entry : Recorded) → is_utf8 line ≡ true → entry_in ch.version ch.settings line ≡ Ok entry
    → fault_in ch.version ch.settings ch.events entry ≡ None → with_line ch line ≡ Ok (record ch { events = ch.events ++ event_of entry ∷ [] })
joined-right ch line entry utf8 read none =
    ap (λ b. joined ch (entry_at ch.version ch.settings (cond b (Some line) None))) utf8
    ∙ ap (joined ch) read
    ∙ ap (λ fault. joined_by fault ch (event_of entry)) none

pub entry-next : EntryNextLaw
entry-next c before after lines entry within spelled utf8 none led =
    let l = read_again c entry within spelled in
    next c before after (after ++ event_of (blank_entry entry) ∷ []) lines (entry_line c entry) led l.1 utf8 l.2
    (λ earlier. joined-right (chain_of c earlier after) (entry_line c entry) (blank_entry entry) utf8 l.0 none)
