-- The result of lines, by what the first of them say.
use Rattle.std.proofs.Common.{◌≡◌, ℕ, List, ◌∷◌, Bool, true, false, cond, Option, Some, None, Result, Ok, Err, refl, ap, ap₂, sym, subst, ◌∙◌, bytes_eq, length, option_map}
use Rattle.ll_attr.specs.Words.{pieces_at}
use Rattle.ll_check.proofs.Begun.{begun_parts}
use Rattle.ll_check.specs.Found.{AreKept, ChainValue, IsAt, IsOf, so_far}
use Rattle.ll_check.specs.Joined.{IsBegun, IsJoined}
use Rattle.ll_check.specs.Lines.{IsText}
use Rattle.ll_check.specs.Steps.{IsBegunBy, IsEntry, IsHeader, IsOver, Moves, Tells, in_full}
use Rattle.ll_entry_check.specs.Full.{without_item}
use Rattle.ll_entry_check.specs.declared.full.FullEntry.{FullEntry}
use Rattle.ll_check.specs.declared.told.Told.{Told}
use Rattle.ll_check.specs.declared.told.Told.TheVariants as told
use Rattle.ll_entry.proofs.ChainLemmas.{ended-parts, header-is}
use Rattle.ll_entry.specs.Chain.{Between, Chain, Inside, Position, begun, begun_by, checked_from, entry_at, go_on, joined, text_in, with_line, wrong}
use Rattle.ll_entry.specs.Entries.{entry_in}
use Rattle.ll_entry.specs.Frame.{last_line}
use Rattle.ll_entry.specs.declared.fault.CheckFault.{CheckFault}
use Rattle.ll_entry.specs.declared.fault.CheckKind.{CheckKind}
use Rattle.ll_entry.specs.declared.version.Version.{Version}
use Rattle.ll_settings.specs.Settings.{Configuration}
use Rattle.ll_settings.specs.declared.settings.SettingsFault.{SettingsFault}

-- ---- one line of a chunk

-- the result of a line that isn't the last of its chunk
abbrev after_entry : Chain → List ℕ → Result Chain CheckKind → Result (Option Chain) CheckFault
after_entry ch rest r = go_on (Some ch) r (λ now. checked_from (Inside now) (pieces_at 10 rest))

abbrev line_by : Chain → List ℕ → Bool → Result Chain CheckKind → Result (Option Chain) CheckFault
line_by ch rest last r = cond last (checked_from (Between (Some ch)) (pieces_at 10 rest)) (after_entry ch rest r)

pub line-is : (ch : Chain) (lines : List (List ℕ)) (line rest : List ℕ) (last : Bool) (r : Result Chain CheckKind) → lines ≡ line ∷ pieces_at 10 rest
    → bytes_eq line last_line ≡ last → with_line ch line ≡ r → checked_from (Inside ch) lines ≡ line_by ch rest last r
line-is ch lines line rest last r e end is =
    ap (checked_from (Inside ch)) e
    ∙ ended-parts rest (Some ch) (line_by ch rest (bytes_eq line last_line) (with_line ch line))
    ∙ ap (λ b. line_by ch rest b (with_line ch line)) end
    ∙ ap (line_by ch rest last) is

-- ---- what is said

pub moved : (p next : Position) (t : Told) (lines : List (List ℕ)) (rest : List ℕ) → Tells p t next lines (pieces_at 10 rest)
    → checked_from p lines ≡ checked_from next (pieces_at 10 rest)
moved (Between before) (Inside ch) (told.Begun settings at) lines rest h =
    header-is before lines h.header.first settings.now h.header.place rest (Ok ch) h.header.are h.header.begun
moved (Inside ch) (Inside now) (told.Entry version line entry) lines rest h = line-is ch lines line.now rest false (Ok now) h.are h.other h.joined
moved (Inside ch) (Between before) told.Ended lines rest h =
    line-is ch lines h.line rest true (with_line ch h.line) h.are h.last refl ∙ ap (λ o. checked_from (Between o) (pieces_at 10 rest)) (sym h.same)
moved (Between before) (Between after) (told.Begun settings at) lines rest h = absurd h
moved (Between before) next (told.Entry version line entry) lines rest h = absurd h
moved (Between before) next told.Ended lines rest h = absurd h
moved (Inside ch) next (told.Begun settings at) lines rest h = absurd h
moved (Inside ch) (Between before) (told.Entry version line entry) lines rest h = absurd h
moved (Inside ch) (Inside now) told.Ended lines rest h = absurd h

-- ---- the first three lines

-- the chain that they begin or go on with
pub begun-parts : (before : Option Chain) (kept : Option ChainValue) (v : Version) (s : Result Configuration SettingsFault) (at : ℕ) (settings : List ℕ)
    (lines rest : List (List ℕ)) (r : Result Chain CheckKind) → begun_by before (Some v) s (Some at) ≡ r → IsHeader before r settings lines rest → IsBegun kept r
    → (ch : Chain) × AreKept kept (Some ch) × IsBegunBy before settings at ch lines rest
begun-parts before (Some k) v s at settings lines rest (Ok ch) e h b =
    (ch, b, record { header = h; many = some_same at (length ch.events) (begun_parts before (Some v) s (Some at) ch e).2 })
  where
    some_same : (m n : ℕ) → Some m ≡ Some n → m ≡ n
    some_same m n e = cc
begun-parts before (Some k) v s at settings lines rest (Err kind) e h b = absurd b
begun-parts before None v s at settings lines rest r e h b = absurd b

-- three lines, of which the second is the settings line
pub header-lines : (before : Option Chain) (first settings at line : List ℕ) (rest : List (List ℕ)) (r : Result Chain CheckKind) → line ≡ settings
    → begun before (text_in first) (text_in settings) (text_in at) ≡ r → IsHeader before r line (first ∷ settings ∷ at ∷ rest) rest
header-lines before first settings at line rest r same is = record {
  first = first;
  place = at;
  are = ap (λ l. first ∷ l ∷ at ∷ rest) (sym same);
  begun = ap (λ l. begun before (text_in first) (text_in l) (text_in at)) same ∙ is;
}

pub header-wrong : (before : Option Chain) (settings : List ℕ) (lines : List (List ℕ)) (rest : List ℕ) (r : Result Chain CheckKind) (kind : CheckKind)
    → IsHeader before r settings lines (pieces_at 10 rest) → r ≡ Err kind → checked_from (Between before) lines ≡ wrong before kind
header-wrong before settings lines rest r kind h e =
    header-is before lines h.first settings h.place rest r h.are h.begun ∙ ap (λ r. go_on before r (λ ch. checked_from (Inside ch) (pieces_at 10 rest))) e

-- ---- the line of an entry

joined-of : (k : ChainValue) (r : Result Chain CheckKind) → IsJoined k r → (now : Chain) × (r ≡ Ok now) × IsOf k now
joined-of k (Ok now) j = (now, refl, j)
joined-of k (Err kind) j = absurd j

-- the chain with its event
pub entry-parts : (k : ChainValue) (ch : Chain) (lines rest : List (List ℕ)) (text : List ℕ) (version : Version) (e : FullEntry) → IsText text lines rest
    → version ≡ ch.version → IsJoined k (joined ch (entry_in ch.version ch.settings text))
    → option_map without_item (in_full ch (entry_in ch.version ch.settings text)) ≡ Some e
    → (now : Chain) × IsOf k now × IsEntry ch version text e now lines rest
entry-parts k ch lines rest text version e is of j full =
    let p = joined-of k (joined ch (entry_in ch.version ch.settings text)) j in (
      p.0,
      p.2,
      record {
        are = is.are;
        other = is.other;
        joined = ap (λ o. joined ch (entry_at ch.version ch.settings o)) is.read ∙ p.1;
        format = of;
        told = ap (λ o. option_map without_item (in_full ch (entry_at ch.version ch.settings o))) is.read ∙ full;
      },
    )

-- how the entry of a line isn't right
pub entry-wrong : (ch : Chain) (text : List ℕ) (lines : List (List ℕ)) (rest : List ℕ) (kind : CheckKind) → IsText text lines (pieces_at 10 rest)
    → joined ch (entry_in ch.version ch.settings text) ≡ Err kind → checked_from (Inside ch) lines ≡ wrong (Some ch) kind
entry-wrong ch text lines rest kind is fails =
    line-is ch lines text rest false (Err kind) is.are is.other (ap (λ o. joined ch (entry_at ch.version ch.settings o)) is.read ∙ fails)

-- ---- the same lines

pub moves-in : (kept : Option ChainValue) (p : Position) (t : Told) (lines same rest : List (List ℕ)) → lines ≡ same → Moves kept p t same rest
    → Moves kept p t lines rest
moves-in kept p t lines same rest e m = subst (λ l. Moves kept p t l rest) (sym e) m

pub result-in : (p : Position) (lines same : List (List ℕ)) (r : Result (Option Chain) CheckFault) → lines ≡ same → checked_from p same ≡ r
    → checked_from p lines ≡ r
result-in p lines same r e is = ap (checked_from p) e ∙ is

-- ---- one after another

-- lines have the result that the rest of them has from the position after the first
pub record GoesTo (kept : Option ChainValue) (p : Position) (lines rest : List (List ℕ)) : Type 0 where
  pub now : Position
  pub at : IsAt kept now
  pub same : checked_from p lines ≡ checked_from now rest

pub goes-on : (kept new : Option ChainValue) (p : Position) (lines mid : List (List ℕ)) (rest : List ℕ) (t : Told) → GoesTo kept p lines mid
    → ((q : Position) → IsAt kept q → Moves new q t mid (pieces_at 10 rest)) → GoesTo new p lines (pieces_at 10 rest)
goes-on kept new p lines mid rest t g on =
    let m = on g.now g.at in
    record { now = m.next; at = m.at; same = g.same ∙ moved g.now m.next t mid rest m.by }

-- if no text is left between chunks
pub over-at : (kept new : Option ChainValue) (q : Position) (rest : List ℕ) → IsAt kept q → IsOver kept new q rest
    → IsAt new (Between (so_far q)) × (checked_from q (pieces_at 10 rest) ≡ Ok (so_far q))
over-at kept new q rest at o = (
  subst (λ k. IsAt k (Between (so_far q))) (sym o.same) (subst (IsAt kept) o.between at),
  ap₂ (λ q r. checked_from q (pieces_at 10 r)) o.between o.none,
)
