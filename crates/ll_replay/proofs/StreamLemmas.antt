-- What a fault at a line says of the script, and what a stream one byte on stands for.
use Rattle.std.proofs.Common.{◌≡◌, ◌≢◌, ℕ, ◌+◌, ◌==◌, ◌<◌, ◌≤◌, List, [], ◌∷◌, ◌++◌, true, false, Option, Some, Result, Ok, Err, IfErr, OnOk, OnErr, refl, ap, ap₂, ◌∙◌, sym, subst, length, map, append_assoc, append-nil, length-append, fold, arith}
use Rattle.std.proofs.lemmas.Bool.Decides.{nat_tests}
use Rattle.std.proofs.lemmas.Grind.{fold-append}
use Rattle.std.proofs.lemmas.List.{map-append}
use Rattle.std.specs.Io.KnownBytes.{Appends}
use Rattle.std.specs.Str.Lines.{lines, strip_carriage_return}
use Rattle.ll_replay.specs.declared.outcome.RunFault.{RunFault}
use Rattle.ll_replay.specs.declared.outcome.RunFault.TheVariants as fault
use Rattle.ll_replay.specs.declared.outcome.RunSummary.{RunSummary}
use Rattle.ll_replay.specs.Cuts.{IsCutAt, IsCutBetween, StandsFor}
use Rattle.ll_replay.specs.Kept.{Kept, Stands}
use Rattle.ll_replay.specs.Stream.{AreLines, EndsBy, IsBegun, IsWhole, StopsForMemory, come_to, ended_lines, open_line, text_of}
use Rattle.ll_replay.specs.Script.{Script, Ending, BadLine, LineTooLong, Lot, Marked, line, start, summary_of, unmarked}
use Rattle.ll_replay.proofs.LineLemmas.{IsNext, at_lf, at_other, lines-all_ended, lines-last_open, next-at_lf, next_is_long}
use Rattle.ll_replay.proofs.ScriptLaws.{line-ended, line-text, line-too-long}
use Rattle.ll_device.proofs.WriteLemmas.{AppendsPrefix-longer}

fold-ended : (w : Script) (ls : List Marked) (e : Ending) → w.ending ≡ Some e → fold line w ls ≡ w
fold-ended w [] e h = refl
fold-ended w (l ∷ ls) e h = ap (λ v. fold line v ls) (line-ended w l e h) ∙ fold-ended w ls e h

fold-text : (w : Script) (ls : List Marked) → (more : List ℕ) × ((fold line w ls).text ≡ w.text ++ more)
fold-text w [] = ([], sym (append-nil w.text))
fold-text w (l ∷ ls) =
    let p = line-text w l in
    let q = fold-text (line w l) ls in
    (p.0 ++ q.0, q.1 ∙ ap (λ t. t ++ q.0) p.1 ∙ append_assoc w.text p.0 q.0)

unmarked-texts : (list : List (List ℕ)) → map text_of (map unmarked list) ≡ list
unmarked-texts [] = refl
unmarked-texts (text ∷ list) = ap (λ more. text ∷ more) (unmarked-texts list)

-- the lines of a script: those before `l`, `l`, and those after it, with memory for everything
abbrev from_line : List Marked → Marked → List (List ℕ) → List Marked
from_line before l later = before ++ l ∷ map unmarked later

from_line-are : (input : List ℕ) (before : List Marked) (l : Marked) (n : IsNext input (map text_of before) l.text) → AreLines input (from_line before l n.0)
from_line-are input before l n =
    map-append text_of before (l ∷ map unmarked n.0) ∙ ap (λ more. map text_of before ++ l.text ∷ more) (unmarked-texts n.0) ∙ sym n.1

from_line-comes_to : (before : List Marked) (l : Marked) (later : List (List ℕ))
    → come_to (from_line before l later) ≡ fold line (line (come_to before) l) (map unmarked later)
from_line-comes_to before l later = fold-append line start before (l ∷ map unmarked later)

from_line-ended : (before : List Marked) (l : Marked) (later : List (List ℕ)) (e : Ending) → (line (come_to before) l).ending ≡ Some e
    → come_to (from_line before l later) ≡ line (come_to before) l
from_line-ended before l later e h = from_line-comes_to before l later ∙ fold-ended (line (come_to before) l) (map unmarked later) e h

from_line-text : (before : List Marked) (l : Marked) (later : List (List ℕ))
    → (more : List ℕ) × ((come_to (from_line before l later)).text ≡ (line (come_to before) l).text ++ more)
from_line-text before l later =
    let t = fold-text (line (come_to before) l) (map unmarked later) in
    (t.0, ap (λ (w : Script). w.text) (from_line-comes_to before l later) ∙ t.1)

-- a line that ends a script
EndsBy-line : (e : Ending) (base written : Option (List ℕ)) (input : List ℕ) (before : List Marked) (l : Marked) → IsNext input (map text_of before) l.text
    → (line (come_to before) l).ending ≡ Some e → Appends base written (line (come_to before) l).text → EndsBy e base written input
EndsBy-line e base written input before l n ends wrote =
    let is = from_line-ended before l n.0 e ends in
    (from_line before l n.0, from_line-are input before l n, ap (λ (w : Script). w.ending) is ∙ ends, subst (λ (w : Script). Appends base written w.text) (sym is) wrote)

-- a fault at a line is one of the script
pub IsCutAt-line : (f : RunFault) (base written : Option (List ℕ)) (input : List ℕ) (before : List Marked) (l : Marked) → IsNext input (map text_of before) l.text
    → IsCutBetween base written (come_to before) (line (come_to before) l) f → IsCutAt base written input f
IsCutAt-line fault.Read base written input before l n c = c
IsCutAt-line fault.Write base written input before l n c =
    let whole = from_line before l n.0 in
    let t = from_line-text before l n.0 in
    (whole, from_line-are input before l n, AppendsPrefix-longer base written (line (come_to before) l).text t.0 (come_to whole).text t.1 c)
IsCutAt-line (fault.BadLine m) base written input before l n c = EndsBy-line (BadLine m) base written input before l n c.0 c.1
IsCutAt-line (fault.LineTooLong m) base written input before l n c = EndsBy-line (LineTooLong m) base written input before l n c.0 c.1
IsCutAt-line fault.Endless base written input before l n c = c
IsCutAt-line fault.Memory base written input before l n c = (before, l, n.0, n.1, c)

-- if a run stops for memory, a prefix of the script's text was written
pub StopsForMemory-begun : (base written : Option (List ℕ)) (input : List ℕ) → StopsForMemory base written input → IsBegun base written input
StopsForMemory-begun base written input s =
    let before = come_to s.0 in
    let whole = from_line s.0 s.1 s.2 in
    let t = from_line-text s.0 s.1 s.2 in
    let stops = s.4 in (
      whole,
      from_line-are input s.0 s.1 (s.2, s.3),
      AppendsPrefix-longer base written (line before s.1).text t.0 (come_to whole).text t.1
          (before.text ++ stops.0, stops.1, stops.2 ∙ sym (append_assoc before.text stops.0 stops.1), stops.3),
    )

-- a byte that ends no line joins the open line
pub byte-kept : (r : Result Unit RunFault) (held new : List ℕ) (kept kept' : Kept) (written : Option (List ℕ)) (b : ℕ) → b ≢ 10
    → OnOk r (new ≡ held ++ b ∷ []) → OnOk r (length held ≤ 65536) → OnOk r (kept' ≡ kept)
    → OnOk r ((bytes : List ℕ) (base : Option (List ℕ)) → StandsFor held kept base written bytes → StandsFor new kept' base written (bytes ++ b ∷ []))
byte-kept (Err f) held new kept kept' written b h joins short same = tt
byte-kept (Ok u) held new kept kept' written b h joins short same = λ bytes base s.
    let p = at_other bytes b h in record {
      holds = joins ∙ ap (λ l. l ++ b ∷ []) s.holds ∙ sym p.1;
      fits = rw (joins, length-append) (omega arith);
      list = s.list;
      lines = s.lines ∙ sym p.0;
      stands = subst (λ (k : Kept). Stands k base written (come_to s.list)) (sym same) s.stands;
    }

-- one that finds no room leaves a line that is too long whatever follows
pub byte-full : (r : Result Unit RunFault) (held : List ℕ) (kept : Kept) (written : Option (List ℕ)) (b : ℕ) → b ≢ 10
    → OnErr r (length held ≡ 65537) → IfErr r (λ f. f ≡ fault.LineTooLong (kept.lines + 1))
    → IfErr r (λ f. (bytes : List ℕ) (base : Option (List ℕ)) → StandsFor held kept base written bytes → (more : List ℕ) → IsCutAt base written (bytes ++ b ∷ more) f)
byte-full (Ok u) held kept written b h full is = tt
byte-full (Err f) held kept written b h full is = λ bytes base s more.
    let p = at_other bytes b h in
    let long : 65536 + 1 < length (open_line (bytes ++ b ∷ [])) = rw (p.1, ← s.holds, length-append) (omega arith) in
    let n = next_is_long 65536 (bytes ++ b ∷ []) more long in
    let next : IsNext (bytes ++ b ∷ more) (ended_lines bytes) n.0 =
    (n.1.0, ap lines (sym (append_assoc bytes (b ∷ []) more)) ∙ n.1.1 ∙ ap (λ ls. ls ++ n.0 ∷ n.1.0) p.0) in
    let ends = line-too-long (come_to s.list) (unmarked n.0) s.stands.goes_on n.2 in
    subst (IsCutAt base written (bytes ++ b ∷ more)) (sym is)
    (IsCutAt-line (fault.LineTooLong (kept.lines + 1)) base written (bytes ++ b ∷ more) s.list (unmarked n.0)
    (subst (λ before. IsNext (bytes ++ b ∷ more) before n.0) (sym s.lines) next)
    (ends.0 ∙ ap (λ (k : Kept). Some (LineTooLong (k.lines + 1))) (sym s.stands.keeps.stands), subst (Appends base written) (sym ends.1) s.stands.wrote))

-- with one more line of this text a driver stands
abbrev pub IsTaken : Kept → (base after : Option (List ℕ)) → Script → List ℕ → Type 0
IsTaken kept' base after w text = (lots : List Lot) × Stands kept' base after (line w (record { text = text; lots = lots }))

-- a fault on the way there
abbrev pub IsTakenCut : (base after : Option (List ℕ)) → Script → List ℕ → RunFault → Type 0
IsTakenCut base after w text f = (lots : List Lot) × IsCutBetween base after w (line w (record { text = text; lots = lots })) f

-- an LF makes a line of the open one
pub lf-taken : (held text : List ℕ) (kept kept' : Kept) (base written after : Option (List ℕ)) (bytes : List ℕ) (b : ℕ) → b ≡ 10 → text ≡ strip_carriage_return held
    → (s : StandsFor held kept base written bytes) → IsTaken kept' base after (come_to s.list) text → StandsFor [] kept' base after (bytes ++ b ∷ [])
lf-taken held text kept kept' base written after bytes b h t s next =
    let p = at_lf bytes b h in
    let l : Marked = record { text = text; lots = next.0 } in record {
      holds = sym p.1;
      fits = omega arith;
      list = s.list ++ l ∷ [];
      lines =
          map-append text_of s.list (l ∷ []) ∙ ap (λ texts. texts ++ text ∷ []) s.lines
          ∙ ap (λ last. ended_lines bytes ++ last ∷ []) (t ∙ ap strip_carriage_return s.holds) ∙ sym p.0;
      stands = subst (λ (w : Script). Stands kept' base after w) (sym (fold-append line start s.list (l ∷ []))) next.1;
    }

pub lf-cut : (f : RunFault) (held text : List ℕ) (kept : Kept) (base written after : Option (List ℕ)) (bytes : List ℕ) (b : ℕ) (more : List ℕ)
    → b ≡ 10 → text ≡ strip_carriage_return held → (s : StandsFor held kept base written bytes)
    → IsTakenCut base after (come_to s.list) text f → IsCutAt base after (bytes ++ b ∷ more) f
lf-cut f held text kept base written after bytes b more h t s c =
    IsCutAt-line f base after (bytes ++ b ∷ more) s.list (record { text = text; lots = c.0 })
    (subst (λ before. IsNext (bytes ++ b ∷ more) before text) (sym s.lines)
    (subst (IsNext (bytes ++ b ∷ more) (ended_lines bytes)) (sym (t ∙ ap strip_carriage_return s.holds)) (next-at_lf bytes b more h))) c.1

-- at the end the open line is the last line, if it has bytes
last-next : (held text : List ℕ) (kept : Kept) (base written : Option (List ℕ)) (bytes : List ℕ) → 0 < length held → text ≡ held
    → (s : StandsFor held kept base written bytes) → lines bytes ≡ map text_of s.list ++ text ∷ []
last-next held text kept base written bytes h t s =
    let some : 0 < length (open_line bytes) = rw (← s.holds) h in
    lines-last_open bytes some ∙ ap₂ (λ texts last. texts ++ last ∷ []) (sym s.lines) (sym (t ∙ s.holds))

pub end-cut : (f : RunFault) (held text : List ℕ) (kept : Kept) (base written after : Option (List ℕ)) (bytes : List ℕ)
    → 0 < length held → text ≡ held → (s : StandsFor held kept base written bytes)
    → IsTakenCut base after (come_to s.list) text f → IsCutAt base after bytes f
end-cut f held text kept base written after bytes h t s c =
    IsCutAt-line f base after bytes s.list (record { text = text; lots = c.0 }) ([], last-next held text kept base written bytes h t s) c.1

pub IsWhole-all_ended : (held : List ℕ) (kept : Kept) (base written : Option (List ℕ)) (bytes : List ℕ) (summary : RunSummary)
    → length held ≡ 0 → StandsFor held kept base written bytes
    → ((w : Script) → Stands kept base written w → summary ≡ summary_of w) → IsWhole base written bytes summary
IsWhole-all_ended held kept base written bytes summary h s sums =
    let none : length (open_line bytes) ≡ 0 = rw (← s.holds) h in
    (s.list, s.lines ∙ sym (lines-all_ended bytes none), s.stands.goes_on, sums (come_to s.list) s.stands, s.stands.wrote)

pub IsWhole-last_line : (held text : List ℕ) (kept kept' : Kept) (base written after : Option (List ℕ)) (bytes : List ℕ) (summary : RunSummary)
    → 0 < length held → text ≡ held → (s : StandsFor held kept base written bytes) → IsTaken kept' base after (come_to s.list) text
    → ((w : Script) → Stands kept' base after w → summary ≡ summary_of w) → IsWhole base after bytes summary
IsWhole-last_line held text kept kept' base written after bytes summary h t s next sums =
    let l : Marked = record { text = text; lots = next.0 } in
    let whole = s.list ++ l ∷ [] in
    let stands : Stands kept' base after (come_to whole) = subst (λ (w : Script). Stands kept' base after w) (sym (fold-append line start s.list (l ∷ []))) next.1 in
    (whole, map-append text_of s.list (l ∷ []) ∙ sym (last-next held text kept base written bytes h t s), stands.goes_on, sums (come_to whole) stands, stands.wrote)

pub some_bytes : (l : List ℕ) → false ≡ (length l == 0) → 0 < length l
some_bytes l e = grind (arith, nat_tests)

pub no_bytes : (l : List ℕ) → true ≡ (length l == 0) → length l ≡ 0
no_bytes l e = grind (arith, nat_tests)
