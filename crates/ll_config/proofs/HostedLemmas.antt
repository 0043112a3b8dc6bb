-- The channels of the lines so far.
use Rattle.std.proofs.Common.{◌≡◌, ◌⊎◌, inl, inr, ℕ, ◌+◌, ◌<◌, ◌≤◌, ◌==◌, List, [], ◌∷◌, Bool, true, false, cond, Option, Some, None, IsSome, Result, Ok, Err, refl, ap, sym, subst, ◌∙◌, length, true≢false, arith}
use Rattle.std.proofs.lemmas.Bool.Decides.{nat_tests}
use Rattle.std.specs.Str.{is_utf8}
use Rattle.ll_config.proofs.RightLemmas.{hosted_right}
use Rattle.ll_config.specs.Config.{Hosted, Left, hosted_from, hosted_then, next_text, nobody, text_of, with_line}
use Rattle.ll_config.specs.Faults.{IsRightTo}

-- the next line, as it is read
record TextParts (lines : List (List ℕ)) (number : ℕ) (text : List ℕ) (new : Left) : Type 0 where
  are : lines ≡ text ∷ new.lines
  utf8 : is_utf8 text ≡ true
  past : new.number ≡ number + 1

abbrev text_if : Bool → List ℕ → List (List ℕ) → ℕ → Result (List ℕ × Left) ℕ
text_if b line rest number = cond b (Ok (line, record { lines = rest; number = number + 1 })) (Err number)

abbrev line_in : Result (List ℕ × Left) ℕ → List ℕ
line_in (Ok t) = t.0
line_in (Err bad) = []

abbrev left_in : Result (List ℕ × Left) ℕ → Left
left_in (Ok t) = t.1
left_in (Err bad) = record { lines = []; number = bad }

text-by : (b : Bool) (line text : List ℕ) (rest : List (List ℕ)) (number : ℕ) (new : Left) → is_utf8 line ≡ b
    → text_if b line rest number ≡ Ok (text, new) → TextParts (line ∷ rest) number text new
text-by true line text rest number new e h =
    let is : line ≡ text = ap line_in h in
    let left : record { lines = rest; number = number + 1 } ≡ new = ap left_in h in
    record {
      are = ap (λ l. l ∷ rest) is ∙ ap (λ (n : Left). text ∷ n.lines) left;
      utf8 = ap is_utf8 (sym is) ∙ e;
      past = sym (ap (λ (n : Left). n.number) left);
    }
text-by false line text rest number new e h = cc

text-parts : (lines : List (List ℕ)) (number : ℕ) (text : List ℕ) (new : Left) → text_of lines number ≡ Ok (text, new) → TextParts lines number text new
text-parts [] number text new h = cc
text-parts (line ∷ rest) number text new h = text-by (is_utf8 line) line text rest number new refl h

-- the channels from a line on
hosted-at : (all : Hosted) (left new : Left) (text : List ℕ) (o : Option Hosted) → next_text left ≡ Ok (text, new) → with_line all text ≡ o
    → hosted_from all left.lines left.number ≡ hosted_then left.number o (λ h. hosted_from h new.lines new.number)
hosted-at all left new text o h is =
    let p = text-parts left.lines left.number text new h in
    ap (λ ls. hosted_from all ls left.number) p.are
    ∙ ap (λ b. hosted_then left.number (cond b (with_line all text) None) (λ h. hosted_from h new.lines (left.number + 1))) p.utf8
    ∙ ap (λ o. hosted_then left.number o (λ h. hosted_from h new.lines (left.number + 1))) is
    ∙ ap (λ n. hosted_then left.number o (λ h. hosted_from h new.lines n)) (sym p.past)

-- these are the channels of the lines from the first one to where the others are left: no line was read yet, or one was
pub record Reads (first left : Left) (all : Hosted) : Type 0 where
  pub same : hosted_from nobody first.lines first.number ≡ hosted_from all left.lines left.number
  pub order : first.number ≤ left.number
  pub begun : (all ≡ nobody) ⊎ (first.number < left.number)

pub reads_none : (first : Left) → Reads first first nobody
reads_none first = record { same = refl; order = omega arith; begun = inl refl }

pub reads_next : (first left new : Left) (all more : Hosted) (text : List ℕ) → Reads first left all → next_text left ≡ Ok (text, new)
    → with_line all text ≡ Some more → Reads first new more
reads_next first left new all more text r h is =
    let p = text-parts left.lines left.number text new h in
    record { same = r.same ∙ hosted-at all left new text (Some more) h is; order = omega (arith, r.order, p.past); begun = inr (omega (arith, r.order, p.past)) }

pub reads_bad : (first left new : Left) (all : Hosted) (text : List ℕ) → Reads first left all → next_text left ≡ Ok (text, new)
    → with_line all text ≡ None → hosted_from nobody first.lines first.number ≡ Err left.number
reads_bad first left new all text r h is = r.same ∙ hosted-at all left new text None h is

-- out of memory for a line that would be right as the first: the first line is right
right-first : (first left new : Left) (text : List ℕ) (o : Option Hosted) → hosted_from nobody first.lines first.number ≡ hosted_from nobody left.lines left.number
    → first.number ≤ left.number → next_text left ≡ Ok (text, new) → with_line nobody text ≡ o → IsSome o
    → IsRightTo first.number (hosted_from nobody first.lines first.number)
right-first first left new text None same order h is some = absurd (true≢false (sym some))
right-first first left new text (Some more) same order h is some =
    let p = text-parts left.lines left.number text new h in
    subst (IsRightTo first.number) (sym (same ∙ hosted-at nobody left new text (Some more) h is))
    (hosted_right first.number more new.lines new.number (omega (arith, order, p.past)))

right-by : (first left new : Left) (all : Hosted) (text : List ℕ) → hosted_from nobody first.lines first.number ≡ hosted_from all left.lines left.number
    → first.number ≤ left.number → (all ≡ nobody) ⊎ (first.number < left.number) → next_text left ≡ Ok (text, new) → IsSome (with_line nobody text)
    → IsRightTo first.number (hosted_from nobody first.lines first.number)
right-by first left new all text same order (inl none) h some =
    right-first first left new text (with_line nobody text) (same ∙ ap (λ all. hosted_from all left.lines left.number) none) order h refl some
right-by first left new all text same order (inr past) h some =
    subst (IsRightTo first.number) (sym same) (hosted_right first.number all left.lines left.number past)

pub reads_memory : (first left new : Left) (all : Hosted) (text : List ℕ) → Reads first left all → next_text left ≡ Ok (text, new)
    → IsSome (with_line nobody text) → IsRightTo first.number (hosted_from nobody first.lines first.number)
reads_memory first left new all text r h some = right-by first left new all text r.same r.order r.begun h some

-- no line is left
by-none : (all : Hosted) (lines : List (List ℕ)) (number : ℕ) → (length lines == 0) ≡ true → hosted_from all lines number ≡ hosted_from all [] number
by-none all [] number over = refl
by-none all (line ∷ rest) number over = absurd (grind (arith, nat_tests))

pub reads_over : (first left : Left) (all : Hosted) → Reads first left all → (length left.lines == 0) ≡ true
    → hosted_from nobody first.lines first.number ≡ hosted_from all [] left.number
reads_over first left all r over = r.same ∙ by-none all left.lines left.number over
