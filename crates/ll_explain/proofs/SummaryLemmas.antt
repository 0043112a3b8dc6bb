-- The summary of entries and one more, from that of the entries.
use Rattle.std.proofs.Common.{◌≡◌, ℕ, suc, ◌+◌, ◌-◌, ◌^◌, ◌<◌, List, [], ◌∷◌, ◌++◌, Bool, true, false, cond, Option, Some, None, refl, ap, ap₂, sym, ◌∙◌, length, length-append, get_or, map, max, slice_get, slice_set, arith}
use Rattle.std.proofs.lemmas.List.{length-map, map-append}
use Rattle.std.proofs.lemmas.List.Sums.{count_by-le-length, sum_by-cons, sum_by_push}
use Rattle.std.specs.List.{cons_option, count_by, last_or}
use Rattle.ll_entry_check.specs.declared.full.FullEntry.{FullEntry}
use Rattle.ll_entry_check.specs.declared.full.FullEntry.TheVariants as full
use Rattle.ll_explain.specs.Counting.{counted, first_with, last_chain, last_with, one_more, with_entry, with_kind}
use Rattle.ll_explain.specs.Summary.{beginnings, held_now, is_answered, is_at_once, is_busy, is_ended, is_given_up, is_held, is_item, is_not_found, is_timed_out, is_too_far, largest, most_held, reading_of, readings, still_held, summary_of}
use Rattle.ll_explain.specs.declared.summary.Summary.{Summary}
use Rattle.ll_verdict.specs.declared.reply.Outcome.TheVariants.{Text, Media, NotFound, TooFar, Busy, Timeout}

-- ---- counts

one-more-is : (n : ℕ) → n < 2 ^ 64 - 1 → one_more n ≡ n + 1
one-more-is n short = omega (arith, short)

counted-is : (is : Bool) (n : ℕ) → n < 2 ^ 64 - 1 → counted is n ≡ n + cond is 1 0
counted-is true n short = one-more-is n short
counted-is false n short = omega arith

-- how many are of a kind, with one more entry
count-push : (is : FullEntry → Bool) (es : List FullEntry) (e : FullEntry) (n : ℕ) → length es < 2 ^ 64 - 1 → n ≡ count_by is es
    → counted (is e) n ≡ count_by is (es ++ e ∷ [])
count-push is es e n short same =
    let less = count_by-le-length is es in
    ap (counted (is e)) same
    ∙ counted-is (is e) (count_by is es) (omega (arith, short, less))
    ∙ sym (sum_by_push (λ x. cond (is x) 1 0) es e)

-- ---- the readings

readings-push : (es : List FullEntry) (e : FullEntry) → readings (es ++ e ∷ []) ≡ readings es ++ cons_option (reading_of e) []
readings-push [] e = refl
readings-push (x ∷ es) e = onto (reading_of x) (readings es) (cons_option (reading_of e) []) (readings (es ++ e ∷ [])) (readings-push es e)
  where
    onto : (o : Option ℕ) (xs ys zs : List ℕ) → zs ≡ xs ++ ys → cons_option o zs ≡ cons_option o xs ++ ys
    onto None xs ys zs h = h
    onto (Some n) xs ys zs h = ap (λ l. n ∷ l) h

first-push : (ns : List ℕ) (o : Option ℕ) → first_with (slice_get ns 0) o ≡ slice_get (ns ++ cons_option o []) 0
first-push [] None = refl
first-push [] (Some m) = refl
first-push (n ∷ ns) None = refl
first-push (n ∷ ns) (Some m) = refl

last-push : (before : Option ℕ) (ns : List ℕ) (o : Option ℕ) → last_with (last_or before ns) o ≡ last_or before (ns ++ cons_option o [])
last-push before [] None = refl
last-push before [] (Some m) = refl
last-push before (n ∷ ns) o = last-push (Some n) ns o

-- ---- who is held

one-ended : (e : FullEntry) → cond (is_ended e) 1 0 ≡ cond (is_answered e) 1 0 + cond (is_timed_out e) 1 0 + cond (is_given_up e) 1 0
one-ended full.Publish = refl
one-ended (full.Ask ask want reply) = refl
one-ended (full.Clock ms) = refl
one-ended (full.Collect ask (Text n update)) = refl
one-ended (full.Collect ask (Media n size)) = refl
one-ended (full.Collect ask NotFound) = refl
one-ended (full.Collect ask TooFar) = refl
one-ended (full.Collect ask Busy) = refl
one-ended (full.Collect ask Timeout) = refl
one-ended (full.Close ask) = refl

-- who is held no longer got a reply, in time or not, or was closed
ended-are : (es : List FullEntry) → count_by is_ended es ≡ count_by is_answered es + count_by is_timed_out es + count_by is_given_up es
ended-are [] = refl
ended-are (e ∷ es) =
    let all = sum_by-cons (λ x. cond (is_ended x) 1 0) e es in
    let answered = sum_by-cons (λ x. cond (is_answered x) 1 0) e es in
    let timed_out = sum_by-cons (λ x. cond (is_timed_out x) 1 0) e es in
    let given_up = sum_by-cons (λ x. cond (is_given_up x) 1 0) e es in
    let one = one-ended e in
    let rest = ended-are es in
    omega (arith, all, answered, timed_out, given_up, one, rest)

-- how many are held, by the counts
held-are : (s : Summary) (es : List FullEntry) → s.held ≡ count_by is_held es → s.answered ≡ count_by is_answered es → s.timed_out ≡ count_by is_timed_out es
    → s.given_up ≡ count_by is_given_up es → held_now s ≡ still_held es
held-are s es held answered timed_out given_up =
    ap₂ (λ m n. m - n) held
    (ap₂ (λ m n. m + n) (ap₂ (λ m n. m + n) answered timed_out) given_up ∙ sym (ended-are es))

beginnings-push : {A : Type 0} (xs : List A) (x : A) → beginnings (xs ++ x ∷ []) ≡ beginnings xs ++ (xs ++ x ∷ []) ∷ []
beginnings-push [] x = refl
beginnings-push (y ∷ xs) x =
    ap (λ l. [] ∷ l)
    (ap (map (λ ys. y ∷ ys)) (beginnings-push xs x) ∙ map-append (λ ys. y ∷ ys) (beginnings xs) ((xs ++ x ∷ []) ∷ []))

largest-push : (ns : List ℕ) (n : ℕ) → largest (ns ++ n ∷ []) ≡ max (largest ns) n
largest-push [] n = omega arith
largest-push (m ∷ ns) n =
    let rest = largest-push ns n in omega (arith, rest)

most-push : (es : List FullEntry) (e : FullEntry) → max (most_held es) (still_held (es ++ e ∷ [])) ≡ most_held (es ++ e ∷ [])
most-push es e =
    sym (ap (λ l. largest (map still_held l)) (beginnings-push es e)
    ∙ ap largest (map-append still_held (beginnings es) ((es ++ e ∷ []) ∷ []))
    ∙ largest-push (map still_held (beginnings es)) (still_held (es ++ e ∷ [])))

-- ---- the whole

-- a summary with one more entry
abbrev pub added : Summary → FullEntry → Summary
added s e =
    let t = with_kind (record s { entries = one_more s.entries }) e in record t { most_held = max t.most_held (held_now t) }

-- what the summary of entries is once one more is added to them
pub summary-push : (es : List FullEntry) (e : FullEntry) → length es < 2 ^ 64 - 1 → added (summary_of es) e ≡ summary_of (es ++ e ∷ [])
summary-push es e short =
    let s = summary_of es in
    let t = with_kind (record s { entries = one_more s.entries }) e in
    let kind : (is : FullEntry → Bool) → counted (is e) (count_by is es) ≡ count_by is (es ++ e ∷ []) = λ is. count-push is es e (count_by is es) short refl in
    let now : held_now t ≡ still_held (es ++ e ∷ []) =
    held-are t (es ++ e ∷ []) (kind is_held) (kind is_answered) (kind is_timed_out) (kind is_given_up) in
    λ i. record {
      entries = (one-more-is (length es) short ∙ sym (length-append es (e ∷ []))) i;
      items = kind is_item i;
      at_once = kind is_at_once i;
      held = kind is_held i;
      answered = kind is_answered i;
      timed_out = kind is_timed_out i;
      given_up = kind is_given_up i;
      too_far = kind is_too_far i;
      not_found = kind is_not_found i;
      busy = kind is_busy i;
      most_held = (ap (max (most_held es)) now ∙ most-push es e) i;
      first = (first-push (readings es) (reading_of e) ∙ ap (λ ns. slice_get ns 0) (sym (readings-push es e))) i;
      last = (last-push None (readings es) (reading_of e) ∙ ap (last_or None) (sym (readings-push es e))) i;
    }

-- the same, step by step
pub counts-on : (old t : Summary) (n held most : ℕ) (es : List FullEntry) (e : FullEntry) → length es < 2 ^ 64 - 1 → old ≡ summary_of es
    → n ≡ one_more old.entries → t ≡ with_kind (record old { entries = n }) e → held ≡ held_now t → most ≡ max t.most_held held
    → record t { most_held = most } ≡ summary_of (es ++ e ∷ [])
counts-on old t n held most es e short is counted kind now larger =
    ap (λ m. record t { most_held = m }) (larger ∙ ap (max t.most_held) now)
    ∙ ap (λ (u : Summary). record u { most_held = max u.most_held (held_now u) }) (kind ∙ ap (λ m. with_kind (record old { entries = m }) e) counted)
    ∙ ap (λ s. added s e) is
    ∙ summary-push es e short

-- ---- the last chain of a record so far

one-down : (n : ℕ) → suc (suc n) - 1 ≡ suc (suc n - 1)
one-down n = omega arith

last-is : (before : List (List FullEntry)) (d : Summary) → 0 < length before
    → get_or (map summary_of before) (length (map summary_of before) - 1) d ≡ summary_of (last_chain before)
last-is [] d some = absurd (omega (arith, some))
last-is (es ∷ []) d some = refl
last-is (es ∷ fs ∷ more) d some =
    ap (λ n. get_or (map summary_of (es ∷ fs ∷ more)) n d) (one-down (length (map summary_of more))) ∙ last-is (fs ∷ more) d (omega arith)

last-set : (before : List (List FullEntry)) (e : FullEntry) → 0 < length before
    → slice_set (map summary_of before) (length (map summary_of before) - 1) (summary_of (last_chain before ++ e ∷ [])) ≡ map summary_of (with_entry before e)
last-set [] e some = absurd (omega (arith, some))
last-set (es ∷ []) e some = refl
last-set (es ∷ fs ∷ more) e some =
    let new = summary_of (last_chain (fs ∷ more) ++ e ∷ []) in
    ap (λ n. slice_set (map summary_of (es ∷ fs ∷ more)) n new) (one-down (length (map summary_of more)))
    ∙ ap (λ ss. summary_of es ∷ ss) (last-set (fs ∷ more) e (omega arith))

-- the last summary has one more entry
pub last-counts : (items : List Summary) (n : ℕ) (chain new : Summary) (before : List (List FullEntry)) (e : FullEntry) → items ≡ map summary_of before
    → n ≡ length items → 0 < n → chain ≡ get_or items (n - 1) chain → (chain ≡ summary_of (last_chain before) → new ≡ summary_of (last_chain before ++ e ∷ []))
    → slice_set items (n - 1) new ≡ map summary_of (with_entry before e)
last-counts items n chain new before e are many some last counts =
    let all : n ≡ length (map summary_of before) = many ∙ ap length are in
    let some_before : 0 < length before = omega (arith, all, some, length-map before summary_of) in
    let is : chain ≡ summary_of (last_chain before) =
    last ∙ ap (λ ss. get_or ss (n - 1) chain) are ∙ ap (λ m. get_or (map summary_of before) (m - 1) chain) all ∙ last-is before chain some_before in
    ap (λ ss. slice_set ss (n - 1) new) are
    ∙ ap (λ m. slice_set (map summary_of before) (m - 1) new) all
    ∙ ap (slice_set (map summary_of before) (length (map summary_of before) - 1)) (counts is)
    ∙ last-set before e some_before
