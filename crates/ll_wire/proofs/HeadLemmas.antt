-- What stands at the front stays there, whatever follows.
use Rattle.std.proofs.Common.{◌≡◌, ℕ, ◌+◌, ◌-◌, ◌<◌, ◌≤◌, ◌⊎◌, inl, inr, List, [], ◌++◌, Bool, true, false, refl, ap, ◌∙◌, sym, arith, length, length-append, length-take, take, fold}
use Rattle.std.specs.Prelude.{nat_le, nat_lt, not, bytes_eq, codes, if◌then◌else◌}
use Rattle.std.specs.List.{list_any}
use Rattle.std.proofs.Math.Seq.{take-append-add}
use Rattle.std.proofs.lemmas.List.{take_all, take-append-le}
use Rattle.std.proofs.lemmas.Bool.{cases_lt}
use Rattle.std.proofs.lemmas.Bool.Decides.{nat_tests}
use Rattle.httparse.specs.Grammar.{RequestHead, print_request}
use Rattle.ll_wire.specs.Reading.{Reading, Wrong, step, start, read}
use Rattle.ll_wire.specs.Reading as reading
use Rattle.ll_wire.specs.Heads.{HeadValue, Unfinished, Whole, Fault, RequestValue, Outcome, Going, Done, Lost, outcome, verdict, judged, judged_parts, first_fault, most_fields, lacks_host, tells_body, is_kept, field_texts, FieldText, head_of}
use Rattle.ll_wire.specs.declared.fault.HeadFault.TheVariants.{HeadTooLarge}
use Rattle.ll_wire.proofs.SpelledLemmas.{fold-more, whole_stays, wrong_stays, Spells, Spells-read, head_positive}

-- a reading that is done or lost stays so
settled : (s : Reading) (more : List ℕ) → (outcome s ≡ Going) ⊎ (outcome (fold step s more) ≡ outcome s)
settled (reading.Whole h) more = inr (ap outcome (whole_stays h more))
settled Wrong more = inr (ap outcome (wrong_stays more))
settled _ more = inl refl

read-more : (bytes more : List ℕ) → read (bytes ++ more) ≡ fold step (read bytes) more
unfolding read
read-more bytes more = fold-more step start bytes more

-- the first n bytes of a list that goes on after them
front_more : (n : ℕ) (bytes more : List ℕ) → length bytes ≤ n → take n (bytes ++ more) ≡ bytes ++ take (n - length bytes) more
front_more n bytes more le =
    let e : n ≡ length bytes + (n - length bytes) = omega arith in
    ap (λ m. take m (bytes ++ more)) e ∙ take-append-add bytes more (n - length bytes)

front_same : (n : ℕ) (bytes more : List ℕ) → n ≤ length bytes → take n (bytes ++ more) ≡ take n bytes
front_same n bytes more le = rw take-append-le

long_unfinished : (bytes : List ℕ) → 8192 ≤ length bytes → (o : Outcome) (more : List ℕ) → verdict (bytes ++ more) o ≡ verdict bytes o
long_unfinished bytes le Going more =
    let a : nat_le 8192 (length bytes) ≡ true = grind (arith, nat_tests) in
    let b : nat_le 8192 (length (bytes ++ more)) ≡ true = grind (arith, nat_tests, length-append bytes more) in
    rw (a, b)
long_unfinished bytes le (Done h) more = refl
long_unfinished bytes le Lost more = refl

-- the outcome of n bytes, in fewer than n bytes and with more after them
short_going : (n : ℕ) (bytes more : List ℕ) → length bytes < n → n ≤ 8192 → (o : Outcome) → o ≡ Going → verdict bytes o ≡ Unfinished
short_going n bytes more lt le o going =
    let a : nat_le 8192 (length bytes) ≡ false = grind (arith, nat_tests) in
    rw (going, a)

definite : (bytes more : List ℕ) → length bytes < 8192 → (o : Outcome) → (verdict bytes o ≡ Unfinished) ⊎ (verdict (bytes ++ more) o ≡ verdict bytes o)
definite bytes more lt Going = let a : nat_le 8192 (length bytes) ≡ false = grind (arith, nat_tests) in inl (rw a)
definite bytes more lt (Done h) = inr refl
definite bytes more lt Lost = inr refl

-- the verdict on the first n bytes
abbrev front_at : ℕ → List ℕ → HeadValue
front_at n bytes = verdict bytes (outcome (read (take n bytes)))

short_stays : (n : ℕ) (bytes more : List ℕ) → n ≤ 8192 → length bytes < n → (front_at n bytes ≡ Unfinished) ⊎ (front_at n (bytes ++ more) ≡ front_at n bytes)
short_stays n bytes more le lt =
    let here : take n bytes ≡ bytes = take_all n bytes (omega arith) in
    let there : take n (bytes ++ more) ≡ bytes ++ take (n - length bytes) more = front_more n bytes more (omega arith) in
    let below : length bytes < 8192 = omega arith in
    elim (settled (read bytes) (take (n - length bytes) more)) [
      | inl going ↦ inl (ap (λ t. verdict bytes (outcome (read t))) here ∙ short_going n bytes more lt le _ going)
      | inr same ↦ elim (definite bytes more below (outcome (read bytes))) [
        | inl waits ↦ inl (ap (λ t. verdict bytes (outcome (read t))) here ∙ waits)
        | inr stays ↦ inr
            (ap (λ t. verdict (bytes ++ more) (outcome (read t))) there
            ∙ ap (λ s. verdict (bytes ++ more) (outcome s)) (read-more bytes (take (n - length bytes) more))
            ∙ ap (verdict (bytes ++ more)) same ∙ stays ∙ ap (λ t. verdict bytes (outcome (read t))) (sym here))
      ]
    ]

long_stays : (n : ℕ) (bytes more : List ℕ) → 8192 ≤ n → n ≤ length bytes → front_at n (bytes ++ more) ≡ front_at n bytes
long_stays n bytes more le fits =
    ap (λ t. verdict (bytes ++ more) (outcome (read t))) (front_same n bytes more fits)
    ∙ long_unfinished bytes (omega arith) (outcome (read (take n bytes))) more

front_stays : (n : ℕ) (bytes more : List ℕ) → n ≡ 8192 → (front_at n bytes ≡ Unfinished) ⊎ (front_at n (bytes ++ more) ≡ front_at n bytes)
front_stays n bytes more is =
    elim (cases_lt (length bytes) n) [
      | inl lt ↦ short_stays n bytes more (omega arith) lt
      | inr le ↦ inr (long_stays n bytes more (omega arith) le)
    ]

-- more bytes change only what is unfinished
pub head-stays : (bytes more : List ℕ) → (head_of bytes ≡ Unfinished) ⊎ (head_of (bytes ++ more) ≡ head_of bytes)
unfolding head_of
head-stays bytes more = front_stays 8192 bytes more refl

fault_or_whole : (a b c d : Bool) (q r : RequestValue) → first_fault a b c d q ≡ Whole r → r ≡ q
fault_or_whole true b c d q r e = cc
fault_or_whole false true c d q r e = cc
fault_or_whole false false true d q r e = cc
fault_or_whole false false false true q r e = cc
fault_or_whole false false false false q r e = cc

parts-len : (len : ℕ) (method target : List ℕ) (minor : ℕ) (fields : List FieldText) (r : RequestValue) → judged_parts len method target minor fields ≡ Whole r → r.len ≡ len
parts-len len method target minor fields r e =
    ap (λ (q : RequestValue). q.len)
    (fault_or_whole (nat_lt most_fields (length fields)) (lacks_host minor fields) (not (bytes_eq method (codes "GET"))) (list_any tells_body fields)
    (record { len = len; target = target; keep = is_kept minor fields }) r e)

judged-len : (h : RequestHead) (r : RequestValue) → judged h ≡ Whole r → r.len ≡ length (print_request h)
unfolding judged
judged-len h r e = parts-len (length (print_request h)) h.method h.target h.minor (field_texts h) r e

done_fits : (s : Reading) (text : List ℕ) (h : RequestHead) → Spells s text → outcome s ≡ Done h → length (print_request h) ≤ length text
done_fits (reading.Whole k) text h sp e =
    let same : k ≡ h = cc in
    rw (← same) (omega (arith, ap length sp.1, length-append (print_request k) sp.0))
done_fits _ text h sp e = cc

verdict_within : (n : ℕ) (bytes : List ℕ) (o : Outcome) (r : RequestValue) → ((h : RequestHead) → o ≡ Done h → length (print_request h) ≤ n) → verdict bytes o ≡ Whole r
    → (0 < r.len) × (r.len ≤ n)
verdict_within n bytes Going r fits e = absurd (never (nat_le 8192 (length bytes)) r e)
  where
    never : (b : Bool) (r : RequestValue) → (if b then Fault HeadTooLarge else Unfinished) ≡ Whole r → ⊥
    never true r e = cc
    never false r e = cc
verdict_within n bytes (Done h) r fits e =
    let le : length (print_request h) ≤ n = fits h refl in
    let len = judged-len h r e in
    let some = head_positive h in
    (omega arith, omega arith)
verdict_within n bytes Lost r fits e = cc

front_within : (n : ℕ) (bytes : List ℕ) (r : RequestValue) → front_at n bytes ≡ Whole r → (0 < r.len) × (r.len ≤ length bytes)
front_within n bytes r e =
    verdict_within (length bytes) bytes (outcome (read (take n bytes))) r
    (λ h is. let le = done_fits (read (take n bytes)) (take n bytes) h (Spells-read (take n bytes)) is in omega (arith, length-take n bytes)) e

-- a request lies in the bytes
pub whole-within : (bytes : List ℕ) (r : RequestValue) → head_of bytes ≡ Whole r → (0 < r.len) × (r.len ≤ length bytes)
unfolding head_of
whole-within bytes r e = front_within 8192 bytes r e

pub nothing_there : head_of [] ≡ Unfinished
unfolding head_of read
nothing_there = refl
