-- What a parse of the first bytes says of all bytes.
use Rattle.std.proofs.Common.{◌≡◌, ℕ, ◌*◌, ◌<◌, ◌≤◌, List, ◌++◌, Bool, true, false, refl, ap, ◌∙◌, sym, subst, arith, ◌-◌, length, length-append, length-take, length-drop, take, drop, take-append-drop, slice_range}
use Rattle.std.specs.Prelude.{nat_lt, not, bytes_eq, codes}
use Rattle.std.specs.List.{list_any}
use Rattle.std.proofs.lemmas.List.{drop-append-le, take-append-le, length-map}
use Rattle.ll_wire.specs.declared.head.Head.{Head}
use Rattle.ll_wire.specs.declared.head.Head.TheVariants as head
use Rattle.std.proofs.lemmas.Bool.Decides.{nat_tests}
use Rattle.httparse.specs.Grammar.{RequestHead, ReadsRequest, HasNoRequest, NeverHasRequest, MayBecomeRequest, EndsInTarget, print_request}
use Rattle.httparse.specs.Spans.{name_and_value}
use Rattle.ll_wire.specs.Reading.{read}
use Rattle.ll_wire.specs.declared.fault.HeadFault.TheVariants.{HeadTooLarge, BadHead}
use Rattle.ll_wire.specs.Heads.{Fault, Whole, RequestValue, head_value, LiesIn, Outcome, Going, Lost, outcome, verdict, unfinished, judged, judged_parts, first_fault, lacks_host, tells_body, field_texts, is_in_target, head_of}
use Rattle.ll_wire.proofs.ReadLemmas.{head_read}
use Rattle.ll_wire.proofs.ValidLemmas.{may-goes, never-lost, no-target, target-goes}

module _ (bytes start : List ℕ) (is : start ≡ take 8192 bytes) where
  at_outcome : (o : Outcome) → outcome (read start) ≡ o → head_of bytes ≡ verdict bytes o
  unfolding head_of
  at_outcome o e = ap (λ t. verdict bytes (outcome (read t))) (sym is) ∙ ap (verdict bytes) e

  pub at_partial : HasNoRequest start → MayBecomeRequest start → head_of bytes ≡ unfinished bytes
  at_partial none may = at_outcome Going (may-goes start none may)

  pub at_target : is_in_target (read start) ≡ true → head_of bytes ≡ unfinished bytes
  at_target e = at_outcome Going (target-goes start e)

  pub at_invalid : NeverHasRequest start → is_in_target (read start) ≡ false → head_of bytes ≡ Fault BadHead
  at_invalid never e = at_outcome Lost (never-lost start never e)

  pub at_other : NeverHasRequest start → ¬ (EndsInTarget start) → head_of bytes ≡ Fault BadHead
  at_other never elsewhere = at_invalid never (no-target start elsewhere)

  pub at_head : (h : RequestHead) (rest : List ℕ) → ReadsRequest start h rest → head_of bytes ≡ judged h
  at_head h rest r = at_outcome _ (ap outcome (head_read start h rest r))

many_by : (many : Bool) → many ≡ true → (a b c : Bool) → (r : RequestValue) → first_fault many a b c r ≡ Fault HeadTooLarge
many_by true e a b c r = refl
many_by false e a b c r = cc

-- too many fields
pub judged-many : (h : RequestHead) → 64 < length h.fields → judged h ≡ Fault HeadTooLarge
unfolding judged
judged-many h many =
    let same : length (field_texts h) ≡ length h.fields = length-map h.fields name_and_value in
    let long : nat_lt 64 (length (field_texts h)) ≡ true = grind (arith, nat_tests) in
    many_by (nat_lt 64 (length (field_texts h))) long (lacks_host h.minor (field_texts h)) (not (bytes_eq h.method (codes "GET"))) (list_any tells_body (field_texts h)) _

-- a head by its parts
pub judged-by : (h : RequestHead) (len : ℕ) (method target : List ℕ) (minor : ℕ) (fields : List (List ℕ × List ℕ))
    → len ≡ length (print_request h) → method ≡ h.method → target ≡ h.target → minor ≡ h.minor → fields ≡ field_texts h
    → judged_parts len method target minor fields ≡ judged h
unfolding judged
judged-by h len method target minor fields a b c d e = rw (a, b, c, d, e)

-- ---- what is found in the first bytes is found in all

slice_front : (a b : List ℕ) (i j : ℕ) → i ≤ j → j ≤ length a → slice_range (a ++ b) i j ≡ slice_range a i j
slice_front a b i j le fits =
    ap (take (j - i)) (drop-append-le i a b (omega arith)) ∙ take-append-le (j - i) (drop i a) b (omega (arith, length-drop i a))

front_found : (a b : List ℕ) (found : Head) → LiesIn a found → head_value (a ++ b) found ≡ head_value a found
front_found a b (head.Whole len request) w =
    ap (λ t. Whole (record { len = len; target = t; keep = request.keep })) (slice_front a b request.from request.to w.2 (omega (arith, w.1, w.2, w.3)))
front_found a b head.Part w = refl
front_found a b (head.Bad fault) w = refl

front_within : (a b : List ℕ) (found : Head) → LiesIn a found → LiesIn (a ++ b) found
front_within a b (head.Whole len request) w = (w.0, omega (arith, w.1, length-append a b), w.2, w.3)
front_within a b head.Part w = tt
front_within a b (head.Bad fault) w = tt

module _ (bytes start : List ℕ) (is : start ≡ take 8192 bytes) (found : Head) (within : LiesIn start found) where
  whole_bytes : start ++ drop 8192 bytes ≡ bytes
  whole_bytes = ap (λ t. t ++ drop 8192 bytes) is ∙ take-append-drop 8192 bytes

  pub found_in_all : head_value bytes found ≡ head_value start found
  found_in_all = ap (λ t. head_value t found) (sym whole_bytes) ∙ front_found start (drop 8192 bytes) found within

  pub within_all : LiesIn bytes found
  within_all = subst (λ (t : List ℕ). LiesIn t found) whole_bytes (front_within start (drop 8192 bytes) found within)

pub start-short : (bytes start : List ℕ) → start ≡ take 8192 bytes → length start < 3 * 2731
start-short bytes start is = omega (arith, ap length is, length-take 8192 bytes)
