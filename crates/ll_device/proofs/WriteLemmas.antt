-- What was written since a base, text by text.
use Rattle.std.proofs.Common.{◌≡◌, ℕ, ◌+◌, ◌-◌, ◌<◌, ◌≤◌, List, ◌++◌, Option, take, drop, length, length-append, sym, subst, ap, ◌∙◌, append_assoc, take-append-drop, Result, Ok, Err, OnErr, OnOk, arith}
use Rattle.std.proofs.KnownBytes.{Appends-trans, Appends-kept}
use Rattle.std.proofs.lemmas.List.{drop-append-le, take_rest, length-take, length-drop}
use Rattle.std.proofs.Math.Seq.{drop-append-add, take-add}
use Rattle.std.specs.Io.KnownBytes.{Appends, Keeps}
use Rattle.ll_device.specs.Written.{AppendsPrefix}

pub taken_within : (text : List ℕ) (i n : ℕ) → i ≤ length text → n ≤ length (take (length text - i) (drop i text)) → i + n ≤ length text
taken_within text i n h k = omega (arith, simp (length-take, length-drop) at k)

Appends-first : (base mid after : Option (List ℕ)) (text : List ℕ) (i n : ℕ)
    → Appends base mid (take i text) → Appends mid after (take n (drop i text)) → Appends base after (take (i + n) text)
Appends-first base mid after text i n p q = rw (take-add i n text) (Appends-trans base mid after (take i text) (take n (drop i text)) p q)

pub Appends-taken : (base mid after : Option (List ℕ)) (text : List ℕ) (i n : ℕ)
    → Appends base mid (take i text) → Appends mid after (take n (take (length text - i) (drop i text))) → Appends base after (take (i + n) text)
Appends-taken base mid after text i n p q = Appends-first base mid after text i n p (rw take_rest at q)

pub AppendsPrefix-taken : {T E : Type 0} (r : Result T E) (base mid after : Option (List ℕ)) (text : List ℕ) (i : ℕ)
    → Appends base mid (take i text) → Keeps mid after → OnErr r (AppendsPrefix base after text)
AppendsPrefix-taken (Ok x) base mid after text i p e = tt
AppendsPrefix-taken (Err x) base mid after text i p e = (take i text, drop i text, sym (take-append-drop i text), Appends-kept base mid after (take i text) p e)

-- a text, and then a prefix of what is added to it
pub AppendsPrefix-after : (base mid after : Option (List ℕ)) (a b whole : List ℕ) → whole ≡ a ++ b → Appends base mid a → AppendsPrefix mid after b → AppendsPrefix base after whole
AppendsPrefix-after base mid after a b whole e p q =
    (a ++ q.0, q.1, e ∙ ap (λ x. a ++ x) q.2 ∙ sym (append_assoc a q.0 q.1), Appends-trans base mid after a q.0 p q.3)

-- a prefix of a text is one of a longer text
pub AppendsPrefix-longer : (base after : Option (List ℕ)) (a b whole : List ℕ) → whole ≡ a ++ b → AppendsPrefix base after a → AppendsPrefix base after whole
AppendsPrefix-longer base after a b whole e q = (q.0, q.1 ++ b, e ∙ ap (λ x. x ++ b) q.2 ∙ append_assoc q.0 q.1 b, q.3)

-- ---- two texts, the second right after the first

module _ (first second : List ℕ) (i : ℕ) where
  -- what is left of both, while some of the first is
  left_in_first : i < length first → take (length first - i) (drop i first) ++ second ≡ drop i (first ++ second)
  left_in_first lt = ap (λ t. t ++ second) (take_rest first i) ∙ sym (drop-append-le i first second (omega (arith, lt)))

  -- and after the first
  left_in_second : length first ≤ i → take (length second - (i - length first)) (drop (i - length first) second) ≡ drop i (first ++ second)
  left_in_second le =
      take_rest second (i - length first) ∙ sym (drop-append-add first second (i - length first))
      ∙ ap (λ k. drop k (first ++ second)) (omega (arith, le))

  pub both_within : (n : ℕ) → i < length first → n ≤ length (take (length first - i) (drop i first) ++ second) → i + n ≤ length (first ++ second)
  both_within n lt k =
      let left = ap length (left_in_first lt) ∙ length-drop i (first ++ second) in
      omega (arith, lt, k, left, length-append first second)

  module _ (base mid after : Option (List ℕ)) (so_far : Appends base mid (take i (first ++ second))) where
    pub both_taken : (n : ℕ) → i < length first → Appends mid after (take n (take (length first - i) (drop i first) ++ second))
        → Appends base after (take (i + n) (first ++ second))
    both_taken n lt q =
        Appends-first base mid after (first ++ second) i n so_far
        (subst (λ (t : List ℕ). Appends mid after (take n t)) (left_in_first lt) q)

    -- the rest of the second was written, or a part of it
    pub both_whole : {T E : Type 0} (r : Result T E) → length first ≤ i
        → OnOk r (Appends mid after (take (length second - (i - length first)) (drop (i - length first) second)))
        → OnOk r (Appends base after (first ++ second))
    both_whole (Ok x) le q =
        subst (Appends base after) (take-append-drop i (first ++ second))
        (Appends-trans base mid after (take i (first ++ second)) (drop i (first ++ second)) so_far (subst (Appends mid after) (left_in_second le) q))
    both_whole (Err x) le q = tt

    pub both_cut : {T E : Type 0} (r : Result T E) → length first ≤ i
        → OnErr r (AppendsPrefix mid after (take (length second - (i - length first)) (drop (i - length first) second)))
        → OnErr r (AppendsPrefix base after (first ++ second))
    both_cut (Ok x) le q = tt
    both_cut (Err x) le q =
        AppendsPrefix-after base mid after (take i (first ++ second)) (drop i (first ++ second)) (first ++ second)
        (sym (take-append-drop i (first ++ second))) so_far (subst (AppendsPrefix mid after) (left_in_second le) q)
