-- What was sent of some answers, and what was not.
use Rattle.std.proofs.Common.{◌≡◌, ℕ, ◌+◌, ◌-◌, ◌<◌, ◌≤◌, min, List, [], ◌∷◌, ◌++◌, Bool, true, false, refl, ap, ◌∙◌, sym, arith, length, length-append, length-drop, take, drop, append_assoc, take-append-drop}
use Rattle.std.specs.Prelude.{⊤, nat_le, if◌then◌else◌}
use Rattle.std.specs.List.{concat}
use Rattle.std.proofs.lemmas.Bool.Decides.{nat_tests}
use Rattle.std.proofs.lemmas.List.{drop-append-le, drop-drop, drop_all, length-take}
use Rattle.std.proofs.lemmas.List.Folds.{concat-append}
use Rattle.std.proofs.Math.Seq.{drop-append-add}
use Rattle.ll_session.specs.Output.{unsent}

-- ---- what is left, as bytes

concat_by : (b : Bool) (n : ℕ) (a : List ℕ) (xs : List (List ℕ)) → nat_le (length a) n ≡ b → concat (unsent (n - length a) xs) ≡ drop (n - length a) (concat xs)
    → concat ((if b then unsent (n - length a) xs else drop n a ∷ xs)) ≡ drop n (a ++ concat xs)
concat_by true n a xs e ih =
    let le : length a ≤ n = grind (arith, nat_tests, e) in
    ih ∙ sym (drop-append-add a (concat xs) (n - length a)) ∙ ap (λ k. drop k (a ++ concat xs)) (omega (arith, le))
concat_by false n a xs e ih =
    let lt : n < length a = grind (arith, nat_tests, e) in
    sym (drop-append-le n a (concat xs) (omega (arith, lt)))

pub concat_unsent : (n : ℕ) (xs : List (List ℕ)) → concat (unsent n xs) ≡ drop n (concat xs)
concat_unsent n [] = sym (drop_all n [] (omega arith))
concat_unsent n (a ∷ xs) = concat_by (nat_le (length a) n) n a xs refl (concat_unsent (n - length a) xs)

-- ---- more is put out

-- the first of these answers has a byte
abbrev pub HasFirst : List (List ℕ) → Type 0
HasFirst [] = ⊤
HasFirst (a ∷ xs) = 0 < length a

none_by : (b : Bool) (a : List ℕ) (xs : List (List ℕ)) → nat_le (length a) 0 ≡ b → 0 < length a → (if b then unsent (0 - length a) xs else a ∷ xs) ≡ a ∷ xs
none_by true a xs e some = let le : length a ≤ 0 = grind (arith, nat_tests, e) in absurd (omega (arith, le, some))
none_by false a xs e some = refl

unsent_none : (xs : List (List ℕ)) → HasFirst xs → unsent 0 xs ≡ xs
unsent_none [] some = refl
unsent_none (a ∷ xs) some = none_by (nat_le (length a) 0) a xs refl some

append_by : (b : Bool) (n : ℕ) (a : List ℕ) (xs bs : List (List ℕ)) → (b ≡ true → unsent (n - length a) (xs ++ bs) ≡ unsent (n - length a) xs ++ bs)
    → (if b then unsent (n - length a) (xs ++ bs) else drop n a ∷ (xs ++ bs)) ≡ (if b then unsent (n - length a) xs else drop n a ∷ xs) ++ bs
append_by true n a xs bs ih = ih refl
append_by false n a xs bs ih = refl

unsent-append : (n : ℕ) (xs bs : List (List ℕ)) → n ≤ length (concat xs) → HasFirst bs → unsent n (xs ++ bs) ≡ unsent n xs ++ bs
unsent-append n [] bs le some = let none : n ≡ 0 = omega (arith, le) in ap (λ k. unsent k bs) none ∙ unsent_none bs some
unsent-append n (a ∷ xs) bs le some =
    append_by (nat_le (length a) n) n a xs bs
    (λ e. unsent-append (n - length a) xs bs (omega (arith, le, length-append a (concat xs))) some)

-- ---- more is sent

test_is : (b : Bool) (l n m : ℕ) → n < l → nat_le l (n + m) ≡ b → nat_le (l - n) m ≡ b
test_is true l n m lt e = let le : l ≤ n + m = grind (arith, nat_tests, e) in grind (arith, nat_tests, le, lt)
test_is false l n m lt e = let le : n + m < l = grind (arith, nat_tests, e) in grind (arith, nat_tests, le, lt)

test_stays : (l n m : ℕ) → l ≤ n → nat_le l (n + m) ≡ true
test_stays l n m le = grind (arith, nat_tests, le)

twice_by : (b : Bool) (m n : ℕ) (a : List ℕ) (xs : List (List ℕ)) → nat_le (length a) n ≡ b → unsent m (unsent (n - length a) xs) ≡ unsent ((n - length a) + m) xs
    → unsent m ((if b then unsent (n - length a) xs else drop n a ∷ xs)) ≡ (if nat_le (length a) (n + m) then unsent ((n + m) - length a) xs else drop (n + m) a ∷ xs)
twice_by true m n a xs e ih =
    let le : length a ≤ n = grind (arith, nat_tests, e) in
    ih ∙ ap (λ k. unsent k xs) (omega (arith, le))
    ∙ ap (λ t. (if t then unsent ((n + m) - length a) xs else drop (n + m) a ∷ xs)) (sym (test_stays (length a) n m le))
twice_by false m n a xs e ih =
    let lt : n < length a = grind (arith, nat_tests, e) in
    ap (λ l. (if nat_le l m then unsent (m - l) xs else drop m (drop n a) ∷ xs)) (length-drop n a)
    ∙ ap (λ t. (if t then unsent (m - (length a - n)) xs else drop m (drop n a) ∷ xs)) (test_is (nat_le (length a) (n + m)) (length a) n m lt refl)
    ∙ ap (λ k. (if nat_le (length a) (n + m) then unsent k xs else drop m (drop n a) ∷ xs)) (omega (arith, lt))
    ∙ ap (λ t. (if nat_le (length a) (n + m) then unsent ((n + m) - length a) xs else t ∷ xs)) (drop-drop m n a)

unsent_twice : (m n : ℕ) (xs : List (List ℕ)) → unsent m (unsent n xs) ≡ unsent (n + m) xs
unsent_twice m n [] = refl
unsent_twice m n (a ∷ xs) = twice_by (nat_le (length a) n) m n a xs refl (unsent_twice m (n - length a) xs)

all_by : (b : Bool) (n : ℕ) (a : List ℕ) (xs : List (List ℕ)) → nat_le (length a) n ≡ b → length a ≤ n → unsent (n - length a) xs ≡ []
    → (if b then unsent (n - length a) xs else drop n a ∷ xs) ≡ []
all_by true n a xs e le ih = ih
all_by false n a xs e le ih = let lt : n < length a = grind (arith, nat_tests, e) in absurd (omega (arith, le, lt))

unsent_all : (n : ℕ) (xs : List (List ℕ)) → length (concat xs) ≤ n → unsent n xs ≡ []
unsent_all n [] le = refl
unsent_all n (a ∷ xs) le =
    let both = length-append a (concat xs) in
    all_by (nat_le (length a) n) n a xs refl (omega (arith, le, both)) (unsent_all (n - length a) xs (omega (arith, le, both)))

least_by : (b : Bool) (n : ℕ) (xs : List (List ℕ)) → nat_le n (length (concat xs)) ≡ b → unsent n xs ≡ unsent (min n (length (concat xs))) xs
least_by true n xs e = let le : n ≤ length (concat xs) = grind (arith, nat_tests, e) in ap (λ k. unsent k xs) (omega (arith, le))
least_by false n xs e =
    let lt : length (concat xs) < n = grind (arith, nat_tests, e) in
    unsent_all n xs (omega (arith, lt)) ∙ sym (unsent_all (min n (length (concat xs))) xs (omega (arith, lt)))

-- ---- both

-- the bytes that were sent and the answers that were not are all of these answers
pub record Put (gone : List ℕ) (answers all : List (List ℕ)) : Type 0 where
  pub joined : gone ++ concat answers ≡ concat all
  pub left : answers ≡ unsent (length gone) all

pub put_more : (gone : List ℕ) (answers texts before after : List (List ℕ)) → HasFirst texts → after ≡ before ++ texts → Put gone answers before → Put gone (answers ++ texts) after
put_more gone answers texts before after some is p = record {
  joined =
      ap (λ t. gone ++ t) (concat-append answers texts) ∙ sym (append_assoc gone (concat answers) (concat texts))
      ∙ ap (λ t. t ++ concat texts) p.joined ∙ sym (concat-append before texts) ∙ ap concat (sym is);
  left =
      ap (λ (t : List (List ℕ)). t ++ texts) p.left
      ∙ sym (unsent-append (length gone) before texts (omega (arith, ap length p.joined, length-append gone (concat answers))) some)
      ∙ ap (unsent (length gone)) (sym is);
}

pub put_sent : (n : ℕ) (gone : List ℕ) (answers all : List (List ℕ)) → Put gone answers all → Put (gone ++ take n (concat answers)) (unsent n answers) all
put_sent n gone answers all p = record {
  joined =
      append_assoc gone (take n (concat answers)) (concat (unsent n answers))
      ∙ ap (λ t. gone ++ (take n (concat answers) ++ t)) (concat_unsent n answers)
      ∙ ap (λ t. gone ++ t) (take-append-drop n (concat answers)) ∙ p.joined;
  left =
      least_by (nat_le n (length (concat answers))) n answers refl
      ∙ ap (λ k. unsent k answers) (sym (length-take n (concat answers)))
      ∙ ap (unsent (length (take n (concat answers)))) p.left
      ∙ unsent_twice (length (take n (concat answers))) (length gone) all
      ∙ ap (λ k. unsent k all) (sym (length-append gone (take n (concat answers))));
}
