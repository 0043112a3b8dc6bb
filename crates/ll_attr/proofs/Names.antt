-- What is before the first equals sign of a part and what follows it.
use Rattle.std.proofs.Common.{◌≡◌, ℕ, suc, ◌+◌, ◌<◌, ◌&&◌, ◌||◌, Bool, true, false, not, List, [], ◌∷◌, ◌++◌, length, take, drop, cond, refl, ap, sym, ◌∙◌, arith}
use Rattle.std.proofs.lemmas.Bool.Decides.{nat_tests}
use Rattle.std.specs.List.{list_any, before_first, after_first, position_or_len}
use Rattle.ll_attr.specs.Attributes.{is_equals, is_attribute_name}
use Rattle.ll_attr.specs.Reading.{name_of, is_named}

any_by : (x rest : Bool) (n m : ℕ) → (rest ≡ false → n ≡ m) → (rest ≡ true → n < m) → ((x || rest) ≡ false → cond (not x) (1 + n) 0 ≡ 1 + m) × ((x || rest) ≡ true → cond (not x) (1 + n) 0 < 1 + m)
any_by true rest n m none some = (λ e. cc, λ e. omega arith)
any_by false rest n m none some = (λ e. omega (arith, none e), λ e. omega (arith, some e))

-- the first equals sign has a place exactly if there is one
place : (part : List ℕ) → (list_any is_equals part ≡ false → position_or_len is_equals part ≡ length part) × (list_any is_equals part ≡ true → position_or_len is_equals part < length part)
place [] = (λ e. refl, λ e. cc)
place (b ∷ bs) =
    let more = place bs in
    let by = any_by (is_equals b) (list_any is_equals bs) (position_or_len is_equals bs) (length bs) more.0 more.1 in
    (λ e. omega (arith, by.0 e), λ e. omega (arith, by.1 e))

none_from_place : (part : List ℕ) (b : Bool) → list_any is_equals part ≡ b → position_or_len is_equals part ≡ length part → list_any is_equals part ≡ false
none_from_place part false e h = e
none_from_place part true e h = absurd (omega (arith, (place part).1 e))

pub no_equals : (part : List ℕ) → position_or_len is_equals part ≡ length part → list_any is_equals part ≡ false
no_equals part h = none_from_place part _ refl h

take_all : (xs : List ℕ) → take (length xs) xs ≡ xs
take_all [] = refl
take_all (x ∷ xs) = ap (λ ys. x ∷ ys) (take_all xs)

pub uncut_name : (part : List ℕ) → position_or_len is_equals part ≡ length part → part ≡ name_of part
uncut_name part h = sym (ap (λ n. take n part) h ∙ take_all part)

joined_step : (b n p q : ℕ) (bs : List ℕ) → p ≡ suc n → q ≡ suc (n + 1) → take n bs ++ (61 ∷ drop (n + 1) bs) ≡ bs → take p (b ∷ bs) ++ (61 ∷ drop q (b ∷ bs)) ≡ b ∷ bs
joined_step b n p q bs e d h = rw (e, d) (ap (λ ds. b ∷ ds) h)

joined_by : (x rest : Bool) (b n : ℕ) (bs : List ℕ) → (x ≡ true → b ≡ 61) → (rest ≡ true → take n bs ++ (61 ∷ drop (n + 1) bs) ≡ bs) → (x || rest) ≡ true
    → take (cond (not x) (1 + n) 0) (b ∷ bs) ++ (61 ∷ drop (cond (not x) (1 + n) 0 + 1) (b ∷ bs)) ≡ b ∷ bs
joined_by true rest b n bs equals more e = ap (λ d. d ∷ bs) (sym (equals refl))
joined_by false rest b n bs equals more e = joined_step b n (1 + n) (1 + n + 1) bs (omega arith) (omega arith) (more e)

-- the name, the equals sign and the value are the part
pub part_joined : (part : List ℕ) → list_any is_equals part ≡ true → before_first is_equals part ++ (61 ∷ after_first is_equals part) ≡ part
part_joined [] h = cc
part_joined (b ∷ bs) h =
    joined_by (is_equals b) (list_any is_equals bs) b (position_or_len is_equals bs) bs (λ e. grind (arith, nat_tests)) (part_joined bs) h

pub unnamed : (part : List ℕ) → position_or_len is_equals part ≡ length part → is_named part ≡ false
unnamed part h = ap (λ b. b && is_attribute_name (name_of part)) (no_equals part h)
