-- Where the first comma outside quotes cuts a text, and that the parts joined by commas are the text.
use Rattle.std.proofs.Common.{◌≡◌, ◌≢◌, ℕ, suc, ◌<◌, ◌≤◌, ◌==◌, ◌&&◌, not, Bool, true, false, List, [], ◌∷◌, length, take, drop, get_or, refl, ap, sym, ◌∙◌, drop-cons, arith}
use Rattle.std.proofs.lemmas.Bool.Decides.{nat_tests}
use Rattle.std.specs.List.{join_with_byte}
use Rattle.ll_attr.specs.Attributes.{parts_outside, cut_by, put_front, quoted_after}
use Rattle.ll_attr.specs.Reading.{part_len, len_by}

abbrev is_cut : Bool → ℕ → Bool
is_cut quoted b = not quoted && b == 44

cut_comma : (quoted : Bool) (b : ℕ) → is_cut quoted b ≡ true → b ≡ 44
cut_comma true b e = grind (arith, nat_tests)
cut_comma false b e = grind (arith, nat_tests)

cut_outside : (quoted : Bool) (b : ℕ) → is_cut quoted b ≡ true → quoted_after quoted b ≡ false
cut_outside true b e = grind (arith, nat_tests)
cut_outside false b e = grind (arith, nat_tests)

-- what is left after the first part: nothing, or a comma and the other parts
abbrev pub parts_after : List ℕ → List (List ℕ)
parts_after [] = []
parts_after (comma ∷ bs) = parts_outside false bs

first_by : (x : Bool) (b n : ℕ) (bs : List ℕ) (parts : List (List ℕ)) → parts ≡ take n bs ∷ parts_after (drop n bs) → (x ≡ true → parts ≡ parts_outside false bs)
    → cut_by x b parts ≡ take (len_by x n) (b ∷ bs) ∷ parts_after (drop (len_by x n) (b ∷ bs))
first_by true b n bs parts e outside = ap (λ ps. [] ∷ ps) (outside refl)
first_by false b n bs parts e outside = ap (put_front b) e

pub first_part : (quoted : Bool) (text : List ℕ) → parts_outside quoted text ≡ take (part_len quoted text) text ∷ parts_after (drop (part_len quoted text) text)
first_part quoted [] = refl
first_part quoted (b ∷ bs) =
    first_by (is_cut quoted b) b (part_len (quoted_after quoted b) bs) bs (parts_outside (quoted_after quoted b) bs) (first_part (quoted_after quoted b) bs)
    (λ e. ap (λ q. parts_outside q bs) (cut_outside quoted b e))

after_by : (x : Bool) (b n d : ℕ) (bs ds : List ℕ) → drop (len_by x n) (b ∷ bs) ≡ d ∷ ds → (x ≡ true → b ≡ 44) → (drop n bs ≡ d ∷ ds → d ≡ 44) → d ≡ 44
after_by true b n d bs ds e here more = let is = here refl in cc
after_by false b n d bs ds e here more = more e

-- the first part is followed by nothing or a comma
pub after_comma : (quoted : Bool) (text : List ℕ) (d : ℕ) (ds : List ℕ) → drop (part_len quoted text) text ≡ d ∷ ds → d ≡ 44
after_comma quoted [] d ds e = cc
after_comma quoted (b ∷ bs) d ds e =
    after_by (is_cut quoted b) b (part_len (quoted_after quoted b) bs) d bs ds e (cut_comma quoted b) (after_comma (quoted_after quoted b) bs d ds)

len_by-le : (x : Bool) (n m : ℕ) → n ≤ m → len_by x n ≤ suc m
len_by-le true n m h = omega arith
len_by-le false n m h = omega arith

pub part_len-le : (quoted : Bool) (text : List ℕ) → part_len quoted text ≤ length text
part_len-le quoted [] = omega arith
part_len-le quoted (b ∷ bs) = len_by-le (is_cut quoted b) _ _ (part_len-le (quoted_after quoted b) bs)

pub part_len-comma : (text : List ℕ) → part_len false text < length text → get_or text (part_len false text) 0 ≡ 44
part_len-comma text h = after_comma false text _ _ (drop-cons text (part_len false text) 0 h)

pub cut_none : (text after : List ℕ) → after ≡ drop (part_len false text) text → ((rest : List ℕ) → after ≢ 44 ∷ rest)
    → parts_outside false text ≡ take (part_len false text) text ∷ []
cut_none text [] e none = first_part false text ∙ ap (λ bs. take (part_len false text) text ∷ parts_after bs) (sym e)
cut_none text (d ∷ ds) e none = absurd (none ds (ap (λ b. b ∷ ds) (after_comma false text d ds (sym e))))

pub cut_some : (text after rest : List ℕ) → after ≡ drop (part_len false text) text → after ≡ 44 ∷ rest
    → parts_outside false text ≡ take (part_len false text) text ∷ parts_outside false rest
cut_some text after rest e comma =
    first_part false text ∙ ap (λ bs. take (part_len false text) text ∷ parts_after bs) (sym e ∙ comma)

join_by : (x : Bool) (b : ℕ) (bs part : List ℕ) (parts : List (List ℕ)) → join_with_byte 44 (part ∷ parts) ≡ bs → (x ≡ true → b ≡ 44)
    → join_with_byte 44 (cut_by x b (part ∷ parts)) ≡ b ∷ bs
join_by true b bs part parts e comma = ap (λ xs. 44 ∷ xs) e ∙ ap (λ c. c ∷ bs) (sym (comma refl))
join_by false b bs part [] e comma = ap (λ xs. b ∷ xs) e
join_by false b bs part (next ∷ parts) e comma = ap (λ xs. b ∷ xs) e

-- the parts joined by commas are the text
pub join_outside : (quoted : Bool) (text : List ℕ) → join_with_byte 44 (parts_outside quoted text) ≡ text
join_outside quoted [] = refl
join_outside quoted (b ∷ bs) =
    let after = quoted_after quoted b in
    let some = first_part after bs in
    let joined = ap (join_with_byte 44) (sym some) ∙ join_outside after bs in
    ap (λ parts. join_with_byte 44 (cut_by (is_cut quoted b) b parts)) some
    ∙ join_by (is_cut quoted b) b bs _ _ joined (cut_comma quoted b)
