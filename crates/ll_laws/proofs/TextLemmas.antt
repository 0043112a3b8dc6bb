-- Numbers, times and the URIs of media consist of ASCII bytes that are allowed in quotes.
use Rattle.std.proofs.Common.{◌≡◌, ℕ, zero, suc, ◌/◌, ◌%◌, ◌≤◌, ◌<◌, ◌==◌, ◌&&◌, Bool, true, false, cond, List, [], ◌∷◌, ◌++◌, length, refl, ap, ◌∙◌, arith, nat_le, codes, decimal}
use Rattle.std.proofs.lemmas.Bool.{and_parts, and_from}
use Rattle.std.proofs.lemmas.Bool.Decides.{nat_tests}
use Rattle.std.proofs.lemmas.List.{length-append}
use Rattle.std.proofs.lemmas.List.Folds.{list_all-append}
use Rattle.std.specs.Char.{is_ascii}
use Rattle.std.specs.Fmt.{digits, digits_onto, digit_glyph}
use Rattle.std.specs.List.{list_all}
use Rattle.ll_attr.specs.Attributes.{is_quoted_byte}
use Rattle.ll_settings.specs.Names as names
use Rattle.ll_format.specs.Calendar.{CivilDate, nth_date}
use Rattle.ll_format.specs.Times.{digits_2, digits_3, digits_4, time_of, time_text}
use Rattle.ll_line.specs.Uris.{segment_uri, part_uri, map_uri, report_uri}
use Rattle.ll_format.specs.Words.{is_line_byte, is_one_line, is_quotable, is_uri, is_rest}
use Rattle.ll_line.specs.Formats.{line}
use Rattle.ll_line.specs.Line.{Uri}
use Rattle.ll_page.proofs.RangeTexts.{all-so}

abbrev pub is_plain : ℕ → Bool
is_plain b = is_ascii b && is_quoted_byte b

abbrev pub ArePlain : List ℕ → Type 0
ArePlain text = list_all is_plain text ≡ true

-- what all bytes of two texts pass, all bytes of both together pass
pub all-append : (p : ℕ → Bool) (a b : List ℕ) → list_all p a ≡ true → list_all p b ≡ true → list_all p (a ++ b) ≡ true
all-append p a b h k = list_all-append p a b ∙ and_from (list_all p a) (list_all p b) h k

plain-append : (a b : List ℕ) → ArePlain a → ArePlain b → ArePlain (a ++ b)
plain-append a b p q = all-append is_plain a b p q

-- numbers

digit_plain : (d : ℕ) → d < 10 → is_plain (digit_glyph false d) ≡ true
digit_plain d low = grind (arith, nat_tests)

onto_by : (b : Bool) (xs ys : List ℕ) → ArePlain xs → ArePlain ys → ArePlain (cond b xs ys)
onto_by true xs ys p q = p
onto_by false xs ys p q = q

onto_plain : (k n : ℕ) (more : List ℕ) → ArePlain more → ArePlain (digits_onto k 10 false n more)
onto_plain zero n more p = p
onto_plain (suc k) n more p =
    let all : ArePlain (digit_glyph false (n % 10) ∷ more) = and_from _ (list_all is_plain more) (digit_plain (n % 10) (omega arith)) p in
    onto_by (n / 10 == 0) _ _ all (onto_plain k (n / 10) (digit_glyph false (n % 10) ∷ more) all)

pub plain-decimal : (n : ℕ) → ArePlain (decimal n)
unfolding digits
plain-decimal n = onto_plain 64 n [] refl

-- URIs

pub plain-segment : (n : ℕ) → ArePlain (segment_uri n)
unfolding segment_uri
plain-segment n = plain-append (decimal n) (codes ".m4s") (plain-decimal n) refl

pub plain-part : (n i : ℕ) → ArePlain (part_uri n i)
unfolding part_uri
plain-part n i =
    plain-append (decimal n) (codes "." ++ (decimal i ++ codes ".m4s")) (plain-decimal n) (plain-append (decimal i) (codes ".m4s") (plain-decimal i) refl)

pub plain-map : (n : ℕ) → ArePlain (map_uri n)
unfolding map_uri
plain-map n = plain-append (decimal n) (codes ".mp4") (plain-decimal n) refl

name_byte : (b : ℕ) → names.is_name_byte b ≡ true → is_plain b ≡ true
name_byte b h = grind (arith, nat_tests)

pub plain-report : (name : List ℕ) → names.is_name name ≡ true → ArePlain (report_uri name)
unfolding report_uri
plain-report name h =
    let all = and_parts (nat_le 1 (length name) && nat_le (length name) 32) (list_all names.is_name_byte name) h in
    plain-append name (codes "/live.m3u8") (all-so names.is_name_byte is_plain name_byte name all.1) refl

quoted : (b : ℕ) → is_plain b ≡ true → is_quoted_byte b ≡ true
quoted b h = (and_parts (is_ascii b) (is_quoted_byte b) h).1

pub some_test : (n : ℕ) → 1 ≤ n → nat_le 1 n ≡ true
some_test n some = grind (arith, nat_tests)

uri_plain : (b : ℕ) (bs : List ℕ) → ArePlain (b ∷ bs) → is_uri (b ∷ bs) ≡ true
uri_plain b bs h =
    and_from (nat_le 1 (length (b ∷ bs))) (is_quotable (b ∷ bs)) (some_test (length (b ∷ bs)) (omega arith)) (all-so is_plain is_quoted_byte quoted (b ∷ bs) h)

pub uri-segment : (n : ℕ) → line.Within (Uri (segment_uri n))
unfolding segment_uri
uri-segment n = ap (λ b. b && true) (uri_plain 115 (decimal n ++ codes ".m4s") (plain-segment n))

pub uri-part : (n i : ℕ) → is_uri (part_uri n i) ≡ true
unfolding part_uri
uri-part n i = uri_plain 115 (decimal n ++ (codes "." ++ (decimal i ++ codes ".m4s"))) (plain-part n i)

pub uri-map : (n : ℕ) → is_uri (map_uri n) ≡ true
unfolding map_uri
uri-map n = uri_plain 105 (codes "nit" ++ (decimal n ++ codes ".mp4")) (plain-map n)

pub uri-report : (name : List ℕ) → names.is_name name ≡ true → is_uri (report_uri name) ≡ true
unfolding report_uri
uri-report name h = uri_plain 46 (codes "./" ++ (name ++ codes "/live.m3u8")) (plain-report name h)

-- times

plain_2 : (n : ℕ) → ArePlain (digits_2 n)
unfolding digits_2
plain_2 n = plain-append (decimal (n / 10 % 10)) (decimal (n % 10)) (plain-decimal _) (plain-decimal _)

plain_3 : (n : ℕ) → ArePlain (digits_3 n)
unfolding digits_3 digits_2
plain_3 n = plain-append (decimal (n / 100 % 10)) (digits_2 n) (plain-decimal _) (plain_2 n)

plain_4 : (n : ℕ) → ArePlain (digits_4 n)
unfolding digits_4 digits_3
plain_4 n = plain-append (decimal (n / 1000 % 10)) (digits_3 n) (plain-decimal _) (plain_3 n)

plain-time_of : (date : CivilDate) (ms : ℕ) → ArePlain (time_of date ms)
unfolding time_of
plain-time_of date ms =
    plain-append (digits_4 date.year) _ (plain_4 date.year)
    (plain-append (digits_2 date.month) _ (plain_2 date.month)
    (plain-append (digits_2 date.day) _ (plain_2 date.day)
    (plain-append (digits_2 (ms / 3600000)) _ (plain_2 (ms / 3600000))
    (plain-append (digits_2 (ms / 60000 % 60)) _ (plain_2 (ms / 60000 % 60))
    (plain-append (digits_2 (ms / 1000 % 60)) _ (plain_2 (ms / 1000 % 60))
    (plain-append (digits_3 (ms % 1000)) (codes "Z") (plain_3 (ms % 1000)) refl))))))

pub plain-time : (ms : ℕ) → ArePlain (time_text ms)
plain-time ms = plain-time_of (nth_date (ms / 86400000)) (ms % 86400000)

-- a plain text stands on one line

plain_line : (b : ℕ) → is_plain b ≡ true → is_line_byte b ≡ true
plain_line b h = grind (arith, nat_tests)

some_after : (xs : List ℕ) (b : ℕ) (bs : List ℕ) → 1 ≤ length (xs ++ b ∷ bs)
some_after xs b bs = let e = length-append xs (b ∷ bs) in omega (arith, e)

some_time_of : (date : CivilDate) (ms : ℕ) → 1 ≤ length (time_of date ms)
unfolding time_of
some_time_of date ms = some_after (digits_4 date.year) 45 _

some_time : (ms : ℕ) → 1 ≤ length (time_text ms)
some_time ms = some_time_of (nth_date (ms / 86400000)) (ms % 86400000)

pub readable-time : (ms : ℕ) → is_rest (time_text ms) ≡ true
readable-time ms =
    and_from (nat_le 1 (length (time_text ms))) (is_one_line (time_text ms)) (some_test (length (time_text ms)) (some_time ms))
    (all-so is_plain is_line_byte plain_line (time_text ms) (plain-time ms))
