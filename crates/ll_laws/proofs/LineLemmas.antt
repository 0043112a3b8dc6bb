-- Lines that a playlist's text may have: each is within the bounds of its format and is UTF-8, most of them since they are ASCII.
use Rattle.std.proofs.Common.{◌≡◌, ℕ, ◌<◌, ◌≤◌, List, [], ◌∷◌, ◌++◌, Bool, true, false, None, refl, arith, codes, decimal}
use Rattle.std.proofs.lemmas.Bool.{and_parts}
use Rattle.std.proofs.lemmas.Bool.Decides.{nat_tests}
use Rattle.std.proofs.lemmas.Str.{IsUtf8-nil, IsUtf8-append, IsUtf8-from_ascii}
use Rattle.std.proofs.lemmas.Str.Ascii.{IsAscii-nil, IsAscii-cons}
use Rattle.std.specs.Char.{is_ascii}
use Rattle.std.specs.List.{list_all}
use Rattle.std.specs.Str.{IsUtf8, IsAscii}
use Rattle.ll_attr.specs.Attributes.{is_quoted_byte}
use Rattle.ll_attr.specs.Durations.{seconds}
use Rattle.ll_format.specs.Format.{flag_text}
use Rattle.ll_format.specs.Words.{duration_end, is_uri}
use Rattle.ll_format.proofs.WordLaws.{is_figure, duration_figures}
use Rattle.ll_line.specs.Formats.{largest_number, line}
use Rattle.ll_line.specs.Line.{Line, ServerControl, Skipped, Map, Part, Duration, RenditionReport, Hint}
use Rattle.ll_line.specs.Text.{line_text, text_of}
use Rattle.ll_read.specs.Readable.{Each}
use Rattle.ll_page.proofs.RangeTexts.{all-so}
use Rattle.ll_laws.proofs.TextLemmas.{is_plain, ArePlain, all-append, plain-decimal}

abbrev pub AreAscii : List ℕ → Type 0
AreAscii text = list_all is_ascii text ≡ true

low : (b : ℕ) → is_ascii b ≡ true → b < 128
low b h = grind (arith, nat_tests)

all_low : (text : List ℕ) → AreAscii text → IsAscii text
all_low [] h = IsAscii-nil
all_low (b ∷ bs) h = let p = and_parts (is_ascii b) (list_all is_ascii bs) h in IsAscii-cons b bs (low b p.0) (all_low bs p.1)

pub utf8-ascii : (text : List ℕ) → AreAscii text → IsUtf8 text
utf8-ascii text h = IsUtf8-from_ascii text (all_low text h)

-- a line that is allowed in a playlist's text
pub record IsSound (l : Line) : Type 0 where
  pub within : line.Within l
  pub utf8 : IsUtf8 (line.print l)

utf8_line : (l : Line) → IsSound l → IsUtf8 (line_text l)
unfolding line_text
utf8_line l h = IsUtf8-append (line.print l) (codes "\n") h.utf8 (utf8-ascii (codes "\n") refl)

pub utf8-lines : (lines : List Line) → Each IsSound lines → IsUtf8 (text_of lines)
utf8-lines [] h = IsUtf8-nil
utf8-lines (l ∷ lines) h = IsUtf8-append (line_text l) (text_of lines) (utf8_line l h.0) (utf8-lines lines h.1)

pub sound : (l : Line) → line.Within l → AreAscii (line.print l) → IsSound l
sound l within ascii = record { within = within; utf8 = utf8-ascii (line.print l) ascii }

pub plain : (text : List ℕ) → ArePlain text → AreAscii text
plain text h = all-so is_plain is_ascii (λ b p. (and_parts (is_ascii b) (is_quoted_byte b) p).0) text h

pub number : (n : ℕ) → AreAscii (decimal n)
number n = plain (decimal n) (plain-decimal n)

figure : (b : ℕ) → is_figure b ≡ true → is_ascii b ≡ true
figure b h = grind (arith, nat_tests)

pub lasting : (n : ℕ) → n < duration_end → AreAscii (seconds n)
lasting n small = all-so is_figure is_ascii figure (seconds n) (duration_figures n small)

both : (a b : List ℕ) → AreAscii a → AreAscii b → AreAscii (a ++ b)
both a b h k = all-append is_ascii a b h k

in_quotes : (uri : List ℕ) → ArePlain uri → AreAscii (uri ++ codes "\"")
in_quotes uri h = both uri (codes "\"") (plain uri h) refl

flagged : (b : Bool) → AreAscii (flag_text (codes ",INDEPENDENT=YES") b)
flagged true = refl
flagged false = refl

pub sound-control : (h s : ℕ) → h < duration_end → s < duration_end
    → IsSound (ServerControl (record { hold_back = h; skip_until = s; skips_date_ranges = true }))
sound-control h s held skips =
    sound _ (held, (skips, tt)) (both (seconds h) _ (lasting h held) (both (seconds s) (codes ",CAN-SKIP-DATERANGES=YES") (lasting s skips) refl))

pub sound-skip : (n : ℕ) → n ≤ largest_number → IsSound (Skipped (record { count = n; removed = None }))
sound-skip n few = sound _ (few, tt) (both (decimal n) [] (number n) refl)

pub sound-map : (uri : List ℕ) → is_uri uri ≡ true → ArePlain uri → IsSound (Map uri)
sound-map uri is h = sound (Map uri) is (in_quotes uri h)

pub sound-part : (d : ℕ) (uri : List ℕ) (i : Bool) → d < duration_end → is_uri uri ≡ true → ArePlain uri
    → IsSound (Part (record { duration = d; uri = uri; independent = i }))
sound-part d uri i short is h =
    sound _ (short, (is, tt)) (both (seconds d) _ (lasting d short) (both (uri ++ codes "\"") _ (in_quotes uri h) (flagged i)))

pub sound-duration : (d : ℕ) → d < duration_end → IsSound (Duration d)
sound-duration d short = sound (Duration d) short (both (seconds d) (codes ",") (lasting d short) refl)

pub sound-report : (uri : List ℕ) (n i : ℕ) → is_uri uri ≡ true → n ≤ largest_number → i ≤ largest_number → ArePlain uri
    → IsSound (RenditionReport (record { uri = uri; number = n; index = i }))
sound-report uri n i is few less h = sound _ (is, (few, less)) (both (uri ++ codes "\"") _ (in_quotes uri h) (both (decimal n) _ (number n) (number i)))

pub sound-hint : (uri : List ℕ) → is_uri uri ≡ true → ArePlain uri → IsSound (Hint uri)
sound-hint uri is h = sound (Hint uri) is (in_quotes uri h)
