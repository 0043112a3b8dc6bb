-- The line of a date range is allowed in a playlist's text: no attribute list that can be read holds CR or LF.
use Rattle.std.proofs.Common.{◌≡◌, ℕ, true, List, [], ◌∷◌, ◌++◌, length, append_assoc, nat_le, arith, refl, ap, ◌∙◌, codes, Ok}
use Rattle.std.proofs.lemmas.Bool.{and_from}
use Rattle.std.proofs.lemmas.Str.{IsUtf8-nil, IsUtf8-append, IsUtf8-from_is_utf8}
use Rattle.std.specs.Result.{is_ok}
use Rattle.std.specs.Str.{is_utf8, IsUtf8}
use Rattle.ll_attr.specs.Attributes.{attributes_in, spelling}
use Rattle.ll_attr.specs.declared.attributes.Attribute.{Attribute}
use Rattle.ll_format.specs.Format.{Where}
use Rattle.ll_format.specs.Words.{is_one_line, is_rest}
use Rattle.ll_line.specs.Formats.{attributes_text, is_attribute_list, text_or_none}
use Rattle.ll_line.specs.Line.{DateRange}
use Rattle.ll_range.specs.Attributes.{is_id, are_allowed}
use Rattle.ll_laws.proofs.LineLemmas.{IsSound, utf8-ascii}
use Rattle.ll_page.proofs.RangeTexts.{read-with_id, quotable-id}
use Rattle.ll_laws.proofs.TextLemmas.{some_test}
use Rattle.ll_entry.proofs.RangeLine.{list-line}

rest_within : (text : List ℕ) → is_one_line text ≡ true → Where (λ text. is_rest text ≡ true) (text_or_none text)
rest_within [] h = tt
rest_within (b ∷ bs) h = and_from (nat_le 1 (length (b ∷ bs))) (is_one_line (b ∷ bs)) (some_test (length (b ∷ bs)) (omega arith)) h

utf8_rest : (text : List ℕ) → is_utf8 text ≡ true → IsUtf8 (attributes_text text)
utf8_rest [] h = IsUtf8-nil
utf8_rest (b ∷ bs) h = IsUtf8-append (codes ",") (b ∷ bs) (utf8-ascii (codes ",") refl) (IsUtf8-from_is_utf8 (b ∷ bs) h)

pub sound-range : (id : List ℕ) (list : List Attribute) → is_id id ≡ true → is_utf8 id ≡ true → are_allowed list ≡ true → attributes_in (spelling list) ≡ Ok list
    → is_utf8 (spelling list) ≡ true → IsSound (DateRange (record { id = id; attributes = spelling list }))
sound-range id list is utf8_id allowed read utf8 =
    let more = attributes_text (spelling list) in
    let same = append_assoc id (codes "\"") more in
    record {
      within = (
        (quotable-id id is, rest_within (spelling list) (list-line (spelling list) list read)),
        ap (λ text. is_attribute_list (codes "ID=\"" ++ text)) same ∙ ap is_ok (read-with_id id (spelling list) list is read allowed),
      );
      utf8 =
          IsUtf8-append (codes "#EXT-X-DATERANGE:ID=\"") ((id ++ codes "\"") ++ more) (utf8-ascii (codes "#EXT-X-DATERANGE:ID=\"") refl)
          (IsUtf8-append (id ++ codes "\"") more (IsUtf8-append id (codes "\"") (IsUtf8-from_is_utf8 id utf8_id) (utf8-ascii (codes "\"") refl)) (utf8_rest (spelling list) utf8));
    }
