-- The EXT-X-SKIP line of a delta update is allowed in its text, also if it lists removed date ranges.
use Rattle.std.proofs.Common.{◌≡◌, ℕ, ◌≤◌, List, [], ◌∷◌, ◌++◌, true, not, length, nat_le, Some, refl, sym, arith, codes, decimal}
use Rattle.std.proofs.lemmas.Bool.{true≢false, and_parts, and_from}
use Rattle.std.proofs.lemmas.Bool.Decides.{nat_tests}
use Rattle.std.proofs.lemmas.Str.{IsUtf8-nil, IsUtf8-append, IsUtf8-from_is_utf8}
use Rattle.std.specs.List.{list_all, join_with_byte}
use Rattle.std.specs.Str.{IsUtf8}
use Rattle.ll_format.specs.Words.{is_byte_between, is_one_empty}
use Rattle.ll_line.specs.Formats.{largest_number}
use Rattle.ll_line.specs.Line.{Skipped}
use Rattle.ll_range.specs.Attributes.{is_id, is_id_byte}
use Rattle.ll_page.proofs.RangeTexts.{all-so}
use Rattle.ll_read.specs.Readable.{Each}
use Rattle.ll_laws.proofs.LineLemmas.{IsSound, number, utf8-ascii}
use Rattle.ll_laws.proofs.RangeItems.{IsTellable}

-- ids that are allowed in such a line

between : (b : ℕ) → is_id_byte b ≡ true → is_byte_between 9 b ≡ true
between b h = grind (arith, nat_tests)

id_parts : (id : List ℕ) → is_id id ≡ true → (nat_le 1 (length id) ≡ true) × (list_all is_id_byte id ≡ true)
id_parts id h = and_parts (nat_le 1 (length id)) (list_all is_id_byte id) h

all_between : (js : List (List ℕ)) → Each IsTellable js → list_all (list_all (is_byte_between 9)) js ≡ true
all_between [] h = refl
all_between (j ∷ js) h =
    and_from (list_all (is_byte_between 9) j) (list_all (list_all (is_byte_between 9)) js)
    (all-so is_id_byte (is_byte_between 9) between j (id_parts j h.0.0).1)
    (all_between js h.1)

not_one_empty : (js : List (List ℕ)) → Each IsTellable js → not (is_one_empty js) ≡ true
not_one_empty [] h = refl
not_one_empty ([] ∷ []) h = absurd (true≢false (sym (id_parts [] h.0.0).0))
not_one_empty ([] ∷ j ∷ js) h = refl
not_one_empty ((b ∷ bs) ∷ []) h = refl
not_one_empty ((b ∷ bs) ∷ j ∷ js) h = refl

utf8_joined : (js : List (List ℕ)) → Each IsTellable js → IsUtf8 (join_with_byte 9 js)
utf8_joined [] h = IsUtf8-nil
utf8_joined (j ∷ []) h = IsUtf8-from_is_utf8 j h.0.1
utf8_joined (j ∷ k ∷ js) h =
    IsUtf8-append j (9 ∷ join_with_byte 9 (k ∷ js)) (IsUtf8-from_is_utf8 j h.0.1)
    (IsUtf8-append (9 ∷ []) (join_with_byte 9 (k ∷ js)) (utf8-ascii (9 ∷ []) refl) (utf8_joined (k ∷ js) h.1))

pub sound-removed : (n : ℕ) (js : List (List ℕ)) → n ≤ largest_number → Each IsTellable js
    → IsSound (Skipped (record { count = n; removed = Some js }))
sound-removed n js few h =
    let ids = join_with_byte 9 js ++ codes "\"" in
    let removed = codes ",RECENTLY-REMOVED-DATERANGES=\"" ++ ids in
    record {
      within = (few, and_from (list_all (list_all (is_byte_between 9)) js) (not (is_one_empty js)) (all_between js h) (not_one_empty js h));
      utf8 =
          IsUtf8-append (codes "#EXT-X-SKIP:SKIPPED-SEGMENTS=") (decimal n ++ removed) (utf8-ascii (codes "#EXT-X-SKIP:SKIPPED-SEGMENTS=") refl)
          (IsUtf8-append (decimal n) removed (utf8-ascii (decimal n) (number n))
          (IsUtf8-append (codes ",RECENTLY-REMOVED-DATERANGES=\"") ids (utf8-ascii (codes ",RECENTLY-REMOVED-DATERANGES=\"") refl)
          (IsUtf8-append (join_with_byte 9 js) (codes "\"") (utf8_joined js h) (utf8-ascii (codes "\"") refl))));
    }
