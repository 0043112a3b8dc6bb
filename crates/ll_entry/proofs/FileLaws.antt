-- The names of files of media are read again, and what is read is spelled so.
use Rattle.std.proofs.Common.{◌≡◌, ℕ, ◌≤◌, ◌++◌, ◌&&◌, List, [], ◌∷◌, Bool, true, false, Option, Some, None, refl, ap, ap₂, sym, ◌∙◌, subst, append_assoc, arith, codes, decimal, bytes_eq, option_and_then, option_map, if◌then◌else◌}
use Rattle.std.proofs.lemmas.Bool.{and_from}
use Rattle.std.proofs.lemmas.Fmt.{digits_decimal}
use Rattle.std.proofs.lemmas.List.Splits.{join_with_byte-slice_split}
use Rattle.std.proofs.lemmas.Slice.Eq.{bytes_eq-Decides}
use Rattle.std.specs.Char.{is_ascii_digit}
use Rattle.std.specs.List.{join_with_byte}
use Rattle.ll_attr.specs.Words.{after, pieces_at}
use Rattle.ll_attr.proofs.Digits.{digits_model, list_all-is_ascii_digit}
use Rattle.ll_directive.specs.Files.{file_name, media_by, media_file, number_after, number_in}
use Rattle.ll_format.specs.Words.{is_one_line}
use Rattle.ll_format.proofs.FormatLaws.{WordLaws, key_again, key_takes, lacks}
use Rattle.ll_format.proofs.WordLaws.{lacks_from, number-laws}
use Rattle.ll_line.specs.Uris.{map_uri, part_uri, segment_uri}
use Rattle.ll_item.specs.declared.what.What.{What}
use Rattle.ll_item.specs.declared.what.What.TheVariants as what
use Rattle.ll_entry.specs.Replies.{FileWithin, count, file, most}
use Rattle.ll_entry.proofs.Cuts.{IsWord, cut_again, keyed}
use Rattle.ll_entry.proofs.Numbers.{number-word}

counted-laws : WordLaws count
counted-laws = number-laws most (omega arith)

-- ---- the forms of names, as their pieces are joined

abbrev segment_pieces : ℕ → List (List ℕ)
segment_pieces n = (codes "s" ++ decimal n) ∷ codes "m4s" ∷ []

abbrev part_pieces : ℕ → ℕ → List (List ℕ)
part_pieces n i = (codes "s" ++ decimal n) ∷ decimal i ∷ codes "m4s" ∷ []

abbrev init_pieces : ℕ → List (List ℕ)
init_pieces n = (codes "init" ++ decimal n) ∷ codes "mp4" ∷ []

segment_form : (n : ℕ) → join_with_byte 46 (segment_pieces n) ≡ segment_uri n
unfolding segment_uri
segment_form n = append_assoc (codes "s") (decimal n) (codes ".m4s")

part_form : (n i : ℕ) → join_with_byte 46 (part_pieces n i) ≡ part_uri n i
unfolding part_uri
part_form n i = append_assoc (codes "s") (decimal n) (codes "." ++ (decimal i ++ codes ".m4s"))

init_form : (n : ℕ) → join_with_byte 46 (init_pieces n) ≡ map_uri n
unfolding map_uri
init_form n = append_assoc (codes "init") (decimal n) (codes ".mp4")

-- ---- what is spelled is read

no_point : (n : ℕ) → n ≤ most → lacks 46 (decimal n) ≡ true
no_point n small = lacks_from is_ascii_digit 46 (decimal n) refl (list_all-is_ascii_digit (decimal n) ∙ digits_decimal digits_model n (omega arith))

number_again : (key : List ℕ) (n : ℕ) → n ≤ most → number_after key (key ++ decimal n) ≡ Some n
number_again key n small = ap (option_and_then number_in) (key_again key (decimal n)) ∙ counted-laws.again n small

segment_again : (n : ℕ) → n ≤ most → media_file (segment_uri n) ≡ Some (what.Segment n)
segment_again n small =
    ap media_file (sym (segment_form n))
    ∙ ap media_by (cut_again 46 (codes "s" ++ decimal n) (codes "m4s" ∷ []) refl (and_from (lacks 46 (decimal n)) true (no_point n small) refl))
    ∙ ap (option_map (λ n. what.Segment n)) (number_again (codes "s") n small)

part_again : (n i : ℕ) → n ≤ most → i ≤ most → media_file (part_uri n i) ≡ Some (what.Part n i)
part_again n i small few =
    ap media_file (sym (part_form n i))
    ∙ ap media_by (cut_again 46 (codes "s" ++ decimal n) (decimal i ∷ codes "m4s" ∷ []) refl
    (ap₂ (λ a b. a && (b && true)) (no_point n small) (no_point i few)))
    ∙ ap (option_and_then (λ n. option_map (λ i. what.Part n i) (number_in (decimal i)))) (number_again (codes "s") n small)
    ∙ ap (option_map (λ i. what.Part n i)) (counted-laws.again i few)

init_again : (n : ℕ) → n ≤ most → media_file (map_uri n) ≡ Some (what.Init n)
init_again n small =
    ap media_file (sym (init_form n))
    ∙ ap media_by (cut_again 46 (codes "init" ++ decimal n) (codes "mp4" ∷ []) refl (and_from (lacks 46 (decimal n)) true (no_point n small) refl))
    ∙ ap (option_map (λ n. what.Init n)) (number_again (codes "init") n small)

again : (x : What) → FileWithin x → media_file (file_name x) ≡ Some x
again what.Playlist h = absurd h
again (what.Segment n) h = segment_again n h
again (what.Part n i) h = part_again n i h.0 h.1
again (what.Init n) h = init_again n h

-- ---- what is read is spelled so

then_some : {A B : Type 0} (f : A → Option B) (o : Option A) (y : B) → option_and_then f o ≡ Some y → (x : A) × (o ≡ Some x) × (f x ≡ Some y)
then_some f None y e = absurd cc
then_some f (Some x) y e = (x, refl, e)

mapped_some : {A B : Type 0} (f : A → B) (o : Option A) (y : B) → option_map f o ≡ Some y → (x : A) × (o ≡ Some x) × (f x ≡ y)
mapped_some f None y e = absurd cc
mapped_some f (Some x) y e = (x, refl, cc)

numbered : (key text : List ℕ) (n : ℕ) → number_after key text ≡ Some n → (text ≡ key ++ decimal n) × (n ≤ most)
numbered key text n e =
    let a = then_some number_in (after key text) n e in
    let t = counted-laws.takes a.0 n a.2 in
    (key_takes key text a.0 a.1 ∙ ap (λ t. key ++ t) t.0, t.1)

-- pieces that are joined are the name of this file
abbrev IsNamed : List (List ℕ) → What → Type 0
IsNamed pieces x = (join_with_byte 46 pieces ≡ file_name x) × FileWithin x

segment_takes : (name ending : List ℕ) (x : What) → ending ≡ codes "m4s" → option_map (λ n. what.Segment n) (number_after (codes "s") name) ≡ Some x
    → IsNamed (name ∷ ending ∷ []) x
segment_takes name ending x is e =
    let a = mapped_some (λ n. what.Segment n) (number_after (codes "s") name) x e in
    let t = numbered (codes "s") name a.0 a.1 in
    subst (IsNamed (name ∷ ending ∷ [])) a.2 (ap₂ (λ n e. join_with_byte 46 (n ∷ e ∷ [])) t.0 is ∙ segment_form a.0, t.1)

init_takes : (name ending : List ℕ) (x : What) → ending ≡ codes "mp4" → option_map (λ n. what.Init n) (number_after (codes "init") name) ≡ Some x
    → IsNamed (name ∷ ending ∷ []) x
init_takes name ending x is e =
    let a = mapped_some (λ n. what.Init n) (number_after (codes "init") name) x e in
    let t = numbered (codes "init") name a.0 a.1 in
    subst (IsNamed (name ∷ ending ∷ [])) a.2 (ap₂ (λ n e. join_with_byte 46 (n ∷ e ∷ [])) t.0 is ∙ init_form a.0, t.1)

one_takes : (name ending : List ℕ) (x : What) (first second : Bool) → bytes_eq ending (codes "m4s") ≡ first → bytes_eq ending (codes "mp4") ≡ second
    → (if first then option_map (λ n. what.Segment n) (number_after (codes "s") name)
    else if second then option_map (λ n. what.Init n) (number_after (codes "init") name)
    else None) ≡ Some x
    → IsNamed (name ∷ ending ∷ []) x
one_takes name ending x true second is other e = segment_takes name ending x ((bytes_eq-Decides ending (codes "m4s")).0 is) e
one_takes name ending x false true other is e = init_takes name ending x ((bytes_eq-Decides ending (codes "mp4")).0 is) e
one_takes name ending x false false other none e = absurd cc

part_takes : (name index ending : List ℕ) (x : What) → ending ≡ codes "m4s"
    → option_and_then (λ n. option_map (λ i. what.Part n i) (number_in index)) (number_after (codes "s") name) ≡ Some x
    → IsNamed (name ∷ index ∷ ending ∷ []) x
part_takes name index ending x is e =
    let a = then_some (λ n. option_map (λ i. what.Part n i) (number_in index)) (number_after (codes "s") name) x e in
    let b = mapped_some (λ i. what.Part a.0 i) (number_in index) x a.2 in
    let t = numbered (codes "s") name a.0 a.1 in
    let u = counted-laws.takes index b.0 b.1 in
    subst (IsNamed (name ∷ index ∷ ending ∷ [])) b.2 (
      ap₂ (λ n e. join_with_byte 46 (n ∷ index ∷ e ∷ [])) t.0 is
          ∙ ap (λ i. join_with_byte 46 ((codes "s" ++ decimal a.0) ∷ i ∷ codes "m4s" ∷ [])) u.0 ∙ part_form a.0 b.0,
      (t.1, u.1),
    )

two_takes : (name index ending : List ℕ) (x : What) (b : Bool) → bytes_eq ending (codes "m4s") ≡ b
    → (if b then option_and_then (λ n. option_map (λ i. what.Part n i) (number_in index)) (number_after (codes "s") name) else None) ≡ Some x
    → IsNamed (name ∷ index ∷ ending ∷ []) x
two_takes name index ending x true is e = part_takes name index ending x ((bytes_eq-Decides ending (codes "m4s")).0 is) e
two_takes name index ending x false other e = absurd cc

pieces_take : (pieces : List (List ℕ)) (x : What) → media_by pieces ≡ Some x → IsNamed pieces x
pieces_take [] x e = absurd cc
pieces_take (name ∷ []) x e = absurd cc
pieces_take (name ∷ ending ∷ []) x e = one_takes name ending x (bytes_eq ending (codes "m4s")) (bytes_eq ending (codes "mp4")) refl refl e
pieces_take (name ∷ index ∷ ending ∷ []) x e = two_takes name index ending x (bytes_eq ending (codes "m4s")) refl e
pieces_take (name ∷ index ∷ ending ∷ other ∷ more) x e = absurd cc

-- ---- the whole

fixed : (text : List ℕ) → lacks 32 text ≡ true → is_one_line text ≡ true → IsWord text
fixed text spaceless one = record { spaceless = spaceless; one_line = one }

segment_word : (n : ℕ) → n ≤ most → IsWord (segment_uri n)
unfolding segment_uri
segment_word n small =
    keyed (codes "s") (decimal n ++ codes ".m4s") (fixed (codes "s") refl refl)
    (keyed (decimal n) (codes ".m4s") (number-word n (omega arith)) (fixed (codes ".m4s") refl refl))

part_word : (n i : ℕ) → n ≤ most → i ≤ most → IsWord (part_uri n i)
unfolding part_uri
part_word n i small few =
    let last = keyed (decimal i) (codes ".m4s") (number-word i (omega arith)) (fixed (codes ".m4s") refl refl) in
    let rest = keyed (codes ".") (decimal i ++ codes ".m4s") (fixed (codes ".") refl refl) last in
    keyed (codes "s") (decimal n ++ (codes "." ++ (decimal i ++ codes ".m4s"))) (fixed (codes "s") refl refl)
    (keyed (decimal n) (codes "." ++ (decimal i ++ codes ".m4s")) (number-word n (omega arith)) rest)

init_word : (n : ℕ) → n ≤ most → IsWord (map_uri n)
unfolding map_uri
init_word n small =
    keyed (codes "init") (decimal n ++ codes ".mp4") (fixed (codes "init") refl refl)
    (keyed (decimal n) (codes ".mp4") (number-word n (omega arith)) (fixed (codes ".mp4") refl refl))

pub file-word : (x : What) → FileWithin x → IsWord (file_name x)
file-word what.Playlist h = absurd h
file-word (what.Segment n) h = segment_word n h
file-word (what.Part n i) h = part_word n i h.0 h.1
file-word (what.Init n) h = init_word n h

pub file-laws : WordLaws file
file-laws = record {
  takes = λ text x e.
      let t = pieces_take (pieces_at 46 text) x e in
      (sym (join_with_byte-slice_split 46 text) ∙ t.0, t.1);
  again = again;
  inside = λ x h. (file-word x h).one_line;
}
